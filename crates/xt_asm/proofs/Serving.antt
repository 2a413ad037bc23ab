-- Where a pool is opens, it has the word of each use.
use Rattle.std.proofs.Common.{◌≡◌, ℕ, ◌+◌, ℤ, Bool, true, false, not, ◌&&◌, ◌||◌, List, [], ◌∷◌, ◌++◌, Option, Some, None, length, eqb, cond, refl, sym, ap, ◌∙◌, arith, if◌then◌else◌}
use Rattle.std.specs.Prelude.{filter, find, is_none, map, option_to_list, option_and_then, pos, reverse, zip}
use Rattle.std.specs.List.{AllByRecursion, list_any}
use Rattle.std.specs.Option.{option_map, option_map_or}
use Rattle.std.proofs.lemmas.List.{append_assoc, append-nil, reverse-append, length-reverse}
use Rattle.std.proofs.lemmas.List.Folds.{list_any-append}
use Rattle.std.proofs.lemmas.Bool.Decides.{nat_tests}
use lib.Pointwise.{pointwise}
use Rattle.xt_lex.specs.declared.expr.Expr.{Expr}
use Rattle.xt_lex.specs.declared.expr.Term.{Term}
use Rattle.xt_lex.specs.declared.expr.TermValue.{TermValue}
use Rattle.xt_lex.specs.declared.expr.TermValue.TheVariants.{Number, Label}
use Rattle.xt_parse.specs.declared.line.Line.{Line}
use Rattle.xt_parse.specs.declared.line.Placed.{Placed}
use Rattle.xt_parse.specs.declared.statement.Operand.{Operand}
use Rattle.xt_parse.specs.declared.statement.Operand.TheVariants as operand
use Rattle.xt_parse.specs.declared.statement.Statement.{Statement}
use Rattle.xt_parse.specs.declared.statement.Statement.TheVariants as statement
use Rattle.xt_layout.specs.declared.word.PoolWord.{PoolWord}
use Rattle.xt_layout.specs.Pools.{distinct, ends_pool, is_open, is_position, is_segment, need, pool, pool_at, pool_use, same_term, same_terms, same_value, shares, up_to_end, needed_words, words_of}
use Rattle.xt_layout.specs.Addresses.{word_addresses}
use Rattle.xt_asm.specs.Kinds.{has_no_word, lacks_word}
use Rattle.xt_asm.specs.AssemblyLaws.{OpenPoolsServe}
use Rattle.xt_asm.specs.Operands.{Site, last_position, open_position, serves, site_at, target_of, word_for}
use Rattle.xt_asm.specs.Walks.{words_behind}
use Rattle.xt_asm.proofs.Closing.{addresses_long}
use Rattle.xt_asm.proofs.Pooling.{StandsAt, wanted_stand}

-- ---- the same terms

both : (a b : Bool) → (a && b) ≡ true → (a ≡ true) × (b ≡ true)
both true b e = (refl, e)
both false b e = absurd (cc)

same_number : (m n : ℕ) → eqb m n ≡ true → m ≡ n
same_number m n e = grind (arith, nat_tests)

number_itself : (n : ℕ) → eqb n n ≡ true
number_itself n = grind (arith, nat_tests)

same_bytes : (x y : List ℕ) → pointwise eqb x y ≡ true → x ≡ y
same_bytes [] [] e = refl
same_bytes [] (b ∷ y) e = absurd (cc)
same_bytes (a ∷ x) [] e = absurd (cc)
same_bytes (a ∷ x) (b ∷ y) e =
    let parts = both (eqb a b) (pointwise eqb x y) e in
    ap (λ c. c ∷ x) (same_number a b parts.0) ∙ ap (λ z. b ∷ z) (same_bytes x y parts.1)

bytes_themselves : (x : List ℕ) → pointwise eqb x x ≡ true
bytes_themselves [] = refl
bytes_themselves (a ∷ x) = ap (λ b. b && pointwise eqb x x) (number_itself a) ∙ bytes_themselves x

value_is : (x y : TermValue) → same_value x y ≡ true → x ≡ y
value_is (Number m) (Number n) e = ap Number (same_number m n e)
value_is (Label x) (Label y) e = ap Label (same_bytes x y e)
value_is (Number m) (Label y) e = absurd (cc)
value_is (Label x) (Number n) e = absurd (cc)

value_itself : (x : TermValue) → same_value x x ≡ true
value_itself (Number n) = number_itself n
value_itself (Label x) = bytes_themselves x

same_sign : (a b : Bool) → (if a then b else not b) ≡ true → a ≡ b
same_sign true true e = refl
same_sign true false e = absurd (cc)
same_sign false true e = absurd (cc)
same_sign false false e = refl

sign_itself : (a : Bool) → (if a then a else not a) ≡ true
sign_itself true = refl
sign_itself false = refl

term_is : (x y : Term) → same_term x y ≡ true → x ≡ y
term_is x y e =
    let parts = both (if x.minus then y.minus else not y.minus) (same_value x.value y.value) e in
    ap (λ m. let t : Term = record { minus = m; value = x.value } in t) (same_sign x.minus y.minus parts.0)
    ∙ ap (λ v. let t : Term = record { minus = y.minus; value = v } in t) (value_is x.value y.value parts.1)

term_itself : (x : Term) → same_term x x ≡ true
term_itself x = ap (λ b. b && same_value x.value x.value) (sign_itself x.minus) ∙ value_itself x.value

terms_are : (x y : Expr) → same_terms x y ≡ true → x ≡ y
terms_are [] [] e = refl
terms_are [] (t ∷ y) e = absurd (cc)
terms_are (s ∷ x) [] e = absurd (cc)
terms_are (s ∷ x) (t ∷ y) e =
    let parts = both (same_term s t) (same_terms x y) e in
    ap (λ c. c ∷ x) (term_is s t parts.0) ∙ ap (λ z. t ∷ z) (terms_are x y parts.1)

terms_themselves : (x : Expr) → same_terms x x ≡ true
terms_themselves [] = refl
terms_themselves (t ∷ x) = ap (λ b. b && same_terms x x) (term_itself t) ∙ terms_themselves x

-- ---- some word serves

or_right : (a b : Bool) → b ≡ true → (a || b) ≡ true
or_right true b e = refl
or_right false b e = e

or_left : (a b : Bool) → a ≡ true → (a || b) ≡ true
or_left true b e = refl
or_left false b e = absurd (cc)

kept_any : (p q : PoolWord → Bool) (ws : List PoolWord) → ((w : PoolWord) → p w ≡ true → q w ≡ true) → list_any p ws ≡ true → list_any p (filter q ws) ≡ true
kept_any p q [] h e = e
kept_any p q (w ∷ ws) h e = by_tests (p w) (q w) refl refl (λ later. kept_any p q ws h later) e
  where
    by_tests : (a b : Bool) → p w ≡ a → q w ≡ b → (list_any p ws ≡ true → list_any p (filter q ws) ≡ true) → (a || list_any p ws) ≡ true → list_any p (cond b (w ∷ filter q ws) (filter q ws)) ≡ true
    by_tests true true pa qb rec e = or_left (p w) (list_any p (filter q ws)) pa
    by_tests true false pa qb rec e = absurd (let yes : q w ≡ true = h w pa in cc)
    by_tests false true pa qb rec e = or_right (p w) (list_any p (filter q ws)) (rec e)
    by_tests false false pa qb rec e = rec e

-- a word that serves shares with no word that does not, in one pool
no_sharer : (place : ℕ) (e : Expr) (x y : PoolWord) → x.position ≡ place → serves place e x ≡ false → serves place e y ≡ true → not (shares x y) ≡ true
no_sharer place e x y at none some = by_share (shares x y) refl
  where
    by_share : (b : Bool) → shares x y ≡ b → not b ≡ true
    by_share false s = refl
    by_share true s =
        let named = both (is_none x.name) (is_none y.name && same_terms x.value y.value) s in
        let rest = both (is_none y.name) (same_terms x.value y.value) named.1 in
        let serving = both (eqb y.position place) (is_none y.name && same_terms y.value e) some in
        let value = both (is_none y.name) (same_terms y.value e) serving.1 in
        let same : x.value ≡ e = terms_are x.value y.value rest.1 ∙ terms_are y.value e value.1 in
        let here : eqb x.position place ≡ true = ap (λ n. eqb n place) at ∙ number_itself place in
        let terms : same_terms x.value e ≡ true = ap (λ v. same_terms v e) same ∙ terms_themselves e in
        let all : serves place e x ≡ true = ap (λ b. b && (is_none x.name && same_terms x.value e)) here ∙ ap (λ b. b && same_terms x.value e) named.0 ∙ terms in
        absurd (cc)

distinct_serves : (place : ℕ) (e : Expr) (ws : List PoolWord) → AllByRecursion (StandsAt place) ws → list_any (serves place e) ws ≡ true → list_any (serves place e) (distinct ws) ≡ true
distinct_serves place e [] all some = some
distinct_serves place e (w ∷ ws) all some = by_first (serves place e w) refl (λ later. distinct_serves place e ws all.1 later) some
  where
    by_first : (b : Bool) → serves place e w ≡ b → (list_any (serves place e) ws ≡ true → list_any (serves place e) (distinct ws) ≡ true) → (b || list_any (serves place e) ws) ≡ true →
        (serves place e w || list_any (serves place e) (filter (λ y. not (shares w y)) (distinct ws))) ≡ true
    by_first true is rec some = or_left (serves place e w) (list_any (serves place e) (filter (λ y. not (shares w y)) (distinct ws))) is
    by_first false is rec some = or_right (serves place e w) (list_any (serves place e) (filter (λ y. not (shares w y)) (distinct ws)))
        (kept_any (serves place e) (λ y. not (shares w y)) (distinct ws) (λ y s. no_sharer place e w y all.0 is s) (rec some))

-- ---- the word of a use among the words that the lines want

word_serves : (place k : ℕ) (e : Expr) → serves place e (record { position = place; line = k; name = None; value = e }) ≡ true
word_serves place k e = ap (λ b. b && same_terms e e) (number_itself place) ∙ terms_themselves e

need_serves : (place k : ℕ) (e : Expr) (o : Option (Option Placed × Expr)) → (let none : Option Placed = None in o ≡ Some (none, e)) →
    list_any (serves place e) (option_to_list (option_map (λ n. let w : PoolWord = record { position = place; line = k; name = n.0; value = n.1 } in w) o)) ≡ true
need_serves place k e o is =
    ap (λ x. list_any (serves place e) (option_to_list (option_map (λ n. let w : PoolWord = record { position = place; line = k; name = n.0; value = n.1 } in w) x))) is
    ∙ or_left (serves place e (record { position = place; line = k; name = None; value = e })) false (word_serves place k e)

wanted_serves : (place k : ℕ) (e : Expr) (mid : List Line) (l : Line) (rest : List Line) → (let none : Option Placed = None in need l.statement ≡ Some (none, e)) → list_any (serves place e) (needed_words place k (mid ++ l ∷ rest)) ≡ true
wanted_serves place k e [] l rest is =
    let here : List PoolWord = option_to_list (option_map (λ n. let w : PoolWord = record { position = place; line = k; name = n.0; value = n.1 } in w) (need l.statement)) in
    list_any-append (serves place e) here (needed_words place (k + 1) rest)
    ∙ or_left (list_any (serves place e) here) (list_any (serves place e) (needed_words place (k + 1) rest)) (need_serves place k e (need l.statement) is)
wanted_serves place k e (x ∷ mid) l rest is =
    let here : List PoolWord = option_to_list (option_map (λ n. let w : PoolWord = record { position = place; line = k; name = n.0; value = n.1 } in w) (need x.statement)) in
    list_any-append (serves place e) here (needed_words place (k + 1) (mid ++ l ∷ rest))
    ∙ or_right (list_any (serves place e) here) (list_any (serves place e) (needed_words place (k + 1) (mid ++ l ∷ rest))) (wanted_serves place (k + 1) e mid l rest is)

-- ---- the opens pool

abbrev KeepsPool : Line → Type 0
KeepsPool l = ends_pool l ≡ false

up_past : (mid rest : List Line) → AllByRecursion KeepsPool mid → up_to_end (mid ++ rest) ≡ mid ++ up_to_end rest
up_past [] rest all = refl
up_past (x ∷ mid) rest all = ap (λ b. if b then [] else x ∷ up_to_end (mid ++ rest)) all.0 ∙ ap (λ ls. x ∷ ls) (up_past mid rest all.1)

-- lines from the last to the first of which the first that ends a pool is a position
pub record Opened (earlier : List Line) : Type 0 where
  pub front : List Line
  pub position : Line
  pub mid : List Line
  pub joined : reverse earlier ≡ front ++ position ∷ mid
  pub is_one : is_position position.statement ≡ true
  pub keeps : AllByRecursion KeepsPool mid
  pub place : last_position earlier ≡ Some (length front)

push_keeps : (mid : List Line) (x : Line) → AllByRecursion KeepsPool mid → ends_pool x ≡ false → AllByRecursion KeepsPool (mid ++ x ∷ [])
push_keeps [] x all is = (is, tt)
push_keeps (y ∷ mid) x all is = (all.0, push_keeps mid x all.1 is)

opened_at : (earlier : List Line) → option_map_or (λ l. is_position l.statement) (find ends_pool earlier) false ≡ true → Opened earlier
opened_at [] e = absurd (cc)
opened_at (x ∷ earlier) e = by_end (ends_pool x) refl (λ later. opened_at earlier later) e
  where
    by_end : (b : Bool) → ends_pool x ≡ b → (option_map_or (λ l. is_position l.statement) (find ends_pool earlier) false ≡ true → Opened earlier) →
        option_map_or (λ l. is_position l.statement) (cond b (Some x) (find ends_pool earlier)) false ≡ true → Opened (x ∷ earlier)
    by_end true is rec e = record {
      front = reverse earlier;
      position = x;
      mid = [];
      joined = reverse-append (x ∷ []) earlier;
      is_one = e;
      keeps = tt;
      place = ap (λ b. if b then (if is_position x.statement then Some (length earlier) else None) else last_position earlier) is
          ∙ ap (λ b. if b then Some (length earlier) else None) e ∙ ap Some (sym (length-reverse earlier));
    }
    by_end false is rec e =
        let o : Opened earlier = rec e in
        record {
          front = o.front;
          position = o.position;
          mid = o.mid ++ x ∷ [];
          joined = reverse-append (x ∷ []) earlier ∙ ap (λ ls. ls ++ x ∷ []) o.joined ∙ append_assoc o.front (o.position ∷ o.mid) (x ∷ []);
          is_one = o.is_one;
          keeps = push_keeps o.mid x o.keeps is;
          place = ap (λ b. if b then (if is_position x.statement then Some (length earlier) else None) else last_position earlier) is ∙ o.place;
        }

pool_serves : (front : List Line) (position : Line) (mid : List Line) (l : Line) (rest : List Line) (e : Expr) → is_position position.statement ≡ true → AllByRecursion KeepsPool mid → ends_pool l ≡ false →
    (let none : Option Placed = None in need l.statement ≡ Some (none, e)) → list_any (serves (length front) e) (pool_at front position (mid ++ l ∷ rest)) ≡ true
pool_serves front position mid l rest e is keeps own needs =
    let n : ℕ = length front in
    let up : up_to_end (mid ++ l ∷ rest) ≡ mid ++ l ∷ up_to_end rest = up_past mid (l ∷ rest) keeps ∙ ap (λ b. mid ++ (if b then [] else l ∷ up_to_end rest)) own in
    ap (λ b. list_any (serves n e) (if b then pool n (mid ++ l ∷ rest) else [])) is
    ∙ distinct_serves n e (needed_words n (n + 1) (up_to_end (mid ++ l ∷ rest))) (wanted_stand n (n + 1) (up_to_end (mid ++ l ∷ rest)))
    (ap (λ ls. list_any (serves n e) (needed_words n (n + 1) ls)) up ∙ wanted_serves n (n + 1) e mid l (up_to_end rest) needs)

behind_serves : (p : PoolWord → Bool) (before front : List Line) (l : Line) (rest : List Line) → list_any p (pool_at (before ++ front) l rest) ≡ true → list_any p (words_behind before (front ++ l ∷ rest)) ≡ true
behind_serves p before [] l rest some =
    list_any-append p (pool_at before l rest) (words_behind (before ++ l ∷ []) rest)
    ∙ or_left (list_any p (pool_at before l rest)) (list_any p (words_behind (before ++ l ∷ []) rest)) (ap (λ ls. list_any p (pool_at ls l rest)) (sym (append-nil before)) ∙ some)
behind_serves p before (x ∷ front) l rest some =
    list_any-append p (pool_at before x (front ++ l ∷ rest)) (words_behind (before ++ x ∷ []) (front ++ l ∷ rest))
    ∙ or_right (list_any p (pool_at before x (front ++ l ∷ rest))) (list_any p (words_behind (before ++ x ∷ []) (front ++ l ∷ rest)))
    (behind_serves p (before ++ x ∷ []) front l rest (ap (λ ls. list_any p (pool_at ls l rest)) (append_assoc before (x ∷ []) front) ∙ some))

all_words : (lines : List Line) → words_of lines ≡ words_behind [] lines
unfolding words_of
all_words lines = refl

found_address : (p : PoolWord → Bool) (words : List PoolWord) (addresses : List ℤ) → length addresses ≡ length words → list_any p words ≡ true → is_none (option_map (λ x. x.1) (find (λ x. p x.0) (zip words addresses))) ≡ false
found_address p [] addresses same some = absurd (cc)
found_address p (w ∷ words) [] same some = absurd (omega arith)
found_address p (w ∷ words) (a ∷ addresses) same some = by_test (p w) (λ later. found_address p words addresses (omega arith) later) some
  where
    by_test : (b : Bool) → (list_any p words ≡ true → is_none (option_map (λ x. x.1) (find (λ x. p x.0) (zip words addresses))) ≡ false) → (b || list_any p words) ≡ true →
        is_none (option_map (λ x. x.1) (cond b (Some (w, a)) (find (λ x. p x.0) (zip words addresses)))) ≡ false
    by_test true rec some = refl
    by_test false rec some = rec some

-- ---- a use has its word

reverse_twice : (ls : List Line) → reverse (reverse ls) ≡ ls
reverse_twice [] = refl
reverse_twice (x ∷ ls) = ap reverse (reverse-append (x ∷ []) ls) ∙ reverse-append (reverse ls) (x ∷ []) ∙ ap (λ ys. x ∷ ys) (reverse_twice ls)

use_served : (lines before : List Line) (l : Line) (rest : List Line) (e : Expr) → lines ≡ before ++ l ∷ rest → is_open before ≡ true → ends_pool l ≡ false → (let none : Option Placed = None in need l.statement ≡ Some (none, e)) →
    is_none (option_and_then (λ place. word_for place e (words_of lines) (map (λ n. pos n) (word_addresses lines))) (open_position before)) ≡ false
use_served lines before l rest e joined opens own needs =
    let o : Opened (reverse before) = opened_at (reverse before) opens in
    let n : ℕ = length o.front in
    let addresses : List ℤ = map (λ n. pos n) (word_addresses lines) in
    let front_is : before ≡ o.front ++ o.position ∷ o.mid = sym (reverse_twice before) ∙ o.joined in
    let lines_are : lines ≡ o.front ++ o.position ∷ (o.mid ++ l ∷ rest) = joined ∙ ap (λ ls. ls ++ l ∷ rest) front_is ∙ append_assoc o.front (o.position ∷ o.mid) (l ∷ rest) in
    let some : list_any (serves n e) (words_of lines) ≡ true =
    ap (λ ls. list_any (serves n e) (words_of ls)) lines_are ∙ ap (list_any (serves n e)) (all_words (o.front ++ o.position ∷ (o.mid ++ l ∷ rest)))
    ∙ behind_serves (serves n e) [] o.front o.position (o.mid ++ l ∷ rest) (pool_serves o.front o.position o.mid l rest e o.is_one o.keeps own needs) in
    ap (λ x. is_none (option_and_then (λ place. word_for place e (words_of lines) addresses) x)) o.place
    ∙ found_address (serves n e) (words_of lines) addresses (addresses_long lines addresses refl) some

none_lacks : (site : Site) (operands : List Operand) → pool_use operands ≡ None → list_any (lacks_word site) operands ≡ false
none_lacks site [] e = refl
none_lacks site (operand.Reg n ∷ operands) e = none_lacks site operands e
none_lacks site (operand.Value v ∷ operands) e = none_lacks site operands e
none_lacks site (operand.Pool v ∷ operands) e = absurd (cc)

served_lacks : (site : Site) (operands : List Operand) → is_none site.target ≡ false → list_any (lacks_word site) operands ≡ false
served_lacks site [] e = refl
served_lacks site (operand.Reg n ∷ operands) e = served_lacks site operands e
served_lacks site (operand.Value v ∷ operands) e = served_lacks site operands e
served_lacks site (operand.Pool v ∷ operands) e = ap (λ b. b || list_any (lacks_word site) operands) e ∙ served_lacks site operands e

pub served : OpenPoolsServe
served lines before l rest joined opens = by_statement l.statement refl
  where
    by_statement : (s : Statement) → l.statement ≡ s → has_no_word (site_at lines before l) s ≡ false
    by_statement (statement.Insn name operands) is = by_use (pool_use operands) refl
      where
        by_use : (o : Option Expr) → pool_use operands ≡ o → list_any (lacks_word (site_at lines before l)) operands ≡ false
        by_use None none = none_lacks (site_at lines before l) operands none
        by_use (Some e) some =
            let needs : (let none : Option Placed = None in need l.statement ≡ Some (none, e)) = ap need is ∙ ap (λ o. option_map (λ e. let none : Option Placed = None in (none, e)) o) some in
            let own : ends_pool l ≡ false = ap (λ s. is_position s || is_segment s) is in
            let target : (site_at lines before l).target ≡ option_and_then (λ place. word_for place e (words_of lines) (map (λ n. pos n) (word_addresses lines))) (open_position before) =
            ap (λ s. target_of (words_of lines) (map (λ n. pos n) (word_addresses lines)) (open_position before) s) is
            ∙ ap (λ o. option_and_then (λ e. option_and_then (λ place. word_for place e (words_of lines) (map (λ n. pos n) (word_addresses lines))) (open_position before)) o) some in
            served_lacks (site_at lines before l) operands (ap is_none target ∙ use_served lines before l rest e joined opens own needs)
    by_statement _ is = refl
