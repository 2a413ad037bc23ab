-- The words of the pool at each line: where they stand among all words, how many they are, and that they are short.
use Rattle.std.proofs.Common.{◌≡◌, ℕ, zero, suc, ◌+◌, ◌<◌, ◌≤◌, Bool, true, false, List, [], ◌∷◌, ◌++◌, Option, Some, None, length, take, drop, get_or, eqb, cond, refl, sym, ap, ◌∙◌, subst, arith, if◌then◌else◌}
use Rattle.std.specs.Prelude.{All, count_by, option_to_list}
use Rattle.std.specs.List.{AllByRecursion, prefix_len}
use Rattle.std.specs.Option.{option_map}
use Rattle.std.proofs.lemmas.List.{append_assoc, append-nil, length_push, length-take-le}
use Rattle.std.proofs.lemmas.List.Sums.{sum_by-append, sum_by-cons}
use Rattle.std.proofs.lemmas.List.Elements.{All-from_recursion, recursion_from_All}
use Rattle.std.proofs.lemmas.Bool.Decides.{nat_tests}
use Rattle.xt_lex.specs.declared.expr.Expr.{Expr}
use Rattle.xt_parse.specs.declared.line.Line.{Line}
use Rattle.xt_parse.specs.declared.line.Placed.{Placed}
use Rattle.xt_parse.specs.declared.statement.Operand.{Operand}
use Rattle.xt_parse.specs.declared.statement.Operand.TheVariants as operand
use Rattle.xt_parse.specs.declared.statement.Statement.{Statement}
use Rattle.xt_parse.specs.declared.statement.Statement.TheVariants as statement
use Rattle.xt_parse.specs.Small.{HasShortExprs, IsShort, IsShortOperand}
use Rattle.xt_layout.specs.declared.word.PoolWord.{PoolWord}
use Rattle.xt_layout.specs.Pools.{ends_pool, is_position, need, pool, pool_at, pool_use, up_to_end, needed_words, words_of}
use Rattle.xt_layout.proofs.Places.{distinct_keeps, join_keeps}
use Rattle.xt_layout.specs.Sizes.{pool_size}
use Rattle.xt_layout.proofs.Each.{here, next}
use Rattle.xt_asm.specs.Contexts.{IsShortWord}
use Rattle.xt_asm.specs.Walks.{words_behind}

-- ---- what holds of each word

every_by : {X : Type 0} (P Q : X → Type 0) → ((x : X) → P x → Q x) → (xs : List X) → AllByRecursion P xs → AllByRecursion Q xs
every_by P Q f [] h = tt
every_by P Q f (x ∷ xs) h = (f x h.0, every_by P Q f xs h.1)

one_word : (P : PoolWord → Type 0) (p k : ℕ) (o : Option (Option Placed × Expr)) → ((n : Option Placed × Expr) → o ≡ Some n → P (record { position = p; line = k; name = n.0; value = n.1 })) →
    AllByRecursion P (option_to_list (option_map (λ n. let w : PoolWord = record { position = p; line = k; name = n.0; value = n.1 } in w) o))
one_word P p k None h = tt
one_word P p k (Some n) h = (h n refl, tt)

-- ---- where the words of a pool stand

abbrev pub StandsAt : ℕ → PoolWord → Type 0
StandsAt p w = w.position ≡ p

pub wanted_stand : (p k : ℕ) (ls : List Line) → AllByRecursion (StandsAt p) (needed_words p k ls)
wanted_stand p k [] = tt
wanted_stand p k (l ∷ ls) = join_keeps (StandsAt p) (option_to_list (option_map (λ n. let w : PoolWord = record { position = p; line = k; name = n.0; value = n.1 } in w) (need l.statement))) (needed_words p (k + 1) ls)
    (one_word (StandsAt p) p k (need l.statement) (λ n e. refl)) (wanted_stand p (k + 1) ls)

pool_stands : (before : List Line) (b : Bool) (rest : List Line) → AllByRecursion (StandsAt (length before)) (if b then pool (length before) rest else [])
pool_stands before false rest = tt
pool_stands before true rest = distinct_keeps (StandsAt (length before)) (needed_words (length before) (length before + 1) (up_to_end rest)) (wanted_stand (length before) (length before + 1) (up_to_end rest))

-- the words of the pools in some lines stand at these lines
abbrev StandsFrom : ℕ → PoolWord → Type 0
StandsFrom p w = p ≤ w.position

behind_stand : (before lines : List Line) → AllByRecursion (StandsFrom (length before)) (words_behind before lines)
behind_stand before [] = tt
behind_stand before (l ∷ lines) =
    let n = length before in
    join_keeps (StandsFrom n) (pool_at before l lines) (words_behind (before ++ l ∷ []) lines)
    (every_by (StandsAt n) (StandsFrom n) (λ w e. omega (arith, e)) (pool_at before l lines) (pool_stands before (is_position l.statement) lines))
    (every_by (StandsFrom (length (before ++ l ∷ []))) (StandsFrom n) (λ w le. omega (arith, le, length_push before l)) (words_behind (before ++ l ∷ []) lines) (behind_stand (before ++ l ∷ []) lines))

-- ---- how many they are

abbrev Passes : (PoolWord → Bool) → Bool → PoolWord → Type 0
Passes p b w = p w ≡ b

stands_here : (k j : ℕ) (w : PoolWord) → j ≡ k → w.position ≡ j → eqb w.position k ≡ true
stands_here k j w e s = grind (arith, nat_tests)

stands_elsewhere : (k j : ℕ) (w : PoolWord) → j < k → w.position ≡ j → eqb w.position k ≡ false
stands_elsewhere k j w lt s = grind (arith, nat_tests)

stands_later : (k j : ℕ) (w : PoolWord) → k < j → j ≤ w.position → eqb w.position k ≡ false
stands_later k j w lt le = grind (arith, nat_tests)

count_cons : (p : PoolWord → Bool) (w : PoolWord) (ws : List PoolWord) → count_by p (w ∷ ws) ≡ cond (p w) 1 0 + count_by p ws
count_cons p w ws = sum_by-cons (λ x. cond (p x) 1 0) w ws

count_join : (p : PoolWord → Bool) (xs ys : List PoolWord) → count_by p (xs ++ ys) ≡ count_by p xs + count_by p ys
count_join p xs ys = sum_by-append (λ x. cond (p x) 1 0) xs ys

count_every : (p : PoolWord → Bool) (ws : List PoolWord) → AllByRecursion (Passes p true) ws → count_by p ws ≡ length ws
count_every p [] h = refl
count_every p (w ∷ ws) h =
    let one : ◌≡◌ {A = ℕ} (cond (p w) 1 0) 1 = ap (λ b. cond b 1 0) h.0 in
    omega (arith, count_cons p w ws, one, count_every p ws h.1)

count_none : (p : PoolWord → Bool) (ws : List PoolWord) → AllByRecursion (Passes p false) ws → count_by p ws ≡ 0
count_none p [] h = refl
count_none p (w ∷ ws) h =
    let none : ◌≡◌ {A = ℕ} (cond (p w) 1 0) 0 = ap (λ b. cond b 1 0) h.0 in
    omega (arith, count_cons p w ws, none, count_none p ws h.1)

zero_plus : (n : ℕ) → 0 + n ≡ n
zero_plus n = omega arith

plus_zero : (n : ℕ) → n + 0 ≡ n
plus_zero n = omega arith

size_at : (before lines : List Line) (k j : ℕ) (l : Line) → length before + j ≡ k → j < length lines → l ≡ get_or lines j l →
    count_by (λ w. eqb w.position k) (words_behind before lines) ≡ length (pool_at (before ++ take j lines) l (drop (j + 1) lines))
size_at before [] k j l e lt is = absurd (omega arith)
size_at before (x ∷ lines) k zero l e lt is =
    let p : PoolWord → Bool = λ w. eqb w.position k in
    count_join p (pool_at before x lines) (words_behind (before ++ x ∷ []) lines)
    ∙ ap (λ n. n + count_by p (words_behind (before ++ x ∷ []) lines)) (count_every p (pool_at before x lines)
    (every_by (StandsAt (length before)) (Passes p true) (λ w s. stands_here k (length before) w (omega arith) s) (pool_at before x lines) (pool_stands before (is_position x.statement) lines)))
    ∙ ap (λ n. length (pool_at before x lines) + n) (count_none p (words_behind (before ++ x ∷ []) lines)
    (every_by (StandsFrom (length (before ++ x ∷ []))) (Passes p false) (λ w s. stands_later k (length (before ++ x ∷ [])) w (omega (arith, length_push before x)) s) (words_behind (before ++ x ∷ []) lines) (behind_stand (before ++ x ∷ []) lines)))
    ∙ plus_zero (length (pool_at before x lines))
    ∙ ap (λ ls. length (pool_at ls x lines)) (sym (append-nil before))
    ∙ ap (λ y. length (pool_at (before ++ []) y lines)) (sym is)
size_at before (x ∷ lines) k (suc j) l e lt is =
    let p : PoolWord → Bool = λ w. eqb w.position k in
    let more : suc (j + 1) ≡ suc j + 1 = omega arith in
    count_join p (pool_at before x lines) (words_behind (before ++ x ∷ []) lines)
    ∙ ap (λ n. n + count_by p (words_behind (before ++ x ∷ []) lines)) (count_none p (pool_at before x lines)
    (every_by (StandsAt (length before)) (Passes p false) (λ w s. stands_elsewhere k (length before) w (omega arith) s) (pool_at before x lines) (pool_stands before (is_position x.statement) lines)))
    ∙ zero_plus (count_by p (words_behind (before ++ x ∷ []) lines))
    ∙ size_at (before ++ x ∷ []) lines k j l (omega (arith, length_push before x)) (omega arith) is
    ∙ ap (λ ls. length (pool_at ls l (drop (j + 1) lines))) (append_assoc before (x ∷ []) (take j lines))
    ∙ ap (λ n. length (pool_at (before ++ take (suc j) (x ∷ lines)) l (drop n (x ∷ lines)))) more

-- how many words the text has in the pool at a line
pub pool_long : (lines : List Line) (k : ℕ) (l : Line) → k < length lines → l ≡ get_or lines k l → pool_size (words_of lines) k ≡ length (pool_at (take k lines) l (drop (k + 1) lines))
unfolding words_of
pool_long lines k l lt is = size_at [] lines k k l (zero_plus k) lt is

-- ---- they stand at the front

one_plus : (n : ℕ) → 1 + n ≡ suc n
one_plus n = omega arith

front_width : (p : PoolWord → Bool) (xs ys : List PoolWord) → AllByRecursion (Passes p true) xs → AllByRecursion (Passes p false) ys → prefix_len p (xs ++ ys) ≡ length xs
front_width p [] [] h g = refl
front_width p [] (y ∷ ys) h g = ap (λ b. cond b (1 + prefix_len p ys) 0) g.0
front_width p (x ∷ xs) ys h g = ap (λ b. cond b (1 + prefix_len p (xs ++ ys)) 0) h.0 ∙ ap (λ n. 1 + n) (front_width p xs ys h.1 g) ∙ one_plus (length xs)

take_front : (xs ys : List PoolWord) → take (length xs) (xs ++ ys) ≡ xs
take_front [] ys = refl
take_front (x ∷ xs) ys = ap (λ zs. x ∷ zs) (take_front xs ys)

drop_front : (xs ys : List PoolWord) → drop (length xs) (xs ++ ys) ≡ ys
drop_front [] ys = refl
drop_front (x ∷ xs) ys = drop_front xs ys

-- the words from a line on are those of its pool, and those after it
pub record Cut (lines : List Line) (k : ℕ) (l : Line) (rest : List PoolWord) (n : ℕ) : Type 0 where
  pub pool_is : take n rest ≡ pool_at (take k lines) l (drop (k + 1) lines)
  pub behind_is : drop n rest ≡ words_behind (take (k + 1) lines) (drop (k + 1) lines)

here_width : (place : ℕ) (w : PoolWord) (j : ℕ) → j ≡ place → w.position ≡ j → eqb place w.position ≡ true
here_width place w j e s = grind (arith, nat_tests)

later_width : (place : ℕ) (w : PoolWord) (j : ℕ) → place < j → j ≤ w.position → eqb place w.position ≡ false
later_width place w j lt le = grind (arith, nat_tests)

pub cut : (lines : List Line) (k : ℕ) (l : Line) (rest : List PoolWord) (n : ℕ) → k < length lines → l ≡ get_or lines k l → rest ≡ words_behind (take k lines) (drop k lines) →
    n ≡ prefix_len (λ w. eqb k w.position) rest → Cut lines k l rest n
cut lines k l rest n lt is rest_is n_is =
    let before : List Line = take k lines in
    let after : List Line = drop (k + 1) lines in
    let p : PoolWord → Bool = λ w. eqb k w.position in
    let long : length before ≡ k = length-take-le k lines (omega arith) in
    let xs : List PoolWord = pool_at before l after in
    let ys : List PoolWord = words_behind (before ++ l ∷ []) after in
    let joined : rest ≡ xs ++ ys = rest_is ∙ ap (λ ls. words_behind before ls) (here lines k l lt is) in
    let width : n ≡ length xs = n_is ∙ ap (prefix_len p) joined ∙ front_width p xs ys
    (every_by (StandsAt (length before)) (Passes p true) (λ w s. here_width k w (length before) long s) xs (pool_stands before (is_position l.statement) after))
    (every_by (StandsFrom (length (before ++ l ∷ []))) (Passes p false) (λ w s. later_width k w (length (before ++ l ∷ [])) (omega (arith, length_push before l)) s) ys (behind_stand (before ++ l ∷ []) after)) in
    record {
      pool_is = ap (λ m. take m rest) width ∙ ap (λ ws. take (length xs) ws) joined ∙ take_front xs ys;
      behind_is = ap (λ m. drop m rest) width ∙ ap (λ ws. drop (length xs) ws) joined ∙ drop_front xs ys ∙ ap (λ ls. words_behind ls after) (sym (next lines k l lt is));
    }

pub all_behind : (lines : List Line) → words_of lines ≡ words_behind (take 0 lines) (drop 0 lines)
unfolding words_of
all_behind lines = refl

-- ---- they are short

short_use : (operands : List Operand) (e : Expr) → AllByRecursion IsShortOperand operands → pool_use operands ≡ Some e → IsShort e
short_use [] e h is = absurd (cc)
short_use (operand.Pool x ∷ operands) e h is = let same : x ≡ e = cc in subst IsShort same h.0
short_use (operand.Reg n ∷ operands) e h is = short_use operands e h.1 is
short_use (operand.Value x ∷ operands) e h is = short_use operands e h.1 is

short_named : (o : Option Expr) (n : Option Placed × Expr) → ((e : Expr) → o ≡ Some e → IsShort e) → option_map (λ e. let none : Option Placed = None in (none, e)) o ≡ Some n → IsShort n.1
short_named None n h is = absurd (cc)
short_named (Some e) n h is = let same : e ≡ n.1 = cc in subst IsShort same (h e refl)

short_need : (s : Statement) (n : Option Placed × Expr) → HasShortExprs s → need s ≡ Some n → IsShort n.1
short_need (statement.Literal name e) n h is = let same : e ≡ n.1 = cc in subst IsShort same h
short_need (statement.Insn name operands) n h is = short_named (pool_use operands) n (λ e u. short_use operands e (recursion_from_All IsShortOperand operands h) u) is
short_need _ n h is = absurd (cc)

abbrev IsShortLine : Line → Type 0
IsShortLine l = HasShortExprs l.statement

wanted_short : (p k : ℕ) (ls : List Line) → AllByRecursion IsShortLine ls → AllByRecursion IsShortWord (needed_words p k ls)
wanted_short p k [] h = tt
wanted_short p k (l ∷ ls) h = join_keeps IsShortWord (option_to_list (option_map (λ n. let w : PoolWord = record { position = p; line = k; name = n.0; value = n.1 } in w) (need l.statement))) (needed_words p (k + 1) ls)
    (one_word IsShortWord p k (need l.statement) (λ n e. short_need l.statement n h.0 e)) (wanted_short p (k + 1) ls h.1)

up_short : (ls : List Line) → AllByRecursion IsShortLine ls → AllByRecursion IsShortLine (up_to_end ls)
up_short [] h = tt
up_short (l ∷ ls) h = elim (ends_pool l) as (λ b. AllByRecursion IsShortLine (if b then [] else l ∷ up_to_end ls)) [
  | true ↦ tt
  | false ↦ (h.0, up_short ls h.1)
]

pool_short : (k : ℕ) (b : Bool) (rest : List Line) → AllByRecursion IsShortLine rest → AllByRecursion IsShortWord (if b then pool k rest else [])
pool_short k false rest h = tt
pool_short k true rest h = distinct_keeps IsShortWord (needed_words k (k + 1) (up_to_end rest)) (wanted_short k (k + 1) (up_to_end rest) (up_short rest h))

behind_short : (before lines : List Line) → AllByRecursion IsShortLine lines → AllByRecursion IsShortWord (words_behind before lines)
behind_short before [] h = tt
behind_short before (l ∷ lines) h = join_keeps IsShortWord (pool_at before l lines) (words_behind (before ++ l ∷ []) lines)
    (pool_short (length before) (is_position l.statement) lines h.1) (behind_short (before ++ l ∷ []) lines h.1)

pub words_short : (lines : List Line) → All IsShortLine lines → All IsShortWord (words_of lines)
unfolding words_of
words_short lines h = All-from_recursion IsShortWord (words_of lines) (behind_short [] lines (recursion_from_All IsShortLine lines h))
