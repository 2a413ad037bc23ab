-- What one line adds to the words, and what the lines after it add.
use Rattle.std.proofs.Common.{◌≡◌, Bool, true, false, not, ◌&&◌, ◌||◌, List, [], ◌∷◌, ◌++◌, refl, sym, ap, ◌∙◌, cond, ℕ, ◌+◌, ◌<◌, ◌≤◌, length, take, drop, get_or, Option, Some, None, if◌then◌else◌, arith}
use Rattle.std.specs.Prelude.{filter, is_none, option_to_list}
use Rattle.std.specs.List.{flat_map}
use Rattle.std.specs.Option.{option_map, option_map_or}
use Rattle.std.proofs.lemmas.List.Elements.{filter_agree}
use Rattle.std.proofs.lemmas.List.{append_assoc, append-nil, drop_more, drop_all, take_more, length-take-le}
use Rattle.xt_lex.specs.declared.expr.Expr.{Expr}
use Rattle.xt_parse.specs.declared.line.Line.{Line}
use Rattle.xt_parse.specs.declared.line.Placed.{Placed}
use Rattle.xt_parse.specs.declared.statement.Statement.{Statement}
use Rattle.xt_parse.specs.declared.statement.Statement.TheVariants.{Seg, Position}
use Rattle.xt_layout.specs.declared.word.PoolWord.{PoolWord}
use Rattle.xt_layout.specs.Around.{each_after}
use Rattle.xt_layout.specs.Pools.{distinct, needed_words, is_position, is_segment, need, shares, same_terms, pool_at, pool, up_to_end, words_of}
use Rattle.xt_layout.specs.Seen.{is_there, words_of_line, pool_after_line, seen_after, word}

-- the words that the set does not have
abbrev pub unseen : (Expr → Bool) → PoolWord → Bool
unseen h w = not (is_there h w)

-- the words that the lines from the place k on add to the pool that is current
abbrev pub left : Option ℕ → (Expr → Bool) → ℕ → List Line → List PoolWord
left None h k rest = []
left (Some p) h k rest = filter (unseen h) (distinct (needed_words p k (up_to_end rest)))

-- the words of the pools whose positions stand in these lines
abbrev pub tail : List Line → List Line → List PoolWord
tail before rest = flat_map (λ words. words) (each_after pool_at before rest)

-- ---- filters

filter_every : {X : Type 0} (p : X → Bool) → ((x : X) → p x ≡ true) → (xs : List X) → filter p xs ≡ xs
filter_every p h [] = refl
filter_every p h (x ∷ xs) = ap (λ b. cond b (x ∷ filter p xs) (filter p xs)) (h x) ∙ ap (λ ys. x ∷ ys) (filter_every p h xs)

filter_cond : {X : Type 0} (p r : X → Bool) (x : X) (b : Bool) (xs ys : List X) → (b && p x) ≡ r x → filter p xs ≡ filter r ys → filter p (cond b (x ∷ xs) xs) ≡ filter r (x ∷ ys)
filter_cond p r x true xs ys e h = ap (λ b. cond b (x ∷ filter p xs) (filter p xs)) e ∙ ap (λ zs. cond (r x) (x ∷ zs) zs) h
filter_cond p r x false xs ys e h = h ∙ ap (λ b. cond b (x ∷ filter r ys) (filter r ys)) e

filter_twice : {X : Type 0} (p q r : X → Bool) → ((x : X) → (q x && p x) ≡ r x) → (xs : List X) → filter p (filter q xs) ≡ filter r xs
filter_twice p q r h [] = refl
filter_twice p q r h (x ∷ xs) = filter_cond p r x (q x) (filter q xs) xs (h x) (filter_twice p q r h xs)

-- ---- tests

or_false : (b : Bool) → (b || false) ≡ b
or_false true = refl
or_false false = refl

not_and_false : (b : Bool) → not (b && false) ≡ true
not_and_false true = refl
not_and_false false = refl

-- nothing was noted
same_unseen : (h : Expr → Bool) (w : PoolWord) → unseen h w ≡ unseen (λ e. h e || false) w
same_unseen h w = ap (λ b. not (is_none w.name && b)) (sym (or_false (h w.value)))

-- one expression was noted
one_more : (n had same : Bool) → (not (n && same) && not (n && had)) ≡ not (n && (had || same))
one_more false had same = refl
one_more true true true = refl
one_more true true false = refl
one_more true false true = refl
one_more true false false = refl

-- ---- one line

-- what a use adds, and what is left after it
use_adds : (h : Expr → Bool) (p k : ℕ) (e : Expr) (b : Bool) (words : List PoolWord) → b ≡ h e →
    cond (not b) (word p k (None, e) ∷ filter (unseen h) (filter (λ y. not (shares (word p k (None, e)) y)) words)) (filter (unseen h) (filter (λ y. not (shares (word p k (None, e)) y)) words))
    ≡ cond b [] (word p k (None, e) ∷ []) ++ filter (unseen (λ q. h q || same_terms e q)) words
use_adds h p k e true words is = filter_twice (unseen h) (λ y. not (shares (word p k (None, e)) y)) (unseen (λ q. h q || same_terms e q)) (λ w. one_more (is_none w.name) (h w.value) (same_terms e w.value)) words
use_adds h p k e false words is = ap (λ ys. word p k (None, e) ∷ ys) (filter_twice (unseen h) (λ y. not (shares (word p k (None, e)) y)) (unseen (λ q. h q || same_terms e q)) (λ w. one_more (is_none w.name) (h w.value) (same_terms e w.value)) words)

-- a line that needs nothing, or is no part of an current pool
abbrev keeps : (Expr → Bool) → Expr → Bool
keeps h e = h e || false

kept : (current : Option ℕ) (h : Expr → Bool) (k : ℕ) (rest : List Line) → left current h k rest ≡ left current (keeps h) k rest
kept None h k rest = refl
kept (Some p) h k rest = filter_agree (unseen h) (unseen (keeps h)) (same_unseen h) (distinct (needed_words p k (up_to_end rest)))

-- what a line needs that is neither a position nor a segment
need_adds : (h : Expr → Bool) (p k : ℕ) (n : Option (Option Placed × Expr)) (words : List PoolWord) →
    filter (unseen h) (distinct (option_to_list (option_map (λ n. record { position = p; line = k; name = n.0; value = n.1 }) n) ++ words))
    ≡ option_map_or (λ n. if is_there h (word p k n) then [] else word p k n ∷ []) n [] ++ filter (unseen (λ e. h e || option_map_or (λ n. is_none n.0 && same_terms n.1 e) n false)) (distinct words)
need_adds h p k None words = filter_agree (unseen h) (unseen (keeps h)) (same_unseen h) (distinct words)
need_adds h p k (Some (Some name, e)) words =
    let w : PoolWord = word p k (Some name, e) in
    ap (λ ys. w ∷ ys) (ap (filter (unseen h)) (filter_every (λ y. not (shares w y)) (λ _. refl) (distinct words)) ∙ filter_agree (unseen h) (unseen (keeps h)) (same_unseen h) (distinct words))
need_adds h p k (Some (None, e)) words = use_adds h p k e (h e) (distinct words) refl

-- the same, before other words, for a need m that is this one
need_adds_before : (h : Expr → Bool) (p k : ℕ) (m n : Option (Option Placed × Expr)) (words others : List PoolWord) → m ≡ n →
    filter (unseen h) (distinct (option_to_list (option_map (λ n. record { position = p; line = k; name = n.0; value = n.1 }) m) ++ words)) ++ others
    ≡ option_map_or (λ n. if is_there h (word p k n) then [] else word p k n ∷ []) n []
    ++ (filter (unseen (λ e. h e || option_map_or (λ n. is_none n.0 && same_terms n.1 e) n false)) (distinct words) ++ others)
need_adds_before h p k m n words others e =
    ap (λ m. filter (unseen h) (distinct (option_to_list (option_map (λ n. record { position = p; line = k; name = n.0; value = n.1 }) m) ++ words)) ++ others) e
    ∙ ap (λ ws. ws ++ others) (need_adds h p k n words)
    ∙ append_assoc (option_map_or (λ n. if is_there h (word p k n) then [] else word p k n ∷ []) n []) (filter (unseen (λ e. h e || option_map_or (λ n. is_none n.0 && same_terms n.1 e) n false)) (distinct words)) others

-- a new pool
new_pool : (before : List Line) (k : ℕ) (rest : List Line) → length before ≡ k → pool (length before) rest ≡ left (Some k) (λ _. false) (k + 1) rest
new_pool before k rest is = ap (λ j. pool j rest) is ∙ sym (filter_every (unseen (λ _. false)) (λ w. not_and_false (is_none w.name)) (pool k rest))

-- What a line and the lines after it add, by what the line's statement is: p a position, g a segment, n what it needs.
abbrev Steps : Option ℕ → (Expr → Bool) → List Line → ℕ → Line → List Line → Bool → Bool → Option (Option Placed × Expr) → Type 0
Steps None h before k l rest p g n =
    [] ++ ((if p then pool (length before) rest else []) ++ tail (before ++ l ∷ []) rest)
    ≡ [] ++ (left (if p then Some k else (if g then None else None)) (λ e. if p then false else (h e || false)) (k + 1) rest ++ tail (before ++ l ∷ []) rest)
Steps (Some at) h before k l rest p g n =
    filter (unseen h) (distinct (needed_words at k (if (p || g) then [] else l ∷ up_to_end rest))) ++ ((if p then pool (length before) rest else []) ++ tail (before ++ l ∷ []) rest)
    ≡ option_map_or (λ n. if is_there h (word at k n) then [] else word at k n ∷ []) n []
    ++ (left (if p then Some k else (if g then None else Some at)) (λ e. if p then false else (h e || option_map_or (λ n. is_none n.0 && same_terms n.1 e) n false)) (k + 1) rest ++ tail (before ++ l ∷ []) rest)

steps : (current : Option ℕ) (h : Expr → Bool) (before : List Line) (k : ℕ) (l : Line) (rest : List Line) (s : Statement) → length before ≡ k → need l.statement ≡ need s →
    Steps current h before k l rest (is_position s) (is_segment s) (need s)
steps None h before k l rest Position is same = ap (λ w. w ++ tail (before ++ l ∷ []) rest) (new_pool before k rest is)
steps None h before k l rest _ is same = refl
steps (Some at) h before k l rest Position is same = ap (λ w. w ++ tail (before ++ l ∷ []) rest) (new_pool before k rest is)
steps (Some at) h before k l rest (Seg start) is same = refl
steps (Some at) h before k l rest s is same = need_adds_before h at k (need l.statement) (need s) (needed_words at (k + 1) (up_to_end rest)) (tail (before ++ l ∷ []) rest) same

-- a line and the lines after it
pub step : (current : Option ℕ) (h : Expr → Bool) (before : List Line) (k : ℕ) (l : Line) (rest : List Line) → length before ≡ k →
    left current h k (l ∷ rest) ++ tail before (l ∷ rest) ≡ words_of_line current h k l ++ (left (pool_after_line current k l) (seen_after current h l) (k + 1) rest ++ tail (before ++ l ∷ []) rest)
step None h before k l rest is = steps None h before k l rest l.statement is refl
step (Some at) h before k l rest is = steps (Some at) h before k l rest l.statement is refl

-- a set that says the same
same_left : (current : Option ℕ) (h h' : Expr → Bool) → ((e : Expr) → h e ≡ h' e) → (k : ℕ) (rest : List Line) → left current h k rest ≡ left current h' k rest
same_left None h h' same k rest = refl
same_left (Some p) h h' same k rest = filter_agree (unseen h) (unseen h') (λ w. ap (λ b. not (is_none w.name && b)) (same w.value)) (distinct (needed_words p k (up_to_end rest)))

-- the words so far and the words to come are all words
abbrev pub Makes : List PoolWord → Option ℕ → (Expr → Bool) → ℕ → List Line → List PoolWord → Type 0
Makes words current h k lines all = words ++ (left current h k (drop k lines) ++ tail (take k lines) (drop k lines)) ≡ all

pub more : (words words' : List PoolWord) (current now : Option ℕ) (h h' : Expr → Bool) (k : ℕ) (lines : List Line) (l : Line) (all : List PoolWord) →
    k < length lines → l ≡ get_or lines k l → Makes words current h k lines all →
    words' ≡ words ++ words_of_line current h k l → now ≡ pool_after_line current k l → ((e : Expr) → h' e ≡ seen_after current h l e) → Makes words' now h' (k + 1) lines all
more words words' current now h h' k lines l all lt is makes adds opens sees =
    let rest : List Line = drop (k + 1) lines in
    let front : List Line = take k lines in
    let here : drop k lines ≡ l ∷ rest = drop_more lines k l lt ∙ ap (λ x. x ∷ rest) (sym is) in
    let next : take (k + 1) lines ≡ front ++ l ∷ [] = take_more lines k l lt ∙ ap (λ x. front ++ x ∷ []) (sym is) in
    ap (λ ws. ws ++ (left now h' (k + 1) rest ++ tail (take (k + 1) lines) rest)) adds
    ∙ ap (λ n. (words ++ words_of_line current h k l) ++ (left n h' (k + 1) rest ++ tail (take (k + 1) lines) rest)) opens
    ∙ ap (λ ws. (words ++ words_of_line current h k l) ++ (ws ++ tail (take (k + 1) lines) rest)) (same_left (pool_after_line current k l) h' (seen_after current h l) sees (k + 1) rest)
    ∙ ap (λ ls. (words ++ words_of_line current h k l) ++ (left (pool_after_line current k l) (seen_after current h l) (k + 1) rest ++ tail ls rest)) next
    ∙ append_assoc words (words_of_line current h k l) (left (pool_after_line current k l) (seen_after current h l) (k + 1) rest ++ tail (front ++ l ∷ []) rest)
    ∙ ap (λ ws. words ++ ws) (sym (step current h front k l rest (length-take-le k lines (omega arith))))
    ∙ ap (λ ls. words ++ (left current h k ls ++ tail front ls)) (sym here)
    ∙ makes

-- before the first line
pub none : (words : List PoolWord) (h : Expr → Bool) (lines : List Line) → words ≡ [] → Makes words None h 0 lines (words_of lines)
unfolding words_of
none words h lines is = ap (λ ws. ws ++ ([] ++ tail [] lines)) is

-- after the last
pub every : (words : List PoolWord) (current : Option ℕ) (h : Expr → Bool) (k : ℕ) (lines : List Line) (all : List PoolWord) → length lines ≤ k → Makes words current h k lines all → words ≡ all
every words None h k lines all le makes = sym (append-nil words) ∙ ap (λ ls. words ++ ([] ++ tail (take k lines) ls)) (sym (drop_all k lines le)) ∙ makes
every words (Some p) h k lines all le makes = sym (append-nil words) ∙ ap (λ ls. words ++ (left (Some p) h k ls ++ tail (take k lines) ls)) (sym (drop_all k lines le)) ∙ makes
