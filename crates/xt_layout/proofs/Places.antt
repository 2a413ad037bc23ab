-- The words of pools are at most as many as the lines, and their positions and lines are places among the lines.
use Rattle.std.proofs.Common.{◌≡◌, Bool, true, false, not, ◌||◌, List, [], ◌∷◌, ◌++◌, refl, cond, ℕ, ◌+◌, ◌<◌, ◌≤◌, length, suc, Option, Some, None, if◌then◌else◌, arith, length-append}
use Rattle.std.specs.Prelude.{filter, option_to_list}
use Rattle.std.specs.List.{flat_map, AllByRecursion, All}
use Rattle.std.specs.Option.{option_map}
use Rattle.std.proofs.lemmas.List.{length_push}
use Rattle.std.proofs.lemmas.List.Elements.{All-from_recursion}
use Rattle.xt_lex.specs.declared.expr.Expr.{Expr}
use Rattle.xt_parse.specs.declared.line.Line.{Line}
use Rattle.xt_parse.specs.declared.line.Placed.{Placed}
use Rattle.xt_layout.specs.declared.word.PoolWord.{PoolWord}
use Rattle.xt_layout.specs.Around.{each_after}
use Rattle.xt_layout.specs.Pools.{distinct, needed_words, ends_pool, is_position, is_segment, need, shares, pool_at, pool, up_to_end, words_of, IsAmong}

-- ---- how many

filter_fewer : {X : Type 0} (p : X → Bool) (xs : List X) → length (filter p xs) ≤ length xs
filter_fewer p [] = omega arith
filter_fewer p (x ∷ xs) = elim (p x) as (λ b. length (cond b (x ∷ filter p xs) (filter p xs)) ≤ suc (length xs)) [
  | true ↦ omega (arith, filter_fewer p xs)
  | false ↦ omega (arith, filter_fewer p xs)
]

distinct_fewer : (ws : List PoolWord) → length (distinct ws) ≤ length ws
distinct_fewer [] = omega arith
distinct_fewer (w ∷ ws) = omega (arith, filter_fewer (λ y. not (shares w y)) (distinct ws), distinct_fewer ws)

one_at_most : (p k : ℕ) (n : Option (Option Placed × Expr)) → length (option_to_list (option_map (λ n. let w : PoolWord = record { position = p; line = k; name = n.0; value = n.1 } in w) n)) ≤ 1
one_at_most p k None = omega arith
one_at_most p k (Some n) = omega arith

wanted_fewer : (p k : ℕ) (ls : List Line) → length (needed_words p k ls) ≤ length ls
wanted_fewer p k [] = omega arith
wanted_fewer p k (l ∷ ls) = omega (
  arith,
  one_at_most p k (need l.statement),
  wanted_fewer p (k + 1) ls,
  length-append (option_to_list (option_map (λ n. let w : PoolWord = record { position = p; line = k; name = n.0; value = n.1 } in w) (need l.statement))) (needed_words p (k + 1) ls),
)

-- the words of the pools in some lines, and the lines that the pool before them takes
abbrev all_words : List Line → List Line → List PoolWord
all_words before rest = flat_map (λ words. words) (each_after pool_at before rest)

fewer_by : (p g : Bool) (ws later : List PoolWord) (ups rest : List Line) → (p ≡ true → length ws ≤ length ups) → (p ≡ false → length ws ≡ 0) → (l : Line) → length later + length ups ≤ length rest →
    length (ws ++ later) + length (if (p || g) then [] else l ∷ ups) ≤ suc (length rest)
fewer_by true g ws later ups rest few zero l h = omega (arith, few refl, length-append ws later)
fewer_by false true ws later ups rest few zero l h = omega (arith, zero refl, length-append ws later)
fewer_by false false ws later ups rest few zero l h = omega (arith, zero refl, length-append ws later)

pool_fewer : (k : ℕ) (rest : List Line) → length (pool k rest) ≤ length (up_to_end rest)
pool_fewer k rest = omega (arith, distinct_fewer (needed_words k (k + 1) (up_to_end rest)), wanted_fewer k (k + 1) (up_to_end rest))

at_fewer : (p : Bool) (k : ℕ) (rest : List Line) → p ≡ true → length (if p then pool k rest else []) ≤ length (up_to_end rest)
at_fewer true k rest e = pool_fewer k rest
at_fewer false k rest e = cc

at_none : (p : Bool) (k : ℕ) (rest : List Line) → p ≡ false → length (if p then pool k rest else []) ≡ 0
at_none true k rest e = cc
at_none false k rest e = refl

all_fewer : (before rest : List Line) → length (all_words before rest) + length (up_to_end rest) ≤ length rest
all_fewer before [] = omega arith
all_fewer before (l ∷ rest) = fewer_by (is_position l.statement) (is_segment l.statement) (pool_at before l rest) (all_words (before ++ l ∷ []) rest) (up_to_end rest) rest
    (at_fewer (is_position l.statement) (length before) rest) (at_none (is_position l.statement) (length before) rest) l (all_fewer (before ++ l ∷ []) rest)

pub words_fewer : (lines : List Line) → length (words_of lines) ≤ length lines
unfolding words_of
words_fewer lines = omega (arith, all_fewer [] lines)

-- ---- where

filter_keeps : {X : Type 0} (P : X → Type 0) (p : X → Bool) (xs : List X) → AllByRecursion P xs → AllByRecursion P (filter p xs)
filter_keeps P p [] h = h
filter_keeps P p (x ∷ xs) h = elim (p x) as (λ b. AllByRecursion P (cond b (x ∷ filter p xs) (filter p xs))) [
  | true ↦ (h.0, filter_keeps P p xs h.1)
  | false ↦ filter_keeps P p xs h.1
]

pub join_keeps : {X : Type 0} (P : X → Type 0) (xs ys : List X) → AllByRecursion P xs → AllByRecursion P ys → AllByRecursion P (xs ++ ys)
join_keeps P [] ys h g = g
join_keeps P (x ∷ xs) ys h g = (h.0, join_keeps P xs ys h.1 g)

pub distinct_keeps : (P : PoolWord → Type 0) (ws : List PoolWord) → AllByRecursion P ws → AllByRecursion P (distinct ws)
distinct_keeps P [] h = h
distinct_keeps P (w ∷ ws) h = (h.0, filter_keeps P (λ y. not (shares w y)) (distinct ws) (distinct_keeps P ws h.1))

one_among : (n p k : ℕ) (o : Option (Option Placed × Expr)) → p < n → k < n →
    AllByRecursion (IsAmong n) (option_to_list (option_map (λ n. let w : PoolWord = record { position = p; line = k; name = n.0; value = n.1 } in w) o))
one_among n p k None hp hk = tt
one_among n p k (Some o) hp hk = ((hp, hk), tt)

wanted_among : (n p k : ℕ) (ls : List Line) → p < n → k + length ls ≤ n → AllByRecursion (IsAmong n) (needed_words p k ls)
wanted_among n p k [] hp hk = tt
wanted_among n p k (l ∷ ls) hp hk = join_keeps (IsAmong n) (option_to_list (option_map (λ n. let w : PoolWord = record { position = p; line = k; name = n.0; value = n.1 } in w) (need l.statement))) (needed_words p (k + 1) ls)
    (one_among n p k (need l.statement) hp (omega arith)) (wanted_among n p (k + 1) ls hp (omega arith))

up_fewer : (ls : List Line) → length (up_to_end ls) ≤ length ls
up_fewer [] = omega arith
up_fewer (l ∷ ls) = elim (ends_pool l) as (λ b. length (if b then [] else l ∷ up_to_end ls) ≤ suc (length ls)) [
  | true ↦ omega arith
  | false ↦ omega (arith, up_fewer ls)
]

pool_among : (n k : ℕ) (p : Bool) (rest : List Line) → k < n → k + 1 + length rest ≤ n → AllByRecursion (IsAmong n) (if p then pool k rest else [])
pool_among n k false rest hk h = tt
pool_among n k true rest hk h = distinct_keeps (IsAmong n) (needed_words k (k + 1) (up_to_end rest)) (wanted_among n k (k + 1) (up_to_end rest) hk (omega (arith, up_fewer rest)))

all_among : (n : ℕ) (before rest : List Line) → length before + length rest ≤ n → AllByRecursion (IsAmong n) (all_words before rest)
all_among n before [] h = tt
all_among n before (l ∷ rest) h = join_keeps (IsAmong n) (pool_at before l rest) (all_words (before ++ l ∷ []) rest)
    (pool_among n (length before) (is_position l.statement) rest (omega arith) (omega arith))
    (all_among n (before ++ l ∷ []) rest (omega (arith, length_push before l)))

pub words_among : (lines : List Line) → All (IsAmong (length lines)) (words_of lines)
unfolding words_of
words_among lines = All-from_recursion (IsAmong (length lines)) (words_of lines) (all_among (length lines) [] lines (omega arith))
