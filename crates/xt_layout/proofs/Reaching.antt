-- Where the lines stand, line by line, and how large the addresses become.
use Rattle.std.proofs.Common.{◌≡◌, List, [], ◌∷◌, ◌++◌, refl, ap, ◌∙◌, ℕ, ◌+◌, ◌*◌, ◌^◌, ◌<◌, ◌≤◌, cond, length, get_or, Option, Some, None, arith, eqb}
use Rattle.std.specs.Prelude.{count_by, sum_by, nat_lt}
use Rattle.std.proofs.lemmas.List.Sums.{sum_by_more, sum_by-take-le, sum_by-cons, count_by-le-length}
use Rattle.std.proofs.lemmas.Bool.Decides.{nat_tests}
use Rattle.xt_parse.specs.declared.line.Line.{Line}
use Rattle.xt_layout.specs.declared.word.PoolWord.{PoolWord}
use Rattle.xt_layout.specs.declared.spot.Spot.{Spot}
use Rattle.xt_layout.specs.Sizes.{IsSmall, pool_size, weight}
use Rattle.xt_layout.specs.Spots.{behind, passes}
use Rattle.xt_layout.specs.Bounds.{IsBelow, reach}

-- after one line more
pub behind_more : (words : List PoolWord) (j : ℕ) (before : Option Spot) (lines : List Line) (l : Line) →
    behind words j before (lines ++ l ∷ []) ≡ passes (pool_size words (j + length lines)) (behind words j before lines) l.statement
behind_more words j before [] l = ap (λ k. passes (pool_size words k) before l.statement) (omega arith)
behind_more words j before (x ∷ lines) l = behind_more words (j + 1) (passes (pool_size words j) before x.statement) lines l
    ∙ ap (λ k. passes (pool_size words k) (behind words j before (x ∷ lines)) l.statement) (omega arith)

-- the words in the pools up to a place
placed_one : (p k : ℕ) → cond (nat_lt p (k + 1)) 1 0 ≡ cond (nat_lt p k) 1 0 + cond (eqb p k) 1 0
placed_one p k = grind (arith, nat_tests)

pub placed_more : (words : List PoolWord) (k : ℕ) → count_by (λ w. nat_lt w.position (k + 1)) words ≡ count_by (λ w. nat_lt w.position k) words + pool_size words k
placed_more [] k = refl
placed_more (w ∷ words) k = sum_by-cons (λ w. cond (nat_lt w.position (k + 1)) 1 0) w words
    ∙ omega (arith, placed_one w.position k, placed_more words k, sum_by-cons (λ (w : PoolWord). cond (nat_lt w.position k) 1 0) w words, sum_by-cons (λ (w : PoolWord). cond (eqb w.position k) 1 0) w words)

pub reach_more : (lines : List Line) (words : List PoolWord) (k : ℕ) (l : Line) → k < length lines → l ≡ get_or lines k l →
    reach lines words (k + 1) ≡ reach lines words k + (1027 * weight l + 4 * pool_size words k)
reach_more lines words k l lt is = omega (arith, placed_more words k, sum_by_more weight lines k l lt, ap weight is)

pub lines_in_weight : (lines : List Line) → length lines ≤ sum_by weight lines
lines_in_weight [] = omega arith
lines_in_weight (l ∷ lines) = omega (arith, sum_by-cons weight l lines, lines_in_weight lines)

pub reach_small : (lines : List Line) (words : List PoolWord) (k : ℕ) → IsSmall lines → length words ≤ length lines → reach lines words k ≤ 2 ^ 34
reach_small lines words k small few = omega (arith, sum_by-take-le weight lines k, count_by-le-length (λ (w : PoolWord). nat_lt w.position k) words, lines_in_weight lines)

pub below_more : (n m : ℕ) (p : Option Spot) → n ≤ m → IsBelow n p → IsBelow m p
below_more n m None le h = tt
below_more n m (Some p) le h = omega arith
