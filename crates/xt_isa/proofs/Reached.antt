-- The special registers that XSR reaches, by the ranges of their numbers.
use Rattle.std.proofs.Common.{◌≡◌, ℕ, ◌<◌, true, eqb, ltb, List, [], ◌∷◌, ⊎_elim, refl, arith}
use Rattle.std.specs.List.{list_all, list_any}
use Rattle.std.proofs.lemmas.Bool.{agree_below_at, and_parts, eqb-true, ltb-true, or_cases}
use Rattle.xt_isa.specs.Numbers.{exchanged_numbers}
use Rattle.xt_isa.specs.ByRanges.{in_ranges}
use Rattle.xt_isa.specs.Spelling.{can_exchange}

pub by_ranges : (n : ℕ) → n < 256 → can_exchange n ≡ in_ranges n
unfolding can_exchange in_ranges
by_ranges n small = agree_below_at can_exchange in_ranges 256 n refl small

any_below : (xs : List ℕ) (b n : ℕ) → list_all (λ x. ltb x b) xs ≡ true → list_any (λ x. eqb n x) xs ≡ true → n < b
any_below [] b n all h = absurd cc
any_below (x ∷ xs) b n all h =
    let parts = and_parts (ltb x b) (list_all (λ x. ltb x b) xs) all in
    ⊎_elim (λ (here : eqb n x ≡ true). omega (arith, eqb-true n x here, ltb-true x b parts.0)) (λ later. any_below xs b n parts.1 later)
    (or_cases (eqb n x) (list_any (λ x. eqb n x) xs) h)

pub exchange_small : (n : ℕ) → can_exchange n ≡ true → n < 256
unfolding can_exchange
exchange_small n h = any_below exchanged_numbers 256 n refl h
