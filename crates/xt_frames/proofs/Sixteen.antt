-- Sixteen values that are all the same.
use Rattle.std.specs.Prelude.{replicate}
use Rattle.std.proofs.Common.{◌≡◌, ℕ, zero, suc, ◌*◌, ◌-◌, ◌<◌, drop, refl, arith}

pub filled : {X : Type 0} (n : ℕ) (x : X) → n < 4 → drop (16 - 4 * n) (replicate 16 x) ≡ replicate (4 * n) x
filled zero x h = refl
filled (suc zero) x h = refl
filled (suc (suc zero)) x h = refl
filled (suc (suc (suc zero))) x h = refl
filled (suc (suc (suc (suc n)))) x h = absurd (omega (arith, h))
