-- The window check where the bit of window 0 alone is set.
use Rattle.std.proofs.Common.{◌≡◌, ℕ, zero, suc, ◌<◌, refl, arith}
use Rattle.xt_window.specs.Ring.{ahead, bit}

pub alone : (quad : ℕ) → quad < 4 → ahead 1 0 quad ≡ 0
unfolding ahead bit
alone zero h = refl
alone (suc zero) h = refl
alone (suc (suc zero)) h = refl
alone (suc (suc (suc zero))) h = refl
alone (suc (suc (suc (suc quad)))) h = absurd (omega arith)
