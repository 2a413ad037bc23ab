-- Carries a proof; nothing that a reader must believe.
-- A turn of a search that may come before other moves, as the search tests it.
use Rattle.std.specs.Prelude.{◌≡◌, ℕ, ◌<◌, Bool, true, false, None}
use Rattle.xt_special.specs.Access.{without_bits}
use Rattle.xt_exec.specs.Turn.{demand}
use Rattle.xt_moments.specs.Awaiting.{IsDeaf, bit_of}
use Rattle.xt_moments.specs.Moments.{MomentCore, is_armed}
use Rattle.xt_moments.specs.WorldLaws.{begun}

-- at most one timer is armed, and it may fire before the next turn or after it
abbrev pub IsCalm : (ℕ → ℕ) → MomentCore → Type 0
IsCalm code j =
    (timer : ℕ) → timer < 3 → is_armed timer j ≡ true
    → IsDeaf code timer j × (without_bits j.armed (bit_of timer) ≡ 0)

-- The core has not stopped and is calm. And the other core has stopped and has no armed timer, or the
-- turn makes no access.
pub record IsForced (code : ℕ → ℕ) (armed : ℕ) (alone : Bool) (j other : MomentCore) : Type 0 where
  pub going : j.stopped ≡ false
  pub armed_is : j.armed ≡ armed
  pub deaf : IsCalm code j
  pub stopped : alone ≡ true → (other.stopped ≡ true) × (other.armed ≡ 0)
  pub local : alone ≡ false → demand code (begun 0 j) ≡ None

-- in one of these two ways
pub record MayCome (code : ℕ → ℕ) (j other : MomentCore) : Type 0 where
  pub alone : Bool
  pub forced : IsForced code j.armed alone j other
