-- Carries a proof; nothing that a reader must believe.
-- A core of which not all is known.
use Rattle.std.specs.Prelude.{ℕ, Bool}
use Rattle.xt_exec.specs.State.{State}
use Rattle.xt_secret_walk.specs.declared.masks.CoreMasks.{CoreMasks}

-- its state, what is known of it, the bits of INTERRUPT whose timers are armed, and whether it has
-- stopped
pub record KnownCore : Type 0 where
  pub state : State
  pub masks : CoreMasks
  pub armed : ℕ
  pub stopped : Bool
