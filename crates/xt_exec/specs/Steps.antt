-- Carries a proof; nothing that a reader must believe.
-- What the private steps of an instruction answer, in the words of the turn ('profile').
use Rattle.std.specs.Prelude.{◌≢◌}
use Rattle.xt_window.specs.declared.windows.Return.TheVariants.{Bad}
use Rattle.xt_window.specs.WindowAnswers.{return_of}
use Rattle.xt_rows.specs.declared.outcome.WindowStep.{WindowStep}
use Rattle.xt_rows.specs.declared.outcome.WindowStep.TheVariants.{Returns}
use Rattle.xt_rows.specs.declared.outcome.Outcome.{Outcome}
use Rattle.xt_rows.specs.declared.outcome.Outcome.TheVariants.{Windowed}
use Rattle.xt_rows.specs.RowLaws.{IsAny, IsProperWrite}
use Rattle.xt_rows.specs.Settling.{return_size}
use Rattle.xt_exec.specs.declared.plans.Effect.{Effect}
use Rattle.xt_exec.specs.State.{State}
use Rattle.xt_exec.specs.Turn.{Planned}
use Rattle.xt_exec.specs.Halves.{quiet_turn}

-- the turn that leaves this state, but for the register that it writes
abbrev pub turn_of : Effect → State → Planned
turn_of e s = quiet_turn e.kind e.write s

-- the register that it writes exists
abbrev pub WritesRegister : Effect → Type 0
WritesRegister e = IsProperWrite IsAny e.write

-- a return goes back to the nearest window, or to one that has to be filled
abbrev pub GoesBack : WindowStep → State → Type 0
GoesBack (Returns a0) s = return_of s.start s.base (return_size a0) ≢ Bad
GoesBack _ s = Unit {0}

abbrev pub OutcomeGoesBack : Outcome → State → Type 0
OutcomeGoesBack (Windowed step) s = GoesBack step s
OutcomeGoesBack _ s = Unit {0}
