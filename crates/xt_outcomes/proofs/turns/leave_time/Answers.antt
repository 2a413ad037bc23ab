use Rattle.std.proofs.Common.{subst, sym}
use Rattle.xt_special.specs.Values.{Specials}
use Rattle.xt_exec.specs.TurnLaws.{IsShaped}
use Rattle.xt_exec.specs.States.{file_state}
use Rattle.xt_timeless.proofs.Shaped.{cleared_shaped}
use Rattle.xt_outcomes.proofs.turns.leave_time.Goals as goal

pub returns-clause-shaped : goal.returns-clause-shaped
returns-clause-shaped c =
    subst (λ (x : Specials). IsShaped (file_state (record c.args.regs.now { sr = x }))) (sym c.clear_time.ensures) (cleared_shaped (file_state c.args.regs.now) c.requires)
