use Rattle.std.proofs.Common.{subst, sym}
use Rattle.xt_moment_search.specs.Turns.{MakesMove}
use Rattle.xt_moment_search.proofs.Ended.{step_moves}
use Rattle.xt_moment_search.proofs.machine.Moments.step.Goals as goal

pub returns-clause-makes : goal.returns-clause-makes
returns-clause-makes c =
    subst MakesMove (sym c.in_ok-step.ensures) (step_moves c.args.world.now c.args.number)
