use Rattle.xt_simulation.proofs.ImageRuns.{uses_of_runs_are_later}
use Rattle.xt_simulation.proofs.use_laws.uses_of_runs_are_later.Goals as goal

pub returns : goal.returns
returns c = uses_of_runs_are_later
