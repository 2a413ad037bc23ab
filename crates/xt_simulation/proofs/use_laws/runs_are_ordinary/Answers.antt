use Rattle.xt_simulation.proofs.ImageRuns.{runs_are_ordinary}
use Rattle.xt_simulation.proofs.use_laws.runs_are_ordinary.Goals as goal

pub returns : goal.returns
returns c = runs_are_ordinary
