use Rattle.xt_simulation.proofs.FilledImages.{runs_decided}
use Rattle.xt_simulation.proofs.filling_laws.runs_are_decided.Goals as goal

pub returns : goal.returns
returns c = runs_decided
