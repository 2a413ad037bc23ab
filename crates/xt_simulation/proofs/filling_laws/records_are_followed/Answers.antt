use Rattle.xt_simulation.proofs.FilledRuns.{records_followed}
use Rattle.xt_simulation.proofs.filling_laws.records_are_followed.Goals as goal

pub returns : goal.returns
returns c = records_followed
