use Rattle.xt_simulation.proofs.FilledRuns.{unknown_decides}
use Rattle.xt_simulation.proofs.filling_laws.unknown_decides_nothing.Goals as goal

pub returns : goal.returns
returns c = unknown_decides
