use Rattle.xt_simulation.proofs.WrittenRuns.{written_first}
use Rattle.xt_simulation.proofs.written_laws.written_first_passes.Goals as goal

pub returns : goal.returns
returns c = written_first
