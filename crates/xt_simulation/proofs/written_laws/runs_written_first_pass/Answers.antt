use Rattle.xt_simulation.proofs.WrittenRuns.{runs_written_first}
use Rattle.xt_simulation.proofs.written_laws.runs_written_first_pass.Goals as goal

pub returns : goal.returns
returns c = runs_written_first
