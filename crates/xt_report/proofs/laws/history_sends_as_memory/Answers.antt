use Rattle.xt_report.proofs.Sending.{sends_as_memory}
use Rattle.xt_report.proofs.laws.history_sends_as_memory.Goals as goal

pub returns : goal.returns
returns c = sends_as_memory
