use Rattle.xt_core.proofs.Scheduled.{has_schedule}
use Rattle.xt_machine.proofs.laws.run_has_schedule.Goals as goal

pub returns : goal.returns
returns c image r h = has_schedule image r h
