use Rattle.xt_trace.proofs.Own.{own_schedule}
use Rattle.xt_trace.proofs.laws.run_is_that_of_its_schedule.Goals as goal

pub returns : goal.returns
returns g c = own_schedule
