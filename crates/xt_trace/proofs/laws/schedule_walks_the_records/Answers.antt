use Rattle.xt_trace.proofs.Walks.{own_walk}
use Rattle.xt_trace.proofs.laws.schedule_walks_the_records.Goals as goal

pub returns : goal.returns
returns g c = own_walk
