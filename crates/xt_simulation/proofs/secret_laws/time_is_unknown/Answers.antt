use Rattle.xt_simulation.proofs.TimeUnknown.{time_is_unknown}
use Rattle.xt_simulation.proofs.secret_laws.time_is_unknown.Goals as goal

pub returns : goal.returns
returns c = time_is_unknown
