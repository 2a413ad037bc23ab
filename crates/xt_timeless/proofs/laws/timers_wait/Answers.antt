use Rattle.xt_timeless.proofs.Waiting.{timers_wait}
use Rattle.xt_timeless.proofs.laws.timers_wait.Goals as goal

pub returns : goal.returns
returns c = timers_wait
