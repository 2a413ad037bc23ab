use Rattle.xt_simulation.proofs.Leaks.{same_up_to_the_leak}
use Rattle.xt_simulation.proofs.secret_laws.same_up_to_the_leak.Goals as goal

pub returns : goal.returns
returns c = same_up_to_the_leak
