use Rattle.xt_simulation.proofs.Leaks.{runs_are_same_up_to_the_leak}
use Rattle.xt_simulation.proofs.secret_laws.runs_are_same_up_to_the_leak.Goals as goal

pub returns : goal.returns
returns c = runs_are_same_up_to_the_leak
