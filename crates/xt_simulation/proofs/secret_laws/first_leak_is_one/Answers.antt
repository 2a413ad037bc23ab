use Rattle.xt_simulation.proofs.Leaks.{first_leak_is_one}
use Rattle.xt_simulation.proofs.secret_laws.first_leak_is_one.Goals as goal

pub returns : goal.returns
returns c = first_leak_is_one
