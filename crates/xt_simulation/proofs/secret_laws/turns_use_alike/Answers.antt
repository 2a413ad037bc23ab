use Rattle.xt_simulation.proofs.Both.{turns_use_alike}
use Rattle.xt_simulation.proofs.secret_laws.turns_use_alike.Goals as goal

pub returns : goal.returns
returns c = turns_use_alike
