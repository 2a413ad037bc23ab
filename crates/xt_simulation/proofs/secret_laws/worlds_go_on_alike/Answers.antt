use Rattle.xt_simulation.proofs.Worlds.{worlds_go_on_alike}
use Rattle.xt_simulation.proofs.secret_laws.worlds_go_on_alike.Goals as goal

pub returns : goal.returns
returns c = worlds_go_on_alike
