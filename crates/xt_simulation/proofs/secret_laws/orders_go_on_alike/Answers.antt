use Rattle.xt_simulation.proofs.Worlds.{orders_go_on_alike}
use Rattle.xt_simulation.proofs.secret_laws.orders_go_on_alike.Goals as goal

pub returns : goal.returns
returns c = orders_go_on_alike
