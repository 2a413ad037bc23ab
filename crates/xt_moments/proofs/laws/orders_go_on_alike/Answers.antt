use Rattle.xt_moments.proofs.MovedWorlds.{orders_go_on_alike}
use Rattle.xt_moments.proofs.laws.orders_go_on_alike.Goals as goal

pub returns : goal.returns
returns c = orders_go_on_alike
