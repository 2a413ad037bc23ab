use Rattle.xt_moments.proofs.MovedWorlds.{moves_go_on_alike}
use Rattle.xt_moments.proofs.laws.moves_go_on_alike.Goals as goal

pub returns : goal.returns
returns c = moves_go_on_alike
