use Rattle.xt_exec.proofs.Shapes.{opening_shaped}
use Rattle.xt_exec.proofs.laws.opening_is_shaped.Goals as goal

pub returns : goal.returns
returns g = opening_shaped
