use Rattle.xt_exec.proofs.Shapes.{turn_shaped}
use Rattle.xt_exec.proofs.laws.turns_keep_shape.Goals as goal

pub returns : goal.returns
returns g = turn_shaped
