use Rattle.std.proofs.Common.{refl}
use Rattle.xt_exec.specs.Turn.{turn}
use Rattle.xt_exec.proofs.laws.records_have_what_was_asked.Goals as goal

pub returns : goal.returns
unfolding turn
returns g = λ code s reply. refl
