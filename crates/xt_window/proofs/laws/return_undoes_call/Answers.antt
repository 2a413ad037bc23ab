use Rattle.xt_window.proofs.Undone.{undone}
use Rattle.xt_window.proofs.laws.return_undoes_call.Goals as goal

pub returns : goal.returns
returns c = undone
