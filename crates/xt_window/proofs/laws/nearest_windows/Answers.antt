use Rattle.xt_window.proofs.Nearest.{nearest_ahead, nearest_behind}
use Rattle.xt_window.proofs.laws.nearest_windows.Goals as goal

pub returns-clause-ahead : goal.returns-clause-ahead
returns-clause-ahead c = nearest_ahead

pub returns-clause-behind : goal.returns-clause-behind
returns-clause-behind c = nearest_behind
