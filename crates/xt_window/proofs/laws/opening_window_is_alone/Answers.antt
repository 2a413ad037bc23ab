use Rattle.xt_window.proofs.Alone.{alone}
use Rattle.xt_window.proofs.laws.opening_window_is_alone.Goals as goal

pub returns : goal.returns
returns c = alone
