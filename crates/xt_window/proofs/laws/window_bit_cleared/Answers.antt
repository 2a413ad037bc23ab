use Rattle.xt_window.proofs.Bits.{cleared_same, cleared_other}
use Rattle.xt_window.proofs.laws.window_bit_cleared.Goals as goal

pub returns-clause-same : goal.returns-clause-same
returns-clause-same c = cleared_same

pub returns-clause-other : goal.returns-clause-other
returns-clause-other c = cleared_other
