use Rattle.xt_window.proofs.Bits.{set_same, set_other}
use Rattle.xt_window.proofs.laws.window_bit_set.Goals as goal

pub returns-clause-same : goal.returns-clause-same
returns-clause-same c = set_same

pub returns-clause-other : goal.returns-clause-other
returns-clause-other c = set_other
