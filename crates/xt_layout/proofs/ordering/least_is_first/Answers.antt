use Rattle.xt_layout.proofs.Leasts.{least_fault}
use Rattle.xt_layout.proofs.ordering.least_is_first.Goals as goal

pub returns : goal.returns
returns c = least_fault
