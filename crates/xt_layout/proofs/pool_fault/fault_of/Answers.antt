use Rattle.xt_layout.proofs.Opening.{finds_none}
use Rattle.xt_layout.proofs.pool_fault.fault_of.Goals as goal

pub loop-line-init : goal.loop-line-init
loop-line-init c = finds_none c.args.lines.now
