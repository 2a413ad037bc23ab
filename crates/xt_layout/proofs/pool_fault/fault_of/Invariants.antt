use Rattle.xt_layout.specs.Pools.{pool_fault}
use Rattle.xt_layout.proofs.Opening.{Finds}
use Rattle.xt_layout.proofs.pool_fault.fault_of.Given as goal

-- the first fault is that of the lines that follow
abbrev pub invariant-loop-line : goal.invariant-loop-line
invariant-loop-line l = Finds l.is_open l.line-index l.lines (pool_fault l.fn.lines)
