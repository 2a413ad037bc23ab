use Rattle.std.proofs.Common.{◌≡◌, drop}
use Rattle.xt_layout.specs.Pools.{pool_use}
use Rattle.xt_layout.proofs.need.pool_use.Given as goal

-- the use is in what is left
abbrev pub invariant-loop-operand : goal.invariant-loop-operand
invariant-loop-operand l = pool_use (drop l.operand-index l.operands) ≡ pool_use l.fn.operands
