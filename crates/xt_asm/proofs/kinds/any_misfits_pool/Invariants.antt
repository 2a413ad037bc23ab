use Rattle.std.proofs.Common.{◌≡◌, drop}
use Rattle.std.specs.List.{list_any}
use Rattle.xt_asm.specs.Kinds.{misfits_pool}
use Rattle.xt_asm.proofs.kinds.any_misfits_pool.Given as goal

-- if there is one, it is among those that are left
abbrev pub invariant-loop-operand : goal.invariant-loop-operand
invariant-loop-operand l = list_any (misfits_pool l.labels) (drop l.operand-index l.operands) ≡ list_any (misfits_pool l.labels) l.operands
