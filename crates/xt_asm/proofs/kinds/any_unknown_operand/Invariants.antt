use Rattle.std.proofs.Common.{◌≡◌, drop}
use Rattle.std.specs.List.{list_any}
use Rattle.xt_asm.specs.Kinds.{is_unknown_operand}
use Rattle.xt_asm.proofs.kinds.any_unknown_operand.Given as goal

-- if there is one, it is among those that are left
abbrev pub invariant-loop-operand : goal.invariant-loop-operand
invariant-loop-operand l = list_any (is_unknown_operand l.labels l.access) (drop l.operand-index l.operands) ≡ list_any (is_unknown_operand l.labels l.access) l.operands
