use Rattle.std.proofs.Common.{◌≡◌, ◌++◌, take}
use Rattle.std.specs.Prelude.{codes, string_bytes}
use Rattle.std.specs.List.{flat_map}
use Rattle.xt_disasm.specs.Operands.{operand_text}
use Rattle.xt_disasm.proofs.operand.push_operands.Given as goal

abbrev pub invariant-loop-operand : goal.invariant-loop-operand
invariant-loop-operand l = string_bytes l.out ≡ string_bytes l.initial.out ++ flat_map (λ o. codes ", " ++ operand_text o) (take l.operand-index l.others)
