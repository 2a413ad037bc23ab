use Rattle.std.proofs.Common.{◌≡◌, drop}
use Rattle.std.specs.List.{list_any}
use Rattle.xt_asm.specs.Contexts.{site_of}
use Rattle.xt_asm.specs.Kinds.{lacks_word}
use Rattle.xt_asm.proofs.kinds.any_lacks_word.Given as goal

-- if there is one, it is among those that are left
abbrev pub invariant-loop-operand : goal.invariant-loop-operand
invariant-loop-operand l = list_any (lacks_word (site_of l.context)) (drop l.operand-index l.operands) ≡ list_any (lacks_word (site_of l.context)) l.operands
