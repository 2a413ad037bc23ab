use Rattle.std.proofs.Common.{◌≡◌, ◌++◌, drop}
use Rattle.std.specs.Prelude.{map}
use Rattle.std.specs.Option.{option_map}
use Rattle.xt_asm.specs.Contexts.{site_of}
use Rattle.xt_names.specs.Operands.{all_known}
use Rattle.xt_asm.specs.Operands.{argument_of}
use Rattle.xt_asm.proofs.operands.arguments_of.Given as goal

-- what is known so far stands in front of what the rest stands for
abbrev pub invariant-loop-operand : goal.invariant-loop-operand
invariant-loop-operand l = option_map (λ more. l.arguments.items ++ more) (all_known (map (argument_of (site_of l.context) l.access) (drop l.operand-index l.operands))) ≡ all_known (map (argument_of (site_of l.context) l.access) l.operands)
