use Rattle.std.proofs.Common.{◌≡◌, ◌++◌, length}
use Rattle.std.specs.Prelude.{string_bytes}
use Rattle.xt_disasm.specs.Listing.{code_lines}
use Rattle.xt_disasm.proofs.lines.push_code.Given as goal

abbrev pub invariant-loop-rest : goal.invariant-loop-rest
invariant-loop-rest l = string_bytes l.out ++ code_lines l.address l.rest ≡ string_bytes l.initial.out ++ code_lines l.initial.address l.initial.rest

abbrev pub decreases-loop-rest : goal.decreases-loop-rest
decreases-loop-rest l = length l.rest
