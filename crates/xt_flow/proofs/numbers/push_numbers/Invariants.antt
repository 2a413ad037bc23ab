use Rattle.std.proofs.Common.{◌≡◌, ◌++◌, ◌+◌, ◌<◌, ◌^◌, length}
use Rattle.std.specs.Prelude.{string_bytes}
use Rattle.xt_flow.specs.Sources.{numbers, source_lines}
use Rattle.xt_flow.proofs.numbers.push_numbers.Given as goal

abbrev pub invariant-loop-rest : goal.invariant-loop-rest
invariant-loop-rest l = (string_bytes l.out ++ source_lines numbers l.address l.rest ≡ string_bytes l.initial.out ++ source_lines numbers l.at l.bytes) × (l.address + length l.rest < 2 ^ 32)

abbrev pub decreases-loop-rest : goal.decreases-loop-rest
decreases-loop-rest l = length l.rest
