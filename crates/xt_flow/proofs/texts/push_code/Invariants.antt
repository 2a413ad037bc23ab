use Rattle.std.proofs.Common.{◌≡◌, ◌++◌, ◌+◌, ◌<◌, ◌^◌, length}
use Rattle.std.specs.Prelude.{option_map, string_bytes}
use Rattle.xt_flow.specs.FlowTables.{code_reading}
use Rattle.xt_flow.specs.Sources.{source_lines}
use Rattle.xt_flow.proofs.texts.push_code.Given as goal

abbrev pub invariant-loop-rest : goal.invariant-loop-rest
invariant-loop-rest l =
    let r = code_reading l.segments (option_map (λ v. v.now) l.visited) in
    (string_bytes l.out ++ source_lines r l.address l.rest ≡ string_bytes l.initial.out ++ source_lines r l.at l.bytes) × (l.address + length l.rest < 2 ^ 32)

abbrev pub decreases-loop-rest : goal.decreases-loop-rest
decreases-loop-rest l = length l.rest
