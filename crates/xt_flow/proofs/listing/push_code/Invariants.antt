use Rattle.std.proofs.Common.{◌≡◌, ◌++◌, ◌+◌, ◌<◌, ◌^◌, length}
use Rattle.std.specs.Prelude.{string_bytes}
use Rattle.xt_flow.specs.FlowTables.{marks_of}
use Rattle.xt_flow.specs.Printing.{flow_lines}
use Rattle.xt_flow.proofs.listing.push_code.Given as goal

abbrev pub invariant-loop-rest : goal.invariant-loop-rest
invariant-loop-rest l =
    let m = marks_of l.segments l.visited.starts.items l.visited.reads.items in
    (string_bytes l.out ++ flow_lines m l.address l.rest ≡ string_bytes l.initial.out ++ flow_lines m l.at l.bytes) × (l.address + length l.rest < 2 ^ 32)

abbrev pub decreases-loop-rest : goal.decreases-loop-rest
decreases-loop-rest l = length l.rest
