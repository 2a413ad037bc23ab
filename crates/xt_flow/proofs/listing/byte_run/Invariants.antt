use Rattle.std.proofs.Common.{◌≡◌, ◌+◌, ◌-◌, ◌≤◌, length, drop}
use Rattle.xt_flow.specs.FlowTables.{marks_of}
use Rattle.xt_flow.specs.Printing.{is_byte, run}
use Rattle.xt_flow.proofs.listing.byte_run.Given as goal

abbrev pub invariant-loop-k : goal.invariant-loop-k
invariant-loop-k l =
    let m = marks_of l.segments l.visited.starts.items l.visited.reads.items in
    (l.k + run (16 - l.k) (is_byte m) (l.at + l.k) (drop l.k l.bytes) ≡ run 16 (is_byte m) l.at l.bytes) × (l.k ≤ length l.bytes)
