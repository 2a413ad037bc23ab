use Rattle.std.proofs.Common.{◌≡◌, ◌+◌, ◌-◌, length, drop}
use Rattle.xt_flow.specs.FlowTables.{marks_of}
use Rattle.xt_flow.specs.Printing.{is_zero, run}
use Rattle.xt_flow.proofs.listing.zero_run.Given as goal

abbrev pub invariant-loop-k : goal.invariant-loop-k
invariant-loop-k l =
    let m = marks_of l.segments l.visited.starts.items l.visited.reads.items in
    l.k + run ((length l.bytes) - l.k) (is_zero m) (l.at + l.k) (drop l.k l.bytes) ≡ run (length l.bytes) (is_zero m) l.at l.bytes
