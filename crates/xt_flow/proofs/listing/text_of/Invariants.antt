use Rattle.std.proofs.Common.{◌≡◌, ◌++◌, drop}
use Rattle.std.specs.Prelude.{string_bytes}
use Rattle.std.specs.List.{enumerate_from, flat_map}
use Rattle.xt_flow.specs.FlowTables.{marks_of}
use Rattle.xt_flow.specs.Printing.{segment_text}
use Rattle.xt_flow.proofs.listing.text_of.Given as goal

-- what is printed so far, and the texts of the segments that are left, make the whole
abbrev pub invariant-loop-number : goal.invariant-loop-number
invariant-loop-number l =
    let m = marks_of l.segments l.visited.starts.items l.visited.reads.items in
    string_bytes l.out ++ flat_map (segment_text m) (enumerate_from l.number (drop l.number l.segments)) ≡ flat_map (segment_text m) (enumerate_from 0 l.segments)
