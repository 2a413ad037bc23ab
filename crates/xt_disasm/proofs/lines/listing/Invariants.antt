use Rattle.std.proofs.Common.{◌≡◌, ◌++◌, drop}
use Rattle.std.specs.Prelude.{string_bytes}
use Rattle.std.specs.List.{enumerate_from, flat_map}
use Rattle.xt_disasm.specs.Listing.{segment_text}
use Rattle.xt_disasm.proofs.lines.listing.Given as goal

-- what is printed so far, and the texts of the segments that are left, make the whole
abbrev pub invariant-loop-number : goal.invariant-loop-number
invariant-loop-number l = string_bytes l.out ++ flat_map segment_text (enumerate_from l.number (drop l.number l.segment-items)) ≡ flat_map segment_text (enumerate_from 0 l.segment-items)
