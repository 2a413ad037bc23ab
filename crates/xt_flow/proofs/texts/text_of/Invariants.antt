use Rattle.std.proofs.Common.{◌≡◌, ◌++◌, drop}
use Rattle.std.specs.Prelude.{option_map, string_bytes}
use Rattle.std.specs.List.{enumerate_from, flat_map}
use Rattle.xt_flow.specs.FlowTables.{code_reading}
use Rattle.xt_flow.specs.Sources.{entry_line, segment_source}
use Rattle.xt_flow.proofs.texts.text_of.Given as goal

-- what is printed so far, and the texts of the segments that are left, make the whole
abbrev pub invariant-loop-number : goal.invariant-loop-number
invariant-loop-number l =
    let r = code_reading l.segments (option_map (λ v. v.now) l.visited) in
    string_bytes l.out ++ flat_map (segment_source r) (enumerate_from l.number (drop l.number l.segments)) ≡ entry_line l.image.entry ++ flat_map (segment_source r) (enumerate_from 0 l.segments)
