use Rattle.std.proofs.Common.{◌≡◌, ◌++◌}
use Rattle.std.specs.Prelude.{string_bytes}
use Rattle.xt_disasm.proofs.Segmented.{printed_from}
use Rattle.xt_report.specs.Checks.{line_of, segment_lines}
use Rattle.xt_report.proofs.checks.push_segments.Given as goal

-- what is printed so far, and the lines of the segments that are left, make the whole
abbrev pub invariant-loop-number : goal.invariant-loop-number
invariant-loop-number l = string_bytes l.out ++ printed_from line_of l.number l.segments ≡ string_bytes l.initial.out ++ segment_lines l.segments
