-- The lines so far were appended, and those of the entries that are left are not.
use Rattle.std.proofs.Common.{◌≡◌, ◌++◌}
use Rattle.std.specs.Prelude.{string_bytes}
use Rattle.xt_events.specs.CountsText.{lines_text}
use Rattle.xt_events.proofs.text.push_lines.Given as goal

abbrev pub invariant-loop-address : goal.invariant-loop-address
invariant-loop-address l =
    string_bytes l.out ++ lines_text l.core l.address-iterator ≡ string_bytes l.initial.out ++ lines_text l.core l.fn.counts.entries
