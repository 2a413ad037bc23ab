-- The lines so far, and those of the entries that are left.
use Rattle.std.proofs.Common.{◌≡◌, ◌++◌, map}
use Rattle.xt_profile.specs.CountedSteps.{line_of_entry}
use Rattle.xt_profile.proofs.tally.lines_of.Given as goal

abbrev pub invariant-loop-key : goal.invariant-loop-key
invariant-loop-key l = l.items.items ++ map line_of_entry l.key-iterator ≡ map line_of_entry l.fn.counts.entries
