-- What the records so far are stands in the list, and is followed by what those that are left are.
use Rattle.std.proofs.Common.{◌≡◌, ◌++◌, length}
use Rattle.xt_map.specs.Memory.{constant_byte}
use Rattle.xt_discipline.specs.Phases.{phases_from, phases_of}
use Rattle.xt_discipline.proofs.roles.phases.Given as goal

abbrev pub invariant-loop-rec : goal.invariant-loop-rec
invariant-loop-rec g l =
    phases_of (constant_byte l.code) (g.R.Records.left l.fn.records) ≡ l.items.items ++ phases_from (constant_byte l.code) l.before (g.R.Records.left l.records)

abbrev pub decreases-loop-rec : goal.decreases-loop-rec
decreases-loop-rec g l = length (g.R.Records.left l.records)
