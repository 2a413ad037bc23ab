-- The entries so far are those of their fields, and what is wrong is wrong after them.
use Rattle.xt_record.specs.SoFar.{IsSoFar}
use Rattle.xt_record.proofs.entries.entries_in.Given as goal

abbrev pub invariant-loop-i : goal.invariant-loop-i
invariant-loop-i l = IsSoFar l.rest l.count l.i l.entries.items
