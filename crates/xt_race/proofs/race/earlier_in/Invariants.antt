use Rattle.std.proofs.Common.{length}
use Rattle.xt_race.specs.KeptEntries.{events_left}
use Rattle.xt_race.proofs.Walking.{Missed}
use Rattle.xt_race.proofs.race.earlier_in.Given as goal

abbrev pub invariant-loop-event : goal.invariant-loop-event
invariant-loop-event l = Missed (events_left l.fn.events) (events_left l.events) l.later l.place

abbrev pub decreases-loop-event : goal.decreases-loop-event
decreases-loop-event l = length (events_left l.events)
