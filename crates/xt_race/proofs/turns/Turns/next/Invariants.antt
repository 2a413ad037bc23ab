use Rattle.std.proofs.Common.{◌≡◌, length}
use Rattle.xt_race.specs.KeptEntries.{turns_left}
use Rattle.xt_race.proofs.turns.Turns.next.Given as goal

abbrev pub invariant-loop-step : goal.invariant-loop-step
invariant-loop-step l = turns_left l.self ≡ turns_left l.fn.self

abbrev pub decreases-loop-step : goal.decreases-loop-step
decreases-loop-step l = length l.self.cursor
