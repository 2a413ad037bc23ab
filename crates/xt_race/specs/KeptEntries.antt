-- Carries a proof; nothing that a reader must believe.
-- What is left of the entries of a history and of the turns that made them.
use Rattle.std.specs.Prelude.{ℕ, List}
use Rattle.xt_map.specs.Memory.{constant_byte}
use Rattle.xt_trace.specs.declared.record.StepRecord.{StepRecord}
use Rattle.xt_race.specs.declared.event.Event.{Event}
use Rattle.xt_race.specs.declared.events.Events.{Events}
use Rattle.xt_race.specs.declared.turns.Turns.{Turns}
use Rattle.xt_race.specs.Races.{events_from, turns_from}

abbrev pub turns_left : Turns → List (ℕ × StepRecord)
turns_left t = turns_from t.count t.cursor

abbrev pub events_left : Events → List Event
events_left e =
    events_from (constant_byte e.code) e.entries.now (turns_left e.zero) (turns_left e.one)
