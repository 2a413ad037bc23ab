-- Carries a proof; nothing that a reader must believe.
-- Counting turns one by one.
use Rattle.std.specs.Prelude.{ℕ, ◌+◌, ◌<◌, if◌then◌else◌, List, [], ◌∷◌}
use Rattle.xt_trace.specs.declared.record.StepRecord.{StepRecord}
use Rattle.xt_events.specs.declared.event.Event.{Event}
use Rattle.xt_events.specs.Events.{same_kind}

-- the first of its kind, which has this number
abbrev pub first_event : ℕ → StepRecord → Event
first_event i r = record { kind = r.kind; times = 1; first = i; pc = r.pc }

abbrev pub once_more : Event → Event
once_more e = record e { times = e.times + 1 }

-- after one more record, which has this number
abbrev pub events_after_record : ℕ → StepRecord → List Event → List Event
events_after_record i r [] = first_event i r ∷ []
events_after_record i r (e ∷ rest) =
    if same_kind r.kind e.kind then once_more e ∷ rest else e ∷ events_after_record i r rest

-- each of them came less often
abbrev pub HasRoom : ℕ → List Event → Type 0
HasRoom n [] = Unit {0}
HasRoom n (e ∷ rest) = (e.times < n) × HasRoom n rest
