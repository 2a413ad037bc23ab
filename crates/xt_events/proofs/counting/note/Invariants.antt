-- No kind so far is the record's.
use Rattle.std.proofs.Common.{◌≡◌, ◌++◌, take, drop}
use Rattle.xt_events.specs.Noted.{events_after_record}
use Rattle.xt_events.proofs.counting.note.Given as goal

abbrev pub invariant-loop-place : goal.invariant-loop-place
invariant-loop-place l = record {
  passed : events_after_record l.step l.r l.initial.events.items ≡ take l.place l.initial.events.items ++ events_after_record l.step l.r (drop l.place l.initial.events.items);
  same : l.events.items ≡ l.initial.events.items;
}
