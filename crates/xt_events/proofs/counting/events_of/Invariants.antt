-- The records so far were counted, and the others are left.
use Rattle.std.proofs.Common.{◌≡◌, take, drop}
use Rattle.xt_events.specs.Events.{events_in}
use Rattle.xt_events.proofs.counting.events_of.Given as goal

abbrev pub invariant-loop-step : goal.invariant-loop-step
invariant-loop-step g l = record {
  counted : l.events.items ≡ events_in (take l.step (g.R.Records.left l.fn.records));
  left : g.R.Records.left l.records ≡ drop l.step (g.R.Records.left l.fn.records);
}
