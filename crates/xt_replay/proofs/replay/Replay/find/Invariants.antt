use Rattle.std.proofs.Common.{◌≡◌, ◌-◌, ◌≤◌, length}
use Rattle.xt_core.specs.Positions.{schedule_in}
use Rattle.xt_replay.specs.Places.{trace_in}
use Rattle.xt_replay.specs.Shown.{replay_at}
use Rattle.xt_replay.specs.Stands.{Comes}
use Rattle.xt_replay.proofs.replay.Replay.find.Given as goal

abbrev pub invariant-steps : goal.invariant-steps
invariant-steps l = record {
  same : l.self ≡ replay_at l.fn.self l.self.position;
  most : l.step ≤ (trace_in l.core l.self.run).count;
  comes : Comes l.self.image l.self.run l.core l.step l.self.position;
}

abbrev pub decreases-steps : goal.decreases-steps
decreases-steps l = length (schedule_in l.self.run) - l.self.position
