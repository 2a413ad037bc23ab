use Rattle.std.proofs.Common.{◌≡◌, ◌-◌, length}
use Rattle.xt_core.specs.Positions.{schedule_in}
use Rattle.xt_replay.specs.Shown.{replay_at}
use Rattle.xt_replay.proofs.replay.Replay.keep_all.Given as goal

abbrev pub invariant-copies : goal.invariant-copies
invariant-copies l = record {
  same : l.self ≡ replay_at l.fn.self l.self.position;
}

abbrev pub decreases-copies : goal.decreases-copies
decreases-copies l = length (schedule_in l.self.run) - l.self.position
