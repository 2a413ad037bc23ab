use Rattle.std.proofs.Common.{◌≡◌, ◌-◌, ◌≤◌}
use Rattle.xt_replay.specs.Shown.{replay_at}
use Rattle.xt_replay.proofs.replay.Replay.walk.Given as goal

abbrev pub invariant-steps : goal.invariant-steps
invariant-steps l = record {
  same : l.self ≡ replay_at l.fn.self l.self.position;
  within : l.self.position ≤ l.position;
}

abbrev pub decreases-steps : goal.decreases-steps
decreases-steps l = l.position - l.self.position
