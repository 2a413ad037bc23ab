-- So many turns were made.
use Rattle.std.proofs.Common.{◌≡◌, ◌+◌}
use Rattle.xt_replay.specs.Shown.{replay_at}
use Rattle.xt_debug.proofs.frame_walk.FrameWalk.skip.Given as goal

abbrev pub invariant-loop : goal.invariant-loop
invariant-loop l = l.self ≡ replay_at l.fn.self (l.fn.self.position + l.counter)
