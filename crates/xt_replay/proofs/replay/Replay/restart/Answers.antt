use Rattle.std.proofs.Common.{arith}
use Rattle.xt_replay.proofs.Inside.{start_fits}
use Rattle.xt_replay.proofs.replay.Replay.restart.Goals as goal

pub restore-requires-clause-room : goal.restore-requires-clause-room
restore-requires-clause-room c =
    omega (arith, (start_fits c.self.inside c.self.invariant).sent, c.self.invariant.has_room.room)
