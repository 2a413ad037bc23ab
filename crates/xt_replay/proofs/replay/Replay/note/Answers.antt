use Rattle.std.proofs.Common.{arith}
use Rattle.xt_replay.proofs.Inside.{sent_fits}
use Rattle.xt_replay.proofs.replay.Replay.note.Goals as goal

pub copy_from-requires : goal.copy_from-requires
copy_from-requires c = omega (arith, sent_fits c.self.inside c.self.invariant, c.self.invariant.near_room)
