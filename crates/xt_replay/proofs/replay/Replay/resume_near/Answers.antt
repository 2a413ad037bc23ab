use Rattle.xt_replay.proofs.Inside.{finds_room}
use Rattle.xt_replay.proofs.replay.Replay.resume_near.Goals as goal

pub restore-requires-clause-left0 : goal.restore-requires-clause-left0
restore-requires-clause-left0 c = (finds_room c.self.inside c.self.inside.near c.self.invariant c.self.invariant.near_is).left0

pub restore-requires-clause-left1 : goal.restore-requires-clause-left1
restore-requires-clause-left1 c = (finds_room c.self.inside c.self.inside.near c.self.invariant c.self.invariant.near_is).left1

pub restore-requires-clause-room : goal.restore-requires-clause-room
restore-requires-clause-room c = (finds_room c.self.inside c.self.inside.near c.self.invariant c.self.invariant.near_is).room
