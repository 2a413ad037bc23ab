use Rattle.xt_replay.proofs.Inside.{copy_finds_room}
use Rattle.xt_replay.proofs.replay.Replay.resume_checkpoint.Goals as goal

pub restore-requires-clause-left0 : goal.restore-requires-clause-left0
restore-requires-clause-left0 c =
    (copy_finds_room c.self.inside c.as_slice.result.now _ c.in-Some.checkpoint.now c.self.invariant c.as_slice.ensures.value c.in-Some.ensures.lookup.3.0
    c.in-Some.ensures.lookup.1).left0

pub restore-requires-clause-left1 : goal.restore-requires-clause-left1
restore-requires-clause-left1 c =
    (copy_finds_room c.self.inside c.as_slice.result.now _ c.in-Some.checkpoint.now c.self.invariant c.as_slice.ensures.value c.in-Some.ensures.lookup.3.0
    c.in-Some.ensures.lookup.1).left1

pub restore-requires-clause-room : goal.restore-requires-clause-room
restore-requires-clause-room c =
    (copy_finds_room c.self.inside c.as_slice.result.now _ c.in-Some.checkpoint.now c.self.invariant c.as_slice.ensures.value c.in-Some.ensures.lookup.3.0
    c.in-Some.ensures.lookup.1).room
