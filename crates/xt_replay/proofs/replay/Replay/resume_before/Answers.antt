use Rattle.std.proofs.Common.{sym, ap, ◌∙◌}
use Rattle.xt_replay.specs.Places.{trace_in}
use Rattle.xt_replay.specs.Shown.{ReplayState}
use Rattle.xt_replay.specs.ReplayFields.{IsCopy}
use Rattle.xt_replay.proofs.Inside.{copy_finds_room, copy_in, comes_at_copy}
use Rattle.xt_replay.proofs.replay.Replay.resume_before.Goals as goal

pub restore-requires-clause-left0 : goal.restore-requires-clause-left0
restore-requires-clause-left0 c =
    (copy_finds_room c.self.inside c.as_slice-2.result.now _ c.in-Some.checkpoint.now c.self.invariant c.as_slice-2.ensures.value c.in-Some.ensures.lookup.3.0
    c.in-Some.ensures.lookup.1).left0

pub restore-requires-clause-left1 : goal.restore-requires-clause-left1
restore-requires-clause-left1 c =
    (copy_finds_room c.self.inside c.as_slice-2.result.now _ c.in-Some.checkpoint.now c.self.invariant c.as_slice-2.ensures.value c.in-Some.ensures.lookup.3.0
    c.in-Some.ensures.lookup.1).left1

pub restore-requires-clause-room : goal.restore-requires-clause-room
restore-requires-clause-room c =
    (copy_finds_room c.self.inside c.as_slice-2.result.now _ c.in-Some.checkpoint.now c.self.invariant c.as_slice-2.ensures.value c.in-Some.ensures.lookup.3.0
    c.in-Some.ensures.lookup.1).room

pub returns-then-is_before-clause-comes : goal.returns-then-is_before-clause-comes
returns-then-is_before-clause-comes c =
    let b = c.self.inside in
    let x = c.in-Some.checkpoint.now in
    let copy : IsCopy b.image.now b.run.now x =
    copy_in b c.as_slice-2.result.now _ x c.self.invariant c.as_slice-2.ensures.value c.in-Some.ensures.lookup.3.0 c.in-Some.ensures.lookup.1 in
    comes_at_copy b.image.now b.run.now x c.args.core c.args.step c.count-count.result c.requires.core copy
    (c.is_before.ensures.most c.if-is_before.true) (c.is_before.ensures.left c.if-is_before.true)
    (c.count-count.ensures ∙ sym (ap (λ (s : ReplayState). (trace_in c.args.core s.run).count) c.self.view_is))
