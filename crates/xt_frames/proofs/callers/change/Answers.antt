use Rattle.std.proofs.Common.{sym, ◌∙◌, ap}
use Rattle.xt_frames.specs.declared.view.Call.{Call}
use Rattle.xt_frames.specs.KeptFrameState.{frames_after, frames_of}
use Rattle.xt_frames.proofs.Kept.{frames_popped}
use Rattle.xt_frames.proofs.Newest.{frames_snoc}
use Rattle.xt_frames.proofs.callers.change.Goals as goal

pub returns-in-Calls-clause-frames : goal.returns-in-Calls-clause-frames
returns-in-Calls-clause-frames c =
    let old = c.args.callers.now.items in
    ap frames_of c.push_reserved.ensures.items ∙ (frames_snoc old c.in-Calls.caller ∙ sym (ap (λ (k : Call). frames_after k (frames_of old)) c.in-Calls.is))

pub returns-in-Returns-clause-frames : goal.returns-in-Returns-clause-frames
returns-in-Returns-clause-frames c =
    let old = c.args.callers.now in
    let e = c.pop-caller.ensures in
    frames_popped old.items c.pop-caller.new.self.items c.pop-caller.result _ _ e.items e.cases old.ok.0 ∙ sym (ap (λ (k : Call). frames_after k (frames_of old.items)) c.in-Returns.is)
