use Rattle.std.proofs.Common.{◌≡◌, false, sym, ap, ◌∙◌, subst}
use Rattle.xt_special.specs.Interrupts.{pending_of}
use Rattle.xt_frames.specs.Breaches.{inputs_of}
use Rattle.xt_frames.specs.Frames.{FrameState}
use Rattle.xt_frames.specs.FrameStep.{with_inputs}
use Rattle.xt_frames.specs.KeptFrameState.{frames_of, state_at}
use Rattle.xt_frames.specs.Walked.{Walked}
use Rattle.xt_frames.proofs.frames.Frames.executes.Goals as goal

pub returns : goal.returns
returns c h =
    let s = c.self.inside in
    let frames = frames_of s.callers.items in
    let laid : state_at frames s.holes c.lay.new.self ≡ with_inputs (inputs_of c.args.rec.now) (state_at frames s.holes s.view) = c.lay.ensures frames s.holes in
    let e = c.executes.ensures h in
    let Goes : Walked → Type 0 = λ w. (pending_of (with_inputs (inputs_of c.args.rec.now) w.state).control ≡ 0) × (w.state.control.waits ≡ false) in
    subst Goes c.self.view_is (sym (ap (λ (x : FrameState). pending_of x.control) laid) ∙ e.0, sym (ap (λ (x : FrameState). x.control.waits) laid) ∙ e.1)
