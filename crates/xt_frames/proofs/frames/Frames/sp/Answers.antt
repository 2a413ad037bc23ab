use Rattle.std.proofs.Common.{◌≡◌, ℕ, ◌-◌, List, sym, ◌∙◌, ap, arith, length}
use Rattle.xt_frames.specs.declared.view.Caller.{Caller}
use Rattle.xt_frames.specs.Frames.{value_or_zero}
use Rattle.xt_frames.specs.KeptFrameState.{frames_of}
use Rattle.xt_frames.specs.Walked.{Walked, sp_in}
use Rattle.xt_frames.proofs.Newest.{frames_length}
use Rattle.xt_frames.proofs.frames.Frames.sp.Goals as goal

pub sp_in-requires-clause-place : goal.sp_in-requires-clause-place
sp_in-requires-clause-place c =
    let items = c.self.inside.callers.items in
    let v : length (frames_of items) ≡ length c.args.self.now.state.frames = ap (λ (w : Walked). length w.state.frames) c.self.view_is in
    let l = frames_length items in
    let d : length c.deref.result.now ≡ length items = ap length c.deref.ensures.value in
    omega (arith, v, l, d, c.requires)

pub returns : goal.returns
returns c =
    let items = c.self.inside.callers.items in
    c.sp_in.ensures
    ∙ (ap (λ (cs : List Caller). sp_in (frames_of cs) c.value_or_zero.result (length cs - c.args.j)) c.deref.ensures.value
    ∙ (ap (λ (n : ℕ). sp_in (frames_of items) c.value_or_zero.result (n - c.args.j)) (sym (frames_length items))
    ∙ (ap (λ (x : ℕ). sp_in (frames_of items) x (length (frames_of items) - c.args.j)) c.value_or_zero.ensures
    ∙ ap (λ (w : Walked). sp_in w.state.frames (value_or_zero w.state.seen 1) (length w.state.frames - c.args.j)) c.self.view_is)))
