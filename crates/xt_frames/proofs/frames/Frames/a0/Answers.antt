use Rattle.std.proofs.Common.{◌≡◌, ℕ, ◌-◌, Option, List, sym, ◌∙◌, ap, arith, length}
use Rattle.xt_frames.specs.declared.view.Caller.{Caller}
use Rattle.xt_frames.specs.Backtrace.{a0_in, a0_of_frame}
use Rattle.xt_frames.specs.KeptFrameState.{frames_of}
use Rattle.xt_frames.specs.Walked.{Walked}
use Rattle.xt_frames.proofs.Newest.{frames_length}
use Rattle.xt_frames.proofs.frames.Frames.a0.Goals as goal

pub a0_in-requires-clause-place : goal.a0_in-requires-clause-place
a0_in-requires-clause-place c =
    let items = c.self.inside.callers.items in
    let v : length (frames_of items) ≡ length c.args.self.now.state.frames = ap (λ (w : Walked). length w.state.frames) c.self.view_is in
    let l = frames_length items in
    let d : length c.deref.result.now ≡ length items = ap length c.deref.ensures.value in
    omega (arith, v, l, d, c.requires)

pub returns : goal.returns
returns c =
    let items = c.self.inside.callers.items in
    let a0 = c.visible.result in
    c.a0_in.ensures
    ∙ (ap (λ (cs : List Caller). a0_in (frames_of cs) a0 (length cs - c.args.j)) c.deref.ensures.value
    ∙ (ap (λ (n : ℕ). a0_in (frames_of items) a0 (n - c.args.j)) (sym (frames_length items))
    ∙ (ap (λ (x : Option ℕ). a0_in (frames_of items) x (length (frames_of items) - c.args.j)) c.visible.ensures
    ∙ ap (λ (w : Walked). a0_of_frame w.state c.args.j) c.self.view_is)))
