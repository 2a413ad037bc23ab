use Rattle.std.proofs.Common.{◌≡◌, ℕ, ◌-◌, List, sym, ◌∙◌, ap, arith, length}
use Rattle.xt_frames.specs.declared.view.Caller.{Caller}
use Rattle.xt_frames.specs.KeptFrameState.{frames_of}
use Rattle.xt_frames.specs.Walked.{Walked, calls_in}
use Rattle.xt_frames.proofs.Newest.{frames_length}
use Rattle.xt_frames.proofs.frames.Frames.calls.Goals as goal

pub calls_in-requires : goal.calls_in-requires
calls_in-requires c =
    let items = c.self.inside.callers.items in
    let v : length (frames_of items) ≡ length c.args.self.now.state.frames = ap (λ (w : Walked). length w.state.frames) c.self.view_is in
    let l = frames_length items in
    let d : length c.deref.result.now ≡ length items = ap length c.deref.ensures.value in
    omega (arith, v, l, d, c.requires)

pub returns : goal.returns
returns c =
    let items = c.self.inside.callers.items in
    c.calls_in.ensures
    ∙ (ap (λ (cs : List Caller). calls_in (frames_of cs) (length cs - 1 - c.args.j)) c.deref.ensures.value
    ∙ (ap (λ (n : ℕ). calls_in (frames_of items) (n - 1 - c.args.j)) (sym (frames_length items))
    ∙ ap (λ (w : Walked). calls_in w.state.frames (length w.state.frames - 1 - c.args.j)) c.self.view_is))
