use Rattle.std.proofs.Common.{◌≡◌, sym, ◌∙◌, ap, arith, length, subst}
use Rattle.xt_frames.specs.Frames.{value_or_zero}
use Rattle.xt_frames.specs.KeptFrameState.{frames_of}
use Rattle.xt_frames.specs.Stacks.{Stack}
use Rattle.xt_frames.proofs.Newest.{frames_length}
use Rattle.xt_frames.proofs.Stacked.{chain_depth}
use Rattle.xt_uses.specs.UseParts.{UseWalked}
use Rattle.xt_uses.proofs.cores.UseCore.depth.Goals as goal

pub depth_of-requires : goal.depth_of-requires
depth_of-requires c =
    let i = c.self.inside in
    let items = i.callers.items in
    let k = c.self.invariant.0.stack in
    let top = k.range.top in
    let deep = chain_depth i.limits.lo i.limits.hi (value_or_zero i.top.view.seen 1) (frames_of items) k.chain in
    let l = frames_length items in
    let d : length c.deref.result.now ≡ length items = ap length c.deref.ensures.value in
    omega (arith, top, deep, l, d)

pub returns : goal.returns
returns c =
    let items = c.self.inside.callers.items in
    let e = c.depth_of.ensures ∙ (ap length c.deref.ensures.value ∙ (sym (frames_length items) ∙ ap (λ (w : UseWalked). length w.state.frame.frames) c.self.view_is)) in
    let P : UseWalked → Type 0 = λ w. Stack w.bounds.range.lo w.bounds.range.hi w.state.frame.seen w.state.frame.frames in
    record { depth = e; stack = subst P c.self.view_is c.self.invariant.0.stack }
