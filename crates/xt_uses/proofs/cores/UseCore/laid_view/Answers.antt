use Rattle.std.proofs.Common.{◌≡◌, Bool, List, Option, ◌∙◌, ap, subst}
use Rattle.xt_frames.specs.Breaches.{inputs_of}
use Rattle.xt_frames.specs.FrameStep.{with_inputs}
use Rattle.xt_frames.specs.Nesting.{current}
use Rattle.xt_frames.specs.KeptFrameState.{frames_of, state_at}
use Rattle.xt_frames.specs.declared.holes.Nested.{Nested}
use Rattle.xt_uses.specs.UseParts.{UseWalked}
use Rattle.xt_uses.proofs.cores.UseCore.laid_view.Goals as goal

pub returns : goal.returns
returns c = λ h unset nested.
    let i = c.self.inside in
    let frames = frames_of i.callers.items in
    let f = c.args.self.now.state.frame in
    let inp = inputs_of c.args.rec.now in
    let view = c.lay.new.self in
    let P : UseWalked → Type 0 = λ w. state_at w.state.frame.frames (record { unset = w.state.frame.unset; nested = w.state.frame.nested }) view ≡ with_inputs inp (current w.state.frame) in
    let over = subst P c.self.view_is (c.lay.ensures frames i.top.holes ∙ ap (with_inputs inp) (c.current-view.ensures frames)) in
    ap (λ (xs : List Bool). state_at f.frames (record { unset = xs; nested = h.nested }) view) unset
    ∙ (ap (λ (o : Option Nested). state_at f.frames (record { unset = f.unset; nested = o }) view) nested ∙ over)
