use Rattle.std.proofs.Common.{Bool, Option, List, ◌∙◌, ap}
use Rattle.xt_frames.specs.Nesting.{current}
use Rattle.xt_frames.specs.declared.holes.Nested.{Nested}
use Rattle.std.proofs.Common.{◌≡◌, subst}
use Rattle.xt_frames.specs.FrameStep.{with_inputs}
use Rattle.xt_frames.specs.Breaches.{inputs_of}
use Rattle.xt_frames.specs.KeptFrameState.{frames_of, state_at}
use Rattle.xt_frames.specs.Walked.{Walked}
use Rattle.xt_frames.proofs.frames.Frames.laid_view.Goals as goal

pub returns : goal.returns
returns c = λ h unset nested.
    let i = c.self.inside in
    let frames = frames_of i.callers.items in
    let w = c.args.self.now in
    let inp = inputs_of c.args.rec.now in
    let view = c.lay.new.self in
    let P : Walked → Type 0 = λ w. state_at w.state.frames (record { unset = w.state.unset; nested = w.state.nested }) view ≡ with_inputs inp (current w.state) in
    let over = subst P c.self.view_is (c.lay.ensures frames i.holes ∙ ap (with_inputs inp) (c.current-view.ensures frames)) in
    ap (λ (xs : List Bool). state_at w.state.frames (record { unset = xs; nested = h.nested }) view) unset
    ∙ (ap (λ (o : Option Nested). state_at w.state.frames (record { unset = w.state.unset; nested = o }) view) nested ∙ over)
