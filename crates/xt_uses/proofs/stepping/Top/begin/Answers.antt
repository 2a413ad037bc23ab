use Rattle.std.proofs.Common.{true, sym, ◌∙◌, ap}
use Rattle.xt_frames.specs.Frames.{FrameState}
use Rattle.xt_frames.specs.FrameStep.{with_inputs}
use Rattle.xt_frames.specs.Nesting.{nested_entry}
use Rattle.xt_frames.specs.Breaches.{inputs_of}
use Rattle.xt_uses.specs.UseState.{ValidityBits, UseState}
use Rattle.xt_uses.specs.UseStep.{UseTurn}
use Rattle.xt_uses.specs.UseParts.{masks_at, use_at}
use Rattle.xt_uses.proofs.UseBegins.{step_begun}
use Rattle.xt_uses.proofs.stepping.Top.begin.Goals as goal

pub returns-clause-state : goal.returns-clause-state
returns-clause-state c = λ frames kept code bytes e.
    let top = c.args.self.now in
    let s = use_at frames kept top.holes top.view top.masks in
    let after = (nested_entry (with_inputs (inputs_of c.args.rec.now) s.frame)).after in
    let U : FrameState → ValidityBits → UseState = λ x y. record { frame = x; masks = y } in
    ap (λ (x : FrameState). U x (masks_at kept c.forget_inner.new.self)) (c.begin.ensures.state frames)
    ∙ (ap (U after) (c.forget_inner.ensures kept)
    ∙ sym (ap (λ (u : UseTurn). u.after) (step_begun code true c.args.rec.now bytes s e)))
