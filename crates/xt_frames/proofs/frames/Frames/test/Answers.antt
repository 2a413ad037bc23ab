use Rattle.std.proofs.Common.{Some, sym, ◌∙◌, ap}
use Rattle.xt_map.specs.Memory.{constant_byte}
use Rattle.xt_map.specs.Fetching.{fetch_at}
use Rattle.xt_frames.specs.Frames.{FrameState}
use Rattle.xt_frames.specs.FrameStep.{with_inputs}
use Rattle.xt_frames.specs.Breaches.{inputs_of, fetched_return_breach}
use Rattle.xt_frames.specs.Nesting.{current}
use Rattle.xt_frames.specs.Walked.{Walked}
use Rattle.xt_frames.specs.declared.kinds.Breach.{Breach}
use Rattle.xt_frames.proofs.frames.Frames.test.Goals as goal

pub returns-in-None : goal.returns-in-None
returns-in-None c =
    let code = constant_byte c.args.code.now in
    let view = c.laid_view-view.ensures c.self.inside.holes (ap (λ (w : Walked). w.state.unset) c.self.view_is) (ap (λ (w : Walked). w.state.nested) c.self.view_is) in
    c.underflows.ensures.yes c.if-not-underflows.false code (with_inputs (inputs_of c.args.rec.now) (current c.args.self.now.state))
    ∙ (ap (λ (f : FrameState). fetched_return_breach (fetch_at code f.control.pc) f) (sym view)
    ∙ (sym (c.return_breach.ensures c.args.self.now.state.frames c.newest.ensures.newest) ∙ c.in-None.is))

pub returns-in-Some : goal.returns-in-Some
returns-in-Some c =
    let code = constant_byte c.args.code.now in
    let view = c.laid_view-view.ensures c.self.inside.holes (ap (λ (w : Walked). w.state.unset) c.self.view_is) (ap (λ (w : Walked). w.state.nested) c.self.view_is) in
    let found = c.underflows.ensures.yes c.if-not-underflows.false code (with_inputs (inputs_of c.args.rec.now) (current c.args.self.now.state))
    ∙ (ap (λ (f : FrameState). fetched_return_breach (fetch_at code f.control.pc) f) (sym view)
    ∙ (sym (c.return_breach.ensures c.args.self.now.state.frames c.newest.ensures.newest) ∙ c.in-Some.is)) in
    let b = c.breach.ensures in
    (found ∙ ap (λ (b : Breach). Some b.kind) (sym b), ap (λ (b : Breach). b.core) b, ap (λ (b : Breach). b.step) b)
