use Rattle.std.proofs.Common.{List, [], ◌∷◌, Option, Some, None, refl, sym, ◌∙◌, ap, subst}
use Rattle.xt_map.specs.Memory.{constant_byte}
use Rattle.xt_trace.specs.declared.record.StepKind.{StepKind}
use Rattle.xt_frames.specs.declared.view.Caller.{Caller}
use Rattle.xt_frames.specs.Frames.{Frame}
use Rattle.xt_frames.specs.FrameStep.{FrameTurn, with_inputs}
use Rattle.xt_frames.specs.Breaches.{inputs_of}
use Rattle.xt_frames.specs.KeptFrameState.{IsKindOf, IsNewest, frame_of, state_at}
use Rattle.xt_frames.proofs.Inside.{kind_planned}
use Rattle.xt_uses.proofs.stepping.Top.make.Goals as goal

-- frames with this newest caller
some_frames : (o : Option Caller) → (frames : List Frame) × IsNewest o frames
some_frames None = ([], refl)
some_frames (Some c) = (frame_of c ∷ [], refl)

pub returns-clause-found : goal.returns-clause-found
returns-clause-found c = λ frames. c.lay.ensures frames c.args.self.now.holes ∙ ap (with_inputs (inputs_of c.args.rec.now)) (c.current-before.ensures frames)

pub returns-clause-kind : goal.returns-clause-kind
returns-clause-kind c =
    let h = c.args.self.now.holes in
    let f = some_frames c.args.case.now.newest in
    let turn = c.step-step.ensures.turn f.0 h f.1 in
    let K : StepKind → Type 0 = λ k. IsKindOf c.plan-plan.result k in
    subst K (sym (ap (λ (u : FrameTurn). u.kind) turn)) (kind_planned c.plan-plan.result (constant_byte c.args.code.now) c.args.rec.now.reply (state_at f.0 h c.lay.new.self) c.plan-plan.ensures.plan)
