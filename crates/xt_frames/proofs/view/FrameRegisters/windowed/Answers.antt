use Rattle.std.proofs.Common.{Bool, None, sym, ◌∙◌, ap, cond}
use Rattle.xt_rows.specs.Effects.{illegal_instruction}
use Rattle.xt_rows.specs.declared.outcome.WindowStep.{WindowStep}
use Rattle.xt_frames.specs.FrameStep.{entry_in_frame, return_in_frame, exception_in_frame, windowed_in_frame}
use Rattle.xt_frames.specs.KeptFrameState.{state_at}
use Rattle.xt_frames.proofs.view.FrameRegisters.windowed.Goals as goal

pub returns-then-excm-clause-turn : goal.returns-then-excm-clause-turn
returns-then-excm-clause-turn c = λ frames h reply new.
    let f = state_at frames h c.args.self.now in
    let at = c.in-Enters in
    c.raise.ensures.turn frames h
    ∙ sym (ap (λ (s : WindowStep). windowed_in_frame s c.args.len reply f) at.is
    ∙ ap (λ (b : Bool). cond b (exception_in_frame illegal_instruction None f) (entry_in_frame at.number at.value c.args.len f)) (sym c.excm.ensures ∙ c.if-excm.true))

pub returns-then-excm-2-clause-turn : goal.returns-then-excm-2-clause-turn
returns-then-excm-2-clause-turn c = λ frames h reply new.
    let f = state_at frames h c.args.self.now in
    let at = c.in-Returns in
    c.raise-then-excm-2.ensures.turn frames h
    ∙ sym (ap (λ (s : WindowStep). windowed_in_frame s c.args.len reply f) at.is
    ∙ ap (λ (b : Bool). cond b (exception_in_frame illegal_instruction None f) (return_in_frame at.a0 f)) (sym c.excm-in-Returns.ensures ∙ c.if-excm-2.true))
