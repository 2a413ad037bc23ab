use Rattle.std.proofs.Common.{ℕ, ltb, sym, ◌∙◌, ap, arith, subst}
use Rattle.std.proofs.lemmas.Bool.{lt-ltb}
use Rattle.xt_map.specs.Memory.{constant_byte}
use Rattle.xt_special.specs.Interrupts.{pending_of}
use Rattle.xt_rows.specs.Settling.{settled_interrupt}
use Rattle.xt_frames.specs.declared.view.NextEvent.{NextEvent}
use Rattle.xt_frames.specs.FrameStep.{in_frame}
use Rattle.xt_frames.specs.KeptFrameState.{IsPlan, state_at}
use Rattle.xt_frames.proofs.StackSteps.{step_taken, step_waits}
use Rattle.xt_frames.proofs.view.FrameRegisters.step.Goals as goal

pub returns-in-Interrupt-clause-turn : goal.returns-in-Interrupt-clause-turn
returns-in-Interrupt-clause-turn c = λ frames h new.
    let code = constant_byte c.args.code.now in
    let control = c.args.self.now.control in
    let g = state_at frames h c.args.self.now in
    let P : NextEvent → Type 0 = λ p. IsPlan p code control in
    let k = subst P c.in-Interrupt.is c.requires.plan in
    let is = k.0 in
    let low = k.1 in
    c.interrupt.ensures.turn frames h
    ∙ (ap (λ (n : ℕ). in_frame (settled_interrupt n control) 0 g) (sym is)
    ∙ sym (step_taken code c.args.reply g (lt-ltb 0 (pending_of control) (omega (arith, is, low)))))

pub returns-in-Waits-clause-turn : goal.returns-in-Waits-clause-turn
returns-in-Waits-clause-turn c = λ frames h new.
    let code = constant_byte c.args.code.now in
    let control = c.args.self.now.control in
    let g = state_at frames h c.args.self.now in
    let P : NextEvent → Type 0 = λ p. IsPlan p code control in
    let k = subst P c.in-Waits.is c.requires.plan in
    c.wait.ensures.turn frames h ∙ sym (step_waits code c.args.reply g (ap (ltb 0) k.0) k.1)
