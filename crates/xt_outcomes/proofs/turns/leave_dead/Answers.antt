use Rattle.std.proofs.Common.{ℕ, Bool, sym, ap, ◌∙◌, subst}
use Rattle.xt_special.specs.Values.{Specials, control_at}
use Rattle.xt_window.specs.Values.{WindowState}
use Rattle.xt_exec.specs.State.{State}
use Rattle.xt_exec.specs.States.{file_state}
use Rattle.xt_exec.specs.TurnLaws.{IsShaped}
use Rattle.xt_outcomes.specs.Dead.{cleared, compare_cleared, has_compare, registers_in}
use Rattle.xt_outcomes.proofs.Turned.{forgotten_shaped}
use Rattle.xt_outcomes.proofs.turns.leave_dead.Goals as goal

pub returns-clause-state : goal.returns-clause-state
returns-clause-state c =
    let r = c.args.regs.now in
    let make : WindowState → Specials → State = λ w x. record { regs = w.regs; base = w.base; start = w.start; control = control_at r.pc r.waiting x } in
    let without : ℕ → Bool → State = λ mask b. record (file_state r) {
      regs = cleared mask r.win.base r.win.regs 16;
      control = record (file_state r).control { special = compare_cleared b r.sr.file };
    } in
    (λ i. make (c.forget.ensures i) (c.forget_compare.ensures i))
    ∙ (λ i. without (c.registers_in.ensures i) (c.has_compare.ensures i))
    ∙ ap (λ (mask : ℕ). without (registers_in mask) (has_compare mask)) c.at-mask.ensures

pub returns-clause-shaped : goal.returns-clause-shaped
returns-clause-shaped c =
    subst IsShaped (sym (returns-clause-state c)) (forgotten_shaped c.args.dead.now.masks.items (file_state c.args.regs.now) c.requires)
