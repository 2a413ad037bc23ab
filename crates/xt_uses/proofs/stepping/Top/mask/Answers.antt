use Rattle.std.proofs.Common.{Option, sym, ◌∙◌, ap}
use Rattle.xt_isa.specs.declared.Insn.{Insn}
use Rattle.xt_frames.specs.KeptFrameState.{state_at}
use Rattle.xt_uses.specs.UseStep.{forgets_registers, use_turn}
use Rattle.xt_uses.specs.UseParts.{use_at}
use Rattle.xt_uses.proofs.stepping.Top.mask.Goals as goal

pub returns-in-Some-clause-mask : goal.returns-in-Some-clause-mask
returns-in-Some-clause-mask c = λ code frames kept v u plan kind.
    let top = c.args.self.now in
    let made = c.args.made.now in
    let s = use_at frames kept top.holes v top.masks in
    let f = state_at frames top.holes made.before in
    c.mask_executed.ensures.mask frames kept v u
    ∙ sym (ap (λ (o : Option Insn). (use_turn o c.args.reply s f u).mask) (sym (c.step_insn.ensures.insn code made.before.control plan kind) ∙ c.in-Some.is))

pub returns-in-Some-clause-stored : goal.returns-in-Some-clause-stored
returns-in-Some-clause-stored c = λ code frames kept v u plan kind.
    let top = c.args.self.now in
    let made = c.args.made.now in
    let s = use_at frames kept top.holes v top.masks in
    let f = state_at frames top.holes made.before in
    c.mask_executed.ensures.stored frames kept v u
    ∙ sym (ap (λ (o : Option Insn). (use_turn o c.args.reply s f u).stored) (sym (c.step_insn.ensures.insn code made.before.control plan kind) ∙ c.in-Some.is))

pub returns-in-Some-clause-forgets : goal.returns-in-Some-clause-forgets
returns-in-Some-clause-forgets c = λ code plan kind.
    let top = c.args.self.now in
    c.mask_executed.ensures.forgets ∙ sym (ap (forgets_registers top.masks.discipline) (sym (c.step_insn.ensures.insn code c.args.made.now.before.control plan kind) ∙ c.in-Some.is))
