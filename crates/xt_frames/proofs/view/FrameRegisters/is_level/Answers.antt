use Rattle.std.proofs.Common.{◌≡◌, length, sym, ◌∙◌, ap, subst, rules}
use Rattle.xt_special.specs.Control.{Control, special_of}
use Rattle.xt_special.specs.Values.{control_at}
use Rattle.xt_frames.specs.KeptFrameState.{Upper}
use Rattle.xt_frames.specs.Levels.{with_epc1}
use Rattle.xt_frames.proofs.Leveled.{control_level}
use Rattle.xt_frames.proofs.view.FrameRegisters.is_level.Goals as goal

pub returns-then-are_same_between : goal.returns-then-are_same_between
returns-then-are_same_between c = λ t.
    let i = c.self.inside in
    let here : Control = control_at i.pc i.waits i.special in
    let there : Control = control_at c.args.pc c.args.waits c.args.special.now in
    let P : Upper → Type 0 = λ u. u.control ≡ with_epc1 (special_of u.control 177) there in
    let own : length i.special.file ≡ 256 = ap (λ (u : Upper). length u.control.special) c.self.view_is ∙ c.requires.own in
    let pc : i.pc ≡ c.args.pc = search rules in
    let waits : i.waits ≡ c.args.waits = search rules in
    let threadptr : i.special.threadptr ≡ c.args.special.now.threadptr = search rules in
    let ps : i.special.ps ≡ c.args.special.now.ps = sym c.ps_fields.ensures.value ∙ (c.is_same_ps.ensures c.if-not-is_same_ps.false ∙ c.ps_fields-2.ensures.value) in
    subst P c.self.view_is (control_level here there own c.requires.others pc waits threadptr ps (c.are_same_between.ensures c.if-are_same_between.true) (c.are_same_between-then-are_same_between.ensures t))
