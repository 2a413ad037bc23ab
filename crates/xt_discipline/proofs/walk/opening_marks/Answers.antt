use Rattle.std.proofs.Common.{◌≡◌, List, replicate, sym, ◌∙◌, subst}
use Rattle.std.proofs.lemmas.List.{take_at}
use Rattle.xt_discipline.specs.declared.bytes.Held.{Held}
use Rattle.xt_discipline.specs.ByteMarks.{AreOpened, nothing}
use Rattle.xt_discipline.proofs.Opens.{len_back, none_held}
use Rattle.xt_discipline.proofs.walk.opening_marks.Goals as goal

pub returns-clause-marks : goal.returns-clause-marks
returns-clause-marks c =
    let o = c.args.options.now in
    let items : c.in_ok-marks.marks.items ≡ replicate 0x52000 nothing = c.in_ok-marks.ensures in
    let none = none_held c.deref_mut.result.now 0x52000 (c.deref_mut.ensures.value ∙ items) in
    subst (λ (l : List Held). AreOpened l o.stack0.hi o.stack1.hi) (sym (take_at c.open_stacks.new.marks _ c.in_ok-marks.marks.len (len_back c.open_stacks.new.marks c.deref_mut.result.now c.in_ok-marks.marks.items 0x52000 c.in_ok-marks.marks.len c.open_stacks.ensures.len c.deref_mut.ensures.value items c.deref_mut.ensures.len))) (c.open_stacks.ensures.marks none)
