use Rattle.std.proofs.Common.{◌≡◌, ℕ, ◌-◌, ◌∙◌, subst}
use Rattle.xt_discipline.specs.ByteMarks.{IsChanged}
use Rattle.xt_discipline.specs.declared.bytes.Change.TheVariants.{Enters}
use Rattle.xt_discipline.proofs.Opens.{are_opened}
use Rattle.xt_discipline.proofs.walk.open_stacks.Goals as goal

pub returns-clause-marks : goal.returns-clause-marks
returns-clause-marks c none =
    let e = c.change_bytes.ensures in
    let f = c.change_bytes-2.ensures in
    let x : c.from.result ≡ c.args.hi0 - 76 = c.from.ensures in
    let y : c.from-2.result ≡ c.args.hi1 - 76 = c.from-2.ensures in
    are_opened c.args.marks.now c.change_bytes.new.marks c.change_bytes-2.new.marks c.args.hi0 c.args.hi1 none c.requires.len (e.len ∙ c.requires.len) c.requires.zero c.requires.one
    (subst (λ (n : ℕ). IsChanged (Enters 0) n 4 c.args.marks.now c.change_bytes.new.marks) x e.bytes)
    (subst (λ (n : ℕ). IsChanged (Enters 1) n 4 c.change_bytes.new.marks c.change_bytes-2.new.marks) y f.bytes)
