use Rattle.std.proofs.Common.{ℕ, Option, sym, subst}
use Rattle.xt_rows.specs.Operands.{special_reads}
use Rattle.xt_rows.specs.RowLaws.{IsHeld}
use Rattle.xt_rows.proofs.Registers.{shift_amount}
use Rattle.xt_secret_walk.proofs.Knowing.{held_masked}
use Rattle.xt_secret_walk.proofs.masks.CoreMasks.special_word.Goals as goal

pub returns-in-Some-clause-sar : goal.returns-in-Some-clause-sar
returns-in-Some-clause-sar c =
    let i = c.args.insn in
    let v = c.special_value.result in
    let P : Option ℕ × Option ℕ → Type 0 = λ r. IsHeld r.0 v in
    let O : Option ℕ → Type 0 = λ o. IsHeld o v in
    shift_amount i _ (held_masked (special_reads i).0 v c.special_mask-mask.result (subst P c.special_reads-special.ensures (subst O (sym c.in-Some.is) c.special_value.ensures.held)))
