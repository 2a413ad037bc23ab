use Rattle.std.proofs.Common.{ℕ, Option, sym, subst}
use Rattle.xt_rows.specs.RowLaws.{IsHeld, IsRegister}
use Rattle.xt_rows.proofs.Registers.{reads_registers, shift_amount}
use Rattle.xt_exec.proofs.regs.Regs.outcome.Goals as goal

pub visible_value-requires : goal.visible_value-requires
visible_value-requires g c =
    let P : Option ℕ × Option ℕ → Type 0 = λ r. IsRegister r.0 in
    subst P (sym c.reads-first.ensures) (reads_registers c.args.i c.requires).0

pub visible_value-requires-2 : goal.visible_value-requires-2
visible_value-requires-2 g c =
    let P : Option ℕ × Option ℕ → Type 0 = λ r. IsRegister r.1 in
    subst P (sym c.reads-first.ensures) (reads_registers c.args.i c.requires).1

pub outcome_of-requires-clause-sar : goal.outcome_of-requires-clause-sar
outcome_of-requires-clause-sar g c =
    let P : Option ℕ × Option ℕ → Type 0 = λ r. IsHeld r.0 c.special_value.result in
    shift_amount c.args.i c.special_value.result (subst P c.special_reads-special.ensures c.special_value.ensures.held)
