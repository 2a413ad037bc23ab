use Rattle.std.proofs.Common.{ℕ, Option, subst}
use Rattle.xt_rows.specs.RowLaws.{IsHeld}
use Rattle.xt_rows.proofs.Registers.{shift_amount}
use Rattle.xt_frames.proofs.view.FrameRegisters.special_read.Goals as goal

pub returns-clause-sar : goal.returns-clause-sar
returns-clause-sar c =
    let P : Option ℕ × Option ℕ → Type 0 = λ r. IsHeld r.0 c.special_value.result in
    shift_amount c.args.i c.special_value.result (subst P c.special_reads-special.ensures c.special_value.ensures.held)
