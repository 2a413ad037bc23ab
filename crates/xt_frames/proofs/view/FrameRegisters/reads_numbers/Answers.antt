use Rattle.std.proofs.Common.{ℕ, Option, sym, subst}
use Rattle.xt_rows.specs.RowLaws.{IsRegister}
use Rattle.xt_rows.proofs.Registers.{reads_registers}
use Rattle.xt_frames.proofs.view.FrameRegisters.reads_numbers.Goals as goal

pub lacks-requires : goal.lacks-requires
lacks-requires c =
    let P : Option ℕ × Option ℕ → Type 0 = λ r. IsRegister r.0 in
    subst P (sym c.reads-first.ensures) (reads_registers c.args.i c.requires).0

pub lacks-requires-else-lacks : goal.lacks-requires-else-lacks
lacks-requires-else-lacks c =
    let P : Option ℕ × Option ℕ → Type 0 = λ r. IsRegister r.1 in
    subst P (sym c.reads-first.ensures) (reads_registers c.args.i c.requires).1
