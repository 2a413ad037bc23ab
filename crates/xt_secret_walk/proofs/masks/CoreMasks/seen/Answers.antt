use Rattle.std.proofs.Common.{ℕ, Option, sym, subst}
use Rattle.xt_rows.specs.RowLaws.{IsRegister}
use Rattle.xt_rows.proofs.Registers.{reads_registers}
use Rattle.xt_secret_walk.proofs.masks.CoreMasks.seen.Goals as goal

pub word-x-requires : goal.word-x-requires
word-x-requires c =
    let P : Option ℕ × Option ℕ → Type 0 = λ r. IsRegister r.0 in
    subst P (sym c.reads-first.ensures) (reads_registers c.args.insn c.requires).0

pub word-y-requires : goal.word-y-requires
word-y-requires c =
    let P : Option ℕ × Option ℕ → Type 0 = λ r. IsRegister r.1 in
    subst P (sym c.reads-first.ensures) (reads_registers c.args.insn c.requires).1
