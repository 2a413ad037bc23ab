use Rattle.std.proofs.Common.{ℕ, ◌<◌, sym, subst, arith}
use Rattle.xt_rows.proofs.Registers.{names_registers}
use Rattle.xt_timeless.proofs.using.is_free.Goals as goal

pub check-requires : goal.check-requires
check-requires g c =
    let small : c.highest_register.result < 16 = subst (λ (n : ℕ). n < 16) (sym c.highest_register.ensures) (names_registers c.args.insn c.requires.range) in
    omega arith
