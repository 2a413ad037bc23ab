use Rattle.std.proofs.Common.{arith}
use Rattle.xt_rows.proofs.Registers.{names_registers}
use Rattle.xt_exec.proofs.regs.Regs.looks.Goals as goal

pub returns-in_default-clause-range : goal.returns-in_default-clause-range
returns-in_default-clause-range g c = omega (arith, names_registers c.args.i c.requires, c.highest_register.ensures)
