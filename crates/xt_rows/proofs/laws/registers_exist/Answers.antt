use Rattle.xt_rows.proofs.Registers.{reads_registers, names_registers}
use Rattle.xt_rows.proofs.laws.registers_exist.Goals as goal

pub returns : goal.returns
returns c = λ i ok. ((reads_registers i ok).0, (reads_registers i ok).1, names_registers i ok)
