use Rattle.xt_machine.proofs.Bits.{bits_agree}
use Rattle.xt_machine.proofs.laws.interrupt_bits_agree.Goals as goal

pub returns : goal.returns
returns c = bits_agree
