use Rattle.xt_isa.proofs.ThirdByte.{third_byte}
use Rattle.xt_isa.proofs.laws.third_byte_is_free.Goals as goal

pub returns : goal.returns
returns c = third_byte
