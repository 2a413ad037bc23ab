use Rattle.xt_word.proofs.Bits.{parts}
use Rattle.xt_word.proofs.laws.parts_of_a_word.Goals as goal

pub returns : goal.returns
returns c = parts
