use Rattle.xt_isa.proofs.WholeWord.{rows_have_their_length}
use Rattle.xt_isa.proofs.laws.rows_have_their_length.Goals as goal

pub returns : goal.returns
returns c = rows_have_their_length
