use Rattle.xt_isa.proofs.WholeWord.{rows_fit_by_word}
use Rattle.xt_isa.proofs.laws.rows_fit_by_word.Goals as goal

pub returns : goal.returns
returns c = rows_fit_by_word
