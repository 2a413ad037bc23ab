use Rattle.xt_uses.proofs.RowsAll.{all_agree}
use Rattle.xt_uses.proofs.laws.rows_agree.Goals as goal

pub returns : goal.returns
returns c = all_agree
