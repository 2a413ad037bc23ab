use Rattle.xt_isa.proofs.ApartRows.{rows_apart}
use Rattle.xt_isa.proofs.laws.rows_are_apart.Goals as goal

pub returns : goal.returns
returns c = rows_apart
