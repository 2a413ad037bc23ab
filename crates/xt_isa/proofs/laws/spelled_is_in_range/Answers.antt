use Rattle.xt_isa.proofs.Ranged.{all_ranged}
use Rattle.xt_isa.proofs.laws.spelled_is_in_range.Goals as goal

pub returns : goal.returns
returns c = all_ranged
