use Rattle.xt_profile.proofs.Cutting.{all_counted}
use Rattle.xt_profile.proofs.laws.without_breach_all_is_counted.Goals as goal

pub returns : goal.returns
returns c = all_counted
