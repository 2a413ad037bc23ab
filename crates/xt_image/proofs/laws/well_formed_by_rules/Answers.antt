use Rattle.xt_image.proofs.Ruled.{by_rules}
use Rattle.xt_image.proofs.laws.well_formed_by_rules.Goals as goal

pub returns : goal.returns
returns c = by_rules
