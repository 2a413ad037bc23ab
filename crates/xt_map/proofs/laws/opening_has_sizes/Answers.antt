use Rattle.xt_map.proofs.Stored.{opening_has_sizes}
use Rattle.xt_map.proofs.laws.opening_has_sizes.Goals as goal

pub returns : goal.returns
returns c = opening_has_sizes
