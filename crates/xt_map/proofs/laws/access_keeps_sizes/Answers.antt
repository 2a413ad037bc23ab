use Rattle.xt_map.proofs.Stored.{access_keeps_sizes}
use Rattle.xt_map.proofs.laws.access_keeps_sizes.Goals as goal

pub returns : goal.returns
returns c = access_keeps_sizes
