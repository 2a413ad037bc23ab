use Rattle.xt_map.proofs.Stored.{byte_keeps_sizes}
use Rattle.xt_map.proofs.laws.byte_put_keeps_sizes.Goals as goal

pub returns : goal.returns
returns c = byte_keeps_sizes
