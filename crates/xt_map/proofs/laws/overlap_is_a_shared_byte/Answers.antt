use Rattle.xt_map.proofs.Placed.{overlap_is_shared}
use Rattle.xt_map.proofs.laws.overlap_is_a_shared_byte.Goals as goal

pub returns : goal.returns
returns c = overlap_is_shared
