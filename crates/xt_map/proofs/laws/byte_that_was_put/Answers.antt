use Rattle.xt_map.proofs.Stored.{byte_put}
use Rattle.xt_map.proofs.laws.byte_that_was_put.Goals as goal

pub returns : goal.returns
returns c = byte_put
