use Rattle.xt_map.proofs.Stored.{byte_elsewhere}
use Rattle.xt_map.proofs.laws.byte_of_other_address.Goals as goal

pub returns : goal.returns
returns c = byte_elsewhere
