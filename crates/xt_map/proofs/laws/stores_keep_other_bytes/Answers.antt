use Rattle.xt_map.proofs.Stored.{access_elsewhere}
use Rattle.xt_map.proofs.laws.stores_keep_other_bytes.Goals as goal

pub returns : goal.returns
returns c = access_elsewhere
