use Rattle.xt_map.proofs.Grown.{memory_after_push}
use Rattle.xt_map.proofs.laws.memory_of_longer_history.Goals as goal

pub returns : goal.returns
returns c = memory_after_push
