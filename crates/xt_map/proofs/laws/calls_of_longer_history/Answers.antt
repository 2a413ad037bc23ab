use Rattle.xt_map.proofs.Grown.{calls_of_push}
use Rattle.xt_map.proofs.laws.calls_of_longer_history.Goals as goal

pub returns : goal.returns
returns c = calls_of_push
