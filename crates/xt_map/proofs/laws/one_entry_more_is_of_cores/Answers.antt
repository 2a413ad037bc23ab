use Rattle.xt_map.proofs.Grown.{of_cores_push}
use Rattle.xt_map.proofs.laws.one_entry_more_is_of_cores.Goals as goal

pub returns : goal.returns
returns c = of_cores_push
