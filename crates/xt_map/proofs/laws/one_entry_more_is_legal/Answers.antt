use Rattle.xt_map.proofs.Grown.{legal_push}
use Rattle.xt_map.proofs.laws.one_entry_more_is_legal.Goals as goal

pub returns : goal.returns
returns c = legal_push
