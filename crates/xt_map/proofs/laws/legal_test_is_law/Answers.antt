use Rattle.xt_map.proofs.Grown.{legal_test}
use Rattle.xt_map.proofs.laws.legal_test_is_law.Goals as goal

pub returns : goal.returns
returns c = legal_test
