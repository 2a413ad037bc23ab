use Rattle.xt_use_walk.proofs.OneAnswer.{uses_one}
use Rattle.xt_use_walk.proofs.laws.uses_are_one.Goals as goal

pub returns : goal.returns
returns c = uses_one
