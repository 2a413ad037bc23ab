use Rattle.xt_moments.proofs.OneOutcome.{outcomes_are_one}
use Rattle.xt_moments.proofs.laws.outcomes_are_one.Goals as goal

pub returns : goal.returns
returns c = outcomes_are_one
