use Rattle.xt_rows.proofs.Proper.{outcome_words}
use Rattle.xt_rows.proofs.laws.outcomes_are_proper.Goals as goal

pub returns : goal.returns
returns c = outcome_words
