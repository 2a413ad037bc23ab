use Rattle.xt_rows.proofs.Fitting.{outcome_fits}
use Rattle.xt_rows.proofs.laws.outcomes_fit_their_instructions.Goals as goal

pub returns : goal.returns
returns c = outcome_fits
