use Rattle.std.proofs.Common.{◌∙◌}
use Rattle.xt_outcomes.proofs.timed.Timed.is_fit.Goals as goal

pub returns : goal.returns
returns c = λ m h. c.fits-fits.ensures ∙ c.passage-passage.ensures m h
