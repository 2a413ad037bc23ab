use Rattle.std.proofs.Common.{◌∙◌}
use Rattle.xt_outcomes.proofs.timed.Timed.fits_next.Goals as goal

pub returns : goal.returns
returns c = λ m ahead. c.fits.ensures ∙ c.passage.ensures m ahead
