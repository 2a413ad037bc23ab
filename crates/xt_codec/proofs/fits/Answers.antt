use Rattle.std.proofs.Common.{sym, ◌∙◌}
use Rattle.xt_isa.proofs.Ranged.{spelling_in_range}
use Rattle.xt_codec.proofs.EncodedRows.{has_spelling}
use Rattle.xt_codec.proofs.fits.Goals as goal

pub returns-clause-spelling : goal.returns-clause-spelling
returns-clause-spelling c =
    (λ e. has_spelling c.args.i.now (sym c.in_range.ensures ∙ e), λ h. c.in_range.ensures ∙ spelling_in_range c.args.i.now h)
