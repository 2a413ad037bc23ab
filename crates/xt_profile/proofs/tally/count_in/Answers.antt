use Rattle.std.proofs.Common.{sym, ap, ◌∙◌}
use Rattle.std.specs.Prelude.{option_copied}
use Rattle.xt_profile.proofs.Telling.{found_none, found_some}
use Rattle.xt_profile.proofs.tally.count_in.Goals as goal

pub returns-in-Some : goal.returns-in-Some
returns-in-Some c = found_some c.args.key.now c.args.counts.now.entries c.in-Some.count.now (sym (ap option_copied c.in-Some.is) ∙ c.get.ensures.value)

pub returns-in-None : goal.returns-in-None
returns-in-None c = found_none c.args.key.now c.args.counts.now.entries (sym (ap option_copied c.in-None.is) ∙ c.get.ensures.value)
