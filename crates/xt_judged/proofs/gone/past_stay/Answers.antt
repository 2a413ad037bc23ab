use Rattle.std.proofs.Common.{sym, ◌∙◌}
use Rattle.xt_judged.proofs.Gathered.{all_left}
use Rattle.xt_judged.proofs.gone.past_stay.Goals as goal

pub returns-then-not-is_written : goal.returns-then-not-is_written
returns-then-not-is_written c = λ a. all_left c.args.stale.now c.args.access a (sym c.is_written.ensures ∙ c.if-not-is_written.true)
