use Rattle.xt_runs.proofs.Joined.{is_judged}
use Rattle.xt_runs.proofs.verdicts.verdict_is_so.Goals as goal

pub returns : goal.returns
returns c = is_judged c.args.image.now c.args.run.now c.verdict_is_first_breach.ensures c.requires
