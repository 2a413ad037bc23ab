use Rattle.xt_cli.proofs.Ended.{other_end}
use Rattle.xt_cli.proofs.ending.ended_unmet.Goals as goal

pub returns-in_default : goal.returns-in_default
returns-in_default c = other_end c.args.status.now c.args.line.now c.ended.result c.in_default.not-Done c.ended.ensures
