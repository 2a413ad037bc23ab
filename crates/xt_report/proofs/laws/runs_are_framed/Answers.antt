use Rattle.xt_report.proofs.Framing.{runs_are_framed}
use Rattle.xt_report.proofs.laws.runs_are_framed.Goals as goal

pub returns : goal.returns
returns c = runs_are_framed
