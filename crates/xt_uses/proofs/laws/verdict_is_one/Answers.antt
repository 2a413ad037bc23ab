use Rattle.xt_uses.proofs.LaterVerdicts.{verdict_one}
use Rattle.xt_uses.proofs.laws.verdict_is_one.Goals as goal

pub returns : goal.returns
returns c = verdict_one
