use Rattle.xt_uses.proofs.CutRuns.{values_cut}
use Rattle.xt_uses.proofs.laws.values_are_cut.Goals as goal

pub returns : goal.returns
returns c = values_cut
