use Rattle.xt_rows.proofs.Modes.{modes_kept}
use Rattle.xt_rows.proofs.laws.modes_are_kept.Goals as goal

pub returns : goal.returns
returns c = modes_kept
