use Rattle.xt_rows.proofs.Registers.{reads_named}
use Rattle.xt_rows.proofs.laws.reads_are_named.Goals as goal

pub returns : goal.returns
returns c = reads_named
