use Rattle.xt_record.proofs.Settled.{settled}
use Rattle.xt_record.proofs.laws.migrated_once.Goals as goal

pub returns : goal.returns
returns c = settled
