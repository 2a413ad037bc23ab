use Rattle.xt_record.proofs.Whole.{written_again}
use Rattle.xt_record.proofs.laws.round_trip.Goals as goal

pub returns : goal.returns
returns c = written_again
