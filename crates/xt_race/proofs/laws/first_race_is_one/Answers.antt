use Rattle.xt_race.proofs.Entries.{one_first}
use Rattle.xt_race.proofs.laws.first_race_is_one.Goals as goal

pub returns : goal.returns
returns c = one_first
