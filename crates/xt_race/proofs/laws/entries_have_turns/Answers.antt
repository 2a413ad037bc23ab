use Rattle.xt_race.proofs.Entries.{entries_have, records_own}
use Rattle.xt_race.proofs.laws.entries_have_turns.Goals as goal

pub returns-clause-turns : goal.returns-clause-turns
returns-clause-turns c = entries_have

pub returns-clause-records : goal.returns-clause-records
returns-clause-records c = records_own
