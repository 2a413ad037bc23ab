use Rattle.xt_profile.proofs.Telling.{begun, turns_are}
use Rattle.xt_profile.proofs.tally.Tally.split.Goals as goal

pub returns-clause-turns : goal.returns-clause-turns
returns-clause-turns c opening past h =
    turns_are opening past c.flush.new.self (c.in_ok-flush.ensures.counted opening past h.counted) c.in_ok-flush.ensures.row c.in_ok-lines.lines c.in_ok-lines.ensures
