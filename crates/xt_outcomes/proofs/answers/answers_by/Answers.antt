use Rattle.std.proofs.Common.{sym}
use Rattle.xt_outcomes.proofs.answers.answers_by.Goals as goal

pub returns : goal.returns
returns c = rw (sym c.requires.timed) (record {
  ending = c.requires.ended.ending;
  real = c.in_ok-found.ensures.real;
  rising = c.in_ok-found.ensures.rising;
  all = λ t. c.in_ok-found.ensures.all (c.requires.ended.complete t);
  order = c.in_ok-stuck.ensures.order;
  stuck = c.in_ok-stuck.ensures.stuck;
  never_stuck = c.in_ok-stuck.ensures.none;
  race = c.in_ok-race.ensures.race;
  no_race = λ t. c.in_ok-race.ensures.none (c.requires.ended.complete t);
})
