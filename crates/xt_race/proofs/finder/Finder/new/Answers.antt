use Rattle.std.proofs.Common.{refl}
use Rattle.xt_race.proofs.finder.Finder.new.Goals as goal

pub returns : goal.returns
returns c events = record {
  count = refl;
  marks = c.in_ok-new.ensures;
  releases0 = c.new-2.ensures 0;
  releases1 = c.new-2.ensures 1;
  seen0 = refl;
  seen1 = refl;
}
