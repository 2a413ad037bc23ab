use Rattle.xt_race.specs.Tables.{place_of}
use Rattle.xt_race.proofs.Tabled.{none_marked}
use Rattle.xt_race.proofs.marks.Marks.new.Goals as goal

pub returns : goal.returns
returns c a = none_marked _ 5504 c.in_ok-empty_pages.ensures.items (place_of a)
