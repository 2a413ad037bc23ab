use Rattle.std.proofs.Common.{sym, ◌∙◌}
use Rattle.xt_race.proofs.Tabled.{in_memory, out_of_memory}
use Rattle.xt_race.proofs.places.is_in_memory.Goals as goal

pub returns-in-Some : goal.returns-in-Some
returns-in-Some c = sym (in_memory c.args.addr _ (sym c.place_of.ensures.place ∙ c.in-Some.is))

pub returns-in-None : goal.returns-in-None
returns-in-None c = sym (out_of_memory c.args.addr (sym c.place_of.ensures.place ∙ c.in-None.is))
