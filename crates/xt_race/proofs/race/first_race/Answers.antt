use Rattle.std.proofs.Common.{Option, subst}
use Rattle.xt_race.specs.declared.race.Pair.{Pair}
use Rattle.xt_race.specs.Races.{events_of}
use Rattle.xt_race.specs.Firsts.{FirstPair, IsPair}
use Rattle.xt_race.proofs.race.first_race.Goals as goal

pub returns-in-None : goal.returns-in-None
returns-in-None c = subst (λ (o : Option Pair). IsPair (events_of c.args.image.now c.args.run.now) o) c.in-None.is c.in_ok-found.ensures

pub returns-in-Some : goal.returns-in-Some
returns-in-Some c =
    let es = events_of c.args.image.now c.args.run.now in
    let p : FirstPair es c.in-Some.pair = subst (λ (o : Option Pair). IsPair es o) c.in-Some.is c.in_ok-found.ensures in
    p.race
