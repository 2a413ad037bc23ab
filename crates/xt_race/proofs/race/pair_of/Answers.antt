use Rattle.std.proofs.Common.{Option, subst}
use Rattle.xt_race.specs.declared.race.Earlier.{Earlier}
use Rattle.xt_race.specs.declared.race.Later.{Later}
use Rattle.xt_race.specs.Races.{events_of}
use Rattle.xt_race.specs.Firsts.{IsEarlier, IsLater}
use Rattle.xt_race.proofs.Concluding.{none_race, pair_is, some_fits}
use Rattle.xt_race.proofs.Walking.{are_of_cores}
use Rattle.xt_race.proofs.race.pair_of.Goals as goal

pub unreachable-requires : goal.unreachable-requires
unreachable-requires c =
    let es = events_of c.args.image.now c.args.run.now in
    let later = c.in-Some.later in
    some_fits es later (are_of_cores c.args.image.now c.args.run.now c.requires.run)
    (subst (λ (o : Option Later). IsLater es o) c.in-Some.is c.in_ok-found.ensures)
    (subst (λ (o : Option Earlier). IsEarlier es later o) c.in-None-fitting.is c.in_ok-fitting-in-Some.ensures)

pub returns-in-None : goal.returns-in-None
returns-in-None c =
    let es = events_of c.args.image.now c.args.run.now in
    none_race es (are_of_cores c.args.image.now c.args.run.now c.requires.run) (subst (λ (o : Option Later). IsLater es o) c.in-None.is c.in_ok-found.ensures)

pub returns-in-Some-fitting : goal.returns-in-Some-fitting
returns-in-Some-fitting c =
    let es = events_of c.args.image.now c.args.run.now in
    let later = c.in-Some.later in
    pair_is es later c.in-Some-fitting.earlier (are_of_cores c.args.image.now c.args.run.now c.requires.run)
    (subst (λ (o : Option Later). IsLater es o) c.in-Some.is c.in_ok-found.ensures)
    (subst (λ (o : Option Earlier). IsEarlier es later o) c.in-Some-fitting.is c.in_ok-fitting-in-Some.ensures)
