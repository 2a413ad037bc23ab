use Rattle.std.proofs.Common.{Option, None, subst}
use Rattle.std.proofs.lemmas.Result.{IfOk-weaker}
use Rattle.xt_race.specs.declared.race.Pair.{Pair}
use Rattle.xt_race.specs.Races.{events_of}
use Rattle.xt_race.specs.Firsts.{FirstPair, IsPair}
use Rattle.xt_race.specs.RaceTexts.{IsRaceText}
use Rattle.xt_race.proofs.Printing.{IsNone, IsPrinted, none_told, pair_told}
use Rattle.xt_race.proofs.text.race_text.Goals as goal

pub returns-in-None : goal.returns-in-None
returns-in-None c =
    let es = events_of c.args.image.now c.args.run.now in
    let none : IsPair es None = subst (λ (o : Option Pair). IsPair es o) c.in-None.is c.in_ok-found.ensures in
    IfOk-weaker c.none_text.result IsNone (IsRaceText es) (none_told es none) c.none_text.ensures

pub returns-in-Some : goal.returns-in-Some
returns-in-Some c =
    let es = events_of c.args.image.now c.args.run.now in
    let p : FirstPair es c.in-Some.pair = subst (λ (o : Option Pair). IsPair es o) c.in-Some.is c.in_ok-found.ensures in
    IfOk-weaker c.pair_text.result (IsPrinted c.in-Some.pair) (IsRaceText es) (pair_told es c.in-Some.pair p) c.pair_text.ensures
