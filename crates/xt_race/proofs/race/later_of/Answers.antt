use Rattle.std.proofs.Common.{◌≤◌, IfOk, List, length, sym, subst}
use Rattle.xt_race.specs.declared.event.Event.{Event}
use Rattle.xt_race.specs.Firsts.{IsLater}
use Rattle.xt_race.proofs.Acquiring.{AreOfCores}
use Rattle.xt_race.proofs.Walking.{are_of_cores, events_few}
use Rattle.xt_race.proofs.race.later_of.Goals as goal

pub later_in-requires-clause-few : goal.later_in-requires-clause-few
later_in-requires-clause-few c =
    subst (λ (es : List Event). length es ≤ 8000000) (sym c.in_ok-events.ensures) (events_few c.args.image.now c.args.run.now c.requires.run)

pub later_in-requires-clause-cores : goal.later_in-requires-clause-cores
later_in-requires-clause-cores c =
    subst AreOfCores (sym c.in_ok-events.ensures) (are_of_cores c.args.image.now c.args.run.now c.requires.run)

pub returns : goal.returns
returns c = subst (λ (es : List Event). IfOk c.later_in.result (λ found. IsLater es found)) c.in_ok-events.ensures c.later_in.ensures
