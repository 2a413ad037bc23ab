use Rattle.std.proofs.Common.{◌≤◌, List, length, sym, subst}
use Rattle.xt_race.specs.declared.event.Event.{Event}
use Rattle.xt_race.specs.Firsts.{IsEarlier}
use Rattle.xt_race.proofs.Walking.{events_few}
use Rattle.xt_race.proofs.race.earlier_of.Goals as goal

pub earlier_in-requires : goal.earlier_in-requires
earlier_in-requires c =
    subst (λ (es : List Event). length es ≤ 8000000) (sym c.in_ok-events.ensures) (events_few c.args.image.now c.args.run.now c.requires.run)

pub returns : goal.returns
returns c = subst (λ (es : List Event). IsEarlier es c.args.later.now c.earlier_in.result) c.in_ok-events.ensures c.earlier_in.ensures
