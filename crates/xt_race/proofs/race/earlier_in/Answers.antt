use Rattle.std.proofs.Common.{refl, ◌<◌, ◌^◌, ◌+◌, sym, ◌∙◌, arith}
use Rattle.xt_race.specs.KeptEntries.{events_left}
use Rattle.xt_race.proofs.Walking.{missed_all, missed_hit, missed_more, missed_none, room}
use Rattle.xt_race.proofs.race.earlier_in.Goals as goal

pub returns-then-fits : goal.returns-then-fits
returns-then-fits c =
    missed_hit (events_left c.args.events.now) (events_left c.loop-event.events) c.args.later.now c.loop-event.place c.in-Some.event (events_left c.next.new.self)
    c.loop-event.invariant c.in-Some.ensures (sym c.fits.ensures ∙ c.if-fits.true)

pub overflow_add-place : goal.overflow_add-place
overflow_add-place c =
    let fits : c.loop-event.place + 1 < 2 ^ 32 = room (events_left c.args.events.now) (events_left c.loop-event.events) c.loop-event.place c.in-Some.event (events_left c.next.new.self)
    c.requires c.loop-event.invariant.left_is c.in-Some.ensures in
    omega (arith, fits)

pub loop-event-preserved : goal.loop-event-preserved
loop-event-preserved c =
    missed_more (events_left c.args.events.now) (events_left c.loop-event.events) c.args.later.now c.loop-event.place c.in-Some.event (events_left c.next.new.self)
    c.loop-event.invariant c.in-Some.ensures (sym c.fits.ensures ∙ c.if-fits.false)

pub returns : goal.returns
returns c =
    missed_all (events_left c.args.events.now) (events_left c.loop-event.events) c.args.later.now c.loop-event.place c.loop-event.invariant c.in_default.ensures

pub loop-event-init : goal.loop-event-init
loop-event-init c = let es = events_left c.args.events.now in missed_none es es c.args.later.now refl
