use Rattle.std.proofs.Common.{refl}
use Rattle.xt_race.specs.KeptEntries.{events_left}
use Rattle.xt_race.proofs.Walking.{passed_all, passed_hit, passed_more, passed_none, passed_room, passed_taken}
use Rattle.xt_race.proofs.race.later_in.Goals as goal

pub loop-event-init : goal.loop-event-init
loop-event-init c =
    let es = events_left c.args.events.now in
    passed_none es es c.args.finder.now refl c.requires.knows

pub take-requires : goal.take-requires
take-requires c =
    passed_room (events_left c.args.events.now) (events_left c.loop-event.events) c.loop-event.finder c.in-Some.event (events_left c.next.new.self)
    c.requires.few c.loop-event.invariant c.in-Some.ensures

pub returns-then-taken : goal.returns-then-taken
returns-then-taken c =
    let es = events_left c.args.events.now in
    let left = events_left c.loop-event.events in
    let rest = events_left c.next.new.self in
    let t = passed_taken es left c.loop-event.finder c.take.new.self c.in-Some.event rest c.in_ok-taken.taken c.requires.cores c.loop-event.invariant c.in-Some.ensures c.in_ok-taken.ensures.taken in
    passed_hit es left c.loop-event.finder c.take.new.self c.in-Some.event rest c.in_ok-taken.taken c.loop-event.invariant c.in-Some.ensures t c.if-taken.true

pub loop-event-preserved : goal.loop-event-preserved
loop-event-preserved c =
    let es = events_left c.args.events.now in
    let left = events_left c.loop-event.events in
    let rest = events_left c.next.new.self in
    let t = passed_taken es left c.loop-event.finder c.take.new.self c.in-Some.event rest c.in_ok-taken.taken c.requires.cores c.loop-event.invariant c.in-Some.ensures c.in_ok-taken.ensures.taken in
    passed_more es left c.loop-event.finder c.take.new.self c.in-Some.event rest c.in_ok-taken.taken c.loop-event.invariant c.in-Some.ensures t c.in_ok-taken.ensures.count c.if-taken.false

pub returns : goal.returns
returns c = passed_all (events_left c.args.events.now) (events_left c.loop-event.events) c.loop-event.finder c.loop-event.invariant c.in_default.ensures
