use Rattle.std.proofs.Common.{◌≡◌, List, Option, None, drop, sym, ap, ◌∙◌, subst, arith}
use Rattle.std.proofs.lemmas.List.{take_all}
use Rattle.xt_trace.specs.declared.record.StepRecord.{StepRecord}
use Rattle.xt_trace.specs.Left.{first_of, rest_of}
use Rattle.xt_events.specs.declared.event.Event.{Event}
use Rattle.xt_events.specs.Events.{events_in}
use Rattle.xt_events.specs.Noted.{HasRoom, events_after_record}
use Rattle.xt_events.proofs.Apart.{counted_on, next_of, none_next, room_at}
use Rattle.xt_events.proofs.Following.{rest_past}
use Rattle.xt_events.proofs.counting.events_of.Goals as goal

pub note-requires : goal.note-requires
note-requires g c =
    let xs = g.R.Records.left c.args.records.now in
    let F : List Event → Type 0 = λ es. HasRoom 4294967295 es in
    subst F (sym c.loop-step.invariant.counted) (room_at xs c.loop-step.step 4294967295 (omega (arith, c.loop-step-test.true, c.ranges.count.fits)))

pub returns-in-None : goal.returns-in-None
returns-in-None g c =
    let xs = g.R.Records.left c.args.records.now in
    let none : ◌≡◌ {A = Option StepRecord} None (first_of (drop c.loop-step.step xs)) = c.in-None.ensures.first ∙ ap first_of c.loop-step.invariant.left in
    c.new.ensures ∙ c.loop-step.invariant.counted ∙ ap events_in (take_all c.loop-step.step xs (none_next xs c.loop-step.step none))

pub loop-step-preserved : goal.loop-step-preserved
loop-step-preserved g c =
    let xs = g.R.Records.left c.args.records.now in
    let k = c.loop-step.step in
    let first = c.in-Some.ensures.first ∙ ap first_of c.loop-step.invariant.left in
    record {
      counted = c.in_ok-note-in-Some.ensures ∙ ap (events_after_record k c.in-Some.r) c.loop-step.invariant.counted ∙ sym (counted_on xs k c.in-Some.r (next_of xs k c.in-Some.r first));
      left = c.in-Some.ensures.rest ∙ ap rest_of c.loop-step.invariant.left ∙ rest_past k xs;
    }
