use Rattle.std.proofs.Common.{◌≡◌, ℕ, ◌-◌, ◌<◌, ◌++◌, ◌∷◌, [], ap, sym, ◌∙◌, subst}
use Rattle.crossbeam_queue.specs.Passes.{view}
use Rattle.xt_bus.specs.States.{BusState, entry, bus_after_entry}
use Rattle.xt_sharedbus.specs.declared.view.Part.{Part}
use Rattle.xt_sharedbus.specs.declared.view.View.{View}
use Rattle.xt_sharedbus.specs.declared.rule.Item.{Item}
use Rattle.xt_sharedbus.specs.SeatState.{SeatState, seat_after_access}
use Rattle.xt_sharedbus.specs.Views.{part, seat_view, part_in}
use Rattle.xt_sharedbus.specs.Seats.{opening_in, list_of, seat_of}
use Rattle.xt_sharedbus.proofs.Seating.{one_on, gave_view, seated_part, seated_opening}
use Rattle.xt_sharedbus.proofs.shared.SharedBus.access.Goals as goal

pub give-requires-clause-step : goal.give-requires-clause-step
give-requires-clause-step g c =
    let y : Item = record c.take-item.result { bus = record c.take-item.result.bus { value = c.step-reply.new.self } } in
    let step : y.bus.value ≡ bus_after_entry c.take-item.result.bus.value (entry c.seat.inside.core c.args.access c.step-reply.result) =
    c.step-reply.ensures.state ∙ ap (λ (b : BusState). bus_after_entry b (entry c.seat.inside.core c.args.access c.step-reply.result)) c.deref_mut.ensures.value in
    one_on (view c.seat.inside.pass) _ c.take-item.result y _ c.seat.inside.core _ c.args.access c.step-reply.result c.seat.invariant.core
    (subst (λ (s : SeatState). 0 < s.left) (sym c.seat.view_is) c.requires.left) c.seat.invariant.knows c.take-item.ensures.took step

pub returns : goal.returns
returns g c =
    let y : Item = record c.take-item.result { bus = record c.take-item.result.bus { value = c.step-reply.new.self } } in
    let step : y.bus.value ≡ bus_after_entry c.take-item.result.bus.value (entry c.seat.inside.core c.args.access c.step-reply.result) =
    c.step-reply.ensures.state ∙ ap (λ (b : BusState). bus_after_entry b (entry c.seat.inside.core c.args.access c.step-reply.result)) c.deref_mut.ensures.value in
    let old : SeatState = seat_of c.seat.inside in
    let core : ℕ = c.seat.inside.core in
    let p : Part = part (old.list ++ (c.args.access, c.step-reply.result) ∷ []) (c.seat.inside.left - 1) in
    let now : view c.give.new.pass ≡ seat_view old.opening core p =
    gave_view (view c.seat.inside.pass) _ _ c.take-item.result y _ core _ c.args.access c.step-reply.result c.seat.invariant.core
    c.seat.invariant.knows c.take-item.ensures.took step c.give.ensures.gave in
    let bus = c.give.ensures.queue.0 ∙ c.take-item.ensures.queue.0 in
    let opening : opening_in (view c.give.new.pass) ≡ old.opening = ap opening_in now ∙ seated_opening old.opening core p in
    let list : list_of (part_in core (view c.give.new.pass)) ≡ p.list = ap (λ (u : View). list_of (part_in core u)) now ∙ ap list_of (seated_part old.opening core p) in
    (λ i. record { bus = bus i; core = core; left = c.seat.inside.left - 1; opening = opening i; list = list i })
    ∙ ap (λ (s : SeatState). seat_after_access s c.args.access c.step-reply.result) c.seat.view_is
