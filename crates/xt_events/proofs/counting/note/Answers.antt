use Rattle.std.proofs.Common.{◌≡◌, ◌<◌, true, length, rules, sym, ◌∙◌, arith}
use Rattle.xt_events.specs.Events.{same_kind}
use Rattle.xt_events.proofs.Apart.{found_there, room_there}
use Rattle.xt_events.proofs.counting.note.Goals as goal

pub overflow_add-index_mut : goal.overflow_add-index_mut
overflow_add-index_mut c =
    let inside : c.loop-place.place < length c.loop-place.events.items = search rules in
    let room = room_there 4294967295 c.args.events.now.items c.loop-place.events.items c.loop-place.place c.index_mut.result.now c.requires c.loop-place.invariant.same inside c.index_mut.ensures.value in
    omega (arith, room)

pub returns-then-same_kind : goal.returns-then-same_kind
returns-then-same_kind c =
    let inside : c.loop-place.place < length c.loop-place.events.items = search rules in
    let test : same_kind c.args.r.now.kind c.index.result.now.kind ≡ true = sym c.same_kind.ensures ∙ c.if-same_kind.true in
    found_there c.args.step c.args.r.now c.args.events.now.items c.loop-place.events.items c.loop-place.place c.index.result.now c.index_mut.result.now c.loop-place.invariant.same inside
    c.index.ensures c.index_mut.ensures.value test c.loop-place.invariant.passed
