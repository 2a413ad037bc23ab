use Rattle.std.proofs.Common.{◌<◌, ℕ, length, sym, subst, arith, rules}
use Rattle.std.proofs.lemmas.Iterator.Consumers.{YieldsList-end, YieldsList-from_first, YieldsList-turn}
use Rattle.std.proofs.lemmas.List.{length_push}
use Rattle.std.proofs.lemmas.List.Elements.{All-get_or}
use Rattle.xt_map.specs.Memory.{constant_byte}
use Rattle.xt_discipline.specs.Ordered.{turns_left}
use Rattle.xt_discipline.specs.Schedules.{schedule_in}
use Rattle.xt_discipline.proofs.Orders.{of_cores}
use Rattle.xt_discipline.proofs.Walking.{one_of}
use Rattle.xt_profile.proofs.Following.{all_followed, followed_cut, followed_one, followed_zero, tally0_room, tally1_room, walk_room}
use Rattle.xt_profile.proofs.counting.follow.Goals as goal

pub turn-requires-clause-core : goal.turn-requires-clause-core
turn-requires-clause-core c =
    let run = c.args.run.now in
    let at = YieldsList-turn (YieldsList-from_first (λ x. x) turns_left (schedule_in run) (search rules)) c.loop-core.yielded _ c.loop-core.yielded_by _ c.next.new.self c.in-Some.core c.in-Some.is c.next.ensures.steps in
    subst (λ (n : ℕ). n < 2) (sym at.1) (All-get_or (λ n. n < 2) (schedule_in run) (length c.loop-core.yielded) c.in-Some.core at.0 (of_cores run))

pub turn-requires-clause-known : goal.turn-requires-clause-known
turn-requires-clause-known c =
    let q = c.requires.known in
    let r = (c.loop-core.invariant q.0 q.1 q.2 q.3 q.4 q.5).reach in
    (q.0, q.1, r.known, r.knows)

pub turn-requires-clause-room : goal.turn-requires-clause-room
turn-requires-clause-room c =
    let run = c.args.run.now in
    let at = YieldsList-turn (YieldsList-from_first (λ x. x) turns_left (schedule_in run) (search rules)) c.loop-core.yielded _ c.loop-core.yielded_by _ c.next.new.self c.in-Some.core c.in-Some.is c.next.ensures.steps in
    let q = c.requires.known in
    walk_room (constant_byte c.args.walk.now.code) c.args.walk.now c.loop-core.walk q.0 q.1 q.2 (schedule_in run) q.3 q.4 (length c.loop-core.yielded) c.args.records0.now c.args.records1.now c.loop-core.records0 c.loop-core.records1 c.args.tally0.now c.args.tally1.now c.loop-core.tally0 c.loop-core.tally1 q.5 (c.loop-core.invariant q.0 q.1 q.2 q.3 q.4 q.5) at.0 c.requires.room

pub returns-in_default : goal.returns-in_default
returns-in_default c b0 b1 k e0 e1 h0 =
    let run = c.args.run.now in
    let at = YieldsList-turn (YieldsList-from_first (λ x. x) turns_left (schedule_in run) (search rules)) c.loop-core.yielded _ c.loop-core.yielded_by _ c.next.new.self c.in-Some.core c.in-Some.is c.next.ensures.steps in
    let h = c.loop-core.invariant b0 b1 k e0 e1 h0 in
    followed_cut (constant_byte c.args.walk.now.code) c.loop-core.walk c.turn.new.walk b0 b1 k (schedule_in run) e0 e1 (length c.loop-core.yielded) c.in-Some.core c.args.records0.now c.args.records1.now c.loop-core.records0 c.loop-core.records1 c.turn.new.records0 c.turn.new.records1 c.loop-core.tally0 c.loop-core.tally1 c.turn.result at.0 at.1 h c.in_default.is (c.turn.ensures b0 b1 h.reach.known h.reach.knows)

pub step-requires-clause-room : goal.step-requires-clause-room
step-requires-clause-room c =
    let run = c.args.run.now in
    let at = YieldsList-turn (YieldsList-from_first (λ x. x) turns_left (schedule_in run) (search rules)) c.loop-core.yielded _ c.loop-core.yielded_by _ c.next.new.self c.in-Some.core c.in-Some.is c.next.ensures.steps in
    let q = c.requires.known in
    tally0_room (constant_byte c.args.walk.now.code) c.args.walk.now c.loop-core.walk q.0 q.1 q.2 (schedule_in run) q.3 q.4 (length c.loop-core.yielded) c.args.records0.now c.args.records1.now c.loop-core.records0 c.loop-core.records1 c.args.tally0.now c.args.tally1.now c.loop-core.tally0 c.loop-core.tally1 q.5 (c.loop-core.invariant q.0 q.1 q.2 q.3 q.4 q.5) at.0 c.requires.room

pub step-requires-clause-known : goal.step-requires-clause-known
step-requires-clause-known c =
    let q = c.requires.known in
    let h = c.loop-core.invariant q.0 q.1 q.2 q.3 q.4 q.5 in
    (q.3, h.past0, h.tally0)

pub loop-core-preserved-in-Continue-1 : goal.loop-core-preserved-in-Continue-1
loop-core-preserved-in-Continue-1 c b0 b1 k e0 e1 h0 =
    let run = c.args.run.now in
    let at = YieldsList-turn (YieldsList-from_first (λ x. x) turns_left (schedule_in run) (search rules)) c.loop-core.yielded _ c.loop-core.yielded_by _ c.next.new.self c.in-Some.core c.in-Some.is c.next.ensures.steps in
    let h = c.loop-core.invariant b0 b1 k e0 e1 h0 in
    rw length_push (followed_zero (constant_byte c.args.walk.now.code) c.loop-core.walk c.turn.new.walk b0 b1 k (schedule_in run) e0 e1 (length c.loop-core.yielded) c.in-Some.core c.args.records0.now c.args.records1.now c.loop-core.records0 c.loop-core.records1 c.turn.new.records0 c.turn.new.records1 c.loop-core.tally0 c.loop-core.tally1 c.step.new.self c.in-Some-turn.made c.turn.result c.if-core-eq0.true at.0 at.1 h c.in-Some-turn.is (c.turn.ensures b0 b1 h.reach.known h.reach.knows) c.in_ok-step.ensures)

pub step-requires-else-core-eq0-clause-room : goal.step-requires-else-core-eq0-clause-room
step-requires-else-core-eq0-clause-room c =
    let run = c.args.run.now in
    let at = YieldsList-turn (YieldsList-from_first (λ x. x) turns_left (schedule_in run) (search rules)) c.loop-core.yielded _ c.loop-core.yielded_by _ c.next.new.self c.in-Some.core c.in-Some.is c.next.ensures.steps in
    let q = c.requires.known in
    tally1_room (constant_byte c.args.walk.now.code) c.args.walk.now c.loop-core.walk q.0 q.1 q.2 (schedule_in run) q.3 q.4 (length c.loop-core.yielded) c.args.records0.now c.args.records1.now c.loop-core.records0 c.loop-core.records1 c.args.tally0.now c.args.tally1.now c.loop-core.tally0 c.loop-core.tally1 q.5 (c.loop-core.invariant q.0 q.1 q.2 q.3 q.4 q.5) at.0 c.requires.room

pub step-requires-else-core-eq0-clause-known : goal.step-requires-else-core-eq0-clause-known
step-requires-else-core-eq0-clause-known c =
    let q = c.requires.known in
    let h = c.loop-core.invariant q.0 q.1 q.2 q.3 q.4 q.5 in
    (q.4, h.past1, h.tally1)

pub loop-core-preserved : goal.loop-core-preserved
loop-core-preserved c b0 b1 k e0 e1 h0 =
    let run = c.args.run.now in
    let at = YieldsList-turn (YieldsList-from_first (λ x. x) turns_left (schedule_in run) (search rules)) c.loop-core.yielded _ c.loop-core.yielded_by _ c.next.new.self c.in-Some.core c.in-Some.is c.next.ensures.steps in
    let h = c.loop-core.invariant b0 b1 k e0 e1 h0 in
    let lt : c.in-Some.core < 2 = subst (λ (n : ℕ). n < 2) (sym at.1) (All-get_or (λ n. n < 2) (schedule_in run) (length c.loop-core.yielded) c.in-Some.core at.0 (of_cores run)) in
    rw length_push (followed_one (constant_byte c.args.walk.now.code) c.loop-core.walk c.turn.new.walk b0 b1 k (schedule_in run) e0 e1 (length c.loop-core.yielded) c.in-Some.core c.args.records0.now c.args.records1.now c.loop-core.records0 c.loop-core.records1 c.turn.new.records0 c.turn.new.records1 c.loop-core.tally0 c.loop-core.tally1 c.step-else-core-eq0.new.self c.in-Some-turn.made c.turn.result (one_of c.in-Some.core lt c.if-core-eq0.false) at.0 at.1 h c.in-Some-turn.is (c.turn.ensures b0 b1 h.reach.known h.reach.knows) c.in_ok-step-2.ensures)

pub returns : goal.returns
returns c b0 b1 k e0 e1 h0 =
    let run = c.args.run.now in
    let end = YieldsList-end (YieldsList-from_first (λ x. x) turns_left (schedule_in run) (search rules)) c.loop-core.yielded _ c.loop-core.yielded_by _ c.next.new.self c.in-None.is c.next.ensures.steps in
    all_followed (constant_byte c.args.walk.now.code) c.loop-core.walk b0 b1 k (schedule_in run) e0 e1 (length c.loop-core.yielded) c.args.records0.now c.args.records1.now c.loop-core.records0 c.loop-core.records1 c.loop-core.tally0 c.loop-core.tally1 (omega (arith, end.1)) (c.loop-core.invariant b0 b1 k e0 e1 h0)
