use Rattle.std.proofs.Common.{◌≡◌, ◌<◌, ℕ, Result, Err, length, refl, sym, subst, arith, rules}
use Rattle.std.proofs.lemmas.Iterator.Consumers.{YieldsList-end, YieldsList-from_first, YieldsList-turn}
use Rattle.std.proofs.lemmas.List.{length_push}
use Rattle.std.proofs.lemmas.List.Elements.{All-get_or}
use Rattle.xt_map.specs.Memory.{constant_byte}
use Rattle.xt_discipline.specs.Ordered.{turns_left}
use Rattle.xt_discipline.specs.Schedules.{schedule_in}
use Rattle.xt_discipline.proofs.Orders.{of_cores}
use Rattle.xt_use_shadow.specs.declared.seeing.End.{End}
use Rattle.xt_use_shadow.specs.Shadows.{IsFound, judged_from}
use Rattle.xt_use_shadow.proofs.Walking.{all_reached, both, end_found, more_reached, none_reached, room_left}
use Rattle.xt_use_shadow.proofs.walk.UseShadowWalk.follow.Goals as goal

pub loop-core-init : goal.loop-core-init
loop-core-init c b0 b1 k h = none_reached (constant_byte c.args.self.now.code) b0 b1 k (schedule_in c.args.run.now) c.args.self.now h refl

pub turn-requires-clause-core : goal.turn-requires-clause-core
turn-requires-clause-core c =
    let run = c.args.run.now in
    let at = YieldsList-turn (YieldsList-from_first (λ x. x) turns_left (schedule_in run) (search rules)) c.loop-core.yielded _ c.loop-core.yielded_by _ c.next.new.self c.in-Some.core c.in-Some.is c.next.ensures.steps in
    subst (λ (n : ℕ). n < 2) (sym at.1) (All-get_or (λ n. n < 2) (schedule_in run) (length c.loop-core.yielded) c.in-Some.core at.0 (of_cores run))

pub turn-requires-clause-known : goal.turn-requires-clause-known
turn-requires-clause-known c =
    let q = c.requires.known in
    let cs = schedule_in c.args.run.now in
    let r = c.loop-core.invariant q.0 q.1 q.2 q.3 in
    (q.0, q.1, r.reaches.known, both (constant_byte c.args.self.now.code) q.0 q.1 q.2 cs c.args.self.now c.loop-core.self (length c.loop-core.yielded) r)

pub turn-requires-clause-room : goal.turn-requires-clause-room
turn-requires-clause-room c =
    let run = c.args.run.now in
    let at = YieldsList-turn (YieldsList-from_first (λ x. x) turns_left (schedule_in run) (search rules)) c.loop-core.yielded _ c.loop-core.yielded_by _ c.next.new.self c.in-Some.core c.in-Some.is c.next.ensures.steps in
    let q = c.requires.known in
    room_left (constant_byte c.args.self.now.code) q.0 q.1 q.2 (schedule_in run) c.args.self.now c.loop-core.self (length c.loop-core.yielded) (c.loop-core.invariant q.0 q.1 q.2 q.3) q.3 at.0 c.requires.room

pub returns-in_err-turn : goal.returns-in_err-turn
returns-in_err-turn c b0 b1 k h =
    let run = c.args.run.now in
    let code = constant_byte c.args.self.now.code in
    let cs = schedule_in run in
    let n = length c.loop-core.yielded in
    let at = YieldsList-turn (YieldsList-from_first (λ x. x) turns_left cs (search rules)) c.loop-core.yielded _ c.loop-core.yielded_by _ c.next.new.self c.in-Some.core c.in-Some.is c.next.ensures.steps in
    let r = c.loop-core.invariant b0 b1 k h in
    let end = c.in_err-turn.field-0.0 in
    let same : c.from_residual.result ≡ Err end = search rules in
    subst (λ (x : Result Unit End). IsFound code (judged_from code b0 b1 cs k c.args.self.now) k c.args.self.now c.turn.new.self x) (sym same)
    (end_found code b0 b1 k cs c.args.self.now c.loop-core.self n r c.turn.new.self c.in-Some.core c.in-Some.core at.0 at.1 c.turn.result end c.in_err-turn.was
    (c.turn.ensures.turned b0 b1 r.reaches.known (both code b0 b1 k cs c.args.self.now c.loop-core.self n r)))

pub loop-core-preserved : goal.loop-core-preserved
loop-core-preserved c b0 b1 k h =
    let run = c.args.run.now in
    let code = constant_byte c.args.self.now.code in
    let cs = schedule_in run in
    let n = length c.loop-core.yielded in
    let at = YieldsList-turn (YieldsList-from_first (λ x. x) turns_left cs (search rules)) c.loop-core.yielded _ c.loop-core.yielded_by _ c.next.new.self c.in-Some.core c.in-Some.is c.next.ensures.steps in
    let r = c.loop-core.invariant b0 b1 k h in
    rw length_push (more_reached code b0 b1 k cs c.args.self.now c.loop-core.self n r c.turn.new.self c.in-Some.core c.in-Some.core at.0 at.1 c.turn.result c.in_ok-turn.field-0 c.in_ok-turn.was c.turn.ensures.never
    (c.turn.ensures.turned b0 b1 r.reaches.known (both code b0 b1 k cs c.args.self.now c.loop-core.self n r)))

pub returns : goal.returns
returns c b0 b1 k h =
    let run = c.args.run.now in
    let cs = schedule_in run in
    let end = YieldsList-end (YieldsList-from_first (λ x. x) turns_left cs (search rules)) c.loop-core.yielded _ c.loop-core.yielded_by _ c.next.new.self c.in-None.is c.next.ensures.steps in
    all_reached (constant_byte c.args.self.now.code) b0 b1 k cs c.args.self.now c.loop-core.self (length c.loop-core.yielded) (c.loop-core.invariant b0 b1 k h) (omega (arith, end.1))
