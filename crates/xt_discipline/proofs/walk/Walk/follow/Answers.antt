use Rattle.std.proofs.Common.{◌≡◌, ◌<◌, ℕ, Result, Err, length, refl, sym, ap, ◌∙◌, subst, arith, rules}
use Rattle.std.proofs.lemmas.Iterator.Consumers.{YieldsList-end, YieldsList-from_first, YieldsList-turn}
use Rattle.std.proofs.lemmas.List.{length_push}
use Rattle.std.proofs.lemmas.List.Elements.{All-get_or}
use Rattle.xt_map.specs.Memory.{constant_byte}
use Rattle.xt_frames.specs.declared.kinds.Judged.{Judged}
use Rattle.xt_discipline.specs.Ordered.{turns_left}
use Rattle.xt_discipline.specs.Schedules.{schedule_in}
use Rattle.xt_discipline.specs.Walks.{found_on}
use Rattle.xt_discipline.proofs.Orders.{of_cores}
use Rattle.xt_discipline.proofs.Walking.{reach_all, reach_err, reach_none, reach_room, reach_turn}
use Rattle.xt_discipline.proofs.walk.Walk.follow.Goals as goal

pub loop-core-init : goal.loop-core-init
loop-core-init g c b0 b1 k h =
    reach_none (constant_byte c.args.self.now.code) c.args.self.now b0 b1 k (schedule_in c.args.run.now) (g.R.Records.left c.args.records0.now) (g.R.Records.left c.args.records1.now) h refl

pub turn-requires-clause-core : goal.turn-requires-clause-core
turn-requires-clause-core g c =
    let run = c.args.run.now in
    let at = YieldsList-turn (YieldsList-from_first (λ x. x) turns_left (schedule_in run) (search rules)) c.loop-core.yielded _ c.loop-core.yielded_by _ c.next.new.self c.in-Some.core c.in-Some.is c.next.ensures.steps in
    subst (λ (n : ℕ). n < 2) (sym at.1) (All-get_or (λ n. n < 2) (schedule_in run) (length c.loop-core.yielded) c.in-Some.core at.0 (of_cores run))

pub turn-requires-clause-known : goal.turn-requires-clause-known
turn-requires-clause-known g c =
    let q = c.requires.known in
    let r = c.loop-core.invariant q.0 q.1 q.2 q.3 in
    (q.0, q.1, r.known, r.knows)

pub turn-requires-clause-room : goal.turn-requires-clause-room
turn-requires-clause-room g c =
    let run = c.args.run.now in
    let at = YieldsList-turn (YieldsList-from_first (λ x. x) turns_left (schedule_in run) (search rules)) c.loop-core.yielded _ c.loop-core.yielded_by _ c.next.new.self c.in-Some.core c.in-Some.is c.next.ensures.steps in
    let q = c.requires.known in
    reach_room (constant_byte c.args.self.now.code) c.args.self.now c.loop-core.self q.0 q.1 q.2 (schedule_in run) (length c.loop-core.yielded) (g.R.Records.left c.args.records0.now) (g.R.Records.left c.args.records1.now)
    (g.R.Records.left c.loop-core.records0) (g.R.Records.left c.loop-core.records1) q.3 (c.loop-core.invariant q.0 q.1 q.2 q.3) at.0 c.requires.room

pub returns-in_err-turn : goal.returns-in_err-turn
returns-in_err-turn g c b0 b1 k h =
    let run = c.args.run.now in
    let at = YieldsList-turn (YieldsList-from_first (λ x. x) turns_left (schedule_in run) (search rules)) c.loop-core.yielded _ c.loop-core.yielded_by _ c.next.new.self c.in-Some.core c.in-Some.is c.next.ensures.steps in
    let r = c.loop-core.invariant b0 b1 k h in
    let j = c.in_err-turn.field-0.0 in
    let same : c.from_residual.result ≡ Err j = search rules in
    ap (λ (x : Result Unit Judged). found_on x) same
    ∙ reach_err (constant_byte c.args.self.now.code) c.loop-core.self c.turn.new.self b0 b1 k (schedule_in run) (length c.loop-core.yielded) c.in-Some.core c.in-Some.core (g.R.Records.left c.args.records0.now) (g.R.Records.left c.args.records1.now)
    (g.R.Records.left c.loop-core.records0) (g.R.Records.left c.loop-core.records1) (g.R.Records.left c.turn.new.records0) (g.R.Records.left c.turn.new.records1)
    c.turn.result j c.in_err-turn.was at.0 at.1 r (c.turn.ensures.turned b0 b1 r.known r.knows)

pub loop-core-preserved : goal.loop-core-preserved
loop-core-preserved g c b0 b1 k h =
    let run = c.args.run.now in
    let at = YieldsList-turn (YieldsList-from_first (λ x. x) turns_left (schedule_in run) (search rules)) c.loop-core.yielded _ c.loop-core.yielded_by _ c.next.new.self c.in-Some.core c.in-Some.is c.next.ensures.steps in
    let r = c.loop-core.invariant b0 b1 k h in
    rw length_push (reach_turn (constant_byte c.args.self.now.code) c.loop-core.self c.turn.new.self b0 b1 k (schedule_in run) (length c.loop-core.yielded) c.in-Some.core c.in-Some.core (g.R.Records.left c.args.records0.now) (g.R.Records.left c.args.records1.now)
    (g.R.Records.left c.loop-core.records0) (g.R.Records.left c.loop-core.records1) (g.R.Records.left c.turn.new.records0) (g.R.Records.left c.turn.new.records1)
    c.turn.result c.in_ok-turn.field-0 c.in_ok-turn.was at.0 at.1 r (c.turn.ensures.turned b0 b1 r.known r.knows))

pub returns : goal.returns
returns g c b0 b1 k h =
    let run = c.args.run.now in
    let end = YieldsList-end (YieldsList-from_first (λ x. x) turns_left (schedule_in run) (search rules)) c.loop-core.yielded _ c.loop-core.yielded_by _ c.next.new.self c.in-None.is c.next.ensures.steps in
    reach_all (constant_byte c.args.self.now.code) c.loop-core.self b0 b1 k (schedule_in run) (length c.loop-core.yielded) (g.R.Records.left c.args.records0.now) (g.R.Records.left c.args.records1.now)
    (g.R.Records.left c.loop-core.records0) (g.R.Records.left c.loop-core.records1) (omega (arith, end.1)) (c.loop-core.invariant b0 b1 k h)
