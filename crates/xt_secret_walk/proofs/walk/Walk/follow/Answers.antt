use Rattle.std.proofs.Common.{◌≡◌, ◌+◌, ◌<◌, ℕ, Result, Err, drop, length, sym, subst, arith, rules}
use Rattle.std.proofs.lemmas.Iterator.Consumers.{YieldsList-end, YieldsList-from_first, YieldsList-turn}
use Rattle.std.proofs.lemmas.List.{length_push}
use Rattle.std.proofs.lemmas.List.Elements.{All-get_or}
use Rattle.xt_trace.specs.Schedule.{schedule_in}
use Rattle.xt_discipline.specs.Ordered.{turns_left}
use Rattle.xt_discipline.proofs.Orders.{of_cores}
use Rattle.xt_secret_walk.specs.declared.leak.End.{End}
use Rattle.xt_secret_walk.specs.Walked.{IsFollowed}
use Rattle.xt_secret_walk.proofs.Going.{on_after, on_all, on_before, on_end}
use Rattle.xt_secret_walk.proofs.walk.Walk.follow.Goals as goal

pub loop-core-init : goal.loop-core-init
loop-core-init c = λ r on. on

pub turn-requires-clause-core : goal.turn-requires-clause-core
turn-requires-clause-core c =
    let run = c.args.run.now in
    let at = YieldsList-turn (YieldsList-from_first (λ x. x) turns_left (schedule_in run) (search rules)) c.loop-core.yielded _ c.loop-core.yielded_by _ c.next.new.self c.in-Some.core c.in-Some.is c.next.ensures.steps in
    subst (λ (n : ℕ). n < 2) (sym at.1) (All-get_or (λ n. n < 2) (schedule_in run) (length c.loop-core.yielded) c.in-Some.core at.0 (of_cores run))

pub turn-requires-clause-on : goal.turn-requires-clause-on
turn-requires-clause-on c =
    let run = c.args.run.now in
    let at = YieldsList-turn (YieldsList-from_first (λ x. x) turns_left (schedule_in run) (search rules)) c.loop-core.yielded _ c.loop-core.yielded_by _ c.next.new.self c.in-Some.core c.in-Some.is c.next.ensures.steps in
    let q = c.requires.on in
    let n = length c.loop-core.yielded in
    (q.0, drop (n + 1) (schedule_in run), n, on_before q.0 c.loop-core.self (schedule_in run) n c.in-Some.core c.in-Some.core at.0 at.1 (c.loop-core.invariant q.0 q.1))

pub returns-in_err-turn : goal.returns-in_err-turn
returns-in_err-turn c = λ r on.
    let run = c.args.run.now in
    let at = YieldsList-turn (YieldsList-from_first (λ x. x) turns_left (schedule_in run) (search rules)) c.loop-core.yielded _ c.loop-core.yielded_by _ c.next.new.self c.in-Some.core c.in-Some.is c.next.ensures.steps in
    let n = length c.loop-core.yielded in
    let end = c.in_err-turn.field-0.0 in
    let same : c.from_residual.result ≡ Err end = search rules in
    subst (λ (x : Result Unit End). IsFollowed r c.turn.new.self x) (sym same)
    (on_end r c.turn.new.self (schedule_in run) n c.turn.result end c.in_err-turn.was
    (c.turn.ensures r (drop (n + 1) (schedule_in run)) n (on_before r c.loop-core.self (schedule_in run) n c.in-Some.core c.in-Some.core at.0 at.1 (c.loop-core.invariant r on))))

pub loop-core-preserved : goal.loop-core-preserved
loop-core-preserved c = λ r on.
    let run = c.args.run.now in
    let at = YieldsList-turn (YieldsList-from_first (λ x. x) turns_left (schedule_in run) (search rules)) c.loop-core.yielded _ c.loop-core.yielded_by _ c.next.new.self c.in-Some.core c.in-Some.is c.next.ensures.steps in
    let n = length c.loop-core.yielded in
    rw length_push (on_after r c.turn.new.self (schedule_in run) n c.turn.result c.in_ok-turn.field-0 c.in_ok-turn.was
    (c.turn.ensures r (drop (n + 1) (schedule_in run)) n (on_before r c.loop-core.self (schedule_in run) n c.in-Some.core c.in-Some.core at.0 at.1 (c.loop-core.invariant r on))))

pub returns : goal.returns
returns c = λ r on.
    let run = c.args.run.now in
    let end = YieldsList-end (YieldsList-from_first (λ x. x) turns_left (schedule_in run) (search rules)) c.loop-core.yielded _ c.loop-core.yielded_by _ c.next.new.self c.in-None.is c.next.ensures.steps in
    on_all r c.loop-core.self (schedule_in run) (length c.loop-core.yielded) (omega (arith, end.1)) (c.loop-core.invariant r on)
