use Rattle.std.proofs.Common.{◌≡◌, ◌≤◌, Option, length, sym, ◌∙◌, subst, arith, true}
use Rattle.xt_core.proofs.Scheduled.{has_schedule}
use Rattle.xt_map.specs.Memory.{constant_byte}
use Rattle.xt_frames.specs.declared.kinds.Judged.{Judged}
use Rattle.xt_frames.specs.Verdict.{opening_known}
use Rattle.xt_discipline.specs.Schedules.{schedule_in}
use Rattle.xt_discipline.specs.Verdicts.{are_yes, opened0, opened1}
use Rattle.xt_discipline.proofs.Lengths.{schedule_short}
use Rattle.xt_shadow.specs.Shadows.{IsFoundIn, judged_from}
use Rattle.xt_shadow.proofs.Walking.{judged_is}
use Rattle.xt_shadow.proofs.judging.judge_run.Goals as goal

pub judge-requires-clause-schedule : goal.judge-requires-clause-schedule
judge-requires-clause-schedule c = has_schedule c.args.image.now c.args.run.now c.requires.run

pub judge-requires-clause-known : goal.judge-requires-clause-known
judge-requires-clause-known c =
    let a = opened0 c.args.image.now c.args.run.now.options in
    let b = opened1 c.args.run.now.options in
    (a.bounds, b.bounds, opening_known a.state b.state, c.in_ok-walk.ensures.both)

pub judge-requires-clause-room : goal.judge-requires-clause-room
judge-requires-clause-room c =
    let o = c.in_ok-walk.ensures in
    let s0 = o.steps0 in
    let s1 = o.steps1 in
    let short : length (schedule_in c.args.run.now) ≤ 8000000 = schedule_short c.args.run.now (has_schedule c.args.image.now c.args.run.now c.requires.run) in
    omega (arith, s0, s1, short)

pub returns-in-Some : goal.returns-in-Some
returns-in-Some c =
    let image = c.args.image.now in
    let run = c.args.run.now in
    let w = c.in_ok-walk.walk in
    let a = opened0 image run.options in
    let b = opened1 run.options in
    let k = opening_known a.state b.state in
    let good : are_yes c.args.handlers.now ≡ true = sym c.are_yes.ensures ∙ c.if-not-are_yes.false in
    let o = c.in_ok-walk.ensures in
    let F : Option Judged → Type 0 = λ x. IsFoundIn (judged_from (constant_byte w.code) a.bounds b.bounds (schedule_in run) k w) x in
    judged_is image run w (are_yes c.args.handlers.now) c.in-Some.judged good o (subst F c.in-Some.is (c.judge.ensures a.bounds b.bounds k o.both))
