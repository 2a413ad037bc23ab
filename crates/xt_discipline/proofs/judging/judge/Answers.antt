use Rattle.std.proofs.Common.{◌≡◌, ◌≤◌, length, true, refl, sym, ◌∙◌, arith}
use Rattle.xt_frames.specs.Verdict.{opening_known}
use Rattle.xt_frames.specs.Walked.{opening_walked}
use Rattle.xt_discipline.specs.Schedules.{schedule_in}
use Rattle.xt_discipline.specs.Verdicts.{are_yes}
use Rattle.xt_discipline.proofs.Lengths.{schedule_short}
use Rattle.xt_discipline.proofs.Openings.{judged_is}
use Rattle.xt_discipline.proofs.judging.judge.Goals as goal

pub judge-requires-clause-room : goal.judge-requires-clause-room
judge-requires-clause-room g c =
    let o = c.in_ok-walk.ensures in
    let s0 : c.in_ok-walk.walk.side0.steps ≡ 0 = o.steps0 in
    let s1 : c.in_ok-walk.walk.side1.steps ≡ 0 = o.steps1 in
    let short : length (schedule_in c.args.run.now) ≤ 8000000 = schedule_short c.args.run.now c.requires.schedule in
    omega (arith, s0, s1, short)

pub returns : goal.returns
returns g c =
    let image = c.args.image.now in
    let o = c.args.run.now.options in
    let a = opening_walked 0 image.entry o in
    let b = opening_walked 1 o.entry1 o in
    let begun = c.in_ok-walk.ensures in
    let good : are_yes c.args.handlers.now ≡ true = sym c.are_yes.ensures ∙ c.if-not-are_yes.false in
    judged_is c.in_ok-walk.walk c.in_ok-code.code image c.args.run.now (schedule_in c.args.run.now) (g.R.Records.left c.args.records0.now) (g.R.Records.left c.args.records1.now) c.judge.result (are_yes c.args.handlers.now)
    good begun (c.in_ok-code.ensures ∙ c.as_slice.ensures) refl (c.judge.ensures a.bounds b.bounds (opening_known a.state b.state) begun.knows)
