use Rattle.std.proofs.Common.{◌≤◌, length, arith}
use Rattle.xt_core.proofs.Scheduled.{has_schedule}
use Rattle.xt_frames.specs.Walked.{opening_walked}
use Rattle.xt_discipline.specs.Schedules.{schedule_in}
use Rattle.xt_discipline.proofs.Lengths.{schedule_short}
use Rattle.xt_use_shadow.proofs.Walking.{opening_known, turns_found}
use Rattle.xt_use_shadow.proofs.judging.judge_turns.Goals as goal

pub judge-requires-clause-schedule : goal.judge-requires-clause-schedule
judge-requires-clause-schedule c = has_schedule c.args.image.now c.args.run.now c.requires.run

pub judge-requires-clause-known : goal.judge-requires-clause-known
judge-requires-clause-known c =
    let image = c.args.image.now in
    let o = c.args.run.now.options in
    let opened = c.in_ok-walk.ensures in (
      (opening_walked 0 image.entry o).bounds,
      (opening_walked 1 o.entry1 o).bounds,
      opening_known c.args.discipline image c.args.run.now,
      record { cores = opened.cores; knows = opened.opened.knows },
    )

pub judge-requires-clause-room : goal.judge-requires-clause-room
judge-requires-clause-room c =
    let o = c.in_ok-walk.ensures.opened in
    let s0 = o.steps0 in
    let s1 = o.steps1 in
    let short : length (schedule_in c.args.run.now) ≤ 8000000 = schedule_short c.args.run.now (has_schedule c.args.image.now c.args.run.now c.requires.run) in
    omega (arith, s0, s1, short)

pub returns : goal.returns
returns c =
    let image = c.args.image.now in
    let run = c.args.run.now in
    let a = opening_walked 0 image.entry run.options in
    let b = opening_walked 1 run.options.entry1 run.options in
    let o = c.in_ok-walk.ensures in
    turns_found c.args.discipline image run c.args.may_step c.in_ok-walk.walk c.judge.result o
    (c.judge.ensures a.bounds b.bounds (opening_known c.args.discipline image run) (record { cores = o.cores; knows = o.opened.knows }))
