use Rattle.std.proofs.Common.{◌≡◌, ◌≤◌, length, arith}
use Rattle.std.proofs.lemmas.Result.{on_ok_weaker}
use Rattle.xt_frames.specs.Verdict.{opening_known}
use Rattle.xt_frames.specs.Walked.{opening_walked}
use Rattle.xt_discipline.specs.Schedules.{schedule_in}
use Rattle.xt_discipline.proofs.Lengths.{schedule_short}
use Rattle.xt_core.proofs.Scheduled.{has_schedule}
use Rattle.xt_profile.proofs.Closing.{cut_is, follows_none, from}
use Rattle.xt_profile.proofs.counting.count_to_cut.Goals as goal

pub follow-requires-clause-schedule : goal.follow-requires-clause-schedule
follow-requires-clause-schedule c =
    has_schedule c.args.image.now c.args.run.now c.requires.run

pub follow-requires-clause-known : goal.follow-requires-clause-known
follow-requires-clause-known c =
    let image = c.args.image.now in
    let r = c.args.run.now in
    let a = opening_walked 0 image.entry r.options in
    let b = opening_walked 1 r.options.entry1 r.options in
    let d = c.requires.fresh.0 in
    let h = c.requires.fresh.1 in
    let pass = c.in_ok-walk in (
      a.bounds,
      b.bounds,
      opening_known a.state b.state,
      from d image.entry,
      from d r.options.entry1,
      follows_none d pass.walk image.segments image r (schedule_in r) pass.records0 pass.records1
          c.args.tally0.now c.args.tally1.now c.in_ok-walk.ensures.walk h.0 h.1,
    )

pub follow-requires-clause-room : goal.follow-requires-clause-room
follow-requires-clause-room c =
    let r = c.args.run.now in
    let o = c.in_ok-walk.ensures.walk in
    let s0 : c.in_ok-walk.walk.side0.steps ≡ 0 = o.steps0 in
    let s1 : c.in_ok-walk.walk.side1.steps ≡ 0 = o.steps1 in
    let schedule = has_schedule c.args.image.now r c.requires.run in
    let short : length (schedule_in r) ≤ 8000000 = schedule_short r schedule in
    omega (arith, s0, s1, short)

pub returns : goal.returns
returns c =
    let pass = c.in_ok-walk in
    let opened = c.in_ok-walk.ensures in
    on_ok_weaker c.follow.result
    (λ follows d h. cut_is d pass.walk c.args.image.now c.args.run.now pass.records0 pass.records1 c.args.tally0.now
    c.args.tally1.now c.follow.new.tally0 c.follow.new.tally1 opened.walk opened.zero opened.one h
    follows) c.follow.ensures
