use Rattle.std.proofs.Common.{◌≡◌, ℕ, ◌≤◌, List, length, ◌∙◌, ap, arith}
use Rattle.std.proofs.lemmas.List.{length-take}
use Rattle.xt_discipline.specs.Schedules.{schedule_in}
use Rattle.xt_discipline.proofs.Lengths.{schedule_short}
use Rattle.xt_discipline.proofs.before.walk_before.Goals as goal

pub follows-requires-clause-room : goal.follows-requires-clause-room
follows-requires-clause-room g c =
    let o = c.in_ok-walk.ensures in
    let s0 : c.in_ok-walk.walk.side0.steps ≡ 0 = o.steps0 in
    let s1 : c.in_ok-walk.walk.side1.steps ≡ 0 = o.steps1 in
    let l : length c.as_slice-2.result.now ≡ length (schedule_in c.args.run.now) = ap (λ (xs : List ℕ). length xs) (c.as_slice-2.ensures ∙ c.in_ok-schedule.ensures.schedule) in
    let short : length (schedule_in c.args.run.now) ≤ 8000000 = schedule_short c.args.run.now c.requires.schedule in
    omega (arith, s0, s1, l, short, length-take c.args.position c.as_slice-2.result.now, c.requires.within)
