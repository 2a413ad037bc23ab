-- Both cores are counted so far.
use Rattle.std.proofs.Common.{length}
use Rattle.xt_map.specs.Memory.{constant_byte}
use Rattle.xt_frames.specs.Breaches.{Bounds}
use Rattle.xt_frames.specs.Verdict.{Known}
use Rattle.xt_discipline.specs.Schedules.{schedule_in}
use Rattle.xt_profile.specs.CountedSteps.{Origin}
use Rattle.xt_profile.specs.Follows.{Follows}
use Rattle.xt_profile.proofs.counting.follow.Given as goal

abbrev pub invariant-loop-core : goal.invariant-loop-core
invariant-loop-core l =
    (b0 b1 : Bounds) (k : Known) (e0 e1 : Origin)
    → Follows (constant_byte l.fn.walk.code) b0 b1 k (schedule_in l.run) e0 e1 l.fn.records0 l.fn.records1 l.fn.walk 0 l.fn.records0 l.fn.records1 l.fn.tally0 l.fn.tally1
    → Follows (constant_byte l.fn.walk.code) b0 b1 k (schedule_in l.run) e0 e1 l.fn.records0 l.fn.records1 l.walk (length l.yielded) l.records0 l.records1 l.tally0 l.tally1
