use Rattle.std.proofs.Common.{length}
use Rattle.xt_map.specs.Memory.{constant_byte}
use Rattle.xt_frames.specs.Breaches.{Bounds}
use Rattle.xt_frames.specs.Verdict.{Known}
use Rattle.xt_discipline.specs.Schedules.{schedule_in}
use Rattle.xt_shadow.specs.Shadows.{HasReached, KnowsBoth}
use Rattle.xt_shadow.proofs.walk.ShadowWalk.follow.Given as goal

abbrev pub invariant-loop-core : goal.invariant-loop-core
invariant-loop-core l =
    (b0 b1 : Bounds) (k : Known) → KnowsBoth l.fn.self b0 b1 k → HasReached (constant_byte l.fn.self.code) b0 b1 k (schedule_in l.run) l.fn.self l.self (length l.yielded)
