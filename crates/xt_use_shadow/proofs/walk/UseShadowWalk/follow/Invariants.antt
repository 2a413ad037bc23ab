use Rattle.std.proofs.Common.{length}
use Rattle.xt_map.specs.Memory.{constant_byte}
use Rattle.xt_frames.specs.Breaches.{Bounds}
use Rattle.xt_discipline.specs.Schedules.{schedule_in}
use Rattle.xt_uses.specs.UseWalk.{UseKnown}
use Rattle.xt_use_shadow.specs.Shadows.{HasReached, KnowsBoth}
use Rattle.xt_use_shadow.proofs.walk.UseShadowWalk.follow.Given as goal

abbrev pub invariant-loop-core : goal.invariant-loop-core
invariant-loop-core l =
    (b0 b1 : Bounds) (k : UseKnown) → KnowsBoth l.fn.self b0 b1 k → HasReached (constant_byte l.fn.self.code) b0 b1 k (schedule_in l.run) l.fn.self l.self (length l.yielded)
