use Rattle.xt_map.specs.Memory.{constant_byte}
use Rattle.xt_frames.specs.Breaches.{Bounds}
use Rattle.xt_frames.specs.Verdict.{Known}
use Rattle.xt_discipline.specs.Walks.{Knows, Reaches}
use Rattle.xt_discipline.proofs.before.follows.Given as goal

abbrev pub invariant-loop-core : goal.invariant-loop-core
invariant-loop-core g l =
    (b0 b1 : Bounds) (k : Known) → Knows l.fn.walk b0 b1 k
    → Reaches (constant_byte l.fn.walk.code) b0 b1 k l.schedule (g.R.Records.left l.fn.records0) (g.R.Records.left l.fn.records1) l.walk l.core-index (g.R.Records.left l.records0) (g.R.Records.left l.records1)
