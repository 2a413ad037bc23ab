use Rattle.std.proofs.Common.{◌≡◌, ℕ, true}
use Rattle.xt_map.specs.Touching.{touches}
use Rattle.xt_frames.specs.Frames.{value_or_zero}
use Rattle.xt_frames.specs.SaveAreas.{is_live}
use Rattle.xt_judged.proofs.Areas.{covered}
use Rattle.xt_judged.proofs.live.may_be_live.Given as goal

abbrev pub invariant-loop-back : goal.invariant-loop-back
invariant-loop-back l =
    (a : ℕ) → touches l.from l.size a ≡ true
    → covered l.frames.bounds.range.hi (value_or_zero l.frames.state.seen 1) l.frames.state.frames l.back l.by a
    ≡ is_live l.frames.bounds.range l.frames.state a
