use Rattle.std.proofs.Common.{◌≡◌}
use Rattle.xt_frames.specs.Frames.{value_or_zero}
use Rattle.xt_frames.specs.SaveAreas.{is_live}
use Rattle.xt_judged.proofs.Areas.{covered}
use Rattle.xt_judged.proofs.live.is_live.Given as goal

abbrev pub invariant-loop-back : goal.invariant-loop-back
invariant-loop-back l =
    covered l.frames.bounds.range.hi (value_or_zero l.frames.state.seen 1) l.frames.state.frames l.back l.by l.addr
    ≡ is_live l.frames.bounds.range l.frames.state l.addr
