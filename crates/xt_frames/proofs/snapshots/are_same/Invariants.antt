use Rattle.std.proofs.Common.{◌≡◌, ℕ, ◌<◌, get_or}
use Rattle.xt_frames.specs.KeptFrameState.{frame_of}
use Rattle.xt_frames.proofs.Newest.{nobody}
use Rattle.xt_frames.proofs.snapshots.are_same.Given as goal

abbrev pub invariant-loop-n : goal.invariant-loop-n
invariant-loop-n l = (k : ℕ) → k < l.n → frame_of (get_or l.a k nobody) ≡ frame_of (get_or l.b k nobody)
