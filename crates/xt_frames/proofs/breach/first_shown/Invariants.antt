use Rattle.std.proofs.Common.{◌≡◌, drop}
use Rattle.xt_frames.specs.Breaches.{first_shown}
use Rattle.xt_frames.specs.KeptFrameState.{shown_tests}
use Rattle.xt_frames.proofs.breach.first_shown.Given as goal

abbrev pub invariant-loop-t : goal.invariant-loop-t
invariant-loop-t l = first_shown (shown_tests (drop l.t-index l.tests)) ≡ first_shown (shown_tests l.tests)
