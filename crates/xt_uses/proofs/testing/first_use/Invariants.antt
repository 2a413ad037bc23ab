use Rattle.std.proofs.Common.{◌≡◌, drop}
use Rattle.xt_frames.specs.Breaches.{first_shown}
use Rattle.xt_frames.specs.KeptFrameState.{shown_tests}
use Rattle.xt_uses.specs.UseBreaches.{use_tests}
use Rattle.xt_uses.proofs.testing.first_use.Given as goal

abbrev pub invariant-loop-t : goal.invariant-loop-t
invariant-loop-t l = first_shown (use_tests l.own.unset l.own.stale l.own.movsp (shown_tests (drop l.t-index l.tests))) ≡ first_shown (use_tests l.own.unset l.own.stale l.own.movsp (shown_tests l.tests))
