use Rattle.std.proofs.Common.{◌≡◌}
use Rattle.xt_judged.proofs.stale.place_of.Given as goal

abbrev pub invariant-loop-byte : goal.invariant-loop-byte
invariant-loop-byte l = l.place ≡ l.byte-index
