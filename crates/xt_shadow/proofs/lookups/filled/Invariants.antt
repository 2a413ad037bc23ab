use Rattle.std.proofs.Common.{◌≡◌, replicate}
use Rattle.xt_shadow.proofs.lookups.filled.Given as goal

abbrev pub invariant-loop-place : goal.invariant-loop-place
invariant-loop-place l = l.places.items ≡ replicate l._place l.lookup
