use Rattle.std.proofs.Common.{◌≡◌, replicate, None}
use Rattle.xt_layout.proofs.addresses.no_homes.Given as goal

abbrev pub invariant-loop-k : goal.invariant-loop-k
invariant-loop-k l = l.homes.items ≡ replicate l.k None
