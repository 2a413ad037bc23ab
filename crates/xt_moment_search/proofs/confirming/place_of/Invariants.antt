use Rattle.std.proofs.Common.{◌≡◌}
use Rattle.xt_moment_search.proofs.confirming.place_of.Given as goal

abbrev pub invariant-loop-found : goal.invariant-loop-found
invariant-loop-found l = l.place ≡ l.found-index
