use Rattle.xt_moment_search.proofs.found.is_in.Given as goal

abbrev pub invariant-loop-found : goal.invariant-loop-found
invariant-loop-found l = Unit {0}
