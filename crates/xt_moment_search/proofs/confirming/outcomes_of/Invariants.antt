use Rattle.xt_moment_search.specs.Told.{AreReal}
use Rattle.xt_moment_search.proofs.confirming.outcomes_of.Given as goal

abbrev pub invariant-loop-number : goal.invariant-loop-number
invariant-loop-number l = AreReal l.image l.options l.words l.list.items
