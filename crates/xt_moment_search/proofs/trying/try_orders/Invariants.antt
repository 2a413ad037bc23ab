use Rattle.xt_moment_search.specs.Told.{AreReal}
use Rattle.xt_moment_search.proofs.trying.try_orders.Given as goal

abbrev pub invariant-loop-number : goal.invariant-loop-number
invariant-loop-number l = AreReal l.image l.options l.words l.list.items
