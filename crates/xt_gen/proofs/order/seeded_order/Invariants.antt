-- The blocks so far, and those that are left.
use Rattle.std.proofs.Common.{length, ◌-◌}
use Rattle.xt_gen.proofs.Ordered.{Filled}
use Rattle.xt_gen.proofs.order.seeded_order.Given as goal

abbrev pub invariant-filling : goal.invariant-filling
invariant-filling l = Filled l.fn.seed l.fn.count l.x l.order.items

abbrev pub decreases-filling : goal.decreases-filling
decreases-filling l = l.fn.count - length l.order.items
