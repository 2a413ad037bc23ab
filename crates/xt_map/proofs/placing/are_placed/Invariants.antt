-- The segments so far are well placed, and none of them overlaps one before it.
use Rattle.xt_map.proofs.Placed.{Upto}
use Rattle.xt_map.proofs.placing.are_placed.Given as goal

abbrev pub invariant-loop-number : goal.invariant-loop-number
invariant-loop-number l = Upto l.segments l.number
