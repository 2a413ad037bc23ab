use Rattle.xt_asm.proofs.Walking.{Walks}
use Rattle.xt_asm.proofs.walk.pieces_of.Given as goal

abbrev pub invariant-loop-k : goal.invariant-loop-k
invariant-loop-k l = Walks l.lines l.k l.rest l.pieces.items
