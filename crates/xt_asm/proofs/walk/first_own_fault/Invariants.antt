use Rattle.xt_layout.proofs.Each.{Finds}
use Rattle.xt_asm.specs.Walks.{own_at, own_first}
use Rattle.xt_asm.proofs.walk.first_own_fault.Given as goal

-- no line so far has a fault
abbrev pub invariant-loop-k : goal.invariant-loop-k
invariant-loop-k l = Finds (own_at l.lines) l.k l.lines (own_first l.lines)
