use Rattle.std.proofs.Common.{◌≡◌, ◌+◌, ◌<◌, ℕ}
use Rattle.xt_discipline.specs.ByteMarks.{held_at, nothing}
use Rattle.xt_shadow.proofs.quiet.are_unknown.Given as goal

abbrev pub invariant-loop-k : goal.invariant-loop-k
invariant-loop-k l = (j : ℕ) → j < l.k → held_at l.marks (l.addr + j) ≡ nothing
