use Rattle.std.proofs.Common.{◌≡◌, ◌+◌, ◌-◌}
use Rattle.xt_frames.specs.Breaches.{some_byte}
use Rattle.xt_discipline.specs.ByteMarks.{held_at}
use Rattle.xt_discipline.proofs.accesses.some_stale.Given as goal

abbrev pub invariant-loop-k : goal.invariant-loop-k
invariant-loop-k l = some_byte (λ a. (held_at l.marks a).stale) (l.addr + l.k) (l.size - l.k) ≡ some_byte (λ a. (held_at l.marks a).stale) l.addr l.size
