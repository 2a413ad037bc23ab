use Rattle.std.proofs.Common.{◌≡◌, ◌+◌, ◌-◌}
use Rattle.xt_frames.specs.Breaches.{some_byte}
use Rattle.xt_discipline.specs.ByteMarks.{held_at, is_held}
use Rattle.xt_discipline.proofs.accesses.some_live.Given as goal

abbrev pub invariant-loop-k : goal.invariant-loop-k
invariant-loop-k l = some_byte (λ a. is_held (held_at l.marks a)) (l.addr + l.k) (l.size - l.k) ≡ some_byte (λ a. is_held (held_at l.marks a)) l.addr l.size
