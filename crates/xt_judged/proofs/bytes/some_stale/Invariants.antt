use Rattle.std.proofs.Common.{◌≡◌, ◌+◌, ◌-◌}
use Rattle.xt_frames.specs.Breaches.{some_byte}
use Rattle.xt_judged.specs.Stales.{among}
use Rattle.xt_judged.proofs.bytes.some_stale.Given as goal

abbrev pub invariant-loop-k : goal.invariant-loop-k
invariant-loop-k l = some_byte (among l.stale) (l.addr + l.k) (l.size - l.k) ≡ some_byte (among l.stale) l.addr l.size
