use Rattle.std.proofs.Common.{◌≡◌, drop}
use Rattle.xt_judged.specs.Stales.{some_stored}
use Rattle.xt_judged.proofs.stale.is_written.Given as goal

abbrev pub invariant-loop-byte : goal.invariant-loop-byte
invariant-loop-byte l = some_stored (drop l.byte-index l.bytes) l.access ≡ some_stored l.bytes l.access
