use Rattle.std.proofs.Common.{◌≡◌, drop}
use Rattle.xt_judged.specs.Stales.{some_touched}
use Rattle.xt_judged.proofs.stale.some_touched.Given as goal

abbrev pub invariant-loop-byte : goal.invariant-loop-byte
invariant-loop-byte l = some_touched (drop l.byte-index l.bytes) l.from l.size ≡ some_touched l.bytes l.from l.size
