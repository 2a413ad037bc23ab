use Rattle.std.proofs.Common.{◌≡◌, drop}
use Rattle.xt_judged.specs.Stales.{among}
use Rattle.xt_judged.proofs.stale.is_among.Given as goal

abbrev pub invariant-loop-byte : goal.invariant-loop-byte
invariant-loop-byte l = among (drop l.byte-index l.bytes) l.addr ≡ among l.bytes l.addr
