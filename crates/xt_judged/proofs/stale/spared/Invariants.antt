use Rattle.std.proofs.Common.{◌≡◌, ℕ, ◌&&◌, drop}
use Rattle.xt_judged.specs.Past.{is_spared}
use Rattle.xt_judged.specs.Stales.{among}
use Rattle.xt_judged.proofs.Among.{walked}
use Rattle.xt_judged.proofs.stale.spared.Given as goal

abbrev pub invariant-loop-byte : goal.invariant-loop-byte
invariant-loop-byte l = (a : ℕ) → walked (is_spared l.access l.call) l.rest.items (drop l.byte-index l.bytes) a ≡ (among l.bytes a && is_spared l.access l.call a)
