use Rattle.std.proofs.Common.{◌≡◌, drop}
use Rattle.std.specs.Prelude.{fold, bit_xor}
use Rattle.xt_image.proofs.bytes.xor_all.Given as goal

-- what is left comes to the whole
abbrev pub invariant-loop-byte : goal.invariant-loop-byte
invariant-loop-byte l = fold bit_xor l.total (drop l.byte-index l.bytes) ≡ fold bit_xor l.sum l.bytes
