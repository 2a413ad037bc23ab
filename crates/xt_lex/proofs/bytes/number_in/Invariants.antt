-- The number so far with the digits that are left gives the number.
use Rattle.std.proofs.Common.{◌≡◌, ◌^◌, ◌<◌, ◌+◌, ◌*◌, drop, fold}
use Rattle.xt_lex.specs.TextBytes.{digit_of, number_of}
use Rattle.xt_lex.proofs.bytes.number_in.Given as goal

abbrev pub invariant-loop-byte : goal.invariant-loop-byte
invariant-loop-byte l = record {
  value : fold (λ n b. n * l.base + digit_of b) l.number (drop l.byte-index l.digits) ≡ number_of l.base l.digits;
  below : l.number < 2 ^ 32;
}
