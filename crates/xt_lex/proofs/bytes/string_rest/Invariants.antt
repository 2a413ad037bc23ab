-- The bytes that are held and those that are left to read are the string's.
use Rattle.std.proofs.Common.{◌≡◌, ◌+◌, length}
use Rattle.xt_lex.specs.Fronts.{string_body}
use Rattle.xt_lex.proofs.StringLemmas.{behind}
use Rattle.xt_lex.proofs.bytes.string_rest.Given as goal

abbrev pub invariant-loop-byte : goal.invariant-loop-byte
invariant-loop-byte l = record {
  body : behind l.held.items l.width (string_body l.rest) ≡ string_body l.bytes;
  width : l.width + length l.rest ≡ length l.bytes;
}

abbrev pub decreases-loop-byte : goal.decreases-loop-byte
decreases-loop-byte l = length l.rest
