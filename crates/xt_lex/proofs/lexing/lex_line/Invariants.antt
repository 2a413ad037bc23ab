-- The tokens so far and those of the bytes that are left are the line's.
use Rattle.std.proofs.Common.{◌≡◌, ◌+◌, ◌++◌, length}
use Rattle.xt_lex.specs.Tokens.{line_tokens}
use Rattle.xt_lex.proofs.LineLemmas.{from_here}
use Rattle.xt_lex.proofs.lexing.lex_line.Given as goal

abbrev pub invariant-bytes : goal.invariant-bytes
invariant-bytes l = record {
  tokens : l.tokens.items ++ from_here l.line l.column l.rest ≡ l.initial.tokens.items ++ line_tokens l.line l.bytes;
  column : l.column + length l.rest ≡ 1 + length l.bytes;
}

abbrev pub decreases-bytes : goal.decreases-bytes
decreases-bytes l = length l.rest
