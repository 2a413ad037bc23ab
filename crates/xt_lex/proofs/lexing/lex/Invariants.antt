-- The tokens so far and those of the lines that are left are the text's.
use Rattle.std.proofs.Common.{◌≡◌, ◌<◌, ◌≤◌, ◌+◌, ◌++◌, length}
use Rattle.xt_lex.specs.Tokens.{lines_of, tokens_of_lines}
use Rattle.xt_lex.proofs.lexing.lex.Given as goal

abbrev pub invariant-lines : goal.invariant-lines
invariant-lines l = record {
  tokens : l.tokens.items ++ tokens_of_lines l.line (lines_of l.rest) ≡ tokens_of_lines 1 (lines_of l.text);
  first : 0 < l.line;
  line : l.line + length l.rest ≤ 1048577;
}

abbrev pub decreases-lines : goal.decreases-lines
decreases-lines l = length l.rest
