-- The lines so far and those of the tokens that are left are those of the text, or give its fault.
use Rattle.std.proofs.Common.{◌≡◌, length}
use Rattle.xt_parse.specs.Lines.{ArePlaced, token_lines, lines_from, parsed_lines}
use Rattle.xt_parse.proofs.LineCuts.{behind_lines}
use Rattle.xt_parse.proofs.parsing.parse.Given as goal

abbrev pub invariant-lines : goal.invariant-lines
invariant-lines l = record {
  read : behind_lines l.lines.items (lines_from l.begun (token_lines l.rest)) ≡ parsed_lines l.tokens;
  placed : ArePlaced l.rest;
}

abbrev pub decreases-lines : goal.decreases-lines
decreases-lines l = length l.rest
