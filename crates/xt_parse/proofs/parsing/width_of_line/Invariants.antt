use Rattle.std.proofs.Common.{◌≡◌, ◌+◌, drop}
use Rattle.std.specs.List.{prefix_len}
use Rattle.std.specs.Prelude.{◌==◌}
use Rattle.xt_lex.specs.declared.token.Token.{Token}
use Rattle.xt_parse.proofs.parsing.width_of_line.Given as goal

-- those so far are followed by those at the front of what is left
abbrev pub invariant-loop-i : goal.invariant-loop-i
invariant-loop-i l = prefix_len (λ (t : Token). l.line == t.line) (drop l.i l.tokens) + l.i ≡ prefix_len (λ (t : Token). l.line == t.line) l.tokens
