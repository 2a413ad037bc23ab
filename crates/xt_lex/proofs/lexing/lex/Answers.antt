use Rattle.std.proofs.Common.{◌≡◌, ◌+◌, ◌++◌, ◌∷◌, take, List, sym, ◌∙◌, ap, subst, arith, append_assoc}
use Rattle.xt_lex.specs.declared.token.Token.{Token}
use Rattle.xt_lex.specs.Tokens.{line_tokens, lines_of, tokens_of_lines, tokens_of, IsLexed}
use Rattle.xt_lex.proofs.LineLemmas.{next_line, no_line_is_left}
use Rattle.xt_lex.proofs.LexedLemmas.{text_is_lexed}
use Rattle.xt_lex.proofs.lexing.lex.Goals as goal

pub lex_line-requires : goal.lex_line-requires
lex_line-requires c = omega (arith, c.split_at.ensures.front_len, c.line_width.ensures.within, c.lines.invariant.first, c.lines.invariant.line)

pub lines-preserved : goal.lines-preserved
lines-preserved c =
    let line = c.lines.line in
    let rest = c.lines.rest.now in
    let bytes = c.split_at.result.0.now in
    let after = c.split_at.result.1.now in
    record {
      tokens = ap (λ ts. ts ++ tokens_of_lines (line + 1) (lines_of after)) c.in_ok-lex_line.ensures
          ∙ append_assoc c.lines.tokens.items (line_tokens line bytes) (tokens_of_lines (line + 1) (lines_of after))
          ∙ ap (λ ts. c.lines.tokens.items ++ ts) (next_line line bytes (lines_of after)
          ∙ ap (λ b. tokens_of_lines line (b ∷ lines_of after)) c.split_at.ensures.front
          ∙ ap (λ a. tokens_of_lines line (take c.line_width.result rest ∷ lines_of a)) c.split_at.ensures.back
          ∙ ap (tokens_of_lines line) (sym c.line_width.ensures.cut))
          ∙ c.lines.invariant.tokens;
      first = omega (arith, c.lines.invariant.first);
      line = omega (arith, c.split_at.ensures.back_len, c.line_width.ensures.forward, c.lines.invariant.line);
    }

pub returns-clause-tokens : goal.returns-clause-tokens
unfolding tokens_of
returns-clause-tokens c = c.new.ensures ∙ no_line_is_left c.lines.tokens.items (tokens_of_lines 1 (lines_of c.args.text.now)) c.lines.line c.lines.rest.now (sym c.lines-test.ensures) c.lines.invariant.tokens

pub returns-clause-lexed : goal.returns-clause-lexed
unfolding tokens_of
returns-clause-lexed c =
    let whole : c.new.result ≡ tokens_of c.args.text.now = c.new.ensures ∙ no_line_is_left c.lines.tokens.items (tokens_of_lines 1 (lines_of c.args.text.now)) c.lines.line c.lines.rest.now (sym c.lines-test.ensures) c.lines.invariant.tokens in
    let P : List Token → Type 0 = IsLexed in
    subst P (sym whole) (text_is_lexed c.args.text.now c.requires)
