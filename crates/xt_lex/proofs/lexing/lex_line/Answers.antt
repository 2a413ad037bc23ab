use Rattle.std.proofs.Common.{◌+◌, ◌++◌, ◌∷◌, [], sym, ◌∙◌, ap, arith, append_assoc, append-nil}
use Rattle.xt_lex.specs.Tokens.{token}
use Rattle.xt_lex.proofs.LineLemmas.{from_here, comment_is_end, blank_is_passed, bad_is_end, token_is_passed, nothing_is_left}
use Rattle.xt_lex.proofs.WidthLemmas.{valid_is_within}
use Rattle.xt_lex.proofs.lexing.lex_line.Goals as goal

pub returns-then-is_comment : goal.returns-then-is_comment
returns-then-is_comment c =
    let items = c.bytes.tokens.items in
    sym (append-nil items) ∙ ap (λ ts. items ++ ts) (sym (comment_is_end c.args.line c.bytes.column c.bytes.rest.now (sym c.bytes-test.ensures) (sym c.is_comment.ensures ∙ c.if-is_comment.true))) ∙ c.bytes.invariant.tokens

pub bytes-preserved-then-is_blank : goal.bytes-preserved-then-is_blank
bytes-preserved-then-is_blank c =
    let items = c.bytes.tokens.items in
    let line = c.args.line in
    let column = c.bytes.column in
    record {
      tokens = ap (λ ts. items ++ ts) (ap (from_here line (column + 1)) c.split_at.ensures.back
          ∙ sym (blank_is_passed line column c.bytes.rest.now (sym c.bytes-test.ensures) (sym c.is_comment.ensures ∙ c.if-is_comment.false) (sym c.is_blank.ensures ∙ c.if-is_blank.true)))
          ∙ c.bytes.invariant.tokens;
      column = omega (arith, c.split_at.ensures.back_len, c.bytes.invariant.column);
    }

pub returns-in_default : goal.returns-in_default
returns-in_default c =
    let items = c.bytes.tokens.items in
    c.in_ok-push.ensures.items
    ∙ ap (λ ts. items ++ ts) (sym (bad_is_end c.args.line c.bytes.column c.bytes.rest.now (sym c.bytes-test.ensures) (sym c.is_comment.ensures ∙ c.if-is_comment.false) (sym c.is_blank.ensures ∙ c.if-is_blank.false) (sym c.in_ok-what.ensures ∙ c.in_default.is)))
    ∙ c.bytes.invariant.tokens

pub overflow_cast-width : goal.overflow_cast-width
overflow_cast-width c =
    let w = valid_is_within c.bytes.rest.now (c.in-Some.what, c.in-Some.taken) (sym c.in_ok-what.ensures ∙ c.in-Some.is) in
    omega (arith, w.most, c.bytes.invariant.column, c.requires)

pub overflow_add-column-in-bytes : goal.overflow_add-column-in-bytes
overflow_add-column-in-bytes c =
    let w = valid_is_within c.bytes.rest.now (c.in-Some.what, c.in-Some.taken) (sym c.in_ok-what.ensures ∙ c.in-Some.is) in
    omega (arith, w.most, c.bytes.invariant.column, c.requires)

pub split_at-requires-in-bytes : goal.split_at-requires-in-bytes
split_at-requires-in-bytes c = (valid_is_within c.bytes.rest.now (c.in-Some.what, c.in-Some.taken) (sym c.in_ok-what.ensures ∙ c.in-Some.is)).most

pub bytes-smaller : goal.bytes-smaller
bytes-smaller c =
    let w = valid_is_within c.bytes.rest.now (c.in-Some.what, c.in-Some.taken) (sym c.in_ok-what.ensures ∙ c.in-Some.is) in
    omega (arith, w.some, c.split_at-in-bytes.ensures.back_len)

pub bytes-preserved : goal.bytes-preserved
bytes-preserved c =
    let items = c.bytes.tokens.items in
    let line = c.args.line in
    let column = c.bytes.column in
    let what = c.in-Some.what in
    let taken = c.in-Some.taken in
    let found = token line column taken what in
    let after = from_here line (column + taken) c.split_at-in-bytes.result.1.now in
    record {
      tokens = ap (λ ts. ts ++ after) c.in_ok-push-2.ensures.items
          ∙ append_assoc items (found ∷ []) after
          ∙ ap (λ ts. items ++ ts) (ap (λ bytes. found ∷ from_here line (column + taken) bytes) c.split_at-in-bytes.ensures.back
          ∙ sym (token_is_passed line column c.bytes.rest.now what taken (sym c.bytes-test.ensures) (sym c.is_comment.ensures ∙ c.if-is_comment.false) (sym c.is_blank.ensures ∙ c.if-is_blank.false) (sym c.in_ok-what.ensures ∙ c.in-Some.is)))
          ∙ c.bytes.invariant.tokens;
      column = omega (arith, c.split_at-in-bytes.ensures.back_len, c.bytes.invariant.column);
    }

pub returns : goal.returns
returns c =
    let items = c.bytes.tokens.items in
    sym (append-nil items) ∙ ap (λ ts. items ++ ts) (sym (nothing_is_left c.args.line c.bytes.column c.bytes.rest.now (sym c.bytes-test.ensures))) ∙ c.bytes.invariant.tokens
