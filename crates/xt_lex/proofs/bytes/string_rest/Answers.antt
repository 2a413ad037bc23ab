use Rattle.std.proofs.Common.{◌≡◌, ◌+◌, [], sym, ◌∙◌, ap, arith, cond, Some, None, append-nil}
use Rattle.xt_lex.specs.Fronts.{and_then, string_body}
use Rattle.xt_lex.proofs.StringLemmas.{Body, behind, behind_more, piece_is_prefix, no_piece_is_end}
use Rattle.xt_lex.proofs.bytes.string_rest.Goals as goal

pub loop-byte-preserved : goal.loop-byte-preserved
loop-byte-preserved c =
    let held = c.loop-byte.held.items in
    let width = c.loop-byte.width in
    let rest = c.loop-byte.rest.now in
    let byte = c.in-Some.byte in
    let taken = c.in-Some.taken in
    record {
      body = ap (λ l. behind l (width + taken) (string_body c.split_at.result.1.now)) c.in_ok-push.ensures.items
          ∙ sym (behind_more held width byte taken (string_body c.split_at.result.1.now))
          ∙ ap (λ b. behind held width b) (ap (λ l. and_then byte taken (string_body l)) c.split_at.ensures.back ∙ sym (piece_is_prefix rest byte taken (sym c.in-Some.ensures.piece)))
          ∙ c.loop-byte.invariant.body;
      width = omega (arith, c.split_at.ensures.back_len, c.loop-byte.invariant.width);
    }

pub returns-then-begins_with_quote-clause-body : goal.returns-then-begins_with_quote-clause-body
returns-then-begins_with_quote-clause-body c =
    let held = c.loop-byte.held.items in
    let width = c.loop-byte.width in
    let rest = c.loop-byte.rest.now in
    let whole : string_body rest ≡ Some ([], 1) = no_piece_is_end rest (sym c.string_piece.ensures.piece ∙ c.in_default.is)
    ∙ ap (λ b. cond {A = Body} b (Some ([], 1)) None) (sym c.begins_with_quote.ensures.quote ∙ c.if-begins_with_quote.true) in
    ap (λ l. Some (l, width + 1)) (sym (append-nil held)) ∙ ap (behind held width) (sym whole) ∙ c.loop-byte.invariant.body

pub returns-else-begins_with_quote-clause-body : goal.returns-else-begins_with_quote-clause-body
returns-else-begins_with_quote-clause-body c =
    let held = c.loop-byte.held.items in
    let width = c.loop-byte.width in
    let rest = c.loop-byte.rest.now in
    let whole : string_body rest ≡ None = no_piece_is_end rest (sym c.string_piece.ensures.piece ∙ c.in_default.is)
    ∙ ap (λ b. cond {A = Body} b (Some ([], 1)) None) (sym c.begins_with_quote.ensures.quote ∙ c.if-begins_with_quote.false) in
    ap (behind held width) (sym whole) ∙ c.loop-byte.invariant.body
