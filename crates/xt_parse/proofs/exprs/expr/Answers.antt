use Rattle.std.proofs.Common.{◌≡◌, ◌++◌, ◌∷◌, [], ◌<◌, length, Bool, List, Bor, Option, Some, None, Ok, IfSome, sym, ◌∙◌, ap, subst, arith, append-nil}
use Rattle.std.specs.Option.{option_map}
use Rattle.xt_lex.specs.declared.token.Token.{Token}
use Rattle.xt_lex.specs.declared.expr.Term.{Term}
use Rattle.xt_parse.specs.Reading.{with_front, term_at, terms_behind, next_term, expr_at}
use Rattle.xt_parse.proofs.ReadLemmas.{carries, front_more, term_follows, no_term_follows, term_stops, expr_begins, expr_stops}
use Rattle.xt_parse.proofs.exprs.expr.Goals as goal

pub returns-in-Err-clause-expr : goal.returns-in-Err-clause-expr
returns-in-Err-clause-expr c =
    let tokens = c.args.tokens.now in
    let minus = c.optional_minus-minus.result in
    carries c.in-Err.stop (term_at minus.0 minus.1.now) (expr_at tokens) c.in-Err.ensures.term
    (λ n e. expr_stops tokens n (ap (λ (p : Bool × List Token). term_at p.0 p.1) (sym c.optional_minus-minus.ensures.minus) ∙ e))

pub terms-init : goal.terms-init
terms-init c =
    let tokens = c.args.tokens.now in
    let first = c.in-Ok.read.0 in
    let rest = c.in-Ok.read.1.now in
    record {
      read = ap (λ items. with_front items (terms_behind rest)) (c.in_ok-push.ensures.items ∙ ap (λ l. l ++ first ∷ []) c.new-terms.ensures.items)
          ∙ sym (expr_begins tokens (first, rest) (ap (λ (p : Bool × List Token). term_at p.0 p.1) (sym c.optional_minus-minus.ensures.minus) ∙ c.in-Ok.ensures.term));
      shorter = omega (arith, c.in-Ok.ensures.shorter, c.optional_minus-minus.ensures.within);
    }

pub returns-in-Err-next_signed_term-clause-expr : goal.returns-in-Err-next_signed_term-clause-expr
returns-in-Err-next_signed_term-clause-expr c =
    let rest = c.terms.rest.now in
    carries c.in-Err-next_signed_term.stop (next_term rest) (expr_at c.args.tokens.now) c.in-Err-next_signed_term.ensures.term
    (λ n e. sym c.terms.invariant.read ∙ ap (with_front c.terms.terms.items) (term_stops rest n e))

pub returns-in_default-clause-expr : goal.returns-in_default-clause-expr
returns-in_default-clause-expr c =
    let rest = c.terms.rest.now in
    let items = c.terms.terms.items in
    let none : next_term rest ≡ Ok None = c.in-Ok-next_signed_term.ensures.term ∙ ap (λ (o : Option (Term × Bor (List Token))). Ok (option_map (λ x. (x.0, x.1.now)) o)) c.in_default.is in
    sym c.terms.invariant.read ∙ ap (with_front items) (no_term_follows rest none) ∙ ap (λ l. Ok (l, rest)) (append-nil items ∙ sym c.new.ensures)

pub terms-preserved : goal.terms-preserved
terms-preserved c =
    let rest = c.terms.rest.now in
    let items = c.terms.terms.items in
    let term = c.in-Some.term in
    let left = c.in-Some.left.now in
    let next : next_term rest ≡ Ok (Some (term, left)) = c.in-Ok-next_signed_term.ensures.term ∙ ap (λ (o : Option (Term × Bor (List Token))). Ok (option_map (λ x. (x.0, x.1.now)) o)) c.in-Some.is in
    let P : Option (Term × Bor (List Token)) → Type 0 = λ o. IfSome o (λ x. length x.1.now < length rest) in
    let less : length left < length rest = subst P c.in-Some.is c.in-Ok-next_signed_term.ensures.shorter in
    record {
      read = ap (λ l. with_front l (terms_behind left)) c.in_ok-push-2.ensures.items
          ∙ sym (front_more items term (terms_behind left))
          ∙ ap (with_front items) (sym (term_follows rest (term, left) next))
          ∙ c.terms.invariant.read;
      shorter = omega (arith, less, c.terms.invariant.shorter);
    }
