use Rattle.std.proofs.Common.{◌≡◌, ◌++◌, ◌∷◌, [], ◌<◌, length, List, Bor, Option, Some, None, Ok, IfSome, sym, ◌∙◌, ap, subst, arith, append-nil}
use Rattle.std.specs.Option.{option_map}
use Rattle.xt_lex.specs.declared.token.Token.{Token}
use Rattle.xt_lex.specs.declared.expr.Term.{Term}
use Rattle.xt_parse.specs.Reading.{with_front, expr_at, next_expr, exprs_behind, exprs_at}
use Rattle.xt_parse.proofs.ReadLemmas.{carries, exprs_begin, exprs_stop, exprs_end, exprs_stop_within, expr_step}
use Rattle.xt_parse.proofs.exprs.exprs.Goals as goal

pub returns-in-Err : goal.returns-in-Err
returns-in-Err c = carries c.in-Err.stop (expr_at c.args.tokens.now) (exprs_at c.args.tokens.now) c.in-Err.ensures.expr (λ n e. exprs_stop c.args.tokens.now n e)

pub exprs-init : goal.exprs-init
exprs-init c =
    let first = c.in-Ok.read.0 in
    let rest = c.in-Ok.read.1.now in (
      length rest,
      omega arith,
      ap (λ items. with_front items (exprs_behind (length rest) rest)) (c.in_ok-push.ensures.items ∙ ap (λ l. l ++ first ∷ []) c.new-found.ensures.items)
          ∙ sym (exprs_begin c.args.tokens.now (first, rest) c.in-Ok.ensures.expr),
    )

pub returns-in-Err-next_expression : goal.returns-in-Err-next_expression
returns-in-Err-next_expression c =
    let rest = c.exprs.rest.now in
    let invariant = c.exprs.invariant in
    carries c.in-Err-next_expression.stop (next_expr rest) (exprs_at c.args.tokens.now) c.in-Err-next_expression.ensures.expr
    (λ k e. sym invariant.2 ∙ ap (with_front c.exprs.found.items) (exprs_stop_within invariant.0 rest k invariant.1 e))

pub returns-in_default : goal.returns-in_default
returns-in_default c =
    let rest = c.exprs.rest.now in
    let items = c.exprs.found.items in
    let invariant = c.exprs.invariant in
    let none : next_expr rest ≡ Ok None = c.in-Ok-next_expression.ensures.expr ∙ ap (λ (o : Option (List Term × Bor (List Token))). Ok (option_map (λ x. (x.0, x.1.now)) o)) c.in_default.is in
    sym invariant.2 ∙ ap (with_front items) (exprs_end invariant.0 rest invariant.1 none) ∙ ap (λ l. Ok (l, rest)) (append-nil items ∙ sym c.new.ensures)

pub exprs-preserved : goal.exprs-preserved
exprs-preserved c =
    let rest = c.exprs.rest.now in
    let invariant = c.exprs.invariant in
    let expr = c.in-Some.expr in
    let left = c.in-Some.left.now in
    let next : next_expr rest ≡ Ok (Some (expr, left)) = c.in-Ok-next_expression.ensures.expr ∙ ap (λ (o : Option (List Term × Bor (List Token))). Ok (option_map (λ x. (x.0, x.1.now)) o)) c.in-Some.is in
    let P : Option (List Term × Bor (List Token)) → Type 0 = λ o. IfSome o (λ x. length x.1.now < length rest) in
    let less : length left < length rest = subst P c.in-Some.is c.in-Ok-next_expression.ensures.shorter in
    expr_step invariant.0 rest (expr, left) c.exprs.found.items c.push-in-exprs.new.self.items (exprs_at c.args.tokens.now) invariant.1 less next c.in_ok-push-2.ensures.items invariant.2
