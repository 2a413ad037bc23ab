-- The terms so far and those that follow are the expression's.
use Rattle.std.proofs.Common.{◌≡◌, ◌<◌, length}
use Rattle.xt_parse.specs.Reading.{with_front, terms_behind, expr_at}
use Rattle.xt_parse.proofs.exprs.expr.Given as goal

abbrev pub invariant-terms : goal.invariant-terms
invariant-terms l = record {
  read : with_front l.terms.items (terms_behind l.rest) ≡ expr_at l.tokens;
  shorter : length l.rest < length l.tokens;
}

abbrev pub decreases-terms : goal.decreases-terms
decreases-terms l = length l.rest
