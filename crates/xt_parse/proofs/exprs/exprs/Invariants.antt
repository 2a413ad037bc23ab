-- The expressions so far and those that follow are those that are read. There are steps enough, since each takes a token.
use Rattle.std.proofs.Common.{◌≡◌, ◌≤◌, ℕ, length}
use Rattle.xt_parse.specs.Reading.{with_front, exprs_behind, exprs_at}
use Rattle.xt_parse.proofs.exprs.exprs.Given as goal

abbrev pub invariant-exprs : goal.invariant-exprs
invariant-exprs l = (n : ℕ) × (length l.rest ≤ n) × (with_front l.found.items (exprs_behind n l.rest) ≡ exprs_at l.tokens)

abbrev pub decreases-exprs : goal.decreases-exprs
decreases-exprs l = length l.rest
