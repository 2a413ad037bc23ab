use Rattle.std.proofs.Common.{◌∙◌, sym, ap, arith}
use Rattle.xt_moment_search.specs.declared.found.Found.{Found}
use Rattle.xt_moment_search.proofs.Listing.{one_of}
use Rattle.xt_moment_search.specs.Keyed.{outcome_of}
use Rattle.xt_moment_search.proofs.found.is_in.Goals as goal

pub returns-then-is_same : goal.returns-then-is_same
returns-then-is_same c = λ yes.
    let xs = c.args.list.now in
    let x = c.found-item.result in
    let less = c.loop-found-test.true in
    let end = c.loop-found.auto.found-index-end in
    one_of xs c.loop-found.found-index x (outcome_of c.args.key.now) (omega (arith, less, end))
    (ap (λ (f : Found). f.outcome) (sym c.found-item.is)
    ∙ (sym c.of.ensures ∙ c.is_same.ensures c.if-is_same.true))
