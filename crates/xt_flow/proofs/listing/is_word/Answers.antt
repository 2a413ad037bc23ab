use Rattle.std.proofs.Common.{◌≡◌, ◌≤◌, ◌∙◌, true, sym, arith}
use Rattle.xt_flow.specs.FlowTables.{first_place, is_marked}
use Rattle.xt_flow.proofs.Tables.{marked_high}
use Rattle.xt_flow.proofs.listing.is_word.Goals as goal

pub is_free-requires-clause-low : goal.is_free-requires-clause-low
is_free-requires-clause-low c =
    let marked : is_marked c.deref.result.now c.args.at ≡ true = sym c.is_marked.ensures ∙ c.if-not-is_marked.false in
    let high : first_place ≤ c.args.at = marked_high c.deref.result.now c.args.at marked in
    omega (arith, high)
