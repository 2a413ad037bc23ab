use Rattle.std.proofs.Common.{[], List, ℕ, sym, subst}
use Rattle.xt_search.specs.Chains.{IsChained}
use Rattle.xt_search.proofs.Chaining.{none_chained}
use Rattle.xt_search.proofs.table.Table.new.Goals as goal

pub returns-clause-none : goal.returns-clause-none
returns-clause-none c =
    subst (λ (b : List ℕ). IsChained c.in_ok-vec.field-0.items b []) (sym c.new.ensures.items)
    (subst (λ (a : List ℕ). IsChained a [] []) (sym (c.in_ok-vec.ensures.items_if_clones_equal (λ y e. e))) (none_chained 1048576))
