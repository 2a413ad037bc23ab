-- Orders by which the worlds of a search were found.
use Rattle.std.proofs.Common.{◌≡◌, ℕ, zero, suc, ◌<◌, ◌≤◌, Some, List, [], ◌∷◌, ◌++◌, reverse, sym, subst, arith}
use Rattle.std.specs.Prelude.{slice_get}
use Rattle.std.proofs.lemmas.List.{reverse-append}
use Rattle.xt_search.specs.declared.graph.Graph.{Graph}
use Rattle.xt_search.specs.declared.graph.Kept.{Kept}
use Rattle.xt_search.specs.Graphs.{IsGraph}
use Rattle.xt_search.specs.Worlds.{IsOrder}
use Rattle.xt_judged.specs.Kept.{IsTree}
use Rattle.xt_judged.proofs.Every.{orders_more}

pub tree_of : {W : Type 0} (Leads : ℕ → W → W → Type 0) (g : Graph W) → IsGraph Leads g → IsTree g
tree_of Leads g is = λ k x at. let f = is.found (suc k) x at in (f.1, f.2)

pub earlier : {W : Type 0} (g : Graph W) → IsTree g → (at : ℕ) (x : Kept W) → 0 < at → slice_get g.kept.items at ≡ Some x → (x.from < at) × (x.core < 2)
earlier g is zero x p h = absurd (omega (arith, p))
earlier g is (suc k) x p h =
    let f = is k x h in
    let l : x.from ≤ k = f.0 in
    (omega (arith, l), f.1)

pub order_reverse : (xs : List ℕ) → IsOrder xs → IsOrder (reverse xs)
order_reverse [] h = tt
order_reverse (x ∷ xs) h = subst IsOrder (sym (reverse-append (x ∷ []) xs)) (orders_more (reverse xs) (x ∷ []) (order_reverse xs h.1) (h.0, tt))

-- so many turns more, before those that were found so far backwards
pub order_before : (old more new : List ℕ) → new ≡ old ++ more → IsOrder (reverse old) → IsOrder more → IsOrder (reverse new)
order_before old more new e h i =
    subst (λ (l : List ℕ). IsOrder (reverse l)) (sym e)
    (subst IsOrder (sym (reverse-append old more)) (orders_more (reverse more) (reverse old) (order_reverse more i) h))
