-- A walk through a table, item by item, for the first that passes a test.
use Rattle.std.proofs.Common.{◌≡◌, ◌+◌, ◌<◌, ◌≤◌, ℕ, Bool, true, cond, List, length, drop, map, get_or, Some, None, sym, ◌∙◌, ap}
use Rattle.std.proofs.lemmas.List.{at_drop_more, at_drop_all}
use Rattle.std.specs.Prelude.{find}

-- the item at a place passes, and none before it does
pub found : {W A : Type 0} (view : W → A) (p : A → Bool) (table : List A) (items : List W) (i : ℕ) (d : W)
    → map view items ≡ table → i < length items → find p (map view (drop i items)) ≡ find p (map view items) → p (view (get_or items i d)) ≡ true
    → find p table ≡ Some (view (get_or items i d))
found view p table items i d is within same test =
    ap (λ t. find p t) (sym is)
    ∙ (sym same ∙ at_drop_more (λ xs. find p (map view xs)) items i d within
    ∙ ap (λ b. cond b (Some (view (get_or items i d))) (find p (map view (drop (i + 1) items)))) test)

-- no item passes
pub not_found : {W A : Type 0} (view : W → A) (p : A → Bool) (table : List A) (items : List W) (i : ℕ)
    → map view items ≡ table → length items ≤ i → find p (map view (drop i items)) ≡ find p (map view items)
    → find p table ≡ None
not_found view p table items i is all same = ap (λ t. find p t) (sym is) ∙ (sym same ∙ at_drop_all (λ xs. find p (map view xs)) items i all)
