-- The set of names.
use Rattle.std.proofs.Common.{◌≡◌, Bool, true, false, ◌||◌, List, [], ◌∷◌, refl, ap, ◌∙◌, cond, ℕ}
use Rattle.std.specs.List.{list_any}
use Rattle.std.specs.Ordering.{is_eq, nat_cmp}
use Rattle.std.specs.Cmp.Lexicographic.{slice_cmp}
use Rattle.std.specs.Str.{bytes_eq}
use Rattle.std.proofs.lemmas.Map.Text.{is_eq-slice_cmp}
use denote.Ref.{Bor}

pub name_by_order : (keys : List (Bor (List ℕ))) (name : List ℕ) → list_any (λ k. is_eq (slice_cmp nat_cmp name k.now)) keys ≡ list_any (λ k. bytes_eq name k.now) keys
name_by_order [] name = refl
name_by_order (k ∷ keys) name = ap (λ b. b || list_any (λ k. is_eq (slice_cmp nat_cmp name k.now)) keys) (is_eq-slice_cmp name k.now) ∙ ap (λ b. bytes_eq name k.now || b) (name_by_order keys name)

-- one key more
pub named : (n t old same had : Bool) → n ≡ cond t true old → t ≡ same → old ≡ had → n ≡ (had || (same || false))
named n t old same had e p q = e ∙ (elim t as (λ t. cond t true old ≡ (old || (t || false))) [
  | true ↦ (elim old as (λ o. true ≡ (o || true)) [ true ↦ refl | false ↦ refl ])
  | false ↦ (elim old as (λ o. o ≡ (o || false)) [ true ↦ refl | false ↦ refl ])
]) ∙ ap (λ o. o || (t || false)) q ∙ ap (λ b. had || (b || false)) p
