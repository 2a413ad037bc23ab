-- Taking segments one after another, as a loop does.
use Rattle.std.proofs.Common.{◌≡◌, ℕ, suc, ◌-◌, ◌+◌, ◌≤◌, ◌<◌, List, [], ◌∷◌, ◌++◌, Some, None, refl, sym, ap, ◌∙◌, append_assoc, arith}
use Rattle.std.proofs.lemmas.List.{append-nil}
use Rattle.xt_map.specs.declared.segment.Segment.{Segment}
use Rattle.xt_image.specs.Layout.{front, segments_at}

pub goes_on : (found : List Segment) (count i : ℕ) (rest : List ℕ) (s : Segment) (after : List ℕ) (total : List Segment) → i < count → front rest ≡ Some (s, after)
    → found ++ segments_at (count - i) rest ≡ total → (found ++ s ∷ []) ++ segments_at (count - (i + 1)) after ≡ total
unfolding segments_at
goes_on found count i rest s after total lt h so_far =
    let k : count - i ≡ suc (count - (i + 1)) = omega arith in
    let one : segments_at (count - i) rest ≡ s ∷ segments_at (count - (i + 1)) after = rw (k, h) refl in
    append_assoc found (s ∷ []) _ ∙ ap (λ l. found ++ l) (sym one) ∙ so_far

pub ends : (found : List Segment) (count i : ℕ) (rest : List ℕ) (total : List Segment) → i < count → front rest ≡ None
    → found ++ segments_at (count - i) rest ≡ total → found ≡ total
unfolding segments_at
ends found count i rest total lt h so_far =
    let k : count - i ≡ suc (count - (i + 1)) = omega arith in
    let none : segments_at (count - i) rest ≡ [] = rw (k, h) refl in
    sym (append-nil found) ∙ ap (λ l. found ++ l) (sym none) ∙ so_far

pub is_done : (found : List Segment) (count i : ℕ) (rest : List ℕ) (total : List Segment) → count ≤ i
    → found ++ segments_at (count - i) rest ≡ total → found ≡ total
unfolding segments_at
is_done found count i rest total le so_far =
    let k : count - i ≡ 0 = omega arith in
    let none : segments_at (count - i) rest ≡ [] = rw k refl in
    sym (append-nil found) ∙ ap (λ l. found ++ l) (sym none) ∙ so_far
