-- The first segment that passes a test, as a loop looks for it.
use Rattle.std.proofs.Common.{◌≡◌, ℕ, ◌+◌, ◌<◌, ◌≤◌, Bool, true, false, List, ◌∷◌, length, drop, get_or, Some, None, refl, sym, ap, ◌∙◌, find}
use Rattle.std.proofs.lemmas.List.{at_drop_all, at_drop_more}

pub found : {X : Type 0} (p : X → Bool) (xs : List X) (k : ℕ) (x : X) → k < length xs → x ≡ get_or xs k x → p x ≡ true → find p (drop k xs) ≡ Some x
found p xs k x lt is passes =
    at_drop_more (find p) xs k x lt
    ∙ ap (λ y. find p (y ∷ drop (k + 1) xs)) (sym is)
    ∙ rw passes refl

pub passed_over : {X : Type 0} (p : X → Bool) (xs : List X) (k : ℕ) (x : X) → k < length xs → x ≡ get_or xs k x → p x ≡ false → find p (drop k xs) ≡ find p (drop (k + 1) xs)
passed_over p xs k x lt is fails =
    at_drop_more (find p) xs k x lt
    ∙ ap (λ y. find p (y ∷ drop (k + 1) xs)) (sym is)
    ∙ rw fails refl

pub none_left : {X : Type 0} (p : X → Bool) (xs : List X) (k : ℕ) → length xs ≤ k → find p (drop k xs) ≡ None
none_left p xs k past = at_drop_all (find p) xs k past
