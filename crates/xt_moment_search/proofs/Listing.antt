-- One element more in a list.
use Rattle.std.proofs.Common.{◌≡◌, ◌<◌, List, [], ◌∷◌, ℕ, zero, suc, refl, subst, get_or, length, arith}
use Rattle.std.specs.List.{All, Contains, insert}
use Rattle.std.specs.Prelude.{take, drop}
use Rattle.std.proofs.lemmas.List.Elements.{All-append, All-cons, All-drop, All-take}
use Rattle.std.proofs.lemmas.List.Elements.{Contains-append_right}
use Rattle.xt_moments.specs.Outcomes.{MomentOutcome}
use Rattle.xt_moment_search.specs.Told.{outcomes_in}
use Rattle.xt_moment_search.specs.declared.found.Found.{Found}

pub all_inserted : {X : Type 0} (P : X → Type 0) (xs : List X) (k : ℕ) (x : X) → All P xs → P x
    → All P (insert xs k x)
all_inserted P xs k x all here =
    All-append P (take k xs) (x ∷ drop k xs) (All-take P k xs all)
    (All-cons P x (drop k xs) here (All-drop P k xs all))

head_of : (y : MomentOutcome) (ys : List MomentOutcome) → Contains (y ∷ ys) y
head_of y ys = (0, omega arith, refl)

-- an outcome that is listed at a place
pub one_of : (xs : List Found) (i : ℕ) (d : Found) (y : MomentOutcome) → i < length xs
    → (get_or xs i d).outcome ≡ y → Contains (outcomes_in xs) y
one_of [] i d y less e = absurd (omega (arith, less))
one_of (x ∷ xs) zero d y less e = subst (Contains (outcomes_in (x ∷ xs))) e (head_of x.outcome (outcomes_in xs))
one_of (x ∷ xs) (suc i) d y less e =
    Contains-append_right (x.outcome ∷ []) (outcomes_in xs) y (one_of xs i d y (omega (arith, less)) e)
