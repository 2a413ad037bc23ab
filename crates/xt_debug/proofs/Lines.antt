-- The lines of turns, one after another.
use Rattle.std.proofs.Common.{◌≡◌, ℕ, Option, Some, None, Result, Ok, List, [], ◌∷◌, ap, subst, ◌∙◌}
use Rattle.xt_events.specs.Lines.{Gives, LinesState, lines_in}

-- the line that was given stands before those that are left
pub given_line : {E : Type 0} (r : Result (Option (List ℕ)) E) (o : Option (List ℕ)) (text : List ℕ) (old new : LinesState) → r ≡ Ok o → o ≡ Some text → Gives r old new
    → lines_in old ≡ text ∷ lines_in new
given_line {E} r o text old new was is gives =
    let F : Result (Option (List ℕ)) E → Type 0 = λ x. Gives x old new in subst F (was ∙ ap (λ (x : Option (List ℕ)). let y : Result (Option (List ℕ)) E = Ok x in y) is) gives

-- none was given, and none is left
pub given_none : {E : Type 0} (r : Result (Option (List ℕ)) E) (o : Option (List ℕ)) (old new : LinesState) → r ≡ Ok o → o ≡ None → Gives r old new → lines_in old ≡ []
given_none {E} r o old new was is gives =
    let F : Result (Option (List ℕ)) E → Type 0 = λ x. Gives x old new in (subst F (was ∙ ap (λ (x : Option (List ℕ)). let y : Result (Option (List ℕ)) E = Ok x in y) is) gives).0
