-- What is wrong by one rule, or nothing, and the first of several rules that fails ('profile').
use Rattle.std.specs.Prelude.{ℕ, Bool, List, [], ◌∷◌, ◌++◌, length, Option, Some, None}
use Rattle.std.specs.Prelude.{if◌then◌else◌, option_map}
use Rattle.std.specs.List.{position}

-- the fault, where the rule fails
abbrev pub fails : {F : Type 0} → Bool → F → Option F
fails b fault = if b then Some fault else None

abbrev pub or_else : {F : Type 0} → Option F → Option F → Option F
or_else (Some fault) next = Some fault
or_else None next = next

-- the first of the findings
abbrev pub first : {F : Type 0} → List (Option F) → Option F
first [] = None
first (x ∷ xs) = or_else x (first xs)

-- of elements after others: the first that meets one before it, and the first such one; the fault
-- is made of the places of both, from 0
unfoldable pub first_pair :
    {X F : Type 0} → (X → X → Bool) → (ℕ → ℕ → F) → List X → List X → Option F
first_pair meet fault before [] = None
first_pair meet fault before (x ∷ rest) =
    or_else (option_map (λ i. fault i (length before)) (position (λ t. meet t x) before))
    (first_pair meet fault (before ++ x ∷ []) rest)
