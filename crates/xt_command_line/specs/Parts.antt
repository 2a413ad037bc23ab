-- The parts of a text between commas, and what they say ('profile'). A text is the list of its
-- bytes.
use Rattle.std.specs.Prelude.{ℕ, Bool, ◌==◌, List, [], ◌∷◌, Option, Some, None, if◌then◌else◌}
use Rattle.std.specs.Prelude.{option_and_then}
use Rattle.std.specs.List.{slice_split}
use Rattle.clap.specs.Words.{Text}

abbrev pub comma : ℕ
comma = 44

abbrev pub colon : ℕ
colon = 58

-- one more at the front, where each is there
abbrev pub and_all : {A : Type 0} → Option A → Option (List A) → Option (List A)
and_all (Some t) (Some ts) = Some (t ∷ ts)
and_all _ _ = None

-- what all of these say, where each says something
abbrev pub all_said : {A B : Type 0} → (A → Option B) → List A → Option (List B)
all_said say [] = Some []
all_said say (x ∷ xs) = and_all (say x) (all_said say xs)

-- the same of the parts of a text between commas
abbrev pub parts_said : {A : Type 0} → (Text → Option A) → Text → Option (List A)
parts_said say text = all_said say (slice_split (λ b. b == comma) text)

-- a value that passes a test
abbrev pub passing : {A : Type 0} → (A → Bool) → Option A → Option A
passing test value = option_and_then (λ x. if test x then Some x else None) value
