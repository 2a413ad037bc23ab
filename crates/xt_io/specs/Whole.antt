-- What reading to the end and writing a whole list of bytes come to ('profile').
use Rattle.std.specs.Prelude.{◌≡◌, ℕ, List, ◌++◌, length, Option}
use Rattle.std.specs.Io.KnownBytes.{Appends, Consumes}

-- some bytes were taken of those that a source tells, and this holds of their number
abbrev pub Takes : Option (List ℕ) → Option (List ℕ) → (ℕ → Type 0) → Type 0
Takes old new P = (bytes : List ℕ) × Consumes old new bytes × P (length bytes)

-- what a sink tells grew by a prefix of these bytes
abbrev pub AppendsPrefix : Option (List ℕ) → Option (List ℕ) → List ℕ → Type 0
AppendsPrefix old new bytes =
    (prefix : List ℕ) × (rest : List ℕ) × (bytes ≡ prefix ++ rest) × Appends old new prefix
