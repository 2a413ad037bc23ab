-- Faults, and which of them is the first. The kinds and their order are those of the
-- assembly language ('profile').
use Rattle.std.specs.Prelude.{◌≡◌, ℕ, ◌==◌, Bool, ◌&&◌, ◌||◌, nat_lt, List, [], ◌∷◌, Option, Some}
use Rattle.std.specs.Prelude.{None, if◌then◌else◌}
use Rattle.std.specs.List.{position_or_len}
use Rattle.xt_lex.specs.declared.fault.AsmPlace.{AsmPlace}
use Rattle.xt_parse.specs.declared.line.Line.{Line}
use Rattle.xt_parse.specs.Small.{AreAbove}
use Rattle.xt_layout.specs.Around.{each}

-- a fault, or nothing
abbrev pub Finding : Type 0
Finding = Option AsmPlace

-- a fault of this kind at the first token of a line's statement
abbrev pub at_statement : Line → ℕ → AsmPlace
at_statement l kind = record { line = l.number; column = l.column; kind = kind }

-- the fault, where the test holds
abbrev pub fails : Bool → AsmPlace → Finding
fails b place = if b then Some place else None

abbrev pub or_else : Finding → Finding → Finding
or_else (Some place) next = Some place
or_else None next = next

-- the first of the findings
abbrev pub first : List Finding → Finding
first [] = None
first (x ∷ xs) = or_else x (first xs)

-- ---- the first of the faults that several passes keep

-- the order of the kinds in one line: 4, 1, 2, 5, 6, 7, 3
abbrev pub kinds : List ℕ
kinds = 4 ∷ 1 ∷ 2 ∷ 5 ∷ 6 ∷ 7 ∷ 3 ∷ []

-- the place of a kind in that order
abbrev pub rank : ℕ → ℕ
rank kind = position_or_len (λ k. k == kind) kinds

-- a fault of an earlier line, or of the same line and of an earlier kind
abbrev pub is_before : AsmPlace → AsmPlace → Bool
is_before x y = nat_lt x.line y.line || (x.line == y.line && nat_lt (rank x.kind) (rank y.kind))

-- the one of two faults that comes first
abbrev pub least : Finding → Finding → Finding
least None other = other
least (Some x) None = Some x
least (Some x) (Some y) = if is_before y x then Some y else Some x

-- a finding names the number of its line
abbrev pub IsOf : Line → Finding → Type 0
IsOf l None = Unit {0}
IsOf l (Some place) = place.line ≡ l.number

-- Of two passes over lines with rising numbers, the least of the first faults is the first of the
-- least faults of each line.
abbrev pub LeastIsFirst : Type 0
LeastIsFirst = (f g : List Line → Line → List Line → Finding) (lines : List Line) → AreAbove 0 lines
    → ((before : List Line) (l : Line) (rest : List Line) → IsOf l (f before l rest))
    → ((before : List Line) (l : Line) (rest : List Line) → IsOf l (g before l rest))
    → least (first (each f lines)) (first (each g lines))
    ≡ first (each (λ before l rest. least (f before l rest) (g before l rest)) lines)
