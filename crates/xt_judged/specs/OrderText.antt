-- The text of an order ('profile'): `C*N,C*N,..`, N turns of core C each, as `run --order` reads it.
use Rattle.std.specs.Prelude.{◌≡◌, ℕ, ◌+◌, ◌==◌, if◌then◌else◌, List, [], ◌∷◌, ◌++◌, codes}
use Rattle.std.specs.Prelude.{replicate, flat_map}
use Rattle.std.specs.List.{join_by}
use Rattle.std.specs.Fmt.{decimal}

-- a core, and how many turns it makes in a row
abbrev pub Row : Type 0
Row = ℕ × ℕ

-- the rows of an order that has so many turns of a core before it
abbrev pub rows_from : ℕ → ℕ → List ℕ → List Row
rows_from core count [] = (core, count) ∷ []
rows_from core count (c ∷ cs) =
    if c == core then rows_from core (count + 1) cs else (core, count) ∷ rows_from c 1 cs

-- the rows of an order, each as long as it can be
abbrev pub rows_of : List ℕ → List Row
rows_of [] = []
rows_of (c ∷ cs) = rows_from c 1 cs

abbrev pub row_text : Row → List ℕ
row_text r = decimal r.0 ++ (codes "*" ++ decimal r.1)

abbrev pub rows_text : List Row → List ℕ
rows_text rows = join_by row_text (codes ",") rows

-- an order without a turn is `0*0`
abbrev pub order_text : List ℕ → List ℕ
order_text [] = codes "0*0"
order_text (c ∷ cs) = rows_text (rows_of (c ∷ cs))

-- as a law: the turns of the rows, one by one, are the order
abbrev pub turns_of : List Row → List ℕ
turns_of rows = flat_map (λ r. replicate r.1 r.0) rows

abbrev pub RowsMakeTheOrder : Type 0
RowsMakeTheOrder = (order : List ℕ) → turns_of (rows_of order) ≡ order
