-- The text of an order with moments ('profile'): `C*N` for N turns of core C one after another, and
-- `C!K` where timer K of core C fires, with commas between them.
use Rattle.std.specs.Prelude.{ℕ, ◌+◌, Bool, false, ◌==◌, if◌then◌else◌, List, [], ◌∷◌, ◌++◌, codes}
use Rattle.std.specs.List.{join_by}
use Rattle.std.specs.Fmt.{decimal}
use Rattle.xt_moments.specs.declared.moves.Move.{Move}
use Rattle.xt_moments.specs.declared.moves.Move.TheVariants as move

-- a move, and how often it is made in a row; a timer that fires has a row of its own each time
abbrev pub MoveRow : Type 0
MoveRow = Move × ℕ

-- both are turns of one core
abbrev pub is_again : Move → Move → Bool
is_again (move.Turn c) (move.Turn d) = c == d
is_again (move.Turn c) (move.Fires d timer) = false
is_again (move.Fires c timer) x = false

-- the rows of an order that has so many turns before it, of which this is the last one
abbrev pub move_rows_from : Move → ℕ → List Move → List MoveRow
move_rows_from made count [] = (made, count) ∷ []
move_rows_from made count (x ∷ xs) =
    if is_again made x then move_rows_from made (count + 1) xs
    else (made, count) ∷ move_rows_from x 1 xs

-- the rows of an order, each as long as it can be
abbrev pub move_rows : List Move → List MoveRow
move_rows [] = []
move_rows (x ∷ xs) = move_rows_from x 1 xs

abbrev pub move_row_text : MoveRow → List ℕ
move_row_text (move.Turn c, count) = decimal c ++ (codes "*" ++ decimal count)
move_row_text (move.Fires c timer, count) = decimal c ++ (codes "!" ++ decimal timer)

abbrev pub move_rows_text : List MoveRow → List ℕ
move_rows_text rows = join_by move_row_text (codes ",") rows

-- an order without a move is `0*0`
abbrev pub moments_order_text : List Move → List ℕ
moments_order_text [] = codes "0*0"
moments_order_text (x ∷ xs) = move_rows_text (move_rows (x ∷ xs))
