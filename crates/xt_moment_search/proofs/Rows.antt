-- The rows of an order with moments.
use Rattle.std.proofs.Common.{◌≡◌, ℕ, ◌+◌, ◌<◌, true, false, List, [], ◌∷◌, ◌++◌, length, add-one}
use Rattle.std.proofs.Common.{drop, get_or, drop-cons, refl, sym, ap, ◌∙◌, append_assoc, codes}
use Rattle.std.specs.Prelude.{if◌then◌else◌, flat_map}
use Rattle.xt_moments.specs.declared.moves.Move.{Move}
use Rattle.xt_moment_search.specs.MomentOrders.{MoveRow, is_again, move_row_text, move_rows_from}
use Rattle.xt_moment_search.specs.MomentOrders.{move_rows_text}

-- each row with a comma before it
abbrev pub with_commas : List MoveRow → List ℕ
with_commas rows = flat_map (λ r. codes "," ++ move_row_text r) rows

behind_comma : (made : Move) (count : ℕ) (order : List Move)
    → with_commas (move_rows_from made count order)
    ≡ codes "," ++ move_rows_text (move_rows_from made count order)
behind_comma made count [] = refl
behind_comma made count (x ∷ xs) =
    elim (is_again made x) as (λ b. let rows = if b then move_rows_from made (count + 1) xs else (made, count) ∷ move_rows_from x 1 xs in with_commas rows ≡ codes "," ++ move_rows_text rows) [
      | true ↦ behind_comma made (count + 1) xs
      | false ↦ append_assoc (codes ",") (move_row_text (made, count)) (with_commas (move_rows_from x 1 xs))
    ]

-- a turn of the same core
same_row : (made : Move) (count : ℕ) (x : Move) (xs : List Move) → is_again made x ≡ true
    → move_rows_from made count (x ∷ xs) ≡ move_rows_from made (count + 1) xs
same_row made count x xs test = rw test refl

-- another move
next_row : (made : Move) (count : ℕ) (x : Move) (xs : List Move) → is_again made x ≡ false
    → move_rows_text (move_rows_from made count (x ∷ xs))
    ≡ move_row_text (made, count) ++ (codes "," ++ move_rows_text (move_rows_from x 1 xs))
next_row made count x xs test =
    rw test (ap (λ (l : List ℕ). move_row_text (made, count) ++ l) (behind_comma x 1 xs))

-- ---- the loop over an order

pub at_place : (rest : List Move) (i : ℕ) (d : Move) → i < length rest
    → drop i rest ≡ get_or rest i d ∷ drop (i + 1) rest
at_place rest i d within = rw (add-one i) (drop-cons rest i d within)

-- the text of the whole, once a turn of the same core was counted
pub counted : (whole out out2 : List ℕ) (rest : List Move) (made made2 d : Move)
    (count count2 i : ℕ) → i < length rest → is_again made (get_or rest i d) ≡ true → out2 ≡ out
    → made2 ≡ made → count2 ≡ count + 1
    → out ++ move_rows_text (move_rows_from made count (drop i rest)) ≡ whole
    → out2 ++ move_rows_text (move_rows_from made2 count2 (drop (i + 1) rest)) ≡ whole
counted whole out out2 rest made made2 d count count2 i within same is is2 is3 before =
    rw (is, is2, is3)
    (ap (λ (l : List MoveRow). out ++ move_rows_text l)
    (sym (ap (move_rows_from made count) (at_place rest i d within)
    ∙ same_row made count (get_or rest i d) (drop (i + 1) rest) same)) ∙ before)

-- the same once a row was appended
pub appended : (whole out out2 : List ℕ) (rest : List Move) (made made2 d : Move)
    (count count2 i : ℕ) → i < length rest → is_again made (get_or rest i d) ≡ false
    → out2 ≡ (out ++ move_row_text (made, count)) ++ codes ","
    → made2 ≡ get_or rest i d → count2 ≡ 1
    → out ++ move_rows_text (move_rows_from made count (drop i rest)) ≡ whole
    → out2 ++ move_rows_text (move_rows_from made2 count2 (drop (i + 1) rest)) ≡ whole
appended whole out out2 rest made made2 d count count2 i within other is is2 is3 before =
    let row = move_row_text (made, count) in
    let left = move_rows_text (move_rows_from (get_or rest i d) 1 (drop (i + 1) rest)) in
    let text : move_rows_text (move_rows_from made count (drop i rest)) ≡ row ++ (codes "," ++ left) =
    ap (λ (l : List Move). move_rows_text (move_rows_from made count l)) (at_place rest i d within)
    ∙ next_row made count (get_or rest i d) (drop (i + 1) rest) other in
    let joined : ((out ++ row) ++ codes ",") ++ left ≡ out ++ (row ++ (codes "," ++ left)) =
    append_assoc (out ++ row) (codes ",") left ∙ append_assoc out row (codes "," ++ left) in
    rw (is, is2, is3) (joined ∙ ap (λ (l : List ℕ). out ++ l) (sym text) ∙ before)
