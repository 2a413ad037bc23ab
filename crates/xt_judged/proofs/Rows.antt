-- The rows of an order.
use Rattle.std.proofs.Common.{◌<◌, length, add-one, drop, get_or, drop-cons, ◌≡◌, ◌≢◌, ℕ, ◌+◌, true, false, List, [], ◌∷◌, ◌++◌, refl, sym, ap, ◌∙◌, arith, append_assoc, codes}
use Rattle.std.specs.Prelude.{◌==◌, if◌then◌else◌, replicate, flat_map}
use Rattle.std.proofs.lemmas.Bool.Decides.{nat_tests}
use Rattle.std.proofs.lemmas.List.{replicate_more}
use Rattle.xt_judged.specs.OrderText.{Row, RowsMakeTheOrder, row_text, rows_from, rows_text, turns_of}

-- ---- the turns of the rows

one_more : (core count c : ℕ) (cs : List ℕ) → (c == core) ≡ true → replicate (count + 1) core ++ cs ≡ replicate count core ++ c ∷ cs
one_more core count c cs same =
    let is : c ≡ core = grind (arith, nat_tests) in
    let more : replicate (count + 1) core ≡ replicate count core ++ c ∷ [] = rw is (sym (replicate_more count core)) in
    ap (λ (l : List ℕ). l ++ cs) more ∙ append_assoc (replicate count core) (c ∷ []) cs

turns_from : (core count : ℕ) (order : List ℕ) → turns_of (rows_from core count order) ≡ replicate count core ++ order
turns_from core count [] = refl
turns_from core count (c ∷ cs) =
    elim (c == core) as (λ b. (c == core) ≡ b → turns_of (if b then rows_from core (count + 1) cs else (core, count) ∷ rows_from c 1 cs) ≡ replicate count core ++ c ∷ cs) [
      | true ↦ λ same. turns_from core (count + 1) cs ∙ one_more core count c cs same
      | false ↦ λ other. ap (λ (l : List ℕ). replicate count core ++ l) (turns_from c 1 cs)
    ] refl

pub rows_make : RowsMakeTheOrder
rows_make [] = refl
rows_make (c ∷ cs) = turns_from c 1 cs

-- ---- the text of the rows

-- each row with a comma before it
abbrev pub with_commas : List Row → List ℕ
with_commas rows = flat_map (λ r. codes "," ++ row_text r) rows

behind_comma : (core count : ℕ) (order : List ℕ) → with_commas (rows_from core count order) ≡ codes "," ++ rows_text (rows_from core count order)
behind_comma core count [] = refl
behind_comma core count (c ∷ cs) =
    elim (c == core) as (λ b. let rows = if b then rows_from core (count + 1) cs else (core, count) ∷ rows_from c 1 cs in with_commas rows ≡ codes "," ++ rows_text rows) [
      | true ↦ behind_comma core (count + 1) cs
      | false ↦ append_assoc (codes ",") (row_text (core, count)) (with_commas (rows_from c 1 cs))
    ]

-- a turn of the same core
pub same_row : (core count c : ℕ) (cs : List ℕ) → c ≡ core → rows_from core count (c ∷ cs) ≡ rows_from core (count + 1) cs
same_row core count c cs is =
    let test : (c == core) ≡ true = grind (arith, nat_tests) in rw test refl

-- a turn of the other core
pub next_row : (core count c : ℕ) (cs : List ℕ) → c ≢ core
    → rows_text (rows_from core count (c ∷ cs)) ≡ row_text (core, count) ++ (codes "," ++ rows_text (rows_from c 1 cs))
next_row core count c cs other =
    let test : (c == core) ≡ false = grind (arith, nat_tests) in
    rw test (ap (λ (l : List ℕ). row_text (core, count) ++ l) (behind_comma c 1 cs))

-- ---- the loop over an order

at_place : (rest : List ℕ) (i : ℕ) → i < length rest → drop i rest ≡ get_or rest i 0 ∷ drop (i + 1) rest
at_place rest i within = rw (add-one i) (drop-cons rest i 0 within)

-- the text of the whole, once a turn of the same core was counted
pub counted : (whole out out2 rest : List ℕ) (core core2 count count2 i : ℕ) → i < length rest → get_or rest i 0 ≡ core → out2 ≡ out → core2 ≡ core → count2 ≡ count + 1
    → out ++ rows_text (rows_from core count (drop i rest)) ≡ whole → out2 ++ rows_text (rows_from core2 count2 (drop (i + 1) rest)) ≡ whole
counted whole out out2 rest core core2 count count2 i within same is is2 is3 before =
    rw (is, is2, is3) (ap (λ (l : List Row). out ++ rows_text l) (sym (ap (rows_from core count) (at_place rest i within) ∙ same_row core count (get_or rest i 0) (drop (i + 1) rest) same)) ∙ before)

-- the same once a row was appended
pub appended : (whole out out2 rest : List ℕ) (core core2 count count2 i : ℕ) → i < length rest → get_or rest i 0 ≢ core → out2 ≡ (out ++ row_text (core, count)) ++ codes ","
    → core2 ≡ get_or rest i 0 → count2 ≡ 1
    → out ++ rows_text (rows_from core count (drop i rest)) ≡ whole → out2 ++ rows_text (rows_from core2 count2 (drop (i + 1) rest)) ≡ whole
appended whole out out2 rest core core2 count count2 i within other is is2 is3 before =
    let left = rows_text (rows_from (get_or rest i 0) 1 (drop (i + 1) rest)) in
    let text : rows_text (rows_from core count (drop i rest)) ≡ row_text (core, count) ++ (codes "," ++ left) =
    ap (λ (l : List ℕ). rows_text (rows_from core count l)) (at_place rest i within) ∙ next_row core count (get_or rest i 0) (drop (i + 1) rest) other in
    let joined : ((out ++ row_text (core, count)) ++ codes ",") ++ left ≡ out ++ (row_text (core, count) ++ (codes "," ++ left)) =
    append_assoc (out ++ row_text (core, count)) (codes ",") left ∙ append_assoc out (row_text (core, count)) (codes "," ++ left) in
    rw (is, is2, is3) (joined ∙ ap (λ (l : List ℕ). out ++ l) (sym text) ∙ before)
