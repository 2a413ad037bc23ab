-- A row's test by nibbles is the test of the whole word; a row's length is that of its words.
use Rattle.std.proofs.Common.{◌≡◌, ℕ, ◌+◌, ◌*◌, ◌%◌, ◌<◌, Bool, true, ◌&&◌, List, [], ◌∷◌, refl, sym, ap, ◌∙◌, arith, eqb, ltb, bit_and}
use Rattle.std.proofs.lemmas.Nat.{and_comm, and_block, and_le_r}
use Rattle.std.proofs.lemmas.Bool.{eqb-true, eq-eqb, ltb-true, and_parts, and_from}
use Rattle.xt_isa.specs.declared.Fields.{Fields}
use Rattle.xt_isa.specs.Spelling.{Row, nibble, fits, all_rows, length_of}
use Rattle.xt_isa.specs.Ranges.{AreNibbles}
use Rattle.xt_isa.specs.Apart.{AllRows, HasItsLength, FitsByWord, word_of}
use Rattle.xt_isa.proofs.ApartRows.{Agrees, agrees_all}

-- six digits as a number
abbrev digits : ℕ → ℕ → ℕ → ℕ → ℕ → ℕ → ℕ
digits a b c d e f = a + 16 * (b + 16 * (c + 16 * (d + 16 * (e + 16 * f))))

abbrev nibbles : ℕ → ℕ
nibbles n = digits (nibble n 0) (nibble n 1) (nibble n 2) (nibble n 3) (nibble n 4) (nibble n 5)

its_nibbles : (n : ℕ) → n < 16777216 → nibbles n ≡ n
its_nibbles n h = omega arith

step : (m y a x : ℕ) → m < 16 → a < 16 → bit_and (m + 16 * y) (a + 16 * x) ≡ bit_and m a + 16 * bit_and y x
step m y a x q p =
    let e : a + 16 * x ≡ x * 16 + a = omega arith in
    let f : m + 16 * y ≡ y * 16 + m = omega arith in
    let g : bit_and (y * 16 + m) (x * 16 + a) ≡ bit_and y x * 16 + bit_and m a = and_block 4 y x m a q p in
    ap (bit_and (m + 16 * y)) e ∙ (ap (λ z. bit_and z (x * 16 + a)) f ∙ (g ∙ omega arith))

and_digits : (m : ℕ) (w : Fields) → AreNibbles w → bit_and (nibbles m) (word_of w) ≡ digits (bit_and (nibble m 0) w.op0) (bit_and (nibble m 1) w.t) (bit_and (nibble m 2) w.s) (bit_and (nibble m 3) w.r) (bit_and (nibble m 4) w.op1) (bit_and (nibble m 5) w.op2)
and_digits m w n =
    step _ _ w.op0 _ (omega arith) n.0 ∙ ap (λ z. bit_and (nibble m 0) w.op0 + 16 * z) (
    step _ _ w.t _ (omega arith) n.1 ∙ ap (λ z. bit_and (nibble m 1) w.t + 16 * z) (
    step _ _ w.s _ (omega arith) n.2 ∙ ap (λ z. bit_and (nibble m 2) w.s + 16 * z) (
    step _ _ w.r _ (omega arith) n.3 ∙ ap (λ z. bit_and (nibble m 3) w.r + 16 * z) (
    step _ _ w.op1 w.op2 (omega arith) n.4))))

masked : (row : Row) (w : Fields) → row.mask < 16777216 → AreNibbles w → bit_and (word_of w) row.mask ≡ digits (bit_and (nibble row.mask 0) w.op0) (bit_and (nibble row.mask 1) w.t) (bit_and (nibble row.mask 2) w.s) (bit_and (nibble row.mask 3) w.r) (bit_and (nibble row.mask 4) w.op1) (bit_and (nibble row.mask 5) w.op2)
masked row w h n =
    and_comm (word_of w) row.mask ∙ (ap (λ m. bit_and m (word_of w)) (sym (its_nibbles row.mask h)) ∙ and_digits row.mask w n)

peel : (a b x y : ℕ) → a < 16 → b < 16 → a + 16 * x ≡ b + 16 * y → (a ≡ b) × (x ≡ y)
peel a b x y p q e = (omega arith, omega arith)

small : (m a : ℕ) → a < 16 → bit_and m a < 16
small m a h = omega (arith, and_le_r m a)

same_digits : {a b c d e f x y z u v w : ℕ} → a ≡ x → b ≡ y → c ≡ z → d ≡ u → e ≡ v → f ≡ w → digits a b c d e f ≡ digits x y z u v w
same_digits p q r s t u = cc

forward : (row : Row) (w : Fields) → row.mask < 16777216 → row.value < 16777216 → AreNibbles w → Agrees row w → bit_and (word_of w) row.mask ≡ row.value
forward row w h g n a =
    let e0 = eqb-true (bit_and (nibble row.mask 0) w.op0) (nibble row.value 0) a.at0 in
    let e1 = eqb-true (bit_and (nibble row.mask 1) w.t) (nibble row.value 1) a.at1 in
    let e2 = eqb-true (bit_and (nibble row.mask 2) w.s) (nibble row.value 2) a.at2 in
    let e3 = eqb-true (bit_and (nibble row.mask 3) w.r) (nibble row.value 3) a.at3 in
    let e4 = eqb-true (bit_and (nibble row.mask 4) w.op1) (nibble row.value 4) a.at4 in
    let e5 = eqb-true (bit_and (nibble row.mask 5) w.op2) (nibble row.value 5) a.at5 in
    masked row w h n ∙ (same_digits e0 e1 e2 e3 e4 e5 ∙ its_nibbles row.value g)

backward : (row : Row) (w : Fields) → row.mask < 16777216 → row.value < 16777216 → AreNibbles w → bit_and (word_of w) row.mask ≡ row.value → fits row w ≡ true
backward row w h g n e =
    let d0 = peel (bit_and (nibble row.mask 0) w.op0) (nibble row.value 0) _ _ (small _ w.op0 n.0) (omega arith) (sym (masked row w h n) ∙ (e ∙ sym (its_nibbles row.value g))) in
    let d1 = peel (bit_and (nibble row.mask 1) w.t) (nibble row.value 1) _ _ (small _ w.t n.1) (omega arith) d0.1 in
    let d2 = peel (bit_and (nibble row.mask 2) w.s) (nibble row.value 2) _ _ (small _ w.s n.2) (omega arith) d1.1 in
    let d3 = peel (bit_and (nibble row.mask 3) w.r) (nibble row.value 3) _ _ (small _ w.r n.3) (omega arith) d2.1 in
    let d4 = peel (bit_and (nibble row.mask 4) w.op1) (nibble row.value 4) _ _ (small _ w.op1 n.4) (omega arith) d3.1 in
    and_from _ _ (eq-eqb _ _ d0.0) (and_from _ _ (eq-eqb _ _ d4.0) (and_from _ _ (eq-eqb _ _ d4.1) (and_from _ _ (eq-eqb _ _ d3.0) (and_from _ _ (eq-eqb _ _ d1.0) (eq-eqb _ _ d2.0)))))

by_word : (row : Row) → row.mask < 16777216 → row.value < 16777216 → FitsByWord row
by_word row h g w n = (λ f. forward row w h g n (agrees_all row w f), λ e. backward row w h g n e)

abbrev is_short : Row → Bool
is_short row = ltb row.mask 16777216 && ltb row.value 16777216

abbrev all_short : List Row → Bool
all_short [] = true
all_short (row ∷ rows) = is_short row && all_short rows

each_by_word : (rows : List Row) → all_short rows ≡ true → AllRows FitsByWord rows
each_by_word [] h = tt
each_by_word (row ∷ rows) h =
    let parts = and_parts (is_short row) (all_short rows) h in
    let bounds = and_parts (ltb row.mask 16777216) (ltb row.value 16777216) parts.0 in
    (by_word row (ltb-true _ _ bounds.0) (ltb-true _ _ bounds.1), each_by_word rows parts.1)

pub rows_fit_by_word : AllRows FitsByWord all_rows
unfolding all_rows
rows_fit_by_word = each_by_word all_rows refl

abbrev lengths_agree : List Row → Bool
lengths_agree [] = true
lengths_agree (row ∷ rows) = eqb row.len (length_of (row.value % 16)) && lengths_agree rows

each_has_its_length : (rows : List Row) → lengths_agree rows ≡ true → AllRows HasItsLength rows
each_has_its_length [] h = tt
each_has_its_length (row ∷ rows) h =
    let parts = and_parts (eqb row.len (length_of (row.value % 16))) (lengths_agree rows) h in
    (eqb-true _ _ parts.0, each_has_its_length rows parts.1)

pub rows_have_their_length : AllRows HasItsLength all_rows
unfolding all_rows
rows_have_their_length = each_has_its_length all_rows refl
