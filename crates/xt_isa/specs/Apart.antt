-- States laws that are proved; nothing that a reader must believe.
-- The rows: no word is of two rows; the third byte plays no part in a 16-bit word; a row's
-- length is its word's; nibble by nibble or by the whole word, a row fits the same words.
use Rattle.std.specs.Prelude.{◌≡◌, ◌↔◌, ℕ, ◌+◌, ◌*◌, ◌%◌, true, List, [], ◌∷◌, bit_and}
use Rattle.xt_isa.specs.declared.Fields.{Fields}
use Rattle.xt_isa.specs.Spelling.{Row, fits, spelled_insn, length_of}
use Rattle.xt_isa.specs.Ranges.{AreNibbles}

-- each row of the list has the property
abbrev pub AllRows : (Row → Type 0) → List Row → Type 0
AllRows P [] = Unit {0}
AllRows P (row ∷ rows) = P row × AllRows P rows

abbrev pub NeverBoth : Row → Row → Type 0
NeverBoth a b = (w : Fields) → fits a w ≡ true → fits b w ≡ true → ⊥

-- of any two rows of the list, in two places, no word is of both
abbrev pub AreApart : List Row → Type 0
AreApart [] = Unit {0}
AreApart (row ∷ rows) = AllRows (NeverBoth row) rows × AreApart rows

-- the two nibbles of the third byte could as well be 0
abbrev pub ThirdByteIsFree : ℕ → ℕ → ℕ → ℕ → ℕ → ℕ → Type 0
ThirdByteIsFree op0 t s r op1 op2 =
    spelled_insn (record { op0 = op0; t = t; s = s; r = r; op1 = op1; op2 = op2 })
    ≡ spelled_insn (record { op0 = op0; t = t; s = s; r = r; op1 = 0; op2 = 0 })

-- the row's length is that of its words by their first byte
abbrev pub HasItsLength : Row → Type 0
HasItsLength row = row.len ≡ length_of (row.value % 16)

-- the word of six nibbles
abbrev pub word_of : Fields → ℕ
word_of w = w.op0 + 16 * (w.t + 16 * (w.s + 16 * (w.r + 16 * (w.op1 + 16 * w.op2))))

-- the row's test by nibbles is the test of the whole word
abbrev pub FitsByWord : Row → Type 0
FitsByWord row =
    (w : Fields) → AreNibbles w → (fits row w ≡ true) ↔ (bit_and (word_of w) row.mask ≡ row.value)
