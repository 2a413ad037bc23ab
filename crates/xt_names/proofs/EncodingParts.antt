-- A word out of its parts: the nibbles that a row fixes, and the digits of a number that is spread over fields.
use Rattle.std.proofs.Common.{◌≡◌, ℕ, ◌+◌, ◌*◌, ◌/◌, ◌%◌, ◌<◌, Bool, true, false, cond, ltb, eqb, List, [], ◌∷◌, Option, Some, None, refl, ap, ◌∙◌, arith, pos, bit_and}
use Rattle.std.proofs.lemmas.Bool.{agree_below_at, cond_both, eqb-true}
use Rattle.std.proofs.lemmas.Grind.{high_numeral_and, numeral_and}
use Rattle.xt_isa.specs.declared.Insn.{Insn}
use Rattle.xt_isa.specs.declared.Fields.{Fields}
use Rattle.xt_isa.specs.Ranges.{AreNibbles}
use Rattle.xt_isa.specs.Apart.{AllRows}
use Rattle.xt_isa.specs.Spelling.{Row, b4const, b4constu, below, fits, joined_rows, minus_one_or, narrow_constant, nibble, signed, spell}
use Rattle.xt_isa.proofs.ApartRows.{agrees_all}
use Rattle.xt_isa.proofs.Ranged.{below_negative}
use Rattle.xt_names.specs.Insns.{insn_size}
use Rattle.xt_names.specs.Encodings.{IsPadded}
use Rattle.xt_names.proofs.EncodingWords.{constant, fields_from, natural, unsigned}

-- ---- Rows.
-- the word has the bits of value wherever mask has a bit
pub record Matches (mask value : ℕ) (w : Fields) : Type 0 where
  pub at0 : bit_and (nibble mask 0) w.op0 ≡ nibble value 0
  pub at1 : bit_and (nibble mask 1) w.t ≡ nibble value 1
  pub at2 : bit_and (nibble mask 2) w.s ≡ nibble value 2
  pub at3 : bit_and (nibble mask 3) w.r ≡ nibble value 3
  pub at4 : bit_and (nibble mask 4) w.op1 ≡ nibble value 4
  pub at5 : bit_and (nibble mask 5) w.op2 ≡ nibble value 5

matches : (row : Row) (w : Fields) → fits row w ≡ true → Matches row.mask row.value w
matches row w h =
    let a = agrees_all row w h in
    record {
      at0 = eqb-true (bit_and (nibble row.mask 0) w.op0) (nibble row.value 0) a.at0;
      at1 = eqb-true (bit_and (nibble row.mask 1) w.t) (nibble row.value 1) a.at1;
      at2 = eqb-true (bit_and (nibble row.mask 2) w.s) (nibble row.value 2) a.at2;
      at3 = eqb-true (bit_and (nibble row.mask 3) w.r) (nibble row.value 3) a.at3;
      at4 = eqb-true (bit_and (nibble row.mask 4) w.op1) (nibble row.value 4) a.at4;
      at5 = eqb-true (bit_and (nibble row.mask 5) w.op2) (nibble row.value 5) a.at5;
    }

-- the instruction, if any, gives the word back
abbrev pub GivesBack : Fields → Option Insn → Type 0
GivesBack w None = Unit {0}
GivesBack w (Some i) = fields_from i ≡ w

-- what a row makes of a word gives the word back
abbrev pub Inverts : Row → Type 0
Inverts row = (w : Fields) → AreNibbles w → IsPadded w → Matches row.mask row.value w → GivesBack w (row.operands w)

either : (b : Bool) (x y : Option Insn) (w : Fields) → (b ≡ true → GivesBack w x) → GivesBack w y → GivesBack w (elim b [ true ↦ x | false ↦ y ])
either true x y w here later = here refl
either false x y w here later = later

-- what a row makes of a word, if anything, has so many bytes
abbrev pub is_sized : ℕ → Option Insn → Bool
is_sized n None = true
is_sized n (Some i) = eqb (insn_size i) n

pub sized : (b : Bool) (i : Insn) (n : ℕ) → is_sized n (Some i) ≡ true → is_sized n (cond b (Some i) None) ≡ true
sized b i n e = cond_both b (Some i) None (λ o. is_sized n o ≡ true) (λ _. e) (λ _. refl)

-- what a row makes of a word gives the word back, and has the length of the row
abbrev pub IsEncoded : Row → Type 0
IsEncoded row = Inverts row × ((w : Fields) → is_sized row.len (row.operands w) ≡ true)

pub spell_inverts : (rows : List Row) → AllRows IsEncoded rows → (w : Fields) → AreNibbles w → IsPadded w → GivesBack w (spell rows w)
spell_inverts [] a w n p = tt
spell_inverts (row ∷ rows) a w n p =
    either (fits row w) (row.operands w) (spell rows w) w (λ h. a.0.0 w n p (matches row w h)) (spell_inverts rows a.1 w n p)

pub encoded_joined : (rows more : List Row) → AllRows IsEncoded rows → AllRows IsEncoded more → AllRows IsEncoded (joined_rows rows more)
encoded_joined [] more a b = b
encoded_joined (row ∷ rows) more a b = (a.0, encoded_joined rows more a.1 b)

pub guarded : (b : Bool) (i : Insn) (w : Fields) → (b ≡ true → fields_from i ≡ w) → GivesBack w (cond b (Some i) None)
guarded b i w h = cond_both b (Some i) None (GivesBack w) h (λ _. tt)

abbrev fields : ℕ → ℕ → ℕ → ℕ → ℕ → ℕ → Fields
fields op0 t s r op1 op2 = record { op0 = op0; t = t; s = s; r = r; op1 = op1; op2 = op2 }

same_fields : {a b c d e f k l m n o p : ℕ} → a ≡ k → b ≡ l → c ≡ m → d ≡ n → e ≡ o → f ≡ p → fields a b c d e f ≡ fields k l m n o p
same_fields g h i j q x = cc

pub word_is : {op0 t s r op1 op2 : ℕ} (w : Fields) → op0 ≡ w.op0 → t ≡ w.t → s ≡ w.s → r ≡ w.r → op1 ≡ w.op1 → op2 ≡ w.op2 → record { op0 = op0; t = t; s = s; r = r; op1 = op1; op2 = op2 } ≡ w
word_is w a b c d e f = same_fields a b c d e f

-- ---- Nibbles.
-- a nibble whose four bits, low two, high three, high two or high one a row fixes
pub full : (a v : ℕ) → a < 16 → bit_and 15 a ≡ v → v ≡ a
full a v h e = omega (arith, e, numeral_and 14 a refl)

pub low_two : (a v x : ℕ) → bit_and 3 a ≡ v → x ≡ a / 4 → v + 4 * x ≡ a
low_two a v x e d = omega (arith, e, d, numeral_and 2 a refl)

pub high_three : (a v x : ℕ) → a < 16 → bit_and 14 a ≡ v → x ≡ a % 2 → v + x ≡ a
high_three a v x h e d = omega (arith, e, d, high_numeral_and 13 a refl h)

pub high_two : (a v x : ℕ) → a < 16 → bit_and 12 a ≡ v → x ≡ a % 4 → v + x ≡ a
high_two a v x h e d = omega (arith, e, d, high_numeral_and 11 a refl h)

pub high_one : (a x : ℕ) → a < 16 → bit_and 8 a ≡ 0 → x ≡ a % 8 → x ≡ a
high_one a x h e d = omega (arith, e, d, high_numeral_and 7 a refl h)

-- ---- Digits of a number.
pub digit0 : (m a x : ℕ) → a < 16 → m ≡ a + 16 * x → m % 16 ≡ a
digit0 m a x p e = omega arith

pub digit1 : (m a b x : ℕ) → a < 16 → b < 16 → m ≡ a + 16 * (b + 16 * x) → m / 16 % 16 ≡ b
digit1 m a b x p q e = omega arith

pub digit2 : (m a b c x : ℕ) → a < 16 → b < 16 → c < 16 → m ≡ a + 16 * (b + 16 * (c + 16 * x)) → m / 256 % 16 ≡ c
digit2 m a b c x p q r e = omega arith

pub rest1 : (m a x : ℕ) → a < 16 → m ≡ a + 16 * x → m / 16 ≡ x
rest1 m a x p e = omega arith

pub rest2 : (m a b x : ℕ) → a < 16 → b < 16 → m ≡ a + 16 * (b + 16 * x) → m / 256 ≡ x
rest2 m a b x p q e = omega arith

pub rest3 : (m a b c x : ℕ) → a < 16 → b < 16 → c < 16 → m ≡ a + 16 * (b + 16 * (c + 16 * x)) → m / 4096 ≡ x
rest3 m a b c x p q r e = omega arith

-- ---- Numbers out of integers.
pub below_back : (half n : ℕ) → n < 2 * half → unsigned half (below n (2 * half)) ≡ n
below_back half n h = ap (unsigned half) (below_negative n (2 * half) h) ∙ omega arith

pub signed_back : (half n : ℕ) → n < 2 * half → unsigned half (signed half n) ≡ n
unfolding signed
signed_back half n h = cond_both (ltb n half) (pos n) (below n (2 * half)) (λ z. unsigned half z ≡ n) (λ e. refl) (λ e. below_back half n h)

pub narrow_constant_back : (n : ℕ) → n < 128 → unsigned 64 (narrow_constant n) ≡ n
unfolding narrow_constant
narrow_constant_back n h = cond_both (ltb n 96) (pos n) (below n 128) (λ z. unsigned 64 z ≡ n) (λ e. refl) (λ e. below_back 64 n h)

pub minus_one_or_back : (n : ℕ) → n < 16 → natural (minus_one_or n) ≡ n
unfolding minus_one_or
minus_one_or_back n h = eqb-true _ _ (agree_below_at (λ n. eqb (natural (minus_one_or n)) n) (λ _. true) 16 n refl h)

pub b4const_back : (r : ℕ) → r < 16 → constant (b4const r) ≡ r
unfolding b4const
b4const_back r h = eqb-true _ _ (agree_below_at (λ r. eqb (constant (b4const r)) r) (λ _. true) 16 r refl h)

pub b4constu_back : (r : ℕ) → r < 16 → constant (b4constu r) ≡ r
unfolding b4constu
b4constu_back r h = eqb-true _ _ (agree_below_at (λ r. eqb (constant (b4constu r)) r) (λ _. true) 16 r refl h)
