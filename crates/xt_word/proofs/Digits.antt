-- What the placeholders `{:02X}` and `{:08X}` write.
use Rattle.std.proofs.Common.{◌≡◌, ℕ, zero, suc, ◌+◌, ◌-◌, ◌/◌, ◌%◌, ◌^◌, ◌<◌, ◌≤◌, true, false, List, [], ◌∷◌, ◌++◌, length, replicate, refl, sym, ap, ◌∙◌, ⊎_elim, lit≤, arith}
use Rattle.std.proofs.lemmas.Bool.{cases_lt}
use Rattle.std.proofs.lemmas.Bool.Decides.{nat_tests}
use Rattle.std.proofs.lemmas.List.{replicate_more}
use Rattle.std.specs.Fmt.{digits, digits_onto, digit_glyph, padded_integral, format_spec, char_count, before_digits, number_padding}
use mathlib.Core.List.{append_assoc, append-nil}
use Rattle.xt_word.specs.Hexadecimal.{hex_digits, hex2, hex8}

-- the digits of 0
hex_digits-zero : (k : ℕ) → hex_digits k 0 ≡ replicate k 48
hex_digits-zero zero = refl
hex_digits-zero (suc k) = let more : k + 1 ≡ suc k = omega arith in ap (λ ds. ds ++ 48 ∷ []) (hex_digits-zero k) ∙ replicate_more k 48 ∙ ap (λ m. replicate m 48) more

-- the two steps of `digits_onto`: the last digit, and one of more
one_digit : (fuel n : ℕ) (acc : List ℕ) → n < 16 → digits_onto (suc fuel) 16 true n acc ≡ digit_glyph true (n % 16) ∷ acc
one_digit fuel n acc small = let none : n / 16 ≡ 0 = omega arith in rw none refl

more_digits : (fuel n : ℕ) (acc : List ℕ) → 16 ≤ n → digits_onto (suc fuel) 16 true n acc ≡ digits_onto fuel 16 true (n / 16) (digit_glyph true (n % 16) ∷ acc)
more_digits fuel n acc large = let some : 0 < n / 16 = omega arith in grind (arith, nat_tests)

-- the digits with zeros before them, so that there are k more than acc has
abbrev filled_to : ℕ → List ℕ → List ℕ → List ℕ
filled_to k acc ds = replicate (k + length acc - length ds) 48 ++ ds

-- the same as `filled`, of a number of one digit
filled-one : (k fuel n : ℕ) (acc : List ℕ) → n < 16 → filled_to (suc k) acc (digits_onto (suc fuel) 16 true n acc) ≡ hex_digits (suc k) n ++ acc
filled-one k fuel n acc small =
    let none : n / 16 ≡ 0 = omega arith in
    let many : suc k + length acc - length (digit_glyph true (n % 16) ∷ acc) ≡ k = omega arith in
    rw (one_digit fuel n acc small, many, none, hex_digits-zero k, append_assoc)

-- with at least as much fuel as there are digits
filled : (k fuel n : ℕ) (acc : List ℕ) → n < 16 ^ suc k → k ≤ fuel → filled_to (suc k) acc (digits_onto (suc fuel) 16 true n acc) ≡ hex_digits (suc k) n ++ acc
filled zero fuel n acc small enough = filled-one zero fuel n acc (omega arith)
filled (suc k) zero n acc small enough = absurd (omega arith)
filled (suc k) (suc fuel) n acc small enough = ⊎_elim
    (λ few. filled-one (suc k) (suc fuel) n acc few)
    (λ many.
    let glyph = digit_glyph true (n % 16) in
    let below : n / 16 < 16 ^ suc k = omega arith in
    let ds = digits_onto (suc fuel) 16 true (n / 16) (glyph ∷ acc) in
    let same : suc (suc k) + length acc ≡ suc k + length (glyph ∷ acc) = omega arith in
    ap (filled_to (suc (suc k)) acc) (more_digits (suc fuel) n acc many)
    ∙ ap (λ m. replicate (m - length ds) 48 ++ ds) same
    ∙ filled k fuel (n / 16) (glyph ∷ acc) below (omega arith)
    ∙ sym (append_assoc (hex_digits (suc k) (n / 16)) (glyph ∷ []) acc))
    (cases_lt n 16)

-- what stands before the digits of a number, where k digits are asked for
before : (k len : ℕ) → before_digits (format_spec 32 0 4 k (2 ^ 64 - 1)) false [] len ≡ replicate (k - len) 48
unfolding char_count
before k len = let padding : number_padding (format_spec 32 0 4 k (2 ^ 64 - 1)) false [] len ≡ k - len = omega arith in ap (λ m. replicate m 48) padding

padded-zero : (k : ℕ) (ds : List ℕ) → padded_integral (format_spec 32 0 4 k (2 ^ 64 - 1)) false [] ds ≡ replicate (k - length ds) 48 ++ ds
unfolding padded_integral
padded-zero k ds = simp (append-nil, before)

pub padded_is_hex2 : (n : ℕ) → n < 2 ^ 8 → padded_integral (format_spec 32 0 4 2 (2 ^ 64 - 1)) false [] (digits 16 true n) ≡ hex2 n
unfolding hex2 digits
padded_is_hex2 n small = padded-zero 2 (digits 16 true n) ∙ filled 1 63 n [] small (lit≤ tt) ∙ append-nil (hex_digits 2 n)

pub padded_is_hex8 : (n : ℕ) → n < 2 ^ 32 → padded_integral (format_spec 32 0 4 8 (2 ^ 64 - 1)) false [] (digits 16 true n) ≡ hex8 n
unfolding hex8 digits
padded_is_hex8 n small = padded-zero 8 (digits 16 true n) ∙ filled 7 63 n [] small (lit≤ tt) ∙ append-nil (hex_digits 8 n)
