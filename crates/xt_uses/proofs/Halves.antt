-- Products of low halves agree in the bits below the lowest that is not known of either half.
use Rattle.std.proofs.Common.{◌≡◌, ℕ, ◌*◌, ◌%◌, ◌^◌, ◌<◌, ◌≤◌, ℤ, pos, negsuc, ◌*ℤ◌, FitsSigned, ⊎_elim, refl, sym, ap, ◌∙◌, arith}
use Rattle.std.specs.Prelude.{bit_and, max, unsigned_abs}
use Rattle.std.specs.Int.{bit_at, trailing_ones, w16, w32, cast_signed, cast_unsigned, int_rem_euclid, int_wrap}
use Rattle.std.proofs.lemmas.Bool.{cases_lt}
use Rattle.std.proofs.lemmas.Int.{fits_signed_mul, of_z-to_z, wrapping_mul-bits}
use Rattle.std.proofs.lemmas.Nat.{mod_below, mul-mod, or_lt, pow_pos}
use Rattle.std.proofs.lemmas.Nat.Bits.{bit_at_or}
use Rattle.xt_word.specs.Arithmetic.{mul16u, mul16s}
use Rattle.xt_word.specs.Signed.{signed_half, word_of}
use Rattle.xt_rows.proofs.Bounds.{mul16u_small}
use Rattle.xt_uses.specs.Words.{Word, Fits, masked}
use Rattle.xt_uses.specs.Known.{half_mask, sum_mask}
use Rattle.xt_uses.specs.UseLaws.{AgreeIn}
use Rattle.xt_uses.proofs.Bits.{bit_at_rest, bit_at_rest_above, bit_at_times_low}
use Rattle.xt_uses.proofs.Agreeing.{agree_at, agree_from}
use Rattle.xt_uses.proofs.Sums.{Same, both_below, first_same, products_agree, same_in, same_product, same_rest, second_same, sum_word}
use Rattle.xt_uses.proofs.Wholes.{fits_agree}

-- ---- the mask of a low half
half_at : (mask i : ℕ) → i < 16 → bit_at (half_mask mask) i ≡ bit_at mask i
half_at mask i low =
    let e : max (bit_at mask i) (bit_at 0xFFFF0000 i) ≡ bit_at (half_mask mask) i = sym (bit_at_or mask 0xFFFF0000 i) in
    let z : bit_at 0xFFFF0000 i ≡ 0 = bit_at_times_low 0xFFFF 16 i low in
    omega arith

half_word : (mask : ℕ) → mask < 2 ^ 32 → half_mask mask < 2 ^ 32
half_word mask h = or_lt 32 mask 0xFFFF0000 h (omega arith)

pub half_product_word : (mask other : ℕ) → mask < 2 ^ 32 → sum_mask (half_mask mask) (half_mask other) < 2 ^ 32
half_product_word mask other h = sum_word (half_mask mask) (half_mask other) (half_word mask h)

low_agrees : (mask n m : ℕ) → AgreeIn mask n m → AgreeIn (half_mask mask) (n % 2 ^ 16) (m % 2 ^ 16)
low_agrees mask n m h = agree_from (half_mask mask) (n % 2 ^ 16) (m % 2 ^ 16)
    (λ i one. ⊎_elim
    (λ low. bit_at_rest n 16 i low ∙ agree_at mask n m i h (sym (half_at mask i low) ∙ one) ∙ sym (bit_at_rest m 16 i low))
    (λ high. bit_at_rest_above n 16 i high ∙ sym (bit_at_rest_above m 16 i high))
    (cases_lt i 16))

-- ---- the low half of a signed product
abs_small : (z : ℤ) → FitsSigned w32 z → unsigned_abs z ≤ 2 ^ 32
abs_small (pos n) f = let h = f.sfits in omega arith
abs_small (negsuc n) f = let h = f.sfits in omega arith

word_rest : (z : ℤ) → unsigned_abs z ≤ 2 ^ 32 → word_of z % 2 ^ 16 ≡ unsigned_abs (int_rem_euclid z (pos (2 ^ 16)))
word_rest (pos n) h = refl
word_rest (negsuc n) h = grind arith

half_fits : (s : ℕ) → unsigned_abs (signed_half s) ≤ 2 ^ 15
half_fits s = grind arith

low_product : (s t : ℕ) → Same 16 (mul16s s t) (s * t)
unfolding mul16s int_wrap
low_product s t =
    let z : ℤ = signed_half s *ℤ signed_half t in
    let p : ℕ = s % 2 ^ 16 * (t % 2 ^ 16) in
    let fits = fits_signed_mul w32 (signed_half s) (signed_half t) (2 ^ 15) (2 ^ 15) (half_fits s) (half_fits t) (omega arith) in
    let e = wrapping_mul-bits w16 (s % 2 ^ 16) (t % 2 ^ 16) (mod_below s (2 ^ 16) (pow_pos 16)) (mod_below t (2 ^ 16) (pow_pos 16)) in
    sym (of_z-to_z w16 (word_of z % 2 ^ 16) (mod_below (word_of z) (2 ^ 16) (pow_pos 16)))
    ∙ ap (λ n. cast_unsigned w16 (cast_signed w16 n)) (word_rest z (abs_small z fits))
    ∙ ap (λ n. cast_unsigned w16 n) (sym e)
    ∙ of_z-to_z w16 (p % 2 ^ 16) (mod_below p (2 ^ 16) (pow_pos 16))
    ∙ sym (mul-mod s t (2 ^ 16))

-- ---- fewer low bits
fewer : (k j n m : ℕ) → k ≤ j → Same j n m → Same k n m
fewer k j n m h e = sym (same_rest j k n h) ∙ ap (λ z. z % 2 ^ k) e ∙ same_rest j k m h

rest_of_word : (n : ℕ) → n < 2 ^ 32 → n ≡ n % 2 ^ 32
rest_of_word n h = omega arith

-- ---- rows
module _ (x y : ℕ) (a b : Word) (f : Fits x a) (g : Fits y b) (m : a.mask < 2 ^ 32) where
  abbrev both : ℕ
  both = bit_and (half_mask a.mask) (half_mask b.mask)

  abbrev count : ℕ
  count = trailing_ones w32 both

  low_x : AgreeIn (half_mask a.mask) (x % 2 ^ 16) (a.value % 2 ^ 16)
  low_x = low_agrees a.mask x a.value (fits_agree x a f)

  low_y : AgreeIn (half_mask b.mask) (y % 2 ^ 16) (b.value % 2 ^ 16)
  low_y = low_agrees b.mask y b.value (fits_agree y b g)

  pub mul16u_agrees : AgreeIn (sum_mask (half_mask a.mask) (half_mask b.mask)) (mul16u x y) (mul16u a.value b.value)
  unfolding mul16u
  mul16u_agrees =
      ap (λ n. masked (sum_mask (half_mask a.mask) (half_mask b.mask)) n) (rest_of_word (mul16u x y) (mul16u_small x y))
      ∙ products_agree (half_mask a.mask) (half_mask b.mask) (x % 2 ^ 16) (a.value % 2 ^ 16) (y % 2 ^ 16) (b.value % 2 ^ 16) (half_word a.mask m) low_x low_y
      ∙ ap (λ n. masked (sum_mask (half_mask a.mask) (half_mask b.mask)) n) (sym (rest_of_word (mul16u a.value b.value) (mul16u_small a.value b.value)))

  same_x : Same count (x % 2 ^ 16) (a.value % 2 ^ 16)
  same_x = first_same (half_mask a.mask) (half_mask b.mask) (x % 2 ^ 16) (a.value % 2 ^ 16) (y % 2 ^ 16) (b.value % 2 ^ 16) (half_word a.mask m) low_x low_y

  same_y : Same count (y % 2 ^ 16) (b.value % 2 ^ 16)
  same_y = second_same (half_mask a.mask) (half_mask b.mask) (x % 2 ^ 16) (a.value % 2 ^ 16) (y % 2 ^ 16) (b.value % 2 ^ 16) (half_word a.mask m) low_x low_y

  -- a bit of a half is not known
  some_lack : count ≤ 16 → Same count (mul16s x y) (mul16s a.value b.value)
  some_lack h =
      fewer count 16 (mul16s x y) (x * y) h (low_product x y)
      ∙ same_product count x y a.value b.value
      (sym (same_rest 16 count x h) ∙ same_x ∙ same_rest 16 count a.value h)
      (sym (same_rest 16 count y h) ∙ same_y ∙ same_rest 16 count b.value h)
      ∙ sym (fewer count 16 (mul16s a.value b.value) (a.value * b.value) h (low_product a.value b.value))

  -- both halves are known
  none_lacks : 16 ≤ count → Same count (mul16s x y) (mul16s a.value b.value)
  unfolding mul16s
  none_lacks h =
      let p : x % 2 ^ 16 ≡ a.value % 2 ^ 16 = sym (same_rest 16 16 x (omega arith)) ∙ fewer 16 count (x % 2 ^ 16) (a.value % 2 ^ 16) h same_x ∙ same_rest 16 16 a.value (omega arith) in
      let q : y % 2 ^ 16 ≡ b.value % 2 ^ 16 = sym (same_rest 16 16 y (omega arith)) ∙ fewer 16 count (y % 2 ^ 16) (b.value % 2 ^ 16) h same_y ∙ same_rest 16 16 b.value (omega arith) in
      ap (λ n. word_of (cast_signed w16 n *ℤ signed_half y) % 2 ^ count) p
      ∙ ap (λ n. word_of (signed_half a.value *ℤ cast_signed w16 n) % 2 ^ count) q

  pub mul16s_agrees : AgreeIn (sum_mask (half_mask a.mask) (half_mask b.mask)) (mul16s x y) (mul16s a.value b.value)
  mul16s_agrees =
      same_in both (both_below (half_mask a.mask) (half_mask b.mask) (half_word a.mask m)) (mul16s x y) (mul16s a.value b.value)
      (⊎_elim
      (λ lt. some_lack (omega arith))
      (λ ge. none_lacks ge)
      (cases_lt count 16))
