-- Sums, differences and products agree in the bits below the lowest that is not known.
use Rattle.std.proofs.Common.{◌≡◌, ℕ, ◌+◌, ◌-◌, ◌*◌, ◌/◌, ◌%◌, ◌^◌, ◌<◌, ◌≤◌, ℤ, pos, negsuc, suc, Bool, true, false, eqb, ⊎_elim, refl, sym, ap, ◌∙◌, arith}
use Rattle.std.specs.Prelude.{bit_and, min, if◌then◌else◌}
use Rattle.std.specs.Int.{bit_at, trailing_ones, w32}
use Rattle.std.proofs.lemmas.Bool.{cases_lt, eqb-true}
use Rattle.std.proofs.lemmas.Nat.{and_mask, and_le_l, mul-mod, pow_below, pow_pos}
use Rattle.std.proofs.lemmas.Nat.Bits.{same_from_bits, bit_at_and, bit_at-lt, bit_at_ones, bit_at-trailing_ones}
use Rattle.std.proofs.Math.Nat.{add-mod, add-mul-mod_self_left, div-add-mod, mod-add-mod, mul-sub}
use Rattle.xt_word.specs.Arithmetic.{addx, subx, mull, neg}
use Rattle.xt_word.specs.Shifts.{slli}
use Rattle.xt_rows.specs.Numbers.{plus}
use Rattle.xt_uses.specs.Words.{Word, Fits, all_bits, below_unknown, masked, complement}
use Rattle.xt_uses.specs.Known.{add_mask, scaled_mask, scaled_sum, sum_mask}
use Rattle.xt_uses.specs.UseLaws.{AgreeIn}
use Rattle.xt_uses.proofs.Bits.{bit_at_rest, bit_at_rest_above, flipped_word}
use Rattle.xt_uses.proofs.Agreeing.{IsMove, agree_at, agree_from, moved_agrees}
use Rattle.xt_uses.proofs.Moves.{times}
use Rattle.xt_uses.proofs.Wholes.{fits_agree, value_word}

-- ---- numbers with the same k low bits
abbrev pub Same : ℕ → ℕ → ℕ → Type 0
Same k n m = n % 2 ^ k ≡ m % 2 ^ k

pub same_rest : (w k n : ℕ) → k ≤ w → Same k (n % 2 ^ w) n
same_rest w k n h = same_from_bits (n % 2 ^ w % 2 ^ k) (n % 2 ^ k)
    (λ i. ⊎_elim
    (λ low. bit_at_rest (n % 2 ^ w) k i low ∙ bit_at_rest n w i (omega arith) ∙ sym (bit_at_rest n k i low))
    (λ high. bit_at_rest_above (n % 2 ^ w) k i high ∙ sym (bit_at_rest_above n k i high))
    (cases_lt i k))

same_sum : (k a b c d : ℕ) → Same k a c → Same k b d → Same k (a + b) (c + d)
same_sum k a b c d h g =
    let e : (a % 2 ^ k + b % 2 ^ k) % 2 ^ k ≡ (c % 2 ^ k + d % 2 ^ k) % 2 ^ k = ap (λ n. (n + b % 2 ^ k) % 2 ^ k) h ∙ ap (λ n. (c % 2 ^ k + n) % 2 ^ k) g in
    add-mod a b (2 ^ k) ∙ e ∙ sym (add-mod c d (2 ^ k))

pub same_product : (k a b c d : ℕ) → Same k a c → Same k b d → Same k (a * b) (c * d)
same_product k a b c d h g =
    let e : (a % 2 ^ k * (b % 2 ^ k)) % 2 ^ k ≡ (c % 2 ^ k * (d % 2 ^ k)) % 2 ^ k = ap (λ n. (n * (b % 2 ^ k)) % 2 ^ k) h ∙ ap (λ n. (c % 2 ^ k * n) % 2 ^ k) g in
    mul-mod a b (2 ^ k) ∙ e ∙ sym (mul-mod c d (2 ^ k))

-- the larger of two such numbers taken from n
less_taken : (k n a b : ℕ) → a ≤ b → b ≤ n → Same k a b → Same k (n - a) (n - b)
less_taken k n a b le within h =
    let p : 2 ^ k * (a / 2 ^ k) + a % 2 ^ k ≡ a = div-add-mod a (2 ^ k) in
    let q : 2 ^ k * (b / 2 ^ k) + b % 2 ^ k ≡ b = div-add-mod b (2 ^ k) in
    let d : 2 ^ k * (b / 2 ^ k - a / 2 ^ k) ≡ 2 ^ k * (b / 2 ^ k) - 2 ^ k * (a / 2 ^ k) = mul-sub (2 ^ k) (b / 2 ^ k) (a / 2 ^ k) in
    let e : n - a ≡ n - b + 2 ^ k * (b / 2 ^ k - a / 2 ^ k) = omega arith in
    ap (λ m. m % 2 ^ k) e ∙ add-mul-mod_self_left (n - b) (2 ^ k) (b / 2 ^ k - a / 2 ^ k)

same_taken : (k n a b : ℕ) → a ≤ n → b ≤ n → Same k a b → Same k (n - a) (n - b)
same_taken k n a b within other h =
    ⊎_elim
    (λ lt. less_taken k n a b (omega arith) other h)
    (λ ge. sym (less_taken k n b a (omega arith) within (sym h)))
    (cases_lt a b)

-- ---- the bits below the lowest that is not known
count_all : trailing_ones w32 all_bits ≡ 32
unfolding lib.Count.count_trailing_zeros
count_all = refl

pub below_whole : below_unknown all_bits ≡ all_bits
below_whole = ap (λ k. 2 ^ k - 1) count_all

module _ (mask : ℕ) (h : mask < 2 ^ 32) where
  abbrev count : ℕ
  count = trailing_ones w32 mask

  is_all : 2 ^ 32 ≤ mask + 1 → mask ≡ all_bits
  is_all ge = omega arith

  pub count_small : count ≤ 32
  count_small =
      ⊎_elim
      (λ lt. let b : count < 32 = (bit_at-trailing_ones w32 mask lt).0 in omega arith)
      (λ ge. let e : count ≡ 32 = ap (λ n. trailing_ones w32 n) (is_all ge) ∙ count_all in omega arith)
      (cases_lt (mask + 1) (2 ^ 32))

  known_below : (i : ℕ) → i < count → bit_at mask i ≡ 1
  known_below i low =
      ⊎_elim
      (λ lt. (bit_at-trailing_ones w32 mask lt).2 i low)
      (λ ge. ap (λ n. bit_at n i) (is_all ge) ∙ bit_at_ones 32 i (omega (arith, count_small)))
      (cases_lt (mask + 1) (2 ^ 32))

  same_low : (n m : ℕ) → AgreeIn mask n m → Same count n m
  same_low n m g = same_from_bits (n % 2 ^ count) (m % 2 ^ count)
      (λ i. ⊎_elim
      (λ low. bit_at_rest n count i low ∙ agree_at mask n m i g (known_below i low) ∙ sym (bit_at_rest m count i low))
      (λ high. bit_at_rest_above n count i high ∙ sym (bit_at_rest_above m count i high))
      (cases_lt i count))

  pub same_in : (n m : ℕ) → Same count n m → AgreeIn (below_unknown mask) n m
  same_in n m g = and_mask n count ∙ g ∙ sym (and_mask m count)

  rest_in : (n m : ℕ) → Same count n m → AgreeIn (below_unknown mask) (n % 2 ^ 32) (m % 2 ^ 32)
  rest_in n m g = same_in (n % 2 ^ 32) (m % 2 ^ 32) (same_rest 32 count n count_small ∙ g ∙ sym (same_rest 32 count m count_small))

  pub below_word : below_unknown mask < 2 ^ 32
  below_word =
      let p = pow_pos count in
      ⊎_elim
      (λ lt. let q = pow_below count 32 lt in omega arith)
      (λ ge. let e : count ≡ 32 = omega (arith, count_small) in let q : 2 ^ count ≡ 2 ^ 32 = ap (λ k. 2 ^ k) e in omega arith)
      (cases_lt count 32)

  -- of one word and a number
  pub plus_agrees : (n m : ℕ) (z : ℤ) → AgreeIn mask n m → AgreeIn (below_unknown mask) (plus n z) (plus m z)
  unfolding plus
  plus_agrees n m (pos z) g = rest_in (n + z) (m + z) (same_sum count n z m z (same_low n m g) refl)
  plus_agrees n m (negsuc z) g = rest_in (n + (2 ^ 32 - suc z)) (m + (2 ^ 32 - suc z)) (same_sum count n (2 ^ 32 - suc z) m (2 ^ 32 - suc z) (same_low n m g) refl)

  pub neg_agrees : (n m : ℕ) → n < 2 ^ 32 → m < 2 ^ 32 → AgreeIn mask n m → AgreeIn (below_unknown mask) (neg n) (neg m)
  unfolding neg
  neg_agrees n m a b g = rest_in (2 ^ 32 - n) (2 ^ 32 - m) (same_taken count (2 ^ 32) n m (omega arith) (omega arith) (same_low n m g))

-- ---- two words
in_first : (mask other n m : ℕ) → AgreeIn mask n m → AgreeIn (bit_and mask other) n m
in_first mask other n m h = agree_from (bit_and mask other) n m (λ i one.
    let e : min (bit_at mask i) (bit_at other i) ≡ 1 = sym (bit_at_and mask other i) ∙ one in
    agree_at mask n m i h (omega (arith, bit_at-lt mask i, bit_at-lt other i)))

in_second : (mask other n m : ℕ) → AgreeIn other n m → AgreeIn (bit_and mask other) n m
in_second mask other n m h = agree_from (bit_and mask other) n m (λ i one.
    let e : min (bit_at mask i) (bit_at other i) ≡ 1 = sym (bit_at_and mask other i) ∙ one in
    agree_at other n m i h (omega (arith, bit_at-lt mask i, bit_at-lt other i)))

pub both_below : (mask other : ℕ) → mask < 2 ^ 32 → bit_and mask other < 2 ^ 32
both_below mask other h = omega (arith, and_le_l mask other)

pub sum_word : (mask other : ℕ) → mask < 2 ^ 32 → sum_mask mask other < 2 ^ 32
sum_word mask other h = below_word (bit_and mask other) (both_below mask other h)

module _ (mask other n m y z : ℕ) (h : mask < 2 ^ 32) (a : AgreeIn mask n m) (b : AgreeIn other y z) where
  abbrev both : ℕ
  both = bit_and mask other

  pub first_same : Same (trailing_ones w32 both) n m
  first_same = same_low both (both_below mask other h) n m (in_first mask other n m a)

  pub second_same : Same (trailing_ones w32 both) y z
  second_same = same_low both (both_below mask other h) y z (in_second mask other y z b)

  sums_agree : AgreeIn (sum_mask mask other) ((n + y) % 2 ^ 32) ((m + z) % 2 ^ 32)
  sums_agree = rest_in both (both_below mask other h) (n + y) (m + z) (same_sum (trailing_ones w32 both) n y m z first_same second_same)

  differences_agree : y < 2 ^ 32 → z < 2 ^ 32 → AgreeIn (sum_mask mask other) ((n + (2 ^ 32 - y)) % 2 ^ 32) ((m + (2 ^ 32 - z)) % 2 ^ 32)
  differences_agree p q = rest_in both (both_below mask other h) (n + (2 ^ 32 - y)) (m + (2 ^ 32 - z))
      (same_sum (trailing_ones w32 both) n (2 ^ 32 - y) m (2 ^ 32 - z) first_same (same_taken (trailing_ones w32 both) (2 ^ 32) y z (omega arith) (omega arith) second_same))

  pub products_agree : AgreeIn (sum_mask mask other) (n * y % 2 ^ 32) (m * z % 2 ^ 32)
  products_agree = rest_in both (both_below mask other h) (n * y) (m * z) (same_product (trailing_ones w32 both) n y m z first_same second_same)

-- ---- AR[s] as it is shifted
shifts : (k : ℕ) → IsMove (λ n. slli n k)
unfolding slli
shifts k = times k

pub scaled_word : (k mask : ℕ) → mask < 2 ^ 32 → scaled_mask k mask < 2 ^ 32
scaled_word k mask h = flipped_word (slli (complement mask) k) ((shifts k).word (complement mask) (flipped_word mask h))

pub scaled_sum_word : (k : ℕ) (a b : Word) → a.mask < 2 ^ 32 → scaled_sum k a b < 2 ^ 32
scaled_sum_word k a b h = sum_word (scaled_mask k a.mask) b.mask (scaled_word k a.mask h)

pub add_word : (s t : ℕ) (a b : Word) → a.mask < 2 ^ 32 → add_mask s t a b < 2 ^ 32
add_word s t a b h = by_test (eqb s t)
  where
    by_test : (p : Bool) → (if p then scaled_mask 1 a.mask else sum_mask a.mask b.mask) < 2 ^ 32
    by_test true = scaled_word 1 a.mask h
    by_test false = sum_word a.mask b.mask h

-- ---- rows
module _ (x y : ℕ) (a b : Word) (f : Fits x a) (g : Fits y b) (h : x < 2 ^ 32) (l : y < 2 ^ 32) (m : a.mask < 2 ^ 32) where
  scaled : (k : ℕ) → AgreeIn (scaled_mask k a.mask) (x * 2 ^ k % 2 ^ 32) (a.value * 2 ^ k % 2 ^ 32)
  unfolding slli
  scaled k = moved_agrees (λ n. slli n k) a.mask x a.value m h (value_word x a f h) (fits_agree x a f) (shifts k)

  same_over : (mask n p q r : ℕ) → n ≡ p → q ≡ r → AgreeIn mask n q → AgreeIn mask p r
  same_over mask n p q r e d agree = ap (λ z. masked mask z) (sym e) ∙ agree ∙ ap (λ z. masked mask z) d

  pub addx_agrees : (k : ℕ) → AgreeIn (scaled_sum k a b) (addx x y k) (addx a.value b.value k)
  unfolding addx
  addx_agrees k =
      same_over (scaled_sum k a b) ((x * 2 ^ k % 2 ^ 32 + y) % 2 ^ 32) (addx x y k) ((a.value * 2 ^ k % 2 ^ 32 + b.value) % 2 ^ 32) (addx a.value b.value k)
      (mod-add-mod (x * 2 ^ k) (2 ^ 32) y) (mod-add-mod (a.value * 2 ^ k) (2 ^ 32) b.value)
      (sums_agree (scaled_mask k a.mask) b.mask (x * 2 ^ k % 2 ^ 32) (a.value * 2 ^ k % 2 ^ 32) y b.value (scaled_word k a.mask m) (scaled k) (fits_agree y b g))

  pub subx_agrees : (k : ℕ) → AgreeIn (scaled_sum k a b) (subx x y k) (subx a.value b.value k)
  unfolding subx
  subx_agrees k =
      same_over (scaled_sum k a b) ((x * 2 ^ k % 2 ^ 32 + (2 ^ 32 - y)) % 2 ^ 32) (subx x y k) ((a.value * 2 ^ k % 2 ^ 32 + (2 ^ 32 - b.value)) % 2 ^ 32) (subx a.value b.value k)
      (mod-add-mod (x * 2 ^ k) (2 ^ 32) (2 ^ 32 - y)) (mod-add-mod (a.value * 2 ^ k) (2 ^ 32) (2 ^ 32 - b.value))
      (differences_agree (scaled_mask k a.mask) b.mask (x * 2 ^ k % 2 ^ 32) (a.value * 2 ^ k % 2 ^ 32) y b.value (scaled_word k a.mask m) (scaled k) (fits_agree y b g) l (value_word y b g l))

  pub sub_agrees : AgreeIn (sum_mask a.mask b.mask) (subx x y 0) (subx a.value b.value 0)
  unfolding subx
  sub_agrees =
      same_over (sum_mask a.mask b.mask) ((x + (2 ^ 32 - y)) % 2 ^ 32) (subx x y 0) ((a.value + (2 ^ 32 - b.value)) % 2 ^ 32) (subx a.value b.value 0) (omega arith) (omega arith)
      (differences_agree a.mask b.mask x a.value y b.value m (fits_agree x a f) (fits_agree y b g) l (value_word y b g l))

  pub mull_agrees : AgreeIn (sum_mask a.mask b.mask) (mull x y) (mull a.value b.value)
  unfolding mull
  mull_agrees = products_agree a.mask b.mask x a.value y b.value m (fits_agree x a f) (fits_agree y b g)

  plain_agrees : AgreeIn (sum_mask a.mask b.mask) (addx x y 0) (addx a.value b.value 0)
  unfolding addx
  plain_agrees =
      same_over (sum_mask a.mask b.mask) ((x + y) % 2 ^ 32) (addx x y 0) ((a.value + b.value) % 2 ^ 32) (addx a.value b.value 0) (omega arith) (omega arith)
      (sums_agree a.mask b.mask x a.value y b.value m (fits_agree x a f) (fits_agree y b g))

  twice_agrees : (x ≡ y) × (a ≡ b) → AgreeIn (scaled_mask 1 a.mask) (addx x y 0) (addx a.value b.value 0)
  unfolding addx
  twice_agrees same =
      let e : x ≡ y = same.0 in
      let d : a.value ≡ b.value = ap (λ (w : Word). w.value) same.1 in
      same_over (scaled_mask 1 a.mask) (x * 2 ^ 1 % 2 ^ 32) (addx x y 0) (a.value * 2 ^ 1 % 2 ^ 32) (addx a.value b.value 0) (ap (λ n. n % 2 ^ 32) (omega arith)) (ap (λ n. n % 2 ^ 32) (omega arith))
      (scaled 1)

  pub add_agrees : (s t : ℕ) → (s ≡ t → (x ≡ y) × (a ≡ b)) → AgreeIn (add_mask s t a b) (addx x y 0) (addx a.value b.value 0)
  add_agrees s t same = by_test (eqb s t) refl
    where
      by_test : (p : Bool) → eqb s t ≡ p → AgreeIn (if p then scaled_mask 1 a.mask else sum_mask a.mask b.mask) (addx x y 0) (addx a.value b.value 0)
      by_test true e = twice_agrees (same (eqb-true s t e))
      by_test false e = plain_agrees
