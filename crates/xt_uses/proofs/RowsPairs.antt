-- Shifts of a pair of words: SRC, and SRL and SLL, where one of the two is 0.
use Rattle.std.proofs.Common.{◌≡◌, ℕ, ◌+◌, ◌-◌, ◌*◌, ◌/◌, ◌%◌, ◌^◌, ◌<◌, ◌≤◌, ⊎_elim, sym, ◌∙◌, arith}
use Rattle.std.specs.Int.{bit_at}
use Rattle.std.proofs.lemmas.Bool.{cases_lt}
use Rattle.std.proofs.lemmas.Nat.{mod_below, pow_pos}
use Rattle.std.proofs.lemmas.Nat.Bits.{bit_at-lt, bit_at-zero, bit_at_above, bit_at_cat_low, bit_at_cat_high}
use Rattle.xt_word.specs.Words.{pair_shifted}
use Rattle.xt_word.specs.Shifts.{src, srl, sll}
use Rattle.xt_uses.specs.Words.{Word, complement}
use Rattle.xt_uses.specs.Known.{src_mask}
use Rattle.xt_uses.specs.UseLaws.{AgreeIn}
use Rattle.xt_uses.proofs.Bits.{bit_at_div, bit_at_rest, flipped_word, flipped_at}
use Rattle.xt_uses.proofs.Agreeing.{IsMove, Source, Zero, From, agree_at, agree_from}

-- ---- a pair of numbers of w bits, shifted right by k
module _ (w s t k i : ℕ) (low : i < w) where
  shifted_at : bit_at ((s * 2 ^ w + t) / 2 ^ k % 2 ^ w) i ≡ bit_at (s * 2 ^ w + t) (k + i)
  shifted_at = bit_at_rest ((s * 2 ^ w + t) / 2 ^ k) w i low ∙ bit_at_div (s * 2 ^ w + t) k i

  wide_low : k + i < w → bit_at ((s * 2 ^ w + t) / 2 ^ k % 2 ^ w) i ≡ bit_at t (k + i)
  wide_low under = shifted_at ∙ bit_at_cat_low s w t (k + i) under

  wide_high : t < 2 ^ w → w ≤ k + i → bit_at ((s * 2 ^ w + t) / 2 ^ k % 2 ^ w) i ≡ bit_at s (k + i - w)
  wide_high h over = shifted_at ∙ bit_at_cat_high s w t (k + i) h over

pair_low : (s t k i : ℕ) → i < 32 → k + i < 32 → bit_at (pair_shifted s t k) i ≡ bit_at t (k + i)
pair_low s t k i low under = wide_low 32 s t k i low under

pair_high : (s t k i : ℕ) → t < 2 ^ 32 → i < 32 → 32 ≤ k + i → bit_at (pair_shifted s t k) i ≡ bit_at s (k + i - 32)
pair_high s t k i h low over = wide_high 32 s t k i low h over

pair_word : (s t k : ℕ) → pair_shifted s t k < 2 ^ 32
pair_word s t k = mod_below ((s * 2 ^ 32 + t) / 2 ^ k) (2 ^ 32) (pow_pos 32)

-- ---- SRL and SLL
srl_source : (k i : ℕ) → i < 32 → Source (λ n. pair_shifted 0 n k) i
srl_source k i low =
    ⊎_elim
    (λ under. From (k + i) under (λ n h. pair_low 0 n k i low under))
    (λ over. Zero (λ n h. pair_high 0 n k i h low over ∙ bit_at-zero (k + i - 32)))
    (cases_lt (k + i) 32)

pub srl_moves : (k : ℕ) → IsMove (λ n. srl n k)
unfolding srl
srl_moves k = record { word = λ n h. pair_word 0 n k; bits = λ i low. srl_source k i low }

sll_source : (k i : ℕ) → i < 32 → Source (λ n. pair_shifted n 0 k) i
sll_source k i low =
    ⊎_elim
    (λ under. Zero (λ n h. pair_low n 0 k i low under ∙ bit_at-zero (k + i)))
    (λ over. ⊎_elim
    (λ inside. From (k + i - 32) inside (λ n h. pair_high n 0 k i (omega arith) low over))
    (λ outside. Zero (λ n h. pair_high n 0 k i (omega arith) low over ∙ bit_at_above n 32 (k + i - 32) h outside))
    (cases_lt (k + i - 32) 32))
    (cases_lt (k + i) 32)

pub sll_moves : (k : ℕ) → IsMove (λ n. sll n k)
unfolding sll
sll_moves k = record { word = λ n h. pair_word n 0 k; bits = λ i low. sll_source k i low }

-- ---- SRC
pub src_word : (s t k : ℕ) → src s t k < 2 ^ 32
unfolding src
src_word s t k = pair_word s t k

module _ (x y k : ℕ) (a b : Word) (f : AgreeIn a.mask x a.value) (g : AgreeIn b.mask y b.value) (h : x < 2 ^ 32) (l : y < 2 ^ 32) (v : a.value < 2 ^ 32) (w : b.value < 2 ^ 32) (m : a.mask < 2 ^ 32) (n : b.mask < 2 ^ 32) where
  abbrev moved : ℕ
  moved = pair_shifted (complement a.mask) (complement b.mask) k

  from_low : (i : ℕ) → i < 32 → k + i < 32 → bit_at (complement moved) i ≡ 1 → bit_at (pair_shifted x y k) i ≡ bit_at (pair_shifted a.value b.value k) i
  from_low i low under one =
      let p : bit_at (complement moved) i ≡ 1 - bit_at moved i = flipped_at moved i low in
      let q : bit_at moved i ≡ bit_at (complement b.mask) (k + i) = pair_low (complement a.mask) (complement b.mask) k i low under in
      let r : bit_at (complement b.mask) (k + i) ≡ 1 - bit_at b.mask (k + i) = flipped_at b.mask (k + i) under in
      let known : bit_at b.mask (k + i) ≡ 1 = omega (arith, bit_at-lt b.mask (k + i)) in
      pair_low x y k i low under ∙ agree_at b.mask y b.value (k + i) g known ∙ sym (pair_low a.value b.value k i low under)

  from_high : (i : ℕ) → i < 32 → 32 ≤ k + i → k + i - 32 < 32 → bit_at (complement moved) i ≡ 1 → bit_at (pair_shifted x y k) i ≡ bit_at (pair_shifted a.value b.value k) i
  from_high i low over inside one =
      let p : bit_at (complement moved) i ≡ 1 - bit_at moved i = flipped_at moved i low in
      let q : bit_at moved i ≡ bit_at (complement a.mask) (k + i - 32) = pair_high (complement a.mask) (complement b.mask) k i (flipped_word b.mask n) low over in
      let r : bit_at (complement a.mask) (k + i - 32) ≡ 1 - bit_at a.mask (k + i - 32) = flipped_at a.mask (k + i - 32) inside in
      let known : bit_at a.mask (k + i - 32) ≡ 1 = omega (arith, bit_at-lt a.mask (k + i - 32)) in
      pair_high x y k i l low over ∙ agree_at a.mask x a.value (k + i - 32) f known ∙ sym (pair_high a.value b.value k i w low over)

  outside : (i : ℕ) → i < 32 → 32 ≤ k + i → 32 ≤ k + i - 32 → bit_at (pair_shifted x y k) i ≡ bit_at (pair_shifted a.value b.value k) i
  outside i low over past =
      pair_high x y k i l low over
      ∙ bit_at_above x 32 (k + i - 32) h past
      ∙ sym (pair_high a.value b.value k i w low over ∙ bit_at_above a.value 32 (k + i - 32) v past)

  each_bit : (i : ℕ) → bit_at (complement moved) i ≡ 1 → bit_at (pair_shifted x y k) i ≡ bit_at (pair_shifted a.value b.value k) i
  each_bit i one =
      ⊎_elim
      (λ low. ⊎_elim
      (λ under. from_low i low under one)
      (λ over. ⊎_elim (λ inside. from_high i low over inside one) (λ past. outside i low over past) (cases_lt (k + i - 32) 32))
      (cases_lt (k + i) 32))
      (λ high. bit_at_above (pair_shifted x y k) 32 i (pair_word x y k) high ∙ sym (bit_at_above (pair_shifted a.value b.value k) 32 i (pair_word a.value b.value k) high))
      (cases_lt i 32)

  pub src_agrees : AgreeIn (src_mask a b k) (src x y k) (src a.value b.value k)
  unfolding src
  src_agrees = agree_from (complement moved) (pair_shifted x y k) (pair_shifted a.value b.value k) each_bit
