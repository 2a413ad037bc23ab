-- A Boolean register that is written, by std's lemmas on one bit.
use Rattle.std.proofs.Common.{◌≡◌, ◌≢◌, ℕ, ◌-◌, ◌*◌, ◌%◌, ◌^◌, ◌<◌, Bool, true, false, subst, ap, ◌∙◌, arith, bit_or, bit_and}
use Rattle.std.specs.Prelude.{max, ◌==◌}
use Rattle.std.specs.Int.{bit_at, w16}
use Rattle.std.proofs.lemmas.Nat.{pow_below, or_lt, and_le_l}
use Rattle.std.proofs.lemmas.Nat.Bits.{bit_at_or, bit_at-pow_same, bit_at-pow_other, bit_at-lt, bit_at_clear_same, bit_at_clear_other}
use Rattle.xt_word.specs.Registers.{is_set, with_register}

mask : (k : ℕ) → k < 16 → 1 * 2 ^ k % 2 ^ 16 ≡ 2 ^ k
mask k h = omega (arith, pow_below k 16 h)

set_at_same : (n k : ℕ) → bit_at (bit_or n (2 ^ k)) k ≡ 1
set_at_same n k = bit_at_or n (2 ^ k) k ∙ (ap (max (bit_at n k)) (bit_at-pow_same k) ∙ omega (arith, bit_at-lt n k))

set_at_other : (n k i : ℕ) → i ≢ k → bit_at (bit_or n (2 ^ k)) i ≡ bit_at n i
set_at_other n k i h = bit_at_or n (2 ^ k) i ∙ (ap (max (bit_at n i)) (bit_at-pow_other k i h) ∙ omega arith)

cleared_at_same : (n k : ℕ) → k < 16 → bit_at (bit_and n (2 ^ 16 - 1 - 2 ^ k)) k ≡ 0
cleared_at_same n k h = subst (λ m. bit_at (bit_and n (2 ^ 16 - 1 - m)) k ≡ 0) (mask k h) (bit_at_clear_same w16 n k h)

cleared_at_other : (n k i : ℕ) → k < 16 → i < 16 → i ≢ k → bit_at (bit_and n (2 ^ 16 - 1 - 2 ^ k)) i ≡ bit_at n i
cleared_at_other n k i h g e = subst (λ m. bit_at (bit_and n (2 ^ 16 - 1 - m)) i ≡ bit_at n i) (mask k h) (bit_at_clear_other w16 n k h i g e)

pub written_same : (b i : ℕ) (value : Bool) → i < 16 → is_set (with_register b i value) i ≡ value
unfolding is_set with_register
written_same b i true h = ap (λ n. n == 1) (set_at_same b i)
written_same b i false h = ap (λ n. n == 1) (cleared_at_same b i h)

pub written_other : (b i k : ℕ) (value : Bool) → i < 16 → k < 16 → k ≢ i → is_set (with_register b i value) k ≡ is_set b k
unfolding is_set with_register
written_other b i k true h g e = ap (λ n. n == 1) (set_at_other b i k e)
written_other b i k false h g e = ap (λ n. n == 1) (cleared_at_other b i k h g e)

pub written_small : (b i : ℕ) (value : Bool) → b < 2 ^ 16 → i < 16 → with_register b i value < 2 ^ 16
unfolding with_register
written_small b i true p h = or_lt 16 b (2 ^ i) p (pow_below i 16 h)
written_small b i false p h = omega (arith, and_le_l b (2 ^ 16 - 1 - 2 ^ i))
