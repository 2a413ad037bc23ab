-- The bit of a window, set and cleared, by std's lemmas on one bit.
use Rattle.std.proofs.Common.{◌≡◌, ◌≢◌, ℕ, ◌-◌, ◌*◌, ◌/◌, ◌%◌, ◌^◌, ◌<◌, true, false, eqb, sym, subst, ap, ◌∙◌, arith, bit_or, bit_and, ⊎_elim}
use Rattle.std.specs.Prelude.{max, ◌==◌}
use Rattle.std.specs.Int.{bit_at, w16}
use Rattle.std.proofs.lemmas.Nat.{pow_below, or_lt, and_le_l}
use Rattle.std.proofs.lemmas.Nat.Bits.{bit_at_or, bit_at-pow_same, bit_at-pow_other, bit_at-lt, bit_at_clear_same, bit_at_clear_other, same_from_bits_below}
use Rattle.std.proofs.lemmas.Bool.{cases_eq, false≢true}
use Rattle.std.proofs.lemmas.Bool.Decides.{eqb_tells}
use Rattle.xt_window.specs.Ring.{bit, with_bit, without_bit}

-- a window is known by its remainder by 16
pub bit_of_same : (start v w : ℕ) → v % 16 ≡ w % 16 → bit start v ≡ bit start w
unfolding bit
bit_of_same start v w e = ap (λ k. (start / 2 ^ k % 2) == 1) e

set_at_same : (n k : ℕ) → bit_at (bit_or n (2 ^ k)) k ≡ 1
set_at_same n k = bit_at_or n (2 ^ k) k ∙ (ap (max (bit_at n k)) (bit_at-pow_same k) ∙ omega (arith, bit_at-lt n k))

set_at_other : (n k i : ℕ) → i ≢ k → bit_at (bit_or n (2 ^ k)) i ≡ bit_at n i
set_at_other n k i h = bit_at_or n (2 ^ k) i ∙ (ap (max (bit_at n i)) (bit_at-pow_other k i h) ∙ omega arith)

pub set_same : (start w : ℕ) → bit (with_bit start w) w ≡ true
unfolding bit with_bit
set_same start w = ap (λ n. n == 1) (set_at_same start (w % 16))

pub set_other : (start w v : ℕ) → v % 16 ≢ w % 16 → bit (with_bit start w) v ≡ bit start v
unfolding bit with_bit
set_other start w v h = ap (λ n. n == 1) (set_at_other start (w % 16) (v % 16) h)

mask : (k : ℕ) → k < 16 → 1 * 2 ^ k % 2 ^ 16 ≡ 2 ^ k
mask k h = omega (arith, pow_below k 16 h)

cleared_at_same : (n k : ℕ) → k < 16 → bit_at (bit_and n (2 ^ 16 - 1 - 2 ^ k)) k ≡ 0
cleared_at_same n k h = subst (λ m. bit_at (bit_and n (2 ^ 16 - 1 - m)) k ≡ 0) (mask k h) (bit_at_clear_same w16 n k h)

cleared_at_other : (n k i : ℕ) → k < 16 → i < 16 → i ≢ k → bit_at (bit_and n (2 ^ 16 - 1 - 2 ^ k)) i ≡ bit_at n i
cleared_at_other n k i h g e = subst (λ m. bit_at (bit_and n (2 ^ 16 - 1 - m)) i ≡ bit_at n i) (mask k h) (bit_at_clear_other w16 n k h i g e)

pub cleared_same : (start w : ℕ) → bit (without_bit start w) w ≡ false
unfolding bit without_bit
cleared_same start w = ap (λ n. n == 1) (cleared_at_same start (w % 16) (omega arith))

pub cleared_other : (start w v : ℕ) → v % 16 ≢ w % 16 → bit (without_bit start w) v ≡ bit start v
unfolding bit without_bit
cleared_other start w v h = ap (λ n. n == 1) (cleared_at_other start (w % 16) (v % 16) (omega arith) (omega arith) h)

clear_at : (start w : ℕ) → bit start w ≡ false → bit_at start (w % 16) ≡ 0
unfolding bit
clear_at start w h =
    ⊎_elim
    (λ (e : (eqb (bit_at start (w % 16)) 1 ≡ true) × (bit_at start (w % 16) ≡ 1)). absurd (false≢true (sym h ∙ e.0)))
    (λ (e : (eqb (bit_at start (w % 16)) 1 ≡ false) × (bit_at start (w % 16) ≢ 1)). let ne : bit_at start (w % 16) ≢ 1 = e.1 in omega (arith, bit_at-lt start (w % 16)))
    (eqb_tells (bit_at start (w % 16)) 1)

restored_at : (start k i : ℕ) → k < 16 → i < 16 → bit_at start k ≡ 0 → bit_at (bit_and (bit_or start (2 ^ k)) (2 ^ 16 - 1 - 2 ^ k)) i ≡ bit_at start i
restored_at start k i h g clear =
    ⊎_elim
    (λ (e : i ≡ k). subst (λ j. bit_at (bit_and (bit_or start (2 ^ k)) (2 ^ 16 - 1 - 2 ^ k)) j ≡ bit_at start j) (sym e) (cleared_at_same (bit_or start (2 ^ k)) k h ∙ sym clear))
    (λ (ne : i ≢ k). cleared_at_other (bit_or start (2 ^ k)) k i h g ne ∙ (bit_at_or start (2 ^ k) i ∙ (ap (max (bit_at start i)) (bit_at-pow_other k i ne) ∙ omega arith)))
    (cases_eq i k)

-- a bit that was clear, set and cleared again
pub restored : (start w : ℕ) → start < 2 ^ 16 → bit start w ≡ false → without_bit (with_bit start w) w ≡ start
unfolding with_bit without_bit
restored start w h clear =
    let k = w % 16 in
    let fits : bit_or start (2 ^ k) < 2 ^ 16 = or_lt 16 start (2 ^ k) h (pow_below k 16 (omega arith)) in
    same_from_bits_below 16 (bit_and (bit_or start (2 ^ k)) (2 ^ 16 - 1 - 2 ^ k)) start (omega (arith, and_le_l (bit_or start (2 ^ k)) (2 ^ 16 - 1 - 2 ^ k))) h
    (λ i g. restored_at start k i (omega arith) g (clear_at start w clear))
