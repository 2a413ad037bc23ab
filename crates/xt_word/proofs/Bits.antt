-- The bits of a word, by std's lemmas on one bit.
use Rattle.std.proofs.Common.{◌≡◌, ◌≢◌, ℕ, ◌+◌, ◌-◌, ◌*◌, ◌/◌, ◌%◌, ◌^◌, ◌<◌, ◌≤◌, subst, ap, ◌∙◌, arith, bit_or, bit_and, w32}
use Rattle.std.specs.Prelude.{max}
use Rattle.std.proofs.lemmas.Nat.{pow_below}
use Rattle.std.proofs.lemmas.Nat.Bits.{bit_at_or, bit_at-pow_same, bit_at-pow_other, bit_at-lt, bit_at_clear_same, bit_at_clear_other}
use Rattle.std.proofs.Math.Nat.{mod-add-div, mod-eq_of_lt, div-one}
use Rattle.std.proofs.Math.Pow.{shr_lt}
use Rattle.std.specs.Int.{bit_at}
use Rattle.xt_word.specs.Words.{bits_of}

pub set_same : (w k : ℕ) → bits_of (bit_or w (2 ^ k)) k 1 ≡ 1
set_same w k =
    bit_at_or w (2 ^ k) k ∙ (ap (max (bit_at w k)) (bit_at-pow_same k) ∙ omega (arith, bit_at-lt w k))

pub set_other : (w k i : ℕ) → i ≢ k → bits_of (bit_or w (2 ^ k)) i 1 ≡ bits_of w i 1
set_other w k i h =
    bit_at_or w (2 ^ k) i ∙ (ap (max (bit_at w i)) (bit_at-pow_other k i h) ∙ omega arith)

single_bit : (k : ℕ) → k < 32 → 1 * 2 ^ k % 2 ^ 32 ≡ 2 ^ k
single_bit k h = omega (arith, pow_below k 32 h)

pub cleared_same : (w k : ℕ) → k < 32 → bits_of (bit_and w (2 ^ 32 - 1 - 2 ^ k)) k 1 ≡ 0
cleared_same w k h = subst (λ m. bits_of (bit_and w (2 ^ 32 - 1 - m)) k 1 ≡ 0) (single_bit k h) (bit_at_clear_same w32 w k h)

pub cleared_other : (w k i : ℕ) → k < 32 → i < 32 → i ≢ k → bits_of (bit_and w (2 ^ 32 - 1 - 2 ^ k)) i 1 ≡ bits_of w i 1
cleared_other w k i h g e = subst (λ m. bits_of (bit_and w (2 ^ 32 - 1 - m)) i 1 ≡ bits_of w i 1) (single_bit k h) (bit_at_clear_other w32 w k h i g e)

pub parts : (w low : ℕ) → w < 2 ^ 32 → low ≤ 32 → bits_of w 0 low + 2 ^ low * bits_of w low (32 - low) ≡ w
parts w low h g =
    let fits : w < 2 ^ (32 - low + low) = subst (λ n. w < 2 ^ n) {x = 32} (omega arith) h in
    ap (λ m. m % 2 ^ low + 2 ^ low * (w / 2 ^ low % 2 ^ (32 - low))) (div-one w)
    ∙ (ap (λ m. w % 2 ^ low + 2 ^ low * m) (mod-eq_of_lt (shr_lt (32 - low) low fits)) ∙ mod-add-div w (2 ^ low))
