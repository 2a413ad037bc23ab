-- Bits of words: of a shifted number, of a remainder, and of the other bits.
use Rattle.std.proofs.Common.{◌≡◌, ℕ, zero, suc, ◌+◌, ◌-◌, ◌*◌, ◌/◌, ◌%◌, ◌^◌, ◌<◌, ◌≤◌, ◌⊎◌, inl, inr, refl, sym, ap, ◌∙◌, arith}
use Rattle.std.specs.Int.{bit_at, w32}
use Rattle.std.proofs.lemmas.Nat.{shr-shr, xor_lt, mod_below, pow_pos}
use Rattle.std.proofs.lemmas.Nat.Bits.{bit_at_xor, bit_at-lt, bit_at-zero, bit_at_ones, bit_at_above, bit_at_cat_low, bit_at_cat_high, bit_at_not}
use Rattle.std.proofs.Math.Nat.{mod-add-div'}
use Rattle.xt_uses.specs.Words.{all_bits, complement}

pub zero_or_one : (n : ℕ) → n < 2 → (n ≡ 0) ⊎ (n ≡ 1)
zero_or_one zero h = inl refl
zero_or_one (suc zero) h = inr refl
zero_or_one (suc (suc n)) h = absurd (omega arith)

pub bit_is : (n i : ℕ) → (bit_at n i ≡ 0) ⊎ (bit_at n i ≡ 1)
bit_is n i = zero_or_one (bit_at n i) (bit_at-lt n i)

-- ---- a number divided, a remainder, a product
pub bit_at_div : (n k i : ℕ) → bit_at (n / 2 ^ k) i ≡ bit_at n (k + i)
bit_at_div n k i = ap (λ x. x % 2) (shr-shr n k i)

pub bit_at_rest : (n k i : ℕ) → i < k → bit_at (n % 2 ^ k) i ≡ bit_at n i
bit_at_rest n k i h =
    let whole : n / 2 ^ k * 2 ^ k + n % 2 ^ k ≡ n = omega (arith, mod-add-div' n (2 ^ k)) in
    sym (bit_at_cat_low (n / 2 ^ k) k (n % 2 ^ k) i h) ∙ ap (λ x. bit_at x i) whole

pub bit_at_rest_above : (n k i : ℕ) → k ≤ i → bit_at (n % 2 ^ k) i ≡ 0
bit_at_rest_above n k i h = bit_at_above (n % 2 ^ k) k i (mod_below n (2 ^ k) (pow_pos k)) h

pub bit_at_times_low : (n k i : ℕ) → i < k → bit_at (n * 2 ^ k) i ≡ 0
bit_at_times_low n k i h =
    let e : n * 2 ^ k ≡ n * 2 ^ k + 0 = omega arith in
    ap (λ x. bit_at x i) e ∙ bit_at_cat_low n k 0 i h ∙ bit_at-zero i

pub bit_at_times_high : (n k i : ℕ) → k ≤ i → bit_at (n * 2 ^ k) i ≡ bit_at n (i - k)
bit_at_times_high n k i h =
    let e : n * 2 ^ k ≡ n * 2 ^ k + 0 = omega arith in
    ap (λ x. bit_at x i) e ∙ bit_at_cat_high n k 0 i (pow_pos k) h

-- ---- the other bits of a word
pub flipped_word : (bits : ℕ) → bits < 2 ^ 32 → complement bits < 2 ^ 32
flipped_word bits h = xor_lt 32 bits all_bits h (omega arith)

pub flipped_at : (bits i : ℕ) → i < 32 → bit_at (complement bits) i ≡ 1 - bit_at bits i
flipped_at bits i h =
    let e : bit_at (complement bits) i ≡ (bit_at bits i + bit_at all_bits i) % 2 = bit_at_xor bits all_bits i in
    let o : bit_at all_bits i ≡ 1 = bit_at_ones 32 i h in
    omega (arith, bit_at-lt bits i)

-- ---- the top bit of a word, and the word of the other bits
pub top_clear : (n : ℕ) → n < 2 ^ 31 → bit_at n 31 ≡ 0
top_clear n h = bit_at_above n 31 31 h (omega arith)

pub top_set : (n : ℕ) → 2 ^ 31 ≤ n → n < 2 ^ 32 → bit_at n 31 ≡ 1
top_set n g h = omega arith

pub rest_at : (n i : ℕ) → n < 2 ^ 32 → i < 32 → bit_at (2 ^ 32 - suc n) i ≡ 1 - bit_at n i
rest_at n i h low =
    let e : 2 ^ 32 - suc n ≡ 2 ^ 32 - 1 - n = omega arith in
    ap (λ x. bit_at x i) e ∙ bit_at_not w32 n i h low
