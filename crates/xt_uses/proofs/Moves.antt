-- Shifts and extensions move bits: each bit of the result is 0, or a fixed bit of the source.
use Rattle.std.proofs.Common.{◌≡◌, ℕ, ◌+◌, ◌-◌, ◌*◌, ◌/◌, ◌%◌, ◌^◌, ◌<◌, ◌≤◌, Bool, true, false, ⊎_elim, refl, sym, subst, ap, ◌∙◌, arith}
use Rattle.std.specs.Prelude.{if◌then◌else◌, nat_lt}
use Rattle.std.specs.Int.{bit_at}
use Rattle.std.proofs.lemmas.Bool.{cases_lt, ltb-true, ltb-false}
use Rattle.std.proofs.lemmas.Nat.{mod_below, pow_below, pow_pos, shr_le}
use Rattle.std.proofs.lemmas.Nat.Bits.{bit_at_above, bit_at_cat_low, bit_at_cat_high, bit_at_ones}
use Rattle.std.proofs.Math.Nat.{mod-le, mod-add-div'}
use Rattle.std.proofs.Math.Pow.{high_ones, shr_lt}
use Rattle.xt_word.specs.Words.{sign_extended}
use Rattle.xt_rows.specs.Numbers.{loaded_value}
use Rattle.xt_uses.proofs.Bits.{bit_is, bit_at_div, bit_at_rest, bit_at_rest_above, bit_at_times_low, bit_at_times_high}
use Rattle.xt_uses.proofs.Agreeing.{IsMove, Source, Zero, From}

pub copies : IsMove (λ n. n)
copies = record { word = λ n h. h; bits = λ i low. From i low (λ n h. refl) }

-- ---- to the right
div_source : (k i : ℕ) → Source (λ n. n / 2 ^ k) i
div_source k i =
    ⊎_elim
    (λ low. From (k + i) low (λ n h. bit_at_div n k i))
    (λ high. Zero (λ n h. bit_at_div n k i ∙ bit_at_above n 32 (k + i) h high))
    (cases_lt (k + i) 32)

pub divides : (k : ℕ) → IsMove (λ n. n / 2 ^ k)
divides k = record { word = λ n h. omega (arith, shr_le n k); bits = λ i low. div_source k i }

field_source : (k w i : ℕ) → Source (λ n. n / 2 ^ k % 2 ^ w) i
field_source k w i =
    ⊎_elim
    (λ inside. ⊎_elim
    (λ low. From (k + i) low (λ n h. bit_at_rest (n / 2 ^ k) w i inside ∙ bit_at_div n k i))
    (λ high. Zero (λ n h. bit_at_rest (n / 2 ^ k) w i inside ∙ (bit_at_div n k i ∙ bit_at_above n 32 (k + i) h high)))
    (cases_lt (k + i) 32))
    (λ above. Zero (λ n h. bit_at_rest_above (n / 2 ^ k) w i above))
    (cases_lt i w)

pub fields : (k w : ℕ) → IsMove (λ n. n / 2 ^ k % 2 ^ w)
fields k w = record { word = λ n h. omega (arith, mod-le (n / 2 ^ k) (2 ^ w), shr_le n k); bits = λ i low. field_source k w i }

-- ---- to the left
times_source : (k i : ℕ) → i < 32 → Source (λ n. n * 2 ^ k % 2 ^ 32) i
times_source k i low =
    ⊎_elim
    (λ under. Zero (λ n h. bit_at_rest (n * 2 ^ k) 32 i low ∙ bit_at_times_low n k i under))
    (λ above. From (i - k) (omega arith) (λ n h. bit_at_rest (n * 2 ^ k) 32 i low ∙ bit_at_times_high n k i above))
    (cases_lt i k)

pub times : (k : ℕ) → IsMove (λ n. n * 2 ^ k % 2 ^ 32)
times k = record { word = λ n h. mod_below (n * 2 ^ k) (2 ^ 32) (pow_pos 32); bits = λ i low. times_source k i low }

-- ---- with copies of the sign
abbrev chosen : ℕ → ℕ → Bool → ℕ
chosen v k b = if b then v % 2 ^ k else v % 2 ^ k + (2 ^ 32 - 2 ^ k)

ones_above : (v k : ℕ) → k ≤ 32 → v % 2 ^ k + (2 ^ 32 - 2 ^ k) ≡ (2 ^ (32 - k) - 1) * 2 ^ k + v % 2 ^ k
ones_above v k h =
    let e : 32 - k + k ≡ 32 = omega arith in
    omega (arith, high_ones (32 - k) k, ap (λ j. 2 ^ j) e)

sext_low : (v k i : ℕ) → i < k → k ≤ 32 → (b : Bool) → bit_at (chosen v k b) i ≡ bit_at v i
sext_low v k i h g true = bit_at_rest v k i h
sext_low v k i h g false =
    ap (λ x. bit_at x i) (ones_above v k g) ∙ (bit_at_cat_low (2 ^ (32 - k) - 1) k (v % 2 ^ k) i h ∙ bit_at_rest v k i h)

-- the sign is the bit below k
sign_clear : (v k : ℕ) → 0 < k → v % 2 ^ k < 2 ^ (k - 1) → bit_at v (k - 1) ≡ 0
sign_clear v k h g = sym (bit_at_rest v k (k - 1) (omega arith)) ∙ bit_at_above (v % 2 ^ k) (k - 1) (k - 1) g (omega arith)

sign_set : (v k : ℕ) → 0 < k → 2 ^ (k - 1) ≤ v % 2 ^ k → bit_at v (k - 1) ≡ 1
sign_set v k h g =
    ⊎_elim
    (λ zero.
    let b : v % 2 ^ k / 2 ^ (k - 1) % 2 ≡ 0 = bit_at_rest v k (k - 1) (omega arith) ∙ zero in
    let fits : v % 2 ^ k < 2 ^ (1 + (k - 1)) = subst (λ n. v % 2 ^ k < 2 ^ n) {x = k} (omega arith) (mod_below v (2 ^ k) (pow_pos k)) in
    let q : v % 2 ^ k / 2 ^ (k - 1) < 2 ^ 1 = shr_lt 1 (k - 1) fits in
    let z : v % 2 ^ k / 2 ^ (k - 1) ≡ 0 = omega arith in
    absurd (omega (arith, mod-add-div' (v % 2 ^ k) (2 ^ (k - 1)), ap (λ x. x * 2 ^ (k - 1)) z, mod_below (v % 2 ^ k) (2 ^ (k - 1)) (pow_pos (k - 1)))))
    (λ one. one)
    (bit_is v (k - 1))

sext_high : (v k i : ℕ) → 0 < k → k ≤ 32 → k ≤ i → i < 32 → (b : Bool) → nat_lt (v % 2 ^ k) (2 ^ (k - 1)) ≡ b → bit_at (chosen v k b) i ≡ bit_at v (k - 1)
sext_high v k i p g h low true is = bit_at_rest_above v k i h ∙ sym (sign_clear v k p (ltb-true (v % 2 ^ k) (2 ^ (k - 1)) is))
sext_high v k i p g h low false is =
    ap (λ x. bit_at x i) (ones_above v k g)
    ∙ (bit_at_cat_high (2 ^ (32 - k) - 1) k (v % 2 ^ k) i (mod_below v (2 ^ k) (pow_pos k)) h
    ∙ (bit_at_ones (32 - k) (i - k) (omega arith) ∙ sym (sign_set v k p (ltb-false (v % 2 ^ k) (2 ^ (k - 1)) is))))

sext_source : (k i : ℕ) → 0 < k → k ≤ 32 → i < 32 → Source (λ n. sign_extended n k) i
sext_source k i p g low =
    ⊎_elim
    (λ inside. From i low (λ n h. sext_low n k i inside g (nat_lt (n % 2 ^ k) (2 ^ (k - 1)))))
    (λ above. From (k - 1) (omega arith) (λ n h. sext_high n k i p g above low (nat_lt (n % 2 ^ k) (2 ^ (k - 1))) refl))
    (cases_lt i k)

word_chosen : (v k : ℕ) → k ≤ 32 → (b : Bool) → chosen v k b < 2 ^ 32
word_chosen v k g b =
    let r : v % 2 ^ k < 2 ^ k = mod_below v (2 ^ k) (pow_pos k) in
    let t : 2 ^ k ≤ 2 ^ 32 = ⊎_elim (λ lt. let q = pow_below k 32 lt in omega arith) (λ ge. let e : k ≡ 32 = omega arith in omega (arith, ap (λ j. 2 ^ j) e)) (cases_lt k 32) in
    both b r t
  where
    both : (b : Bool) → v % 2 ^ k < 2 ^ k → 2 ^ k ≤ 2 ^ 32 → chosen v k b < 2 ^ 32
    both true r t = omega arith
    both false r t = omega arith

pub extends : (k : ℕ) → 0 < k → k ≤ 32 → IsMove (λ n. sign_extended n k)
extends k p g = record { word = λ n h. word_chosen n k g (nat_lt (n % 2 ^ k) (2 ^ (k - 1))); bits = λ i low. sext_source k i p g low }

pub extended_moves : (signed : Bool) → IsMove (λ n. loaded_value signed n)
unfolding loaded_value
extended_moves true = extends 16 (omega arith) (omega arith)
extended_moves false = copies
