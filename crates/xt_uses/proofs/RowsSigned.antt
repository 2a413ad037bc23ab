-- Shifts to the right with copies of the sign: SRA and SRAI.
use Rattle.std.proofs.Common.{◌≡◌, ℕ, suc, ◌+◌, ◌-◌, ◌/◌, ◌^◌, ◌<◌, ◌≤◌, Bool, true, false, ⊎_elim, cond, refl, sym, ap, ◌∙◌, arith}
use Rattle.std.specs.Prelude.{pos, negsuc, nat_lt}
use Rattle.std.specs.Int.{bit_at, int_shr}
use Rattle.std.proofs.lemmas.Bool.{cases_lt, ltb-true, ltb-false}
use Rattle.std.proofs.lemmas.Nat.{shr_le}
use Rattle.std.proofs.lemmas.Nat.Bits.{bit_at-lt, bit_at_above}
use Rattle.xt_word.specs.Signed.{word_of}
use Rattle.xt_word.specs.Shifts.{sra, srai}
use Rattle.xt_uses.proofs.Bits.{bit_at_div, top_clear, top_set, rest_at}
use Rattle.xt_uses.proofs.Agreeing.{IsMove, Source, From}

-- the word t shifted right by k, where its sign is clear, and where it is set
abbrev shifted : ℕ → ℕ → Bool → ℕ
shifted t k clear = word_of (int_shr (cond clear (pos t) (negsuc (2 ^ 32 - suc t))) k)

rest_word : (t k : ℕ) → t < 2 ^ 32 → (2 ^ 32 - suc t) / 2 ^ k < 2 ^ 32
rest_word t k h = omega (arith, shr_le (2 ^ 32 - suc t) k)

shifted_rest : (t k i : ℕ) → t < 2 ^ 32 → i < 32 → bit_at (shifted t k false) i ≡ 1 - bit_at (2 ^ 32 - suc t) (k + i)
shifted_rest t k i h low = rest_at ((2 ^ 32 - suc t) / 2 ^ k) i (rest_word t k h) low ∙ ap (λ b. 1 - b) (bit_at_div (2 ^ 32 - suc t) k i)

shifted_low : (t k i : ℕ) → t < 2 ^ 32 → i < 32 → k + i < 32 → (b : Bool) → bit_at (shifted t k b) i ≡ bit_at t (k + i)
shifted_low t k i h low under true = bit_at_div t k i
shifted_low t k i h low under false =
    let p = shifted_rest t k i h low in
    let q = rest_at t (k + i) h under in
    omega (arith, bit_at-lt t (k + i))

shifted_high : (t k i : ℕ) → t < 2 ^ 32 → i < 32 → 32 ≤ k + i → (b : Bool) → nat_lt t (2 ^ 31) ≡ b → bit_at (shifted t k b) i ≡ bit_at t 31
shifted_high t k i h low over true is =
    bit_at_div t k i ∙ bit_at_above t 32 (k + i) h over ∙ sym (top_clear t (ltb-true t (2 ^ 31) is))
shifted_high t k i h low over false is =
    let p = shifted_rest t k i h low in
    let q : bit_at (2 ^ 32 - suc t) (k + i) ≡ 0 = bit_at_above (2 ^ 32 - suc t) 32 (k + i) (omega arith) over in
    let r = top_set t (ltb-false t (2 ^ 31) is) h in
    p ∙ (ap (λ b. 1 - b) q ∙ sym r)

shifted_word : (t k : ℕ) → t < 2 ^ 32 → (b : Bool) → shifted t k b < 2 ^ 32
shifted_word t k h true = omega (arith, shr_le t k)
shifted_word t k h false = omega arith

shifted_source : (k i : ℕ) → i < 32 → Source (λ t. shifted t k (nat_lt t (2 ^ 31))) i
shifted_source k i low =
    ⊎_elim
    (λ under. From (k + i) under (λ t h. shifted_low t k i h low under (nat_lt t (2 ^ 31))))
    (λ over. From 31 (omega arith) (λ t h. shifted_high t k i h low over (nat_lt t (2 ^ 31)) refl))
    (cases_lt (k + i) 32)

pub sra_moves : (k : ℕ) → IsMove (λ t. sra t k)
unfolding sra
sra_moves k = record { word = λ t h. shifted_word t k h (nat_lt t (2 ^ 31)); bits = λ i low. shifted_source k i low }

pub srai_moves : (k : ℕ) → IsMove (λ t. srai t k)
unfolding srai
srai_moves k = record { word = λ t h. shifted_word t k h (nat_lt t (2 ^ 31)); bits = λ i low. shifted_source k i low }
