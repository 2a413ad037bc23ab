-- Numbers that agree in known bits, bit by bit.
use Rattle.std.proofs.Common.{◌≡◌, ℕ, ◌%◌, ◌^◌, ◌<◌, ⊎_elim, sym, ap, ◌∙◌, arith}
use Rattle.std.specs.Prelude.{min}
use Rattle.std.specs.Int.{bit_at}
use Rattle.std.proofs.lemmas.Bool.{cases_lt}
use Rattle.std.proofs.lemmas.Nat.Bits.{same_from_bits, bit_at_and, bit_at-lt, bit_at_above}
use Rattle.xt_uses.specs.Words.{masked, moved_mask, complement}
use Rattle.xt_uses.specs.UseLaws.{AgreeIn}
use Rattle.xt_uses.proofs.Bits.{bit_is, bit_at_rest, bit_at_rest_above, flipped_at, flipped_word}

pub agree_at : (mask n m i : ℕ) → AgreeIn mask n m → bit_at mask i ≡ 1 → bit_at n i ≡ bit_at m i
agree_at mask n m i h one =
    let e : min (bit_at n i) (bit_at mask i) ≡ min (bit_at m i) (bit_at mask i) = sym (bit_at_and n mask i) ∙ ap (λ x. bit_at x i) h ∙ bit_at_and m mask i in
    omega (arith, bit_at-lt n i, bit_at-lt m i)

pub agree_from : (mask n m : ℕ) → ((i : ℕ) → bit_at mask i ≡ 1 → bit_at n i ≡ bit_at m i) → AgreeIn mask n m
agree_from mask n m h =
    let each : (i : ℕ) → bit_at (masked mask n) i ≡ bit_at (masked mask m) i =
    λ i. bit_at_and n mask i
    ∙ ⊎_elim
    (λ zero. omega arith)
    (λ one. ap (λ x. min x (bit_at mask i)) (h i one))
    (bit_is mask i)
    ∙ sym (bit_at_and m mask i) in
    same_from_bits (masked mask n) (masked mask m) each

pub agree_none : (n m : ℕ) → AgreeIn 0 n m
agree_none n m = agree_from 0 n m (λ i one. absurd (omega arith))

pub cut_agrees : (mask n : ℕ) → AgreeIn mask n (masked mask n)
cut_agrees mask n = agree_from mask n (masked mask n) (λ i one. let e = bit_at_and n mask i in omega (arith, bit_at-lt n i))

pub rest_agrees : (mask n m k : ℕ) → AgreeIn mask n m → AgreeIn mask (n % 2 ^ k) (m % 2 ^ k)
rest_agrees mask n m k h =
    agree_from mask (n % 2 ^ k) (m % 2 ^ k)
    (λ i one. ⊎_elim
    (λ low. bit_at_rest n k i low ∙ agree_at mask n m i h one ∙ sym (bit_at_rest m k i low))
    (λ high. bit_at_rest_above n k i high ∙ sym (bit_at_rest_above m k i high))
    (cases_lt i k))

-- ---- shifts and extensions: each bit of the result is 0, or a fixed bit of the source
pub data Source (f : ℕ → ℕ) (i : ℕ) : Type 0 where
  Zero : ((n : ℕ) → n < 2 ^ 32 → bit_at (f n) i ≡ 0) → Source f i
  From : (j : ℕ) → j < 32 → ((n : ℕ) → n < 2 ^ 32 → bit_at (f n) i ≡ bit_at n j) → Source f i

pub record IsMove (f : ℕ → ℕ) : Type 0 where
  pub word : (n : ℕ) → n < 2 ^ 32 → f n < 2 ^ 32
  pub bits : (i : ℕ) → i < 32 → Source f i

module _ (f : ℕ → ℕ) (mask n m : ℕ) (a : mask < 2 ^ 32) (b : n < 2 ^ 32) (c : m < 2 ^ 32) (h : AgreeIn mask n m) where
  from_source : (i : ℕ) → i < 32 → Source f i → bit_at (moved_mask f mask) i ≡ 1 → bit_at (f n) i ≡ bit_at (f m) i
  from_source i low (Zero z) one = z n b ∙ sym (z m c)
  from_source i low (From j within s) one =
      let known : bit_at mask j ≡ 1 = (let p = flipped_at (f (complement mask)) i low in let q = s (complement mask) (flipped_word mask a) in let r = flipped_at mask j within in omega (arith, bit_at-lt mask j)) in
      s n b ∙ agree_at mask n m j h known ∙ sym (s m c)

  pub moved_agrees : IsMove f → AgreeIn (moved_mask f mask) (f n) (f m)
  moved_agrees move =
      agree_from (moved_mask f mask) (f n) (f m)
      (λ i one. ⊎_elim
      (λ low. from_source i low (move.bits i low) one)
      (λ high. bit_at_above (f n) 32 i (move.word n b) high ∙ sym (bit_at_above (f m) 32 i (move.word m c) high))
      (cases_lt i 32))
