-- What the used bits of a word decide: a bit that is tested, the sign, the low bits.
use Rattle.std.proofs.Common.{◌≡◌, ℕ, zero, suc, ◌-◌, ◌%◌, ◌^◌, ◌<◌, Bool, true, false, ⊎_elim, cond, not, eqb, refl, sym, ap, ◌∙◌, arith}
use Rattle.std.specs.Prelude.{pos, negsuc, bit_and, bit_or, min, max, nat_lt, int_lt}
use Rattle.std.specs.Int.{bit_at}
use Rattle.std.proofs.lemmas.Bool.{cases_lt, and_parts, eqb-true, eq-eqb, le-ltb, ltb-true, ltb-false}
use Rattle.std.proofs.lemmas.Nat.{and_le_l}
use Rattle.std.proofs.lemmas.Nat.Bits.{same_from_bits, bit_at_and, bit_at_or, bit_at-lt, bit_at-pow_same, bit_at_ones, bit_at_above}
use Rattle.xt_word.specs.Conditions.{holds}
use Rattle.xt_word.specs.declared.conditions.Cond.TheVariants as test
use Rattle.xt_uses.specs.Words.{Word, Fits, knows, is_whole, complement, zeros, both_mask, and_mask, and_word, not_word}
use Rattle.xt_uses.specs.Used.{sign_bit, bit_number, low_bits, tested_known}
use Rattle.xt_uses.specs.UseLaws.{AgreeIn}
use Rattle.xt_uses.proofs.Bits.{bit_at_rest, bit_at_rest_above, flipped_at, top_clear, top_set}
use Rattle.xt_uses.proofs.Agreeing.{agree_at}
use Rattle.xt_uses.proofs.Wholes.{known_at, value_at, value_word, whole_at, and_agrees}

-- ---- known bits
pub known_bit : (k x : ℕ) (a : Word) → Fits x a → knows (2 ^ k) a ≡ true → bit_at x k ≡ bit_at a.value k
known_bit k x a f h = known_at (2 ^ k) k x a f h (bit_at-pow_same k)

pub low_known : (k x : ℕ) (a : Word) → Fits x a → knows (low_bits k) a ≡ true → x % 2 ^ k ≡ a.value % 2 ^ k
low_known k x a f h =
    same_from_bits (x % 2 ^ k) (a.value % 2 ^ k)
    (λ i. ⊎_elim
    (λ low. bit_at_rest x k i low ∙ known_at (2 ^ k - 1) i x a f h (bit_at_ones k i low) ∙ sym (bit_at_rest a.value k i low))
    (λ high. bit_at_rest_above x k i high ∙ sym (bit_at_rest_above a.value k i high))
    (cases_lt i k))

pub tested_bit : (x y : ℕ) (a b : Word) → Fits x a → Fits y b → tested_known a b ≡ true → bit_at x (y % 32) ≡ bit_at a.value (b.value % 32)
tested_bit x y a b f g h =
    let p = and_parts (knows (low_bits 5) b) (knows (bit_number b.value) a) h in
    ap (λ n. bit_at x n) (low_known 5 y b g p.0) ∙ known_bit (b.value % 32) x a f p.1

-- ---- numbers that agree in all bits
whole_agree : (w : Word) (n k : ℕ) → is_whole w ≡ true → n < 2 ^ 32 → k < 2 ^ 32 → AgreeIn w.mask n k → n ≡ k
whole_agree w n k all h l agree =
    same_from_bits n k
    (λ i. ⊎_elim
    (λ low. agree_at w.mask n k i agree (whole_at w all i low))
    (λ high. bit_at_above n 32 i h high ∙ sym (bit_at_above k 32 i l high))
    (cases_lt i 32))

eqb_both : (p q r s : ℕ) → (p ≡ q → r ≡ s) → (r ≡ s → p ≡ q) → eqb p q ≡ eqb r s
eqb_both p q r s there back = by_tests (eqb p q) refl (eqb r s) refl
  where
    by_tests : (b : Bool) → eqb p q ≡ b → (c : Bool) → eqb r s ≡ c → b ≡ c
    by_tests true e true g = refl
    by_tests false e false g = refl
    by_tests true e false g = sym (eq-eqb r s (there (eqb-true p q e))) ∙ g
    by_tests false e true g = sym e ∙ eq-eqb p q (back (eqb-true r s g))

-- bits x and y, of which a and b say whether they are known
lacking_at : (x y a b : ℕ) → x < 2 → y < 2 → a < 2 → b < 2 → max (min a b) (max (min (1 - min (1 - min x a) a) a) (min (1 - min y b) b)) ≡ 1 → y - min x y ≡ min y b - min (min x a) (min y b)
lacking_at zero zero zero zero lx ly la lb h = absurd (omega arith)
lacking_at zero zero zero (suc zero) lx ly la lb h = refl
lacking_at zero zero (suc zero) zero lx ly la lb h = absurd (omega arith)
lacking_at zero zero (suc zero) (suc zero) lx ly la lb h = refl
lacking_at zero (suc zero) zero zero lx ly la lb h = absurd (omega arith)
lacking_at zero (suc zero) zero (suc zero) lx ly la lb h = absurd (omega arith)
lacking_at zero (suc zero) (suc zero) zero lx ly la lb h = absurd (omega arith)
lacking_at zero (suc zero) (suc zero) (suc zero) lx ly la lb h = refl
lacking_at (suc zero) zero zero zero lx ly la lb h = absurd (omega arith)
lacking_at (suc zero) zero zero (suc zero) lx ly la lb h = refl
lacking_at (suc zero) zero (suc zero) zero lx ly la lb h = refl
lacking_at (suc zero) zero (suc zero) (suc zero) lx ly la lb h = refl
lacking_at (suc zero) (suc zero) zero zero lx ly la lb h = absurd (omega arith)
lacking_at (suc zero) (suc zero) zero (suc zero) lx ly la lb h = absurd (omega arith)
lacking_at (suc zero) (suc zero) (suc zero) zero lx ly la lb h = refl
lacking_at (suc zero) (suc zero) (suc zero) (suc zero) lx ly la lb h = refl
lacking_at (suc (suc x)) y a b lx ly la lb h = absurd (omega arith)
lacking_at x (suc (suc y)) a b lx ly la lb h = absurd (omega arith)
lacking_at x y (suc (suc a)) b lx ly la lb h = absurd (omega arith)
lacking_at x y a (suc (suc b)) lx ly la lb h = absurd (omega arith)

lacking_bits : (x y a b v w z p q both rest all : ℕ) → x < 2 → y < 2 → a < 2 → b < 2 → v ≡ min x a → w ≡ min y b → z ≡ min (1 - v) a → p ≡ min (1 - z) a → q ≡ min (1 - w) b
    → both ≡ min a b → rest ≡ max p q → all ≡ max both rest → all ≡ 1 → y - min x y ≡ w - min v w
lacking_bits x y a b v w z p q both rest all lx ly la lb ev ew ez ep eq eb er ea one =
    let known : max (min a b) (max (min (1 - min (1 - min x a) a) a) (min (1 - min y b) b)) ≡ 1 = cc in
    let e = lacking_at x y a b lx ly la lb known in
    cc

module _ (x y : ℕ) (a b : Word) (f : Fits x a) (g : Fits y b) (h : x < 2 ^ 32) (l : y < 2 ^ 32) where
  -- BNONE and BANY
  pub and_known : is_whole (and_word a b) ≡ true → bit_and x y ≡ bit_and a.value b.value
  and_known all =
      let p : bit_and x y < 2 ^ 32 = omega (arith, and_le_l x y) in
      let v = value_word x a f h in
      let q : bit_and a.value b.value < 2 ^ 32 = omega (arith, and_le_l a.value b.value) in
      whole_agree (and_word a b) (bit_and x y) (bit_and a.value b.value) all p q (and_agrees x y a b f g h l)

  -- BALL and BNALL: the bits of y that x lacks are those of b that a lacks
  lacking : is_whole (and_word (not_word a) b) ≡ true → (i : ℕ) → bit_at y i - min (bit_at x i) (bit_at y i) ≡ bit_at b.value i - min (bit_at a.value i) (bit_at b.value i)
  lacking all i = ⊎_elim inside (λ high. let z = bit_at_above y 32 i l high in let w = value_at y b g i in omega arith) (cases_lt i 32)
    where
      inside : i < 32 → bit_at y i - min (bit_at x i) (bit_at y i) ≡ bit_at b.value i - min (bit_at a.value i) (bit_at b.value i)
      inside low =
          lacking_bits (bit_at x i) (bit_at y i) (bit_at a.mask i) (bit_at b.mask i) (bit_at a.value i) (bit_at b.value i) (bit_at (zeros a) i) (bit_at (zeros (not_word a)) i) (bit_at (zeros b) i)
          (bit_at (both_mask (not_word a) b) i) (bit_at (bit_or (zeros (not_word a)) (zeros b)) i) (bit_at (and_mask (not_word a) b) i)
          (bit_at-lt x i) (bit_at-lt y i) (bit_at-lt a.mask i) (bit_at-lt b.mask i) (value_at x a f i) (value_at y b g i)
          (bit_at_and (complement a.value) a.mask i ∙ ap (λ n. min n (bit_at a.mask i)) (flipped_at a.value i low))
          (bit_at_and (complement (zeros a)) a.mask i ∙ ap (λ n. min n (bit_at a.mask i)) (flipped_at (zeros a) i low))
          (bit_at_and (complement b.value) b.mask i ∙ ap (λ n. min n (bit_at b.mask i)) (flipped_at b.value i low))
          (bit_at_and a.mask b.mask i) (bit_at_or (zeros (not_word a)) (zeros b) i) (bit_at_or (both_mask (not_word a) b) (bit_or (zeros (not_word a)) (zeros b)) i)
          (whole_at (and_word (not_word a) b) all i low)

  pub all_known : is_whole (and_word (not_word a) b) ≡ true → eqb (bit_and x y) y ≡ eqb (bit_and a.value b.value) b.value
  all_known all =
      eqb_both (bit_and x y) y (bit_and a.value b.value) b.value
      (λ e. same_from_bits (bit_and a.value b.value) b.value
      (λ i. let d = lacking all i in let p = bit_at_and a.value b.value i in let q : min (bit_at x i) (bit_at y i) ≡ bit_at y i = sym (bit_at_and x y i) ∙ ap (λ n. bit_at n i) e in omega arith))
      (λ e. same_from_bits (bit_and x y) y
      (λ i. let d = lacking all i in let p = bit_at_and x y i in let q : min (bit_at a.value i) (bit_at b.value i) ≡ bit_at b.value i = sym (bit_at_and a.value b.value i) ∙ ap (λ n. bit_at n i) e in omega arith))

-- ---- the sign
negative : (x : ℕ) → holds test.Lt x 0 ≡ not (nat_lt x (2 ^ 31))
unfolding holds
negative x = by_test (nat_lt x (2 ^ 31))
  where
    by_test : (b : Bool) → int_lt (cond b (pos x) (negsuc (2 ^ 32 - suc x))) (pos 0) ≡ not b
    by_test true = le-ltb x 0 (omega arith)
    by_test false = refl

sign_at : (x : ℕ) → x < 2 ^ 32 → nat_lt x (2 ^ 31) ≡ eqb (bit_at x 31) 0
sign_at x h = by_test (nat_lt x (2 ^ 31)) refl
  where
    by_test : (b : Bool) → nat_lt x (2 ^ 31) ≡ b → b ≡ eqb (bit_at x 31) 0
    by_test true low =
        let e : bit_at x 31 ≡ 0 = top_clear x (ltb-true x (2 ^ 31) low) in
        rw e refl
    by_test false high =
        let e : bit_at x 31 ≡ 1 = top_set x (ltb-false x (2 ^ 31) high) h in
        rw e refl

sign_decides : (x : ℕ) → x < 2 ^ 32 → holds test.Lt x 0 ≡ not (eqb (bit_at x 31) 0)
sign_decides x h = negative x ∙ ap not (sign_at x h)

pub sign_known : (x : ℕ) (a : Word) → Fits x a → x < 2 ^ 32 → a.value < 2 ^ 32 → knows sign_bit a ≡ true → holds test.Lt x 0 ≡ holds test.Lt a.value 0
sign_known x a f h l w = sign_decides x h ∙ ap (λ n. not (eqb n 0)) (known_bit 31 x a f w) ∙ sym (sign_decides a.value l)

pub not_sign_known : (x : ℕ) (a : Word) → Fits x a → x < 2 ^ 32 → a.value < 2 ^ 32 → knows sign_bit a ≡ true → holds test.Ge x 0 ≡ holds test.Ge a.value 0
unfolding holds
not_sign_known x a f h l w = ap not (sign_known x a f h l w)
