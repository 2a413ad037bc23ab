-- Numbers that agree in a mask, and that are equal if each of its bits is known.
use Rattle.std.proofs.Common.{◌≡◌, ◌≢◌, ℕ, zero, suc, ◌-◌, ◌^◌, ◌<◌, ◌≤◌, true, List, [], ◌∷◌, length, slice_index, slice_set, refl, sym, ap, ◌∙◌, subst, ⊎_elim, arith}
use Rattle.std.specs.Prelude.{bit_and, bit_or, bit_xor, min, max}
use Rattle.std.specs.Int.{bit_at}
use Rattle.std.proofs.lemmas.Bool.{cases_lt}
use Rattle.std.proofs.lemmas.Nat.{and_le_r}
use Rattle.std.proofs.lemmas.Nat.Bits.{same_from_bits, bit_at_and, bit_at_or, bit_at_xor, bit_at-lt, bit_at_above, bit_at_ones}
use Rattle.xt_special.specs.Access.{without_bits}
use Rattle.xt_uses.specs.declared.words.Word.{Word}
use Rattle.xt_uses.specs.Words.{Fits, all_bits, masked, complement, both_mask, is_whole}
use Rattle.xt_uses.specs.UseLaws.{AgreeIn}
use Rattle.xt_uses.proofs.Bits.{flipped_at, rest_at}
use Rattle.xt_uses.proofs.Agreeing.{agree_at, agree_from}
use Rattle.xt_uses.proofs.Owb.{all_agree_word}
use Rattle.xt_uses.proofs.Wholes.{value_at, whole_at}
use Rattle.xt_simulation.specs.Learning.{common_mask}

pub record Like (mask n m : ℕ) : Type 0 where
  pub bits : AgreeIn mask n m
  pub whole : mask ≡ all_bits → n ≡ m

pub like_same : (mask n m : ℕ) → n ≡ m → Like mask n m
like_same mask n m e = record { bits = ap (masked mask) e; whole = λ w. e }

pub like_self : (mask n : ℕ) → Like mask n n
like_self mask n = like_same mask n n refl

pub like_words : (mask n m : ℕ) → n < 2 ^ 32 → m < 2 ^ 32 → AgreeIn mask n m → Like mask n m
like_words mask n m p q h = record { bits = h; whole = λ e. all_agree_word n m p q (subst (λ k. AgreeIn k n m) e h) }

-- ---- fewer bits

and_agrees_both : (mask n m k : ℕ) → AgreeIn mask n m → AgreeIn mask (bit_and n k) (bit_and m k)
and_agrees_both mask n m k h =
    agree_from mask (bit_and n k) (bit_and m k) (λ i one. bit_at_and n k i ∙ (ap (λ z. min z (bit_at k i)) (agree_at mask n m i h one) ∙ sym (bit_at_and m k i)))

pub and_like : (mask n m k : ℕ) → Like mask n m → Like mask (bit_and n k) (bit_and m k)
and_like mask n m k h = record { bits = and_agrees_both mask n m k h.bits; whole = λ e. ap (λ z. bit_and z k) (h.whole e) }

pub without_like : (mask n m k : ℕ) → Like mask n m → Like mask (without_bits n k) (without_bits m k)
unfolding without_bits
without_like mask n m k h = and_like mask n m (2 ^ 32 - 1 - k) h

or_agrees_both : (mask n m k : ℕ) → AgreeIn mask n m → AgreeIn mask (bit_or n k) (bit_or m k)
or_agrees_both mask n m k h =
    agree_from mask (bit_or n k) (bit_or m k) (λ i one. bit_at_or n k i ∙ (ap (λ z. max z (bit_at k i)) (agree_at mask n m i h one) ∙ sym (bit_at_or m k i)))

pub or_like : (mask n m k : ℕ) → Like mask n m → Like mask (bit_or n k) (bit_or m k)
or_like mask n m k h = record { bits = or_agrees_both mask n m k h.bits; whole = λ e. ap (λ z. bit_or z k) (h.whole e) }

-- ---- a part of a mask

-- a mask of which each bit is one of another's
abbrev pub Part : ℕ → ℕ → Type 0
Part part mask = (i : ℕ) → bit_at part i ≡ 1 → bit_at mask i ≡ 1

pub part_agrees : (part mask n m : ℕ) → Part part mask → AgreeIn mask n m → AgreeIn part n m
part_agrees part mask n m p h = agree_from part n m (λ i one. agree_at mask n m i h (p i one))

pub and_part : (mask k : ℕ) → Part (bit_and mask k) mask
and_part mask k i one = let e = bit_at_and mask k i in omega (arith, bit_at-lt mask i, bit_at-lt k i)

pub without_part : (mask k : ℕ) → Part (without_bits mask k) mask
unfolding without_bits
without_part mask k = and_part mask (2 ^ 32 - 1 - k)

-- the bits that are taken away may be set
pub or_gone : (mask v k : ℕ) → k < 2 ^ 32 → AgreeIn (without_bits mask k) (bit_or v k) v
unfolding without_bits
or_gone mask v k small =
    agree_from (bit_and mask (2 ^ 32 - 1 - k)) (bit_or v k) v
    (λ i one.
    let e : min (bit_at mask i) (bit_at (2 ^ 32 - 1 - k) i) ≡ 1 = sym (bit_at_and mask (2 ^ 32 - 1 - k) i) ∙ one in
    let o = bit_at_or v k i in
    ⊎_elim
    (λ low. let r : bit_at (2 ^ 32 - 1 - k) i ≡ 1 - bit_at k i = ap (λ n. bit_at n i) (omega arith) ∙ rest_at k i small low in omega (arith, bit_at-lt k i, bit_at-lt v i, bit_at-lt mask i))
    (λ high. let z = bit_at_above (2 ^ 32 - 1 - k) 32 i (omega arith) high in absurd (omega (arith, bit_at-lt mask i)))
    (cases_lt i 32))

pub not_all : (mask k : ℕ) → 0 < k → k < 2 ^ 32 → without_bits mask k ≢ all_bits
unfolding without_bits
not_all mask k some small e = let b : bit_and mask (2 ^ 32 - 1 - k) ≤ 2 ^ 32 - 1 - k = and_le_r mask (2 ^ 32 - 1 - k) in omega (arith, e, b)

-- ---- each bit is known

pub whole_is : (mask : ℕ) → mask < 2 ^ 32 → (w : Word) → w.mask ≡ mask → is_whole w ≡ true → mask ≡ all_bits
whole_is mask small w e h =
    same_from_bits mask all_bits
    (λ i. ⊎_elim
    (λ low. ap (λ z. bit_at z i) (sym e) ∙ (whole_at w h i low ∙ sym (bit_at_ones 32 i low)))
    (λ high. bit_at_above mask 32 i small high ∙ sym (bit_at_above all_bits 32 i (omega arith) high))
    (cases_lt i 32))

-- ---- the bits that two words have in common

module _ (x y : Word) (p : x.mask < 2 ^ 32) where
  common_at : (i : ℕ) → bit_at (common_mask x y) i ≡ 1 → (bit_at x.mask i ≡ 1) × (bit_at y.mask i ≡ 1) × (bit_at x.value i ≡ bit_at y.value i)
  common_at i one =
      let e : min (bit_at (both_mask x y) i) (bit_at (complement (bit_xor x.value y.value)) i) ≡ 1 = sym (bit_at_and (both_mask x y) (complement (bit_xor x.value y.value)) i) ∙ one in
      let b = bit_at_and x.mask y.mask i in
      ⊎_elim
      (λ low.
      let f = flipped_at (bit_xor x.value y.value) i low in
      let d = bit_at_xor x.value y.value i in (
        omega (arith, bit_at-lt x.mask i, bit_at-lt y.mask i),
        omega (arith, bit_at-lt x.mask i, bit_at-lt y.mask i),
        omega (arith, bit_at-lt x.value i, bit_at-lt y.value i, bit_at-lt (complement (bit_xor x.value y.value)) i),
      ))
      (λ high. let z = bit_at_above x.mask 32 i p high in absurd (omega (arith, bit_at-lt y.mask i)))
      (cases_lt i 32)

  -- what fits one of them has the second's bits there
  pub common_second : (n : ℕ) → Fits n y → AgreeIn (common_mask x y) n y.value
  common_second n f =
      agree_from (common_mask x y) n y.value
      (λ i one. let c = common_at i one in let v = value_at n y f i in let m = c.1 in omega (arith, bit_at-lt n i))

  pub common_first : (n : ℕ) → Fits n x → AgreeIn (common_mask x y) n y.value
  common_first n f =
      agree_from (common_mask x y) n y.value
      (λ i one. let c = common_at i one in let v = value_at n x f i in let m = c.0 in let e = c.2 in omega (arith, bit_at-lt n i))

-- ---- an entry of two lists after both were set

pub set_both : (xs ys : List ℕ) (k v w j : ℕ) (P : ℕ → ℕ → Type 0) → length xs ≡ length ys → ((n : ℕ) → P n n) → (j ≡ k → P v w) → (j ≢ k → P (slice_index xs j) (slice_index ys j))
    → P (slice_index (slice_set xs k v) j) (slice_index (slice_set ys k w) j)
set_both [] [] k v w j P e same f h = same _
set_both [] (y ∷ ys) k v w j P e same f h = absurd (omega arith)
set_both (x ∷ xs) [] k v w j P e same f h = absurd (omega arith)
set_both (x ∷ xs) (y ∷ ys) zero v w zero P e same f h = f refl
set_both (x ∷ xs) (y ∷ ys) zero v w (suc j) P e same f h = h (λ z. omega arith)
set_both (x ∷ xs) (y ∷ ys) (suc k) v w zero P e same f h = h (λ z. omega arith)
set_both (x ∷ xs) (y ∷ ys) (suc k) v w (suc j) P e same f h = set_both xs ys k v w j P (omega arith) same (λ z. f (ap suc z)) (λ n. h (λ z. n (omega arith)))
