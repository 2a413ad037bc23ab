-- Words of which each bit is known, or none; and the bitwise operations.
use Rattle.std.proofs.Common.{◌≡◌, ℕ, ◌^◌, ◌<◌, ◌&&◌, Bool, true, false, ⊎_elim, refl, sym, ap, ◌∙◌, arith}
use Rattle.std.specs.Prelude.{bit_and, bit_or, bit_xor, min, max}
use Rattle.std.specs.Int.{bit_at}
use Rattle.std.proofs.lemmas.Bool.{cases_lt, eqb-true}
use Rattle.std.proofs.lemmas.Nat.{and_le_l}
use Rattle.std.proofs.lemmas.Nat.Bits.{same_from_bits, bit_at_and, bit_at_or, bit_at_xor, bit_at-lt, bit_at_above, bit_at_ones}
use Rattle.xt_uses.specs.Words.{Word, Fits, all_bits, knows, is_whole, mask_where, and_mask, or_mask, both_mask, zeros, ones, complement}
use Rattle.xt_uses.specs.Known.{where_both}
use Rattle.xt_uses.specs.UseLaws.{AgreeIn}
use Rattle.xt_uses.proofs.Bits.{flipped_at}
use Rattle.xt_uses.proofs.Agreeing.{agree_from, agree_none}

-- ---- a word that fits
pub value_at : (x : ℕ) (a : Word) → Fits x a → (i : ℕ) → bit_at a.value i ≡ min (bit_at x i) (bit_at a.mask i)
value_at x a f i = ap (λ n. bit_at n i) (sym f) ∙ bit_at_and x a.mask i

pub value_word : (x : ℕ) (a : Word) → Fits x a → x < 2 ^ 32 → a.value < 2 ^ 32
value_word x a f h = omega (arith, and_le_l x a.mask, f)

pub fits_agree : (x : ℕ) (a : Word) → Fits x a → AgreeIn a.mask x a.value
fits_agree x a f = agree_from a.mask x a.value (λ i one. let v = value_at x a f i in omega (arith, bit_at-lt x i))

-- ---- known bits
pub knows_at : (bits i : ℕ) (a : Word) → knows bits a ≡ true → bit_at bits i ≡ 1 → bit_at a.mask i ≡ 1
knows_at bits i a h one =
    let e : bit_and bits a.mask ≡ bits = eqb-true (bit_and bits a.mask) bits h in
    let m : min (bit_at bits i) (bit_at a.mask i) ≡ bit_at bits i = sym (bit_at_and bits a.mask i) ∙ ap (λ n. bit_at n i) e in
    omega (arith, bit_at-lt a.mask i)

pub known_at : (bits i x : ℕ) (a : Word) → Fits x a → knows bits a ≡ true → bit_at bits i ≡ 1 → bit_at x i ≡ bit_at a.value i
known_at bits i x a f h one = let v = value_at x a f i in let o = knows_at bits i a h one in omega (arith, bit_at-lt x i)

-- ---- each bit is known
pub whole_at : (a : Word) → is_whole a ≡ true → (i : ℕ) → i < 32 → bit_at a.mask i ≡ 1
whole_at a h i low = knows_at all_bits i a h (bit_at_ones 32 i low)

pub whole_value : (x : ℕ) (a : Word) → Fits x a → x < 2 ^ 32 → is_whole a ≡ true → a.value ≡ x
whole_value x a f h w =
    same_from_bits a.value x
    (λ i. ⊎_elim
    (λ low. let v = value_at x a f i in let o = whole_at a w i low in omega (arith, bit_at-lt x i))
    (λ high. let v = value_at x a f i in let z = bit_at_above x 32 i h high in omega arith)
    (cases_lt i 32))

-- ---- all or nothing
module _ (x y : ℕ) (a b : Word) (f : Fits x a) (g : Fits y b) (h : x < 2 ^ 32) (l : y < 2 ^ 32) where
  pub where_second : (r : ℕ → ℕ → ℕ) → AgreeIn (where_both a b) (r x y) (r a.value b.value)
  where_second r = by_tests (is_whole a) refl (is_whole b) refl
    where
      by_tests : (p : Bool) → is_whole a ≡ p → (q : Bool) → is_whole b ≡ q → AgreeIn (mask_where (p && q)) (r x y) (r a.value b.value)
      by_tests true p true q = let e = whole_value x a f h p in let k = whole_value y b g l q in rw (e, k) refl
      by_tests true p false q = agree_none (r x y) (r a.value b.value)
      by_tests false p q k = agree_none (r x y) (r a.value b.value)

  -- ---- and, or, xor
  and_bits : (i : ℕ) → i < 32 → bit_at (and_mask a b) i ≡ 1 → bit_at (bit_and x y) i ≡ bit_at (bit_and a.value b.value) i
  and_bits i low one =
      let v = value_at x a f i in
      let w = value_at y b g i in
      let s = bit_at_and x y i in
      let t = bit_at_and a.value b.value i in
      let m : max (bit_at (both_mask a b) i) (bit_at (bit_or (zeros a) (zeros b)) i) ≡ 1 = sym (bit_at_or (both_mask a b) (bit_or (zeros a) (zeros b)) i) ∙ one in
      let n = bit_at_or (zeros a) (zeros b) i in
      let o = bit_at_and a.mask b.mask i in
      let p = bit_at_and (complement a.value) a.mask i in
      let q = bit_at_and (complement b.value) b.mask i in
      let k = flipped_at a.value i low in
      let l = flipped_at b.value i low in
      omega (arith, bit_at-lt x i, bit_at-lt y i, bit_at-lt a.mask i, bit_at-lt b.mask i)

  pub and_agrees : AgreeIn (and_mask a b) (bit_and x y) (bit_and a.value b.value)
  and_agrees =
      agree_from (and_mask a b) (bit_and x y) (bit_and a.value b.value)
      (λ i one. ⊎_elim
      (λ low. and_bits i low one)
      (λ high. let s = bit_at_and x y i in let t = bit_at_and a.value b.value i in let z = bit_at_above x 32 i h high in let v = value_at x a f i in omega arith)
      (cases_lt i 32))

  pub or_agrees : AgreeIn (or_mask a b) (bit_or x y) (bit_or a.value b.value)
  or_agrees =
      agree_from (or_mask a b) (bit_or x y) (bit_or a.value b.value)
      (λ i one.
      let v = value_at x a f i in
      let w = value_at y b g i in
      let s = bit_at_or x y i in
      let t = bit_at_or a.value b.value i in
      let m : max (bit_at (both_mask a b) i) (bit_at (bit_or (ones a) (ones b)) i) ≡ 1 = sym (bit_at_or (both_mask a b) (bit_or (ones a) (ones b)) i) ∙ one in
      let n = bit_at_or (ones a) (ones b) i in
      let o = bit_at_and a.mask b.mask i in
      let p = bit_at_and a.value a.mask i in
      let q = bit_at_and b.value b.mask i in
      omega (arith, bit_at-lt x i, bit_at-lt y i, bit_at-lt a.mask i, bit_at-lt b.mask i))

  pub xor_agrees : AgreeIn (both_mask a b) (bit_xor x y) (bit_xor a.value b.value)
  xor_agrees =
      agree_from (both_mask a b) (bit_xor x y) (bit_xor a.value b.value)
      (λ i one.
      let v = value_at x a f i in
      let w = value_at y b g i in
      let s = bit_at_xor x y i in
      let t = bit_at_xor a.value b.value i in
      let o : min (bit_at a.mask i) (bit_at b.mask i) ≡ 1 = sym (bit_at_and a.mask b.mask i) ∙ one in
      omega (arith, bit_at-lt x i, bit_at-lt y i, bit_at-lt a.mask i, bit_at-lt b.mask i))

pub where_first : (x : ℕ) (a : Word) → Fits x a → x < 2 ^ 32 → (r : ℕ → ℕ) → AgreeIn (mask_where (is_whole a)) (r x) (r a.value)
where_first x a f h r = by_test (is_whole a) refl
  where
    by_test : (p : Bool) → is_whole a ≡ p → AgreeIn (mask_where p) (r x) (r a.value)
    by_test true p = let e = whole_value x a f h p in rw e refl
    by_test false p = agree_none (r x) (r a.value)
