-- PS.OWB: the bits that count of a special register, and two words of PS that agree in them.
use Rattle.std.proofs.Common.{◌≡◌, ℕ, ◌+◌, ◌-◌, ◌/◌, ◌%◌, ◌^◌, ◌<◌, ◌≤◌, ◌⊎◌, inl, inr, ⊎_elim, Bool, true, false, ◌&&◌, cond, eqb, refl, sym, ap, ◌∙◌, arith}
use Rattle.std.specs.Prelude.{bit_and, min}
use Rattle.std.specs.Int.{bit_at}
use Rattle.std.proofs.lemmas.Bool.{cases_lt}
use Rattle.std.proofs.lemmas.Nat.Bits.{same_from_bits, bit_at_and, bit_at_above, bit_at_ones, bit_at_cat_low, bit_at_cat_high}
use Rattle.xt_special.specs.declared.ps.Ps.{Ps}
use Rattle.xt_special.specs.Control.{ps_of, ps_word}
use Rattle.xt_special.proofs.PsWords.{word_of_fields_of}
use Rattle.xt_uses.specs.declared.discipline.Discipline.{Discipline}
use Rattle.xt_uses.specs.declared.discipline.Discipline.TheVariants.{Strict, Lenient}
use Rattle.xt_uses.specs.Disciplines.{is_strict}
use Rattle.xt_uses.specs.Words.{Word, Fits, all_bits, masked, knows}
use Rattle.xt_uses.specs.Used.{counted_bits, holds_owb}
use Rattle.xt_uses.specs.UseLaws.{AgreeIn, counted_ps}
use Rattle.xt_uses.proofs.Bits.{bit_at_div, bit_at_rest, bit_at_rest_above}
use Rattle.xt_uses.proofs.Agreeing.{agree_at, agree_from}
use Rattle.xt_uses.proofs.Wholes.{known_at}

-- ---- the mask
low_counts : (i : ℕ) → i < 8 → bit_at 0xFFFFF0FF i ≡ 1
low_counts i h = bit_at_cat_low 0xFFFFF 12 0xFF i (omega (arith, h)) ∙ bit_at_ones 8 i h

high_counts : (i : ℕ) → 12 ≤ i → i < 32 → bit_at 0xFFFFF0FF i ≡ 1
high_counts i g h = bit_at_cat_high 0xFFFFF 12 0xFF i (omega arith) g ∙ bit_at_ones 20 (i - 12) (omega (arith, g, h))

owb_counts_not : (i : ℕ) → 8 ≤ i → i < 12 → bit_at 0xFFFFF0FF i ≡ 0
owb_counts_not i g h = bit_at_cat_low 0xFFFFF 12 0xFF i h ∙ bit_at_above 0xFF 8 i (omega arith) g

pub counted_word : (d : Discipline) (n : ℕ) → counted_bits d n < 2 ^ 32
counted_word d n = by_test (holds_owb n && is_strict d)
  where
    by_test : (b : Bool) → cond b 0xFFFFF0FF all_bits < 2 ^ 32
    by_test true = omega arith
    by_test false = omega arith

-- of a register that holds no OWB, and in the lenient discipline, all bits count
pub counts_all : (d : Discipline) (n : ℕ) → holds_owb n ≡ false → counted_bits d n ≡ all_bits
counts_all d n h = rw h refl

pub lenient_counts : (n : ℕ) → counted_bits Lenient n ≡ all_bits
lenient_counts n = by_test (holds_owb n)
  where
    by_test : (b : Bool) → cond (b && false) 0xFFFFF0FF all_bits ≡ all_bits
    by_test true = refl
    by_test false = refl

counted_at : (d : Discipline) (n i : ℕ) → i < 32 → (i < 8) ⊎ (12 ≤ i) → bit_at (counted_bits d n) i ≡ 1
counted_at d n i h far = by_test (holds_owb n && is_strict d)
  where
    by_test : (b : Bool) → bit_at (cond b 0xFFFFF0FF all_bits) i ≡ 1
    by_test true = ⊎_elim (λ low. low_counts i low) (λ high. high_counts i high h) far
    by_test false = bit_at_ones 32 i h

-- ---- fields
field_agrees : (mask n m k l : ℕ) → AgreeIn mask n m → ((i : ℕ) → i < l → bit_at mask (k + i) ≡ 1) → n / 2 ^ k % 2 ^ l ≡ m / 2 ^ k % 2 ^ l
field_agrees mask n m k l h ones =
    same_from_bits (n / 2 ^ k % 2 ^ l) (m / 2 ^ k % 2 ^ l)
    (λ i. ⊎_elim
    (λ low. bit_at_rest (n / 2 ^ k) l i low ∙ (bit_at_div n k i ∙ (agree_at mask n m (k + i) h (ones i low) ∙ (sym (bit_at_div m k i) ∙ sym (bit_at_rest (m / 2 ^ k) l i low)))))
    (λ high. bit_at_rest_above (n / 2 ^ k) l i high ∙ sym (bit_at_rest_above (m / 2 ^ k) l i high))
    (cases_lt i l))

low_field : (mask n m l : ℕ) → AgreeIn mask n m → ((i : ℕ) → i < l → bit_at mask i ≡ 1) → n % 2 ^ l ≡ m % 2 ^ l
low_field mask n m l h ones =
    same_from_bits (n % 2 ^ l) (m % 2 ^ l)
    (λ i. ⊎_elim
    (λ low. bit_at_rest n l i low ∙ (agree_at mask n m i h (ones i low) ∙ sym (bit_at_rest m l i low)))
    (λ high. bit_at_rest_above n l i high ∙ sym (bit_at_rest_above m l i high))
    (cases_lt i l))

same_fields : (p q : Ps) → p.intlevel ≡ q.intlevel → p.excm ≡ q.excm → p.um ≡ q.um → p.ring ≡ q.ring → p.owb ≡ q.owb → p.callinc ≡ q.callinc → p.woe ≡ q.woe → p ≡ q
same_fields p q a b c d e f g =
    let s1 : record p { intlevel = p.intlevel } ≡ record p { intlevel = q.intlevel } = ap (λ x. record p { intlevel = x }) a in
    let s2 : record p { intlevel = q.intlevel } ≡ record p { intlevel = q.intlevel; excm = q.excm } = ap (λ x. record p { intlevel = q.intlevel; excm = x }) b in
    let s3 : record p { intlevel = q.intlevel; excm = q.excm } ≡ record p { intlevel = q.intlevel; excm = q.excm; um = q.um } = ap (λ x. record p { intlevel = q.intlevel; excm = q.excm; um = x }) c in
    let s4 : record p { intlevel = q.intlevel; excm = q.excm; um = q.um } ≡ record p { intlevel = q.intlevel; excm = q.excm; um = q.um; ring = q.ring } = ap (λ x. record p { intlevel = q.intlevel; excm = q.excm; um = q.um; ring = x }) d in
    let s5 : record p { intlevel = q.intlevel; excm = q.excm; um = q.um; ring = q.ring } ≡ record p { intlevel = q.intlevel; excm = q.excm; um = q.um; ring = q.ring; owb = q.owb } = ap (λ x. record p { intlevel = q.intlevel; excm = q.excm; um = q.um; ring = q.ring; owb = x }) e in
    let s6 : record p { intlevel = q.intlevel; excm = q.excm; um = q.um; ring = q.ring; owb = q.owb } ≡ record q { woe = p.woe } = ap (λ x. record q { callinc = x; woe = p.woe }) f in
    let s7 : record q { woe = p.woe } ≡ q = ap (λ x. record q { woe = x }) g in
    s1 ∙ (s2 ∙ (s3 ∙ (s4 ∙ (s5 ∙ (s6 ∙ s7)))))

module _ (mask x y : ℕ) (h : AgreeIn mask x y) (far : (i : ℕ) → i < 32 → (i < 8) ⊎ (12 ≤ i) → bit_at mask i ≡ 1) where
  fields_agree : (o : ℕ) → record (ps_of x) { owb = o } ≡ record (ps_of y) { owb = o }
  unfolding ps_of
  fields_agree o =
      same_fields (record (ps_of x) { owb = o }) (record (ps_of y) { owb = o })
      (low_field mask x y 4 h (λ i l. far i (omega (arith, l)) (inl (omega (arith, l)))))
      (ap (λ z. eqb z 1) (field_agrees mask x y 4 1 h (λ i l. far (4 + i) (omega (arith, l)) (inl (omega (arith, l))))))
      (ap (λ z. eqb z 1) (field_agrees mask x y 5 1 h (λ i l. far (5 + i) (omega (arith, l)) (inl (omega (arith, l))))))
      (field_agrees mask x y 6 2 h (λ i l. far (6 + i) (omega (arith, l)) (inl (omega (arith, l)))))
      refl
      (field_agrees mask x y 16 2 h (λ i l. far (16 + i) (omega (arith, l)) (inr (omega (arith, l)))))
      (ap (λ z. eqb z 1) (field_agrees mask x y 18 1 h (λ i l. far (18 + i) (omega (arith, l)) (inr (omega (arith, l))))))

  owb_agrees : ((i : ℕ) → i < 32 → bit_at mask i ≡ 1) → (ps_of x).owb ≡ (ps_of y).owb
  unfolding ps_of
  owb_agrees all = field_agrees mask x y 8 4 h (λ i l. all (8 + i) (omega (arith, l)))

pub words_of_ps : (d : Discipline) (n x y : ℕ) → AgreeIn (counted_bits d n) x y → counted_ps d (ps_of x) ≡ counted_ps d (ps_of y)
words_of_ps Strict n x y h = fields_agree (counted_bits Strict n) x y h (counted_at Strict n) 0
words_of_ps Lenient n x y h =
    let all : (i : ℕ) → i < 32 → bit_at (counted_bits Lenient n) i ≡ 1 = λ i l. ap (λ m. bit_at m i) (lenient_counts n) ∙ bit_at_ones 32 i l in
    let o = owb_agrees (counted_bits Lenient n) x y h (counted_at Lenient n) all in
    ap (λ z. record (ps_of x) { owb = z }) o ∙ fields_agree (counted_bits Lenient n) x y h (counted_at Lenient n) (ps_of y).owb

-- ---- what EPS2 to EPS7 keep of what is written
cut_keeps : (mask k x y : ℕ) → AgreeIn mask x y → AgreeIn mask (bit_and x k) (bit_and y k)
cut_keeps mask k x y h =
    agree_from mask (bit_and x k) (bit_and y k)
    (λ i one. bit_at_and x k i ∙ (ap (λ z. min z (bit_at k i)) (agree_at mask x y i h one) ∙ sym (bit_at_and y k i)))

pub kept_words_agree : (mask x y : ℕ) → x < 2 ^ 32 → y < 2 ^ 32 → AgreeIn mask x y → AgreeIn mask (ps_word (ps_of x)) (ps_word (ps_of y))
kept_words_agree mask x y a b h =
    ap (masked mask) (word_of_fields_of x a) ∙ (cut_keeps mask 0x70FFF x y h ∙ sym (ap (masked mask) (word_of_fields_of y b)))

-- ---- a word of which the bits that count are known
pub counted_agree : (bits x : ℕ) (a : Word) → Fits x a → knows bits a ≡ true → AgreeIn bits x a.value
counted_agree bits x a f h = agree_from bits x a.value (λ i one. known_at bits i x a f h one)

pub all_agree_word : (x y : ℕ) → x < 2 ^ 32 → y < 2 ^ 32 → AgreeIn all_bits x y → x ≡ y
all_agree_word x y a b h =
    same_from_bits x y
    (λ i. ⊎_elim
    (λ low. agree_at all_bits x y i h (bit_at_ones 32 i low))
    (λ high. bit_at_above x 32 i a high ∙ sym (bit_at_above y 32 i b high))
    (cases_lt i 32))

-- ---- PS: two that agree in what counts are one but for OWB
pub but_owb : (d : Discipline) (p q : Ps) → counted_ps d p ≡ counted_ps d q → p ≡ record q { owb = p.owb }
but_owb Strict p q h = ap (λ (z : Ps). record z { owb = p.owb }) h
but_owb Lenient p q h = ap (λ (z : Ps). record z { owb = p.owb }) h
