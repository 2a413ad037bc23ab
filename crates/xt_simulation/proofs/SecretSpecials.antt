-- Lists of special registers that agree in masks, and what sets their entries.
use Rattle.std.proofs.Common.{◌≡◌, ◌≢◌, ℕ, ◌+◌, ◌%◌, ◌^◌, ◌<◌, Bool, true, false, cond, eqb, Option, Some, None, List, length, slice_index, slice_set, bit_or, bit_and, refl, sym, ap, ◌∙◌, subst, ⊎_elim, arith}
use Rattle.std.proofs.lemmas.Bool.{cases_eq, eq-eqb, eqb-true, false_from_ne_true, true≢false, and_parts}
use Rattle.std.proofs.lemmas.List.{length-set, set-get_or}
use Rattle.xt_special.specs.declared.writes.SpecialWrite.{SpecialWrite}
use Rattle.xt_special.specs.Access.{SpecialWrites, changed_by, is_ccompare, no_set, set_to, software_bits, timer_bit, value_kept, with_set, with_sets, without_bits, written_by}
use Rattle.xt_special.specs.Timers.{with_timer, ticked_special}
use Rattle.xt_uses.specs.Words.{all_bits}
use Rattle.xt_uses.specs.UseLaws.{AgreeIn}
use Rattle.xt_frames.specs.Marks.{holds_marks}
use Rattle.xt_uses.proofs.RowsMarks.{marked_set}
use Rattle.xt_simulation.specs.Learning.{is_timed, ticked_masks, with_mask}
use Rattle.xt_simulation.proofs.Likes.{Like, like_same, like_self, not_all, or_gone, or_like, part_agrees, set_both, without_like, without_part}
use Rattle.xt_uses.proofs.Agreeing.{agree_none}

pub record Specials (m : ℕ → ℕ) (xs ys : List ℕ) : Type 0 where
  pub long : length xs ≡ length ys
  pub same : (n : ℕ) → Like (m n) (slice_index xs n) (slice_index ys n)

-- one entry of both is set, and the masks of the others stay
pub set_specials : (m n : ℕ → ℕ) (xs ys : List ℕ) (k v w : ℕ) → Specials m xs ys → Like (n k) v w → ((j : ℕ) → j ≢ k → n j ≡ m j) → Specials n (slice_set xs k v) (slice_set ys k w)
set_specials m n xs ys k v w s h other = record {
  long = length-set xs k v ∙ s.long ∙ sym (length-set ys k w);
  same = λ j. set_both xs ys k v w j (λ x y. Like (n j) x y) s.long (λ x. like_self (n j) x)
      (λ e. subst (λ (i : ℕ). Like (n i) v w) (sym e) h) (λ d. subst (λ (mask : ℕ). Like mask (slice_index xs j) (slice_index ys j)) (sym (other j d)) (s.same j));
}

-- with the same masks
pub set_alike : (m : ℕ → ℕ) (xs ys : List ℕ) (k v w : ℕ) → Specials m xs ys → Like (m k) v w → Specials m (slice_set xs k v) (slice_set ys k w)
set_alike m xs ys k v w s h = set_specials m m xs ys k v w s h (λ j d. refl)

pub set_same : (m : ℕ → ℕ) (xs ys : List ℕ) (k v : ℕ) → Specials m xs ys → Specials m (slice_set xs k v) (slice_set ys k v)
set_same m xs ys k v s = set_alike m xs ys k v v s (like_self (m k) v)

one_same : (m : ℕ → ℕ) (w : Option SpecialWrite) (xs ys : List ℕ) → Specials m xs ys → Specials m (with_set w xs) (with_set w ys)
one_same m None xs ys s = s
one_same m (Some w) xs ys s = set_same m xs ys w.number w.value s

pub sets_same : (m : ℕ → ℕ) (sets : SpecialWrites) (xs ys : List ℕ) → Specials m xs ys → Specials m (with_sets sets xs) (with_sets sets ys)
sets_same m sets xs ys s =
    one_same m sets.2 (with_set sets.1 (with_set sets.0 xs)) (with_set sets.1 (with_set sets.0 ys)) (one_same m sets.1 (with_set sets.0 xs) (with_set sets.0 ys) (one_same m sets.0 xs ys s))

-- the masks may be others that are equal
pub masks_same : (m n : ℕ → ℕ) (xs ys : List ℕ) → ((j : ℕ) → n j ≡ m j) → Specials m xs ys → Specials n xs ys
masks_same m n xs ys e s = record { long = s.long; same = λ j. subst (λ (mask : ℕ). Like mask (slice_index xs j) (slice_index ys j)) (sym (e j)) (s.same j) }

-- ---- numbers

pub unequal : (n k : ℕ) → n ≢ k → eqb n k ≡ false
unequal n k h = false_from_ne_true (eqb n k) (λ t. h (eqb-true n k t))

pub with_other : (k mask : ℕ) (m : ℕ → ℕ) (j : ℕ) → j ≢ k → with_mask k mask m j ≡ m j
with_other k mask m j d = ap (λ (b : Bool). cond b mask (m j)) (unequal j k d)

pub with_this : (k mask : ℕ) (m : ℕ → ℕ) → with_mask k mask m k ≡ mask
with_this k mask m = ap (λ (b : Bool). cond b mask (m k)) (eq-eqb k k refl)

-- ---- WSR and XSR

-- a number that has this property is another one
pub differs : (n k : ℕ) (P : ℕ → Bool) → P n ≡ true → P k ≡ false → n ≢ k
differs n k P yes_n no_k e = true≢false (sym yes_n ∙ (ap P e ∙ no_k))

-- the same value is written, and INTERRUPT was v and w
other_value : (n x v w : ℕ) → eqb n 226 ≡ false → eqb n 227 ≡ false → value_kept n x v ≡ value_kept n x w
unfolding value_kept
other_value n x v w p q = rw (p, q) refl

interrupt_set : (mask x v w : ℕ) → Like mask v w → Like mask (value_kept 226 x v) (value_kept 226 x w)
unfolding value_kept
interrupt_set mask x v w h = or_like mask v w (bit_and x software_bits) h

interrupt_cleared : (mask x v w : ℕ) → Like mask v w → Like mask (value_kept 227 x v) (value_kept 227 x w)
unfolding value_kept
interrupt_cleared mask x v w h = without_like mask v w (bit_and x software_bits) h

module _ (m : ℕ → ℕ) (xs ys : List ℕ) (s : Specials m xs ys) (x v w : ℕ) (h : Like (m 226) v w) where
  kept_written : (n : ℕ) → Specials m (slice_set xs (changed_by n) (value_kept n x v)) (slice_set ys (changed_by n) (value_kept n x w))
  kept_written n =
      ⊎_elim (λ (is : n ≡ 226). subst P (sym is) (set_alike m xs ys 226 (value_kept 226 x v) (value_kept 226 x w) s (interrupt_set (m 226) x v w h)))
      (λ (not226 : n ≢ 226). ⊎_elim (λ (is : n ≡ 227). subst P (sym is) (set_alike m xs ys 226 (value_kept 227 x v) (value_kept 227 x w) s (interrupt_cleared (m 226) x v w h)))
      (λ (not227 : n ≢ 227).
      set_alike m xs ys (changed_by n) (value_kept n x v) (value_kept n x w) s
      (like_same (m (changed_by n)) (value_kept n x v) (value_kept n x w) (other_value n x v w (unequal n 226 not226) (unequal n 227 not227)))) (cases_eq n 227)) (cases_eq n 226)
    where
      P : ℕ → Type 0
      P n = Specials m (slice_set xs (changed_by n) (value_kept n x v)) (slice_set ys (changed_by n) (value_kept n x w))

  -- the value that is written is known
  pub whole_written : (n : ℕ) → Specials m (with_sets (written_by n x v) xs) (with_sets (written_by n x w) ys)
  whole_written n = by_tests (eqb n 230) (is_ccompare n)
    where
      sets : Bool → Bool → ℕ → SpecialWrites
      sets p q u = cond p (no_set, no_set, no_set) (cond q (set_to n x, set_to 226 (without_bits u (timer_bit n)), no_set) (set_to (changed_by n) (value_kept n x u), no_set, no_set))

      by_tests : (p q : Bool) → Specials m (with_sets (sets p q v) xs) (with_sets (sets p q w) ys)
      by_tests true q = s
      by_tests false true =
          set_alike m (slice_set xs n x) (slice_set ys n x) 226 (without_bits v (timer_bit n)) (without_bits w (timer_bit n)) (set_same m xs ys n x s) (without_like (m 226) v w (timer_bit n) h)
      by_tests false false = kept_written n

-- the value that is written to a register that keeps what is not known
pub marks_written : (m : ℕ → ℕ) (xs ys : List ℕ) → Specials m xs ys → (n x y v w given : ℕ) → holds_marks n ≡ true → Like given x y
    → Specials (with_mask n given m) (with_sets (written_by n x v) xs) (with_sets (written_by n y w) ys)
marks_written m xs ys s n x y v w given marks h =
    subst (λ (sets : SpecialWrites). Specials (with_mask n given m) (with_sets sets xs) (with_sets (written_by n y w) ys)) (sym (marked_set n x v marks))
    (subst (λ (sets : SpecialWrites). Specials (with_mask n given m) (with_sets (set_to n x, no_set, no_set) xs) (with_sets sets ys)) (sym (marked_set n y w marks))
    (set_specials m (with_mask n given m) xs ys n x y s (subst (λ (mask : ℕ). Like mask x y) (sym (with_this n given m)) h) (λ j d. with_other n given m j d)))

-- ---- the tick

-- the masks while the timers are tested one by one
counted_masks : (ℕ → ℕ) → ℕ → ℕ
counted_masks m = with_mask 234 (cond (eqb (m 234) all_bits) all_bits 0) m

counted : (m : ℕ → ℕ) (xs ys : List ℕ) → Specials m xs ys
    → Specials (counted_masks m) (slice_set xs 234 ((slice_index xs 234 + 1) % 2 ^ 32)) (slice_set ys 234 ((slice_index ys 234 + 1) % 2 ^ 32))
unfolding counted_masks
counted m xs ys s =
    set_specials m (counted_masks m) xs ys 234 ((slice_index xs 234 + 1) % 2 ^ 32) ((slice_index ys 234 + 1) % 2 ^ 32) s (by_test (eqb (m 234) all_bits) refl) (λ j d. with_other 234 _ m j d)
  where
    by_test : (b : Bool) → eqb (m 234) all_bits ≡ b → Like (cond b all_bits 0) ((slice_index xs 234 + 1) % 2 ^ 32) ((slice_index ys 234 + 1) % 2 ^ 32)
    by_test true e = like_same all_bits _ _ (ap (λ (n : ℕ). (n + 1) % 2 ^ 32) ((s.same 234).whole (eqb-true (m 234) all_bits e)))
    by_test false e = record { bits = agree_none _ _; whole = λ z. absurd (omega arith) }

-- one timer: where its time is known, both set its bit or none does
timer_step : (t : Bool) (m : ℕ → ℕ) (timer bits : ℕ) (xs ys : List ℕ) → 0 < bits → bits < 2 ^ 32 → Specials m xs ys → (t ≡ true → (m 234 ≡ all_bits) × (m (240 + timer) ≡ all_bits))
    → Specials (with_mask 226 (cond t (m 226) (without_bits (m 226) bits)) m) (with_timer timer bits xs) (with_timer timer bits ys)
timer_step true m timer bits xs ys some small s known =
    let k = known refl in
    let c : slice_index xs 234 ≡ slice_index ys 234 = (s.same 234).whole k.0 in
    let d : slice_index xs (240 + timer) ≡ slice_index ys (240 + timer) = (s.same (240 + timer)).whole k.1 in
    masks_same m (with_mask 226 (m 226) m) _ _ (λ j. this j)
    (subst (λ (b : Bool). Specials m (with_timer timer bits xs) (cond b (slice_set ys 226 (bit_or (slice_index ys 226) bits)) ys)) (λ i. eqb (d i) (c i))
    (by_test (eqb (slice_index xs (240 + timer)) (slice_index xs 234))))
  where
    this : (j : ℕ) → with_mask 226 (m 226) m j ≡ m j
    this j = ⊎_elim (λ (e : j ≡ 226). subst (λ (i : ℕ). with_mask 226 (m 226) m i ≡ m i) (sym e) refl) (λ (d : j ≢ 226). with_other 226 (m 226) m j d) (cases_eq j 226)

    by_test : (b : Bool) → Specials m (cond b (slice_set xs 226 (bit_or (slice_index xs 226) bits)) xs) (cond b (slice_set ys 226 (bit_or (slice_index ys 226) bits)) ys)
    by_test true = set_alike m xs ys 226 (bit_or (slice_index xs 226) bits) (bit_or (slice_index ys 226) bits) s (or_like (m 226) (slice_index xs 226) (slice_index ys 226) bits (s.same 226))
    by_test false = s
timer_step false m timer bits xs ys some small s known =
    subst (λ (l : List ℕ). Specials n l (cond (eqb (slice_index ys (240 + timer)) (slice_index ys 234)) (slice_set ys 226 (bit_or (slice_index ys 226) bits)) ys)) (sym (set_or xs (eqb (slice_index xs (240 + timer)) (slice_index xs 234))))
    (subst (λ (l : List ℕ). Specials n (slice_set xs 226 (or_bits (slice_index xs 226) (eqb (slice_index xs (240 + timer)) (slice_index xs 234)))) l) (sym (set_or ys (eqb (slice_index ys (240 + timer)) (slice_index ys 234))))
    (set_specials m n xs ys 226 _ _ s (both (eqb (slice_index xs (240 + timer)) (slice_index xs 234)) (eqb (slice_index ys (240 + timer)) (slice_index ys 234))) (λ j d. with_other 226 less m j d)))
  where
    less : ℕ
    less = without_bits (m 226) bits

    n : ℕ → ℕ
    n = with_mask 226 less m

    -- each of the two may set the bit
    or_bits : ℕ → Bool → ℕ
    or_bits v b = cond b (bit_or v bits) v

    set_or : (zs : List ℕ) (b : Bool) → cond b (slice_set zs 226 (bit_or (slice_index zs 226) bits)) zs ≡ slice_set zs 226 (or_bits (slice_index zs 226) b)
    set_or zs true = refl
    set_or zs false = sym (set-get_or zs 226 0)

    loose : (v : ℕ) (b : Bool) → AgreeIn less (or_bits v b) v
    loose v true = or_gone (m 226) v bits small
    loose v false = refl

    both : (a b : Bool) → Like less (or_bits (slice_index xs 226) a) (or_bits (slice_index ys 226) b)
    both a b = record {
      bits = loose (slice_index xs 226) a ∙ (part_agrees less (m 226) (slice_index xs 226) (slice_index ys 226) (without_part (m 226) bits) (s.same 226).bits ∙ sym (loose (slice_index ys 226) b));
      whole = λ e. absurd (not_all (m 226) bits some small e);
    }

pub ticked_are : (m : ℕ → ℕ) (xs ys : List ℕ) → Specials m xs ys → Specials (ticked_masks m) (ticked_special xs) (ticked_special ys)
unfolding ticked_special timer_bit counted_masks
ticked_are m xs ys s = masks_same m4 (ticked_masks m) _ _ final s4
  where
    m1 : ℕ → ℕ
    m1 = counted_masks m

    step : ℕ → ℕ → (ℕ → ℕ) → ℕ → ℕ
    step timer bits n = with_mask 226 (cond (is_timed m timer) (n 226) (without_bits (n 226) bits)) n

    m4 : ℕ → ℕ
    m4 = step 2 (2 ^ 16) (step 1 (2 ^ 15) (step 0 (2 ^ 6) m1))

    -- what is known of the time of a timer
    time : (timer : ℕ) → is_timed m timer ≡ true → (cond (eqb (m 234) all_bits) all_bits 0 ≡ all_bits) × (m (240 + timer) ≡ all_bits)
    time timer e =
        let p = and_parts (eqb (m 234) all_bits) (eqb (m (240 + timer)) all_bits) e in
        (ap (λ (b : Bool). cond b all_bits 0) p.0, eqb-true (m (240 + timer)) all_bits p.1)

    s1 : Specials m1 (slice_set xs 234 ((slice_index xs 234 + 1) % 2 ^ 32)) (slice_set ys 234 ((slice_index ys 234 + 1) % 2 ^ 32))
    s1 = counted m xs ys s

    s2 : Specials (step 0 (2 ^ 6) m1) (with_timer 0 (2 ^ 6) (slice_set xs 234 ((slice_index xs 234 + 1) % 2 ^ 32))) (with_timer 0 (2 ^ 6) (slice_set ys 234 ((slice_index ys 234 + 1) % 2 ^ 32)))
    s2 = timer_step (is_timed m 0) m1 0 (2 ^ 6) _ _ (omega arith) (omega arith) s1 (time 0)

    s3 : Specials (step 1 (2 ^ 15) (step 0 (2 ^ 6) m1)) (with_timer 1 (2 ^ 15) (with_timer 0 (2 ^ 6) (slice_set xs 234 ((slice_index xs 234 + 1) % 2 ^ 32))))
        (with_timer 1 (2 ^ 15) (with_timer 0 (2 ^ 6) (slice_set ys 234 ((slice_index ys 234 + 1) % 2 ^ 32))))
    s3 = timer_step (is_timed m 1) (step 0 (2 ^ 6) m1) 1 (2 ^ 15) _ _ (omega arith) (omega arith) s2 (time 1)

    s4 : Specials m4 (with_timer 2 (2 ^ 16) (with_timer 1 (2 ^ 15) (with_timer 0 (2 ^ 6) (slice_set xs 234 ((slice_index xs 234 + 1) % 2 ^ 32)))))
        (with_timer 2 (2 ^ 16) (with_timer 1 (2 ^ 15) (with_timer 0 (2 ^ 6) (slice_set ys 234 ((slice_index ys 234 + 1) % 2 ^ 32)))))
    s4 = timer_step (is_timed m 2) (step 1 (2 ^ 15) (step 0 (2 ^ 6) m1)) 2 (2 ^ 16) _ _ (omega arith) (omega arith) s3 (time 2)

    final : (j : ℕ) → ticked_masks m j ≡ m4 j
    final j =
        ⊎_elim (λ (e : j ≡ 226). subst (λ (k : ℕ). ticked_masks m k ≡ m4 k) (sym e) refl)
        (λ (d : j ≢ 226). ⊎_elim (λ (e : j ≡ 234). subst (λ (k : ℕ). ticked_masks m k ≡ m4 k) (sym e) refl) (λ (f : j ≢ 234). other d f) (cases_eq j 234)) (cases_eq j 226)
      where
        other : j ≢ 226 → j ≢ 234 → ticked_masks m j ≡ m4 j
        other p q = rw (unequal j 226 p, unequal j 234 q) refl
