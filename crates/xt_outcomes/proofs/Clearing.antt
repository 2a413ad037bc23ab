-- Registers that are put to 0 by a mask.
use Rattle.std.proofs.Common.{◌≡◌, ◌≢◌, ℕ, zero, suc, ◌<◌, Bool, true, false, cond, not, ◌||◌, ◌==◌, Option, Some, None, List, length, slice_index, slice_set, refl, sym, ◌∙◌, subst, ⊎_elim, arith, eqb-true}
use Rattle.std.proofs.lemmas.Bool.{and_parts, cases_eq, or_cases, true≢false}
use Rattle.std.proofs.lemmas.List.{ext_get_or, get_or-set_other, get_or-set_same, length-set}
use Rattle.xt_window.specs.Ring.{bit, place}
use Rattle.xt_trace.specs.declared.record.RegWrite.{RegWrite}
use Rattle.xt_outcomes.specs.Dead.{cleared, is_written, stay_dead}

-- ---- what a list holds at one place

-- the place is none of the first n registers of the mask
abbrev IsOff : ℕ → ℕ → ℕ → ℕ → Type 0
IsOff mask base n k = (i : ℕ) → i < n → bit mask i ≡ true → place base i ≢ k

off_less : (mask base n k : ℕ) → IsOff mask base (suc n) k → IsOff mask base n k
off_less mask base n k h i less b = h i (omega arith) b

-- one more register, which is not of the mask, or has another place
off_more : (mask base n k : ℕ) → (bit mask n ≡ true → place base n ≢ k) → IsOff mask base n k → IsOff mask base (suc n) k
off_more mask base n k last h i less b = ⊎_elim
    (λ (e : i ≡ n). subst (λ (j : ℕ). place base j ≢ k) (sym e) (last (subst (λ (j : ℕ). bit mask j ≡ true) e b)))
    (λ (d : i ≢ n). let other : ¬ (i ≡ n) = d in h i (omega arith) b)
    (cases_eq i n)

long_when : (b : Bool) (rest : List ℕ) (k n : ℕ) → length rest ≡ n → length (cond b (slice_set rest k 0) rest) ≡ n
long_when true rest k n h = length-set rest k 0 ∙ h
long_when false rest k n h = h

pub cleared_long : (mask base : ℕ) (xs : List ℕ) (n : ℕ) → length (cleared mask base xs n) ≡ length xs
cleared_long mask base xs zero = refl
cleared_long mask base xs (suc n) = long_when (bit mask n) (cleared mask base xs n) (place base n) (length xs) (cleared_long mask base xs n)

-- elsewhere nothing changes
other_when : (b c : Bool) (rest : List ℕ) (k j x : ℕ) → c ≡ b → (c ≡ true → j ≢ k) → slice_index rest k ≡ x → slice_index (cond b (slice_set rest j 0) rest) k ≡ x
other_when true c rest k j x e d h = get_or-set_other rest j k 0 0 (λ same. d e (sym same)) ∙ h
other_when false c rest k j x e d h = h

pub cleared_other : (mask base : ℕ) (xs : List ℕ) (k n : ℕ) → IsOff mask base n k → slice_index (cleared mask base xs n) k ≡ slice_index xs k
cleared_other mask base xs k zero h = refl
cleared_other mask base xs k (suc n) h =
    other_when (bit mask n) (bit mask n) (cleared mask base xs n) k (place base n) (slice_index xs k) refl (h n (omega arith))
    (cleared_other mask base xs k n (off_less mask base n k h))

-- both lists hold the same at a place, if it is one of the mask or they did before
both_when : (b : Bool) (us vs : List ℕ) (k j m : ℕ) → length us ≡ m → length vs ≡ m → k < m → ((b ≡ true → j ≢ k) → slice_index us k ≡ slice_index vs k)
    → slice_index (cond b (slice_set us j 0) us) k ≡ slice_index (cond b (slice_set vs j 0) vs) k
both_when false us vs k j m a c less h = h (λ t. absurd (true≢false (sym t)))
both_when true us vs k j m a c less h = ⊎_elim
    (λ (e : j ≡ k).
    let e1 : j ≡ k = e in
    subst (λ (i : ℕ). slice_index (slice_set us j 0) i ≡ slice_index (slice_set vs j 0) i) e
    (get_or-set_same us j 0 0 (omega (arith, a, e1, less)) ∙ sym (get_or-set_same vs j 0 0 (omega (arith, c, e1, less)))))
    (λ (d : j ≢ k).
    get_or-set_other us j k 0 0 (λ same. d (sym same)) ∙ h (λ t. d) ∙ sym (get_or-set_other vs j k 0 0 (λ same. d (sym same))))
    (cases_eq j k)

cleared_both : (mask base : ℕ) (xs ys : List ℕ) (k n : ℕ) → length xs ≡ length ys → k < length xs → (IsOff mask base n k → slice_index xs k ≡ slice_index ys k)
    → slice_index (cleared mask base xs n) k ≡ slice_index (cleared mask base ys n) k
cleared_both mask base xs ys k zero long less h = h (λ i below b. absurd (omega arith))
cleared_both mask base xs ys k (suc n) long less h =
    both_when (bit mask n) (cleared mask base xs n) (cleared mask base ys n) k (place base n) (length xs)
    (cleared_long mask base xs n) (cleared_long mask base ys n ∙ sym long) less
    (λ last. cleared_both mask base xs ys k n long less (λ off. h (off_more mask base n k last off)))

-- ---- a turn

abbrev pub put : Option RegWrite → ℕ → List ℕ → List ℕ
put None base xs = xs
put (Some w) base xs = slice_set xs (place base w.reg) w.value

put_long : (write : Option RegWrite) (base : ℕ) (xs : List ℕ) → length (put write base xs) ≡ length xs
put_long None base xs = refl
put_long (Some w) base xs = length-set xs (place base w.reg) w.value

stays : (write : Option RegWrite) (before after n : ℕ) → stay_dead write before after n ≡ true → (i : ℕ) → i < n → bit before i ≡ true → (is_written write i || bit after i) ≡ true
stays write before after zero h i less b = absurd (omega arith)
stays write before after (suc n) h i less b =
    let p = and_parts (stay_dead write before after n) _ h in
    ⊎_elim
    (λ (e : i ≡ n). subst (λ (j : ℕ). (is_written write j || bit after j) ≡ true) (sym e) (last (bit before n) (is_written write n || bit after n) p.1 (subst (λ (j : ℕ). bit before j ≡ true) e b)))
    (λ (d : i ≢ n). let other : ¬ (i ≡ n) = d in stays write before after n p.0 i (omega arith) b)
    (cases_eq i n)
  where
    last : (b c : Bool) → (not b || c) ≡ true → b ≡ true → c ≡ true
    last true c h e = h
    last false c h e = absurd (true≢false (sym e))

-- where the registers after a turn are not of the mask after it, they are the same as without those of
-- the mask before it
same_off : (write : Option RegWrite) (before after base : ℕ) (xs : List ℕ) (k : ℕ) → k < length xs → stay_dead write before after 16 ≡ true → IsOff after base 16 k
    → slice_index (put write base (cleared before base xs 16)) k ≡ slice_index (put write base xs) k
same_off None before after base xs k less h off =
    cleared_other before base xs k 16 (λ i below b. off i below (stays None before after 16 h i below b))
same_off (Some w) before after base xs k less h off = ⊎_elim
    (λ (e : place base w.reg ≡ k).
    let rest = cleared before base xs 16 in
    let long : length rest ≡ length xs = cleared_long before base xs 16 in
    let f : place base w.reg ≡ k = e in
    subst (λ (j : ℕ). slice_index (slice_set rest (place base w.reg) w.value) j ≡ slice_index (slice_set xs (place base w.reg) w.value) j) e
    (get_or-set_same rest (place base w.reg) w.value 0 (omega (arith, long, f)) ∙ sym (get_or-set_same xs (place base w.reg) w.value 0 (omega (arith, f)))))
    (λ (d : place base w.reg ≢ k).
    let rest = cleared before base xs 16 in
    get_or-set_other rest (place base w.reg) k w.value 0 (λ same. d (sym same))
    ∙ cleared_other before base xs k 16 (λ i below b. ⊎_elim
    (λ (t : (w.reg == i) ≡ true). subst (λ (j : ℕ). place base j ≢ k) (eqb-true w.reg i t) d)
    (λ (t : bit after i ≡ true). off i below t)
    (or_cases (is_written (Some w) i) (bit after i) (stays (Some w) before after 16 h i below b)))
    ∙ sym (get_or-set_other xs (place base w.reg) k w.value 0 (λ same. d (sym same))))
    (cases_eq (place base w.reg) k)

pub same_cleared : (write : Option RegWrite) (before after base : ℕ) (xs : List ℕ) → stay_dead write before after 16 ≡ true
    → cleared after base (put write base (cleared before base xs 16)) 16 ≡ cleared after base (put write base xs) 16
same_cleared write before after base xs h =
    let us = put write base (cleared before base xs 16) in
    let vs = put write base xs in
    let a : length us ≡ length xs = put_long write base (cleared before base xs 16) ∙ cleared_long before base xs 16 in
    let b : length vs ≡ length xs = put_long write base xs in
    let c : length (cleared after base us 16) ≡ length us = cleared_long after base us 16 in
    let d : length (cleared after base vs 16) ≡ length vs = cleared_long after base vs 16 in
    ext_get_or 0 (cleared after base us 16) (cleared after base vs 16) (c ∙ a ∙ sym b ∙ sym d)
    (λ k less.
    let l : k < length (cleared after base us 16) = less in
    cleared_both after base us vs k 16 (a ∙ sym b) (omega (arith, l, c)) (λ off. same_off write before after base xs k (omega (arith, l, c, a)) h off))

-- an empty mask
pub none_cleared : (base : ℕ) (xs : List ℕ) → cleared 0 base xs 16 ≡ xs
unfolding bit
none_cleared base xs = refl
