-- The registers that a return of the strict discipline leaves to the caller.
use Rattle.std.proofs.Common.{◌≡◌, ℕ, zero, suc, ◌+◌, ◌*◌, ◌<◌, ◌≤◌, Bool, true, false, ◌&&◌, ◌||◌, leb, ltb, cond, List, [], ◌∷◌, Option, Some, None, length, get_or, refl, sym, ap, ◌∙◌, arith, subst, ⊎_elim}
use Rattle.std.proofs.Math.ListN.{set}
use Rattle.std.proofs.lemmas.Bool.{cases_Bool, cases_lt, cases_order, cond-true, cond-false, false_from_ne_true, le-leb, leb-true, lt-ltb, or_from, or_left, or_right}
use Rattle.std.proofs.lemmas.Option.{none-some, same_Some}
use Rattle.xt_uses.specs.UseStep.{is_left, leave_results, left_of}
use Rattle.xt_uses.specs.UseLaws.{AreCut, IsCutAt}
use Rattle.xt_frames.specs.Frames.{Frame}
use Rattle.xt_frames.specs.KeptFrameState.{newest_of}
use Rattle.xt_uses.specs.declared.stepping.Top.{Top}
use Rattle.xt_uses.specs.UseState.{UseState}
use Rattle.xt_uses.specs.UseParts.{forgot_to, use_at, without_register}

pub left_length : {A : Type 0} (none : A) (first i : ℕ) (xs : List A) → length (left_of none first i xs) ≡ length xs
left_length none first i [] = refl
left_length none first i (x ∷ xs) = ap suc (left_length none first (suc i) xs)

-- an element that is left
pub left_get : {A : Type 0} (none : A) (first i : ℕ) (xs : List A) (j : ℕ) (other : A) → is_left first (i + j) ≡ true → get_or (left_of none first i xs) j other ≡ get_or xs j other
left_get none first i [] j other e = refl
left_get none first i (x ∷ xs) zero other e =
    let at : i + 0 ≡ i = omega arith in
    cond-true (is_left first i) x none (subst (λ k. is_left first k ≡ true) at e)
left_get none first i (x ∷ xs) (suc j) other e =
    let at : i + suc j ≡ suc i + j = omega arith in
    left_get none first (suc i) xs j other (subst (λ k. is_left first k ≡ true) at e)

-- and one that is not
pub left_none : {A : Type 0} (none : A) (first i : ℕ) (xs : List A) (j : ℕ) → is_left first (i + j) ≡ false → get_or (left_of none first i xs) j none ≡ none
left_none none first i [] j e = refl
left_none none first i (x ∷ xs) zero e =
    let at : i + 0 ≡ i = omega arith in
    cond-false (is_left first i) x none (subst (λ k. is_left first k ≡ false) at e)
left_none none first i (x ∷ xs) (suc j) e =
    let at : i + suc j ≡ suc i + j = omega arith in
    left_none none first (suc i) xs j (subst (λ k. is_left first k ≡ false) at e)

-- the caller's own
pub left_own : (first i : ℕ) → i < first → is_left first i ≡ true
left_own first i h = or_left _ _ (lt-ltb i first h)

-- ---- values and masks
pub cut_left : (first i : ℕ) (xs : List (Option ℕ)) (ys : List ℕ) → AreCut xs ys → AreCut (left_of None first i xs) (left_of 0 first i ys)
cut_left first i [] [] h = tt
cut_left first i (x ∷ xs) (y ∷ ys) h = (by_left (is_left first i), cut_left first (suc i) xs ys h.1)
  where
    by_left : (b : Bool) → IsCutAt (cond b x None) (cond b y 0)
    by_left true = h.0
    by_left false = refl
cut_left first i [] (y ∷ ys) h = absurd h
cut_left first i (x ∷ xs) [] h = absurd h

-- ---- one register after the other
pub forgot_above : {A : Type 0} (none : A) (first n i : ℕ) (xs : List A) → n ≤ i → forgot_to none first n i xs ≡ xs
forgot_above none first n i [] h = refl
forgot_above none first n i (x ∷ xs) h =
    let here = cond-true (is_left first i || leb n i) x none (or_right (is_left first i) (leb n i) (le-leb n i h)) in
    let rest = forgot_above none first n (suc i) xs (omega (arith, h)) in
    λ k. here k ∷ rest k

not_above : (n i : ℕ) → i < n → leb n i ≡ false
not_above n i h = false_from_ne_true (leb n i) (λ e. let z = leb-true n i e in omega (arith, z, h))

pub forgot_all : {A : Type 0} (none : A) (first n i : ℕ) (xs : List A) → 16 ≤ n → forgot_to none first n i xs ≡ left_of none first i xs
forgot_all none first n i [] h = refl
forgot_all none first n i (x ∷ xs) h =
    let rest = forgot_all none first n (suc i) xs h in
    let here : cond (is_left first i || leb n i) x none ≡ cond (is_left first i) x none = ⊎_elim
    (λ below. ap (λ b. cond b x none) (or_false (is_left first i) (leb n i) (not_above n i below)))
    (λ above.
    let l : is_left first i ≡ true = or_right (ltb i first) _ (or_right (leb (first + 2) i && ltb i (first + 6)) (leb 16 i) (le-leb 16 i (omega (arith, above, h)))) in
    cond-true (is_left first i || leb n i) x none (or_left _ _ l) ∙ sym (cond-true (is_left first i) x none l))
    (cases_lt i n) in
    λ k. here k ∷ rest k
  where
    or_false : (b c : Bool) → c ≡ false → (b || c) ≡ b
    or_false true c e = refl
    or_false false c e = e

-- register n is left
pub forgot_left : {A : Type 0} (none : A) (first n i : ℕ) (xs : List A) → is_left first n ≡ true → forgot_to none first n i xs ≡ forgot_to none first (suc n) i xs
forgot_left none first n i [] e = refl
forgot_left none first n i (x ∷ xs) e =
    let rest = forgot_left none first n (suc i) xs e in
    let here : cond (is_left first i || leb n i) x none ≡ cond (is_left first i || leb (suc n) i) x none = ⊎_elim
    (λ same.
    let l : is_left first i ≡ true = subst (λ k. is_left first k ≡ true) (sym same) e in
    cond-true (is_left first i || leb n i) x none (or_left _ _ l) ∙ sym (cond-true (is_left first i || leb (suc n) i) x none (or_left _ _ l)))
    (λ apart. ⊎_elim
    (λ below. ap (λ b. cond (is_left first i || b) x none) (not_above n i below ∙ sym (not_above (suc n) i (omega (arith, below)))))
    (λ above. ap (λ b. cond (is_left first i || b) x none) (le-leb n i (omega (arith, above)) ∙ sym (le-leb (suc n) i above)))
    apart)
    (cases_order i n) in
    λ k. here k ∷ rest k

-- register n = i + k is not
pub forgot_next : {A : Type 0} (none : A) (first i k : ℕ) (xs : List A) → is_left first (i + k) ≡ false → set (forgot_to none first (i + k) i xs) k none ≡ forgot_to none first (suc (i + k)) i xs
forgot_next none first i k [] e = refl
forgot_next none first i zero (x ∷ xs) e =
    let at : i + 0 ≡ i = omega arith in
    let off : (is_left first i || leb (suc (i + 0)) i) ≡ false = or_from (is_left first i) _ (subst (λ n. is_left first n ≡ false) at e) (not_above (suc (i + 0)) i (omega arith)) in
    let here : none ≡ cond (is_left first i || leb (suc (i + 0)) i) x none = sym (cond-false (is_left first i || leb (suc (i + 0)) i) x none off) in
    let rest : forgot_to none first (i + 0) (suc i) xs ≡ forgot_to none first (suc (i + 0)) (suc i) xs = forgot_above none first (i + 0) (suc i) xs (omega arith) ∙ sym (forgot_above none first (suc (i + 0)) (suc i) xs (omega arith)) in
    λ j. here j ∷ rest j
forgot_next none first i (suc k) (x ∷ xs) e =
    let at : i + suc k ≡ suc i + k = omega arith in
    let rest : set (forgot_to none first (i + suc k) (suc i) xs) k none ≡ forgot_to none first (suc (i + suc k)) (suc i) xs =
    subst (λ n. is_left first n ≡ false → set (forgot_to none first n (suc i) xs) k none ≡ forgot_to none first (suc n) (suc i) xs) (sym at) (forgot_next none first (suc i) k xs) e in
    let here : cond (is_left first i || leb (i + suc k) i) x none ≡ cond (is_left first i || leb (suc (i + suc k)) i) x none =
    ap (λ b. cond (is_left first i || b) x none) (not_above (i + suc k) i (omega arith) ∙ sym (not_above (suc (i + suc k)) i (omega arith))) in
    λ j. here j ∷ rest j

-- ---- the state of the program
abbrev pub gone_to : ℕ → ℕ → Top → Top
gone_to first n t = record t {
  view = record t.view { seen = forgot_to None first n 0 t.view.seen };
  masks = record t.masks { seen = forgot_to 0 first n 0 t.masks.seen };
}

pub gone_none : (first : ℕ) (t : Top) → t ≡ gone_to first 0 t
gone_none first t = λ j. record t {
  view = record t.view { seen = sym (forgot_above None first 0 0 t.view.seen (omega arith)) j };
  masks = record t.masks { seen = sym (forgot_above 0 first 0 0 t.masks.seen (omega arith)) j };
}

gone_next : (first n : ℕ) (t : Top) → is_left first n ≡ false → without_register n (gone_to first n t) ≡ gone_to first (suc n) t
gone_next first n t e =
    let at : 0 + n ≡ n = omega arith in
    let off : is_left first (0 + n) ≡ false = subst (λ k. is_left first k ≡ false) (sym at) e in
    let view : set (forgot_to None first n 0 t.view.seen) n None ≡ forgot_to None first (suc n) 0 t.view.seen =
    subst (λ k. set (forgot_to None first k 0 t.view.seen) n None ≡ forgot_to None first (suc k) 0 t.view.seen) at (forgot_next None first 0 n t.view.seen off) in
    let masks : set (forgot_to 0 first n 0 t.masks.seen) n 0 ≡ forgot_to 0 first (suc n) 0 t.masks.seen =
    subst (λ k. set (forgot_to 0 first k 0 t.masks.seen) n 0 ≡ forgot_to 0 first (suc k) 0 t.masks.seen) at (forgot_next 0 first 0 n t.masks.seen off) in
    λ j. record t { view = record t.view { seen = view j }; masks = record t.masks { seen = masks j } }

gone_left : (first n : ℕ) (t : Top) → is_left first n ≡ true → gone_to first n t ≡ gone_to first (suc n) t
gone_left first n t e = λ j. record t {
  view = record t.view { seen = forgot_left None first n 0 t.view.seen e j };
  masks = record t.masks { seen = forgot_left 0 first n 0 t.masks.seen e j };
}

pub gone_more : (first n : ℕ) (old mid new : Top) → mid ≡ gone_to first n old → new ≡ cond (is_left first n) mid (without_register n mid) → new ≡ gone_to first (n + 1) old
gone_more first n old mid new is step =
    let at : suc n ≡ n + 1 = omega arith in
    let more : new ≡ gone_to first (suc n) old = ⊎_elim
    (λ l. step ∙ (cond-true (is_left first n) mid (without_register n mid) l ∙ (is ∙ gone_left first n old l)))
    (λ f. step ∙ (cond-false (is_left first n) mid (without_register n mid) f ∙ (ap (without_register n) is ∙ gone_next first n old f)))
    (cases_Bool (is_left first n)) in
    subst (λ k. new ≡ gone_to first k old) at more

abbrev at_top : List Frame → List (List ℕ) → Top → UseState
at_top frames kept t = use_at frames kept t.holes t.view t.masks

left_top : (frames callers : List Frame) (kept : List (List ℕ)) (first n : ℕ) (old : Top) (g : Frame) → newest_of callers ≡ Some g → 4 * g.by ≡ first → 16 ≤ n
    → at_top frames kept (gone_to first n old) ≡ leave_results callers (at_top frames kept old)
left_top frames [] kept first n old g e by end = absurd (none-some g e)
left_top frames (c ∷ rest) kept first n old g e by end =
    let same : 4 * c.by ≡ first = ap (λ (f : Frame). 4 * f.by) (same_Some c g e) ∙ by in
    let view : forgot_to None first n 0 old.view.seen ≡ left_of None (4 * c.by) 0 old.view.seen = forgot_all None first n 0 old.view.seen end ∙ ap (λ k. left_of None k 0 old.view.seen) (sym same) in
    let masks : forgot_to 0 first n 0 old.masks.seen ≡ left_of 0 (4 * c.by) 0 old.masks.seen = forgot_all 0 first n 0 old.masks.seen end ∙ ap (λ k. left_of 0 k 0 old.masks.seen) (sym same) in
    λ j. at_top frames kept (record old { view = record old.view { seen = view j }; masks = record old.masks { seen = masks j } })

pub gone_all : (frames callers : List Frame) (kept : List (List ℕ)) (first n : ℕ) (old new : Top) (g : Frame) → new ≡ gone_to first n old → newest_of callers ≡ Some g → 4 * g.by ≡ first → 16 ≤ n
    → at_top frames kept new ≡ leave_results callers (at_top frames kept old)
gone_all frames callers kept first n old new g is e by end = ap (at_top frames kept) is ∙ left_top frames callers kept first n old g e by end

-- no caller
pub none_left : (callers : List Frame) (u : UseState) → newest_of callers ≡ None → leave_results callers u ≡ u
none_left [] u e = refl
none_left (c ∷ rest) u e = absurd (none-some c (sym e))
