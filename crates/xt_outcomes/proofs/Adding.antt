-- A list of outcomes with one more.
use Rattle.std.proofs.Common.{◌≡◌, ℕ, zero, suc, ◌<◌, ◌≤◌, arith, get_or, length, ltb, ltb-false, Bool, true, false, List, [], ◌∷◌, ◌++◌, Some, take, drop, slice_get, refl, sym, ap, ◌∙◌, subst, ⊎_elim, Less}
use Rattle.std.proofs.lemmas.Bool.{true≢false}
use Rattle.std.proofs.lemmas.Option.{slice_get_read, slice_get_within}
use Rattle.std.specs.Prelude.{if◌then◌else◌, map}
use Rattle.std.specs.List.{All, Contains}
use Rattle.std.proofs.lemmas.List.{map-append, take-append-drop}
use Rattle.std.proofs.lemmas.List.Elements.{All-append, All-cons, All-drop, All-take}
use Rattle.std.proofs.lemmas.List.Elements.{Contains-append_cases, Contains-append_left}
use Rattle.std.proofs.lemmas.List.Elements.{Contains-append_right}
use Rattle.std.specs.Ordering.{is_eq, is_lt}
use Rattle.xt_trace.specs.Chip.{Chip}
use Rattle.xt_trace.specs.Runs.{Opening}
use Rattle.xt_exec.specs.State.{State}
use Rattle.xt_outcomes.specs.Added.{IsAdded, place_in}
use Rattle.xt_outcomes.specs.Endings.{has_ended, outcome_at}
use Rattle.xt_outcomes.specs.Listing.{IsBefore, IsReal, IsRising, Lists, outcome_ordering}
use Rattle.xt_outcomes.specs.Outcomes.{Outcome}
use Rattle.xt_outcomes.specs.Spots.{Spot}
use Rattle.xt_outcomes.specs.declared.listing.Found.{Found}
use Rattle.xt_outcomes.proofs.Comparing.{comes_after, comes_before}

abbrev with_at : ℕ → List Found → Found → List Found
with_at p xs x = take p xs ++ x ∷ drop p xs

-- ---- what is listed

abbrev outcome_in : Found → Outcome
outcome_in x = x.outcome

listed_more : (p : ℕ) (xs : List Found) (x : Found) (y : Outcome) → Lists xs y → Lists (with_at p xs x) y
listed_more p xs x y h =
    let front = map outcome_in (take p xs) in
    let rest = map outcome_in (drop p xs) in
    let parts = subst (λ (l : List Outcome). Contains l y)
    (ap (map outcome_in) (sym (take-append-drop p xs)) ∙ map-append outcome_in (take p xs) (drop p xs)) h in
    subst (λ (l : List Outcome). Contains l y) (sym (map-append outcome_in (take p xs) (x ∷ drop p xs)))
    (⊎_elim (Contains-append_left front (x.outcome ∷ rest) y)
    (λ (t : Contains rest y).
    Contains-append_right front (x.outcome ∷ rest) y (Contains-append_right (x.outcome ∷ []) rest y t))
    (Contains-append_cases front rest y parts))

first_is : (y : Outcome) (ys : List Outcome) → Contains (y ∷ ys) y
first_is y ys = (0, omega arith, refl)

listed_there : (p : ℕ) (xs : List Found) (x : Found) → Lists (with_at p xs x) x.outcome
listed_there p xs x =
    let rest = map outcome_in (drop p xs) in
    subst (λ (l : List Outcome). Contains l x.outcome)
    (sym (map-append outcome_in (take p xs) (x ∷ drop p xs)))
    (Contains-append_right (map outcome_in (take p xs)) (x.outcome ∷ rest) x.outcome (first_is x.outcome rest))

some_is : {A : Type 0} (x y : A) → Some x ≡ Some y → x ≡ y
some_is x y h = cc

pub listed_at : (k : ℕ) (xs : List Found) (x : Found) → slice_get xs k ≡ Some x → Lists xs x.outcome
listed_at zero [] x h = absurd (cc)
listed_at (suc k) [] x h = absurd (cc)
listed_at zero (z ∷ zs) x h =
    subst (Lists (z ∷ zs)) (ap outcome_in (some_is z x h)) (first_is z.outcome (map outcome_in zs))
listed_at (suc k) (z ∷ zs) x h =
    Contains-append_right (z.outcome ∷ []) (map outcome_in zs) x.outcome (listed_at k zs x h)

-- what a look at a place says
pub hit_at : (xs : List Found) (k : ℕ) (x : Found) → k < length xs → x ≡ get_or xs k x → slice_get xs k ≡ Some x
hit_at xs k x less e = slice_get_read xs (length xs) k x refl less e

pub same_at : (xs : List Found) (k : ℕ) (x y : Found) (z : Outcome) → k < length xs → x ≡ get_or xs k x → slice_get xs k ≡ Some y → is_eq (outcome_ordering x.outcome z) ≡ false → is_eq (outcome_ordering y.outcome z) ≡ false
same_at xs k x y z less e at h =
    let same = some_is y x (sym at ∙ hit_at xs k x less e) in
    ap (λ (w : Found). is_eq (outcome_ordering w.outcome z)) same ∙ h

pub none_at : (xs : List Found) (k : ℕ) (x : Found) → false ≡ ltb k (length xs) → slice_get xs k ≡ Some x → ⊥
none_at xs k x none at =
    let less : k < length xs = slice_get_within xs k x at in
    let past : length xs ≤ k = ltb-false k (length xs) (sym none) in
    absurd (omega arith)

-- ---- in rising order

before_more : (p : ℕ) (xs : List Found) (x : Found) (y : Outcome) → outcome_ordering y x.outcome ≡ Less → IsBefore y xs → IsBefore y (with_at p xs x)
before_more zero [] x y h b = h
before_more (suc p) [] x y h b = h
before_more zero (z ∷ zs) x y h b = h
before_more (suc p) (z ∷ zs) x y h b = b

rising_choice : (z : Found) (zs : List Found) (x : Found) (b : Bool) → is_lt (outcome_ordering z.outcome x.outcome) ≡ b → IsRising (z ∷ zs)
    → ((y : Found) → slice_get (z ∷ zs) (if b then suc (place_in zs x.outcome) else 0) ≡ Some y → is_eq (outcome_ordering y.outcome x.outcome) ≡ false)
    → (((y : Found) → slice_get zs (place_in zs x.outcome) ≡ Some y → is_eq (outcome_ordering y.outcome x.outcome) ≡ false) → IsRising (with_at (place_in zs x.outcome) zs x))
    → IsRising (with_at (if b then suc (place_in zs x.outcome) else 0) (z ∷ zs) x)
rising_choice z zs x true e r miss more =
    (before_more (place_in zs x.outcome) zs x z.outcome (comes_before z.outcome x.outcome e) r.0, more miss)
rising_choice z zs x false e r miss more = (comes_after z.outcome x.outcome e (miss z refl), r)

rising_more : (xs : List Found) (x : Found) → IsRising xs
    → ((y : Found) → slice_get xs (place_in xs x.outcome) ≡ Some y → is_eq (outcome_ordering y.outcome x.outcome) ≡ false)
    → IsRising (with_at (place_in xs x.outcome) xs x)
rising_more [] x r miss = (tt, tt)
rising_more (z ∷ zs) x r miss = rising_choice z zs x (is_lt (outcome_ordering z.outcome x.outcome)) refl r miss (rising_more zs x r.1)

-- ---- one more

module _ (P : Chip State) (timed : Bool) (o : Opening State) (addresses : List ℕ) where
  abbrev Real : Found → Type 0
  Real = IsReal P timed o addresses

  real_more : (p : ℕ) (xs : List Found) (x : Found) → Real x → All Real xs → All Real (with_at p xs x)
  real_more p xs x is h =
      All-append Real (take p xs) (x ∷ drop p xs) (All-take Real p xs h)
      (All-cons Real x (drop p xs) is (All-drop Real p xs h))

  pub added : (xs : List Found) (x : Found) (k : ℕ) (p : Spot State) → k ≡ place_in xs x.outcome → x.outcome ≡ outcome_at addresses p → IsReal P timed o addresses x
      → ((z : Found) → slice_get xs k ≡ Some z → is_eq (outcome_ordering z.outcome x.outcome) ≡ false) → IsAdded P timed o addresses p xs (with_at k xs x)
  added xs x k p e same is miss = record {
    real = real_more k xs x is;
    rising = λ r. subst (λ (q : ℕ). IsRising (with_at q xs x)) (sym e)
        (rising_more xs x r (λ z at. miss z (subst (λ (q : ℕ). slice_get xs q ≡ Some z) (sym e) at)));
    kept = λ z h. listed_more k xs x z h;
    listed = λ t. subst (Lists (with_at k xs x)) same (listed_there k xs x);
  }

  pub listed_before : (xs : List Found) (p : Spot State) → Lists xs (outcome_at addresses p) → IsAdded P timed o addresses p xs xs
  listed_before xs p h = record { real = λ r. r; rising = λ r. r; kept = λ z k. k; listed = λ t. h }

  pub not_ended : (xs : List Found) (p : Spot State) → has_ended p ≡ false → IsAdded P timed o addresses p xs xs
  not_ended xs p h = record { real = λ r. r; rising = λ r. r; kept = λ z k. k; listed = λ t. absurd (true≢false (sym t ∙ h)) }
