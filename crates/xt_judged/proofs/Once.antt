-- Lists in which no key stands twice.
use Rattle.std.proofs.Common.{◌≡◌, ◌≢◌, ℕ, zero, suc, ◌+◌, ◌<◌, Some, List, [], ◌∷◌, ◌++◌, refl, sym, ap, ◌∙◌, subst, ⊎_elim, arith}
use Rattle.std.specs.Prelude.{slice_get}
use Rattle.std.proofs.lemmas.Bool.{cases_eq}
use Rattle.xt_judged.specs.Once.{HaveOwn, NoneHas}

pub none_from : {A B : Type 0} (key : A → B) (k : B) (xs : List A) → ((i : ℕ) (x : A) → slice_get xs i ≡ Some x → key x ≢ k) → NoneHas key k xs
none_from key k [] h = tt
none_from key k (x ∷ xs) h = (h 0 x refl, none_from key k xs (λ i y at. h (suc i) y at))

pub none_push : {A B : Type 0} (key : A → B) (k : B) (xs : List A) (y : A) → NoneHas key k xs → key y ≢ k → NoneHas key k (xs ++ y ∷ [])
none_push key k [] y h e = (e, tt)
none_push key k (x ∷ xs) y h e = (h.0, none_push key k xs y h.1 e)

pub own_push : {A B : Type 0} (key : A → B) (xs : List A) (y : A) → HaveOwn key xs → NoneHas key (key y) xs → HaveOwn key (xs ++ y ∷ [])
own_push key [] y h n = (tt, tt)
own_push key (x ∷ xs) y h n = (none_push key (key x) xs y h.0 (λ e. n.0 (sym e)), own_push key xs y h.1 n.1)

none_at : {A B : Type 0} (key : A → B) (k : B) (xs : List A) → NoneHas key k xs → (i : ℕ) (x : A) → slice_get xs i ≡ Some x → key x ≢ k
none_at key k [] h zero x at = absurd cc
none_at key k [] h (suc i) x at = absurd cc
none_at {A} key k (y ∷ ys) h zero x at = let e : y ≡ x = cc in subst (λ (z : A). key z ≢ k) e h.0
none_at key k (y ∷ ys) h (suc i) x at = none_at key k ys h.1 i x at

pub own_at : {A B : Type 0} (key : A → B) (xs : List A) → HaveOwn key xs → (j k : ℕ) (x y : A) → j < k → slice_get xs j ≡ Some x → slice_get xs k ≡ Some y → key x ≢ key y
own_at key [] h zero k x y less atj atk = absurd cc
own_at key [] h (suc j) k x y less atj atk = absurd cc
own_at key (z ∷ zs) h j zero x y less atj atk = absurd (omega arith)
own_at key (z ∷ zs) h zero (suc k) x y less atj atk =
    let e : z ≡ x = cc in
    let other = none_at key (key z) zs h.0 k y atk in
    λ same. other (sym same ∙ ap key (sym e))
own_at key (z ∷ zs) h (suc j) (suc k) x y less atj atk = own_at key zs h.1 j k x y (omega arith) atj atk

-- one more that has not the key
pub none_more : {A B : Type 0} (key : A → B) (k : B) (xs : List A) (n : ℕ) (x : A) → slice_get xs n ≡ Some x → key x ≢ k → ((i : ℕ) (y : A) → i < n → slice_get xs i ≡ Some y → key y ≢ k)
    → (i : ℕ) (y : A) → i < n + 1 → slice_get xs i ≡ Some y → key y ≢ k
none_more {A} key k xs n x here isnt before i y less at = ⊎_elim
    (λ (is : i ≡ n).
    let there = subst (λ (m : ℕ). slice_get xs m ≡ Some y) is at in
    let e : x ≡ y = cc in
    subst (λ (z : A). key z ≢ k) e isnt)
    (λ (no : i ≢ n).
    let other : ¬ (i ≡ n) = no in
    before i y (omega arith) at)
    (cases_eq i n)
