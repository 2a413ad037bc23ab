-- The function list past a step.
use Rattle.std.proofs.Common.{◌≡◌, ℕ, zero, suc, ◌+◌, ◌-◌, ◌<◌, ◌≤◌, ⊎_elim, ◌&&◌, Bool, if◌then◌else◌, List, [], ◌∷◌, ◌++◌, length, take, replicate, refl, sym, ap, ap₂, subst, ◌∙◌, arith}
use Rattle.std.specs.Prelude.{nat_le}
use Rattle.std.proofs.lemmas.Bool.{cases_lt, le-leb, le-ltb, lt-ltb}
use Rattle.std.proofs.lemmas.List.{append-nil, append_assoc, length-append, replicate-append-replicate, take-append-le, take_all}
use Rattle.xt_profile.specs.Steps.{Step}
use Rattle.xt_profile.specs.Keys.{functions, entry_of_frame, pushes}

at_end : (n m : ℕ) → m ≡ n → m + 1 ≡ suc n
at_end n m e = omega (arith, e)

pub pushes_length : (n : ℕ) (past : List Step) → length (pushes n past) ≡ n
pushes_length zero past = refl
pushes_length (suc n) past = length-append (pushes n past) (entry_of_frame (suc n) past ∷ []) ∙ at_end n (length (pushes n past)) (pushes_length n past)

itself : (n : ℕ) → n ≤ n
itself n = omega arith

-- ---- a frame that stood before is no new one
less : (n d : ℕ) → suc d ≤ n → d ≤ n
less n d h = omega (arith, h)

stood : (s : Step) (past : List Step) (d : ℕ) → suc d ≤ s.before → entry_of_frame (suc d) (s ∷ past) ≡ entry_of_frame (suc d) past
stood s past d low = ap (λ (b : Bool). if b && nat_le (suc d) s.after then s.pc else entry_of_frame (suc d) past) (le-ltb s.before (suc d) low)

pub pushes_stood : (s : Step) (past : List Step) (d : ℕ) → d ≤ s.before → pushes d (s ∷ past) ≡ pushes d past
pushes_stood s past zero low = refl
pushes_stood s past (suc d) low =
    ap₂ (λ (xs : List ℕ) (x : ℕ). xs ++ x ∷ []) (pushes_stood s past d (less s.before d low)) (stood s past d low)

under : (n d : ℕ) → n ≤ d → n < suc d
under n d h = omega (arith, h)

-- ---- a frame that did not is the step's
rises : (s : Step) (past : List Step) (d : ℕ) → s.before ≤ d → suc d ≤ s.after → entry_of_frame (suc d) (s ∷ past) ≡ s.pc
rises s past d low high =
    ap (λ (b : Bool). if b && nat_le (suc d) s.after then s.pc else entry_of_frame (suc d) past) (lt-ltb s.before (suc d) (under s.before d low))
    ∙ ap (λ (b : Bool). if b then s.pc else entry_of_frame (suc d) past) (le-leb (suc d) s.after high)

added : (n m k : ℕ) → n + suc m ≤ k → n + m ≤ k
added n m k h = omega (arith, h)

added_more : (n m k : ℕ) → n + suc m ≤ k → suc (n + m) ≤ k
added_more n m k h = omega (arith, h)

not_less : (n m : ℕ) → n ≤ n + m
not_less n m = omega arith

one_up : (n m : ℕ) → n + suc m ≡ suc (n + m)
one_up n m = omega arith

no_more : (n : ℕ) → n + 0 ≡ n
no_more n = omega arith

one_behind : (m : ℕ) → m + 1 ≡ suc m
one_behind m = omega arith

pub pushes_more : (s : Step) (past : List Step) (m : ℕ) → s.before + m ≤ s.after → pushes (s.before + m) (s ∷ past) ≡ pushes s.before past ++ replicate m s.pc
pushes_more s past zero high =
    ap (λ (n : ℕ). pushes n (s ∷ past)) (no_more s.before) ∙ (pushes_stood s past s.before (itself s.before) ∙ sym (append-nil (pushes s.before past)))
pushes_more s past (suc m) high =
    let rest = pushes_more s past m (added s.before m s.after high) in
    ap (λ (n : ℕ). pushes n (s ∷ past)) (one_up s.before m)
    ∙ (ap₂ (λ (xs : List ℕ) (x : ℕ). xs ++ x ∷ []) rest (rises s past (s.before + m) (not_less s.before m) (added_more s.before m s.after high))
    ∙ (append_assoc (pushes s.before past) (replicate m s.pc) (s.pc ∷ [])
    ∙ ap (λ (xs : List ℕ). pushes s.before past ++ xs) (replicate-append-replicate m 1 s.pc ∙ ap (λ (n : ℕ). replicate n s.pc) (one_behind m))))

-- ---- the first of them
none_of : (d : ℕ) → d ≤ 0 → d ≡ 0
none_of d h = omega (arith, h)

not_all : (n d : ℕ) → d < suc n → d ≤ n
not_all n d h = omega (arith, h)

both : (n d : ℕ) → d ≤ suc n → suc n ≤ d → d ≡ suc n
both n d h g = omega (arith, h, g)

pub pushes_first : (n d : ℕ) (past : List Step) → d ≤ n → take d (pushes n past) ≡ pushes d past
pushes_first zero d past low = ap (λ (k : ℕ). take k (pushes 0 past)) (none_of d low) ∙ ap (λ (k : ℕ). pushes k past) (sym (none_of d low))
pushes_first (suc n) d past low =
    ⊎_elim
    (λ (lt : d < suc n).
    take-append-le d (pushes n past) (entry_of_frame (suc n) past ∷ []) (subst (λ (k : ℕ). d ≤ k) (sym (pushes_length n past)) (not_all n d lt)) ∙ pushes_first n d past (not_all n d lt))
    (λ (ge : suc n ≤ d).
    let e : d ≡ suc n = both n d low ge in
    ap (λ (k : ℕ). take k (pushes (suc n) past)) e ∙ (take_all (suc n) (pushes (suc n) past) (subst (λ (k : ℕ). k ≤ suc n) (sym (pushes_length (suc n) past)) (itself (suc n))) ∙ ap (λ (k : ℕ). pushes k past) (sym e)))
    (cases_lt d (suc n))

-- ---- the list that the code keeps
fewer : (a n : ℕ) → a ≤ n → a - n ≡ 0
fewer a n h = omega (arith, h)

whole : (a n : ℕ) → n ≤ a → n + (a - n) ≡ a
whole a n h = omega (arith, h)

filled : (a n : ℕ) → n ≤ a → n + (a - n) ≤ a
filled a n h = omega (arith, h)

behind_first : (a n l : ℕ) → l ≡ suc n → a + 1 - l ≡ a - n
behind_first a n l e = omega (arith, e)

less_is : (a n : ℕ) → a < n → a ≤ n
less_is a n h = omega (arith, h)

cut_or_filled : (s : Step) (past : List Step) → take s.after (pushes s.before past) ++ replicate (s.after - s.before) s.pc ≡ pushes s.after (s ∷ past)
cut_or_filled s past =
    let n = s.before in
    let a = s.after in
    let p = pushes n past in
    ⊎_elim
    (λ (lt : a < n).
    let le = less_is a n lt in
    ap₂ (λ (xs : List ℕ) (k : ℕ). xs ++ replicate k s.pc) (pushes_first n a past le) (fewer a n le) ∙ (append-nil (pushes a past) ∙ sym (pushes_stood s past a le)))
    (λ (ge : n ≤ a).
    ap (λ (xs : List ℕ). xs ++ replicate (a - n) s.pc) (take_all a p (subst (λ (k : ℕ). k ≤ a) (sym (pushes_length n past)) ge))
    ∙ (sym (pushes_more s past (a - n) (filled a n ge)) ∙ ap (λ (k : ℕ). pushes k (s ∷ past)) (whole a n ge)))
    (cases_lt a n)

pub functions_past : (opening : ℕ) (s : Step) (past : List Step)
    → take (s.after + 1) (functions opening s.before past) ++ replicate (s.after + 1 - length (functions opening s.before past)) s.pc ≡ functions opening s.after (s ∷ past)
functions_past opening s past =
    let p = pushes s.before past in
    let len : length (functions opening s.before past) ≡ suc s.before = ap (λ (n : ℕ). suc n) (pushes_length s.before past) in
    let first : take (s.after + 1) (functions opening s.before past) ≡ opening ∷ take s.after p = ap (λ (k : ℕ). take k (opening ∷ p)) (one_behind s.after) in
    ap₂ (λ (xs : List ℕ) (k : ℕ). xs ++ replicate k s.pc) first (behind_first s.after s.before (length (functions opening s.before past)) len)
    ∙ ap (λ (xs : List ℕ). opening ∷ xs) (cut_or_filled s past)

pub functions_same : (opening : ℕ) (s : Step) (past : List Step) → s.after ≡ s.before → functions opening s.before past ≡ functions opening s.after (s ∷ past)
functions_same opening s past e =
    ap (λ (xs : List ℕ). opening ∷ xs) (sym (pushes_stood s past s.before (itself s.before))) ∙ ap (λ (n : ℕ). functions opening n (s ∷ past)) (sym e)

at_front : (n m : ℕ) → m ≡ n → suc m ≡ n + 1
at_front n m e = omega (arith, e)

pub functions_length : (opening n : ℕ) (past : List Step) → length (functions opening n past) ≡ n + 1
functions_length opening n past = at_front n (length (pushes n past)) (pushes_length n past)
