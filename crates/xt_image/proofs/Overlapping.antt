-- Looking from the front for two elements that meet.
use Rattle.std.proofs.Common.{◌≡◌, ℕ, suc, ◌+◌, ◌≤◌, ◌<◌, Bool, false, List, [], ◌∷◌, ◌++◌, Option, Some, None, length, take, drop, get_or, refl, sym, ap, subst, ◌∙◌, ⊎_elim, arith, add-one, append_assoc, length-append, length-take-le, drop_of_length-le}
use Rattle.std.proofs.Math.Seq.{drop-cons, get_or-append_seam, take-suc}
use Rattle.std.specs.Prelude.{All, option_map}
use Rattle.std.specs.List.{position}
use Rattle.std.proofs.lemmas.Bool.{cases_lt}
use Rattle.std.proofs.lemmas.List.{get_or_append_left}
use Rattle.xt_image.specs.Findings.{first_pair, or_else}
use Rattle.xt_image.proofs.Findings.{neither, no_place, none_found, none_passes}

split : {X : Type 0} (xs : List X) (j : ℕ) (s : X) → j < length xs → s ≡ get_or xs j s → drop j xs ≡ s ∷ drop (suc j) xs
split xs j s lt is = drop-cons xs j s lt ∙ ap (λ w. w ∷ drop (suc j) xs) (sym is)

pub pair_found : {X F : Type 0} (meet : X → X → Bool) (fault : ℕ → ℕ → F) (xs : List X) (j i : ℕ) (s : X) (total : Option F) → j < length xs → s ≡ get_or xs j s
    → Some i ≡ position (λ t. meet t s) (take j xs) → first_pair meet fault (take j xs) (drop j xs) ≡ total → Some (fault i j) ≡ total
unfolding first_pair
pair_found meet fault xs j i s total lt is found so_far =
    let n : length (take j xs) ≡ j = length-take-le j xs (omega arith) in
    let one : first_pair meet fault (take j xs) (drop j xs) ≡ Some (fault i j) = ap (first_pair meet fault (take j xs)) (split xs j s lt is) ∙ rw (← found, n) refl in
    sym one ∙ so_far

pub no_pair : {X F : Type 0} (meet : X → X → Bool) (fault : ℕ → ℕ → F) (xs : List X) (j : ℕ) (s : X) (total : Option F) → j < length xs → s ≡ get_or xs j s
    → None ≡ position (λ t. meet t s) (take j xs) → first_pair meet fault (take j xs) (drop j xs) ≡ total → first_pair meet fault (take (j + 1) xs) (drop (j + 1) xs) ≡ total
unfolding first_pair
no_pair meet fault xs j s total lt is none so_far =
    let more : take (suc j) xs ≡ take j xs ++ s ∷ [] = take-suc xs j s lt ∙ ap (λ w. take j xs ++ w ∷ []) (sym is) in
    let one : first_pair meet fault (take j xs) (drop j xs) ≡ first_pair meet fault (take j xs ++ s ∷ []) (drop (suc j) xs)
    = ap (first_pair meet fault (take j xs)) (split xs j s lt is) ∙ rw (← none) refl in
    rw (add-one, more) (sym one ∙ so_far)

pub no_pair_at_all : {X F : Type 0} (meet : X → X → Bool) (fault : ℕ → ℕ → F) (xs : List X) (j : ℕ) (total : Option F) → length xs ≤ j
    → first_pair meet fault (take j xs) (drop j xs) ≡ total → None ≡ total
unfolding first_pair
no_pair_at_all meet fault xs j total le so_far = sym (ap (first_pair meet fault (take j xs)) (drop_of_length-le xs le)) ∙ so_far

-- ---- each element after the first ones meets none before it

Apart : {X : Type 0} → (X → X → Bool) → List X → List X → Type 0
Apart {X} meet before rest = (i j : ℕ) (d : X) → i < j → length before ≤ j → j < length (before ++ rest)
    → meet (get_or (before ++ rest) i d) (get_or (before ++ rest) j d) ≡ false

pub none_meet : {X F : Type 0} (meet : X → X → Bool) (fault : ℕ → ℕ → F) (before rest : List X) → first_pair meet fault before rest ≡ None
    → (i j : ℕ) (d : X) → i < j → length before ≤ j → j < length (before ++ rest) → meet (get_or (before ++ rest) i d) (get_or (before ++ rest) j d) ≡ false
unfolding first_pair
none_meet {X} meet fault before [] h i j d lt ge within = absurd (omega (arith, length-append {A = X}))
none_meet {X} meet fault before (s ∷ rest) h i j d lt ge within =
    let (here, later) = neither (option_map (λ i. fault i (length before)) (position (λ t. meet t s) before)) (first_pair meet fault (before ++ s ∷ []) rest) h in
    let none : All (λ t. meet t s ≡ false) before = none_passes (λ t. meet t s) before (no_place (λ i. fault i (length before)) _ here) in
    let regroup : (before ++ s ∷ []) ++ rest ≡ before ++ s ∷ rest = append_assoc before (s ∷ []) rest in
    let P : List X → Type 0 = λ l. meet (get_or l i d) (get_or l j d) ≡ false in
    ⊎_elim
    (λ (k : length before < j). subst P regroup (none_meet meet fault (before ++ s ∷ []) rest later i j d lt (omega (arith, length-append before (s ∷ [])))
    (omega (arith, ap length regroup))))
    (λ (k : j ≤ length before).
    let e : j ≡ length before = omega arith in
    let li : i < length before = omega arith in
    ap (λ n. meet (get_or (before ++ s ∷ rest) i d) (get_or (before ++ s ∷ rest) n d)) e
    ∙ ap (meet (get_or (before ++ s ∷ rest) i d)) (get_or-append_seam before s rest d)
    ∙ ap (λ t. meet t s) (get_or_append_left before (s ∷ rest) d i li) ∙ none i d li) (cases_lt (length before) j)

none_before : {X : Type 0} (meet : X → X → Bool) (before rest : List X) (s : X) → Apart meet before (s ∷ rest) → All (λ t. meet t s ≡ false) before
unfolding Apart
none_before meet before rest s apart k d lt =
    let within : length before < length (before ++ s ∷ rest) = omega (arith, length-append before (s ∷ rest)) in
    ap (λ t. meet t s) (sym (get_or_append_left before (s ∷ rest) d k lt))
    ∙ ap (meet (get_or (before ++ s ∷ rest) k d)) (sym (get_or-append_seam before s rest d))
    ∙ apart k (length before) d lt (omega arith) within

apart_further : {X : Type 0} (meet : X → X → Bool) (before rest : List X) (s : X) → Apart meet before (s ∷ rest) → Apart meet (before ++ s ∷ []) rest
unfolding Apart
apart_further {X} meet before rest s apart i j d lt ge within =
    let regroup : (before ++ s ∷ []) ++ rest ≡ before ++ s ∷ rest = append_assoc before (s ∷ []) rest in
    let P : List X → Type 0 = λ l. meet (get_or l i d) (get_or l j d) ≡ false in
    subst P (sym regroup) (apart i j d lt (omega (arith, length-append before (s ∷ []))) (omega (arith, ap length regroup)))

no_pair_behind : {X F : Type 0} (meet : X → X → Bool) (fault : ℕ → ℕ → F) (before rest : List X) → Apart meet before rest → first_pair meet fault before rest ≡ None
unfolding first_pair
no_pair_behind meet fault before [] apart = refl
no_pair_behind meet fault before (s ∷ rest) apart =
    ap (λ o. or_else (option_map (λ i. fault i (length before)) o) (first_pair meet fault (before ++ s ∷ []) rest)) (none_found s (λ t. meet t s) before (none_before meet before rest s apart))
    ∙ no_pair_behind meet fault (before ++ s ∷ []) rest (apart_further meet before rest s apart)

pub no_pair_in : {X F : Type 0} (meet : X → X → Bool) (fault : ℕ → ℕ → F) (xs : List X)
    → ((i j : ℕ) (d : X) → i < j → j < length xs → meet (get_or xs i d) (get_or xs j d) ≡ false) → first_pair meet fault [] xs ≡ None
unfolding Apart
no_pair_in meet fault xs apart = no_pair_behind meet fault [] xs (λ i j d lt ge within. apart i j d lt within)
