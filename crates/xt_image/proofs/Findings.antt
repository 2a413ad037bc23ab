-- Findings in a row, and what is so where nothing was found.
use Rattle.std.proofs.Common.{◌≡◌, ℕ, ◌≤◌, Bool, true, false, cond, List, [], ◌∷◌, ◌++◌, Option, Some, None, length, refl, sym, ap, ◌∙◌, arith}
use Rattle.std.specs.Prelude.{All, nat_lt, option_map}
use Rattle.std.specs.List.{position, position_or_len}
use Rattle.std.proofs.lemmas.Bool.{ltb-false}
use Rattle.std.proofs.lemmas.Bool.Decides.{nat_tests}
use Rattle.std.proofs.lemmas.List.Sums.{fails_before_first, position_or_len_is}
use Rattle.xt_image.specs.Findings.{fails, first, or_else}

pub first-append : {F : Type 0} (xs ys : List (Option F)) → first (xs ++ ys) ≡ or_else (first xs) (first ys)
first-append [] ys = refl
first-append (None ∷ xs) ys = first-append xs ys
first-append (Some f ∷ xs) ys = refl

pub or_nothing : {F : Type 0} (x : Option F) → or_else x None ≡ x
or_nothing None = refl
or_nothing (Some f) = refl

pub in_first : {F : Type 0} (a b : List (Option F)) (f : F) → Some f ≡ first a → first (a ++ b) ≡ Some f
in_first a b f h = first-append a b ∙ ap (λ x. or_else x (first b)) (sym h)

pub not_in_first : {F : Type 0} (a b : List (Option F)) → None ≡ first a → first (a ++ b) ≡ first b
not_in_first a b h = first-append a b ∙ ap (λ x. or_else x (first b)) (sym h)

-- ---- nothing was found

pub neither : {F : Type 0} (x y : Option F) → or_else x y ≡ None → (x ≡ None) × (y ≡ None)
neither None y h = (refl, h)
neither (Some f) y h = absurd cc

pub none_of : {F : Type 0} (xs ys : List (Option F)) → first (xs ++ ys) ≡ None → (first xs ≡ None) × (first ys ≡ None)
none_of xs ys h = neither (first xs) (first ys) (sym (first-append xs ys) ∙ h)

pub none_in : {F : Type 0} (xs ys : List (Option F)) → first xs ≡ None → first ys ≡ None → first (xs ++ ys) ≡ None
none_in xs ys h k = first-append xs ys ∙ rw h k

pub not_failed : {F : Type 0} (b : Bool) (f : F) → fails b f ≡ None → b ≡ false
not_failed true f h = absurd cc
not_failed false f h = refl

-- no place was found, so nothing was made of it
pub no_place : {F : Type 0} (make : ℕ → F) (o : Option ℕ) → option_map make o ≡ None → o ≡ None
no_place make None h = refl
no_place make (Some i) h = absurd cc

no_some : (b : Bool) (n : ℕ) → cond b (Some n) None ≡ None → b ≡ false
no_some true n h = absurd cc
no_some false n h = refl

pub none_passes : {X : Type 0} (p : X → Bool) (xs : List X) → position p xs ≡ None → All (λ x. p x ≡ false) xs
none_passes p xs h k d lt =
    let past : length xs ≤ position_or_len p xs = ltb-false (position_or_len p xs) (length xs) (no_some _ _ h) in
    fails_before_first p xs k d (omega arith)

not_found : (b : Bool) (n : ℕ) → b ≡ false → cond b (Some n) None ≡ None
not_found b n h = rw h refl

not_below : (a b : ℕ) → b ≤ a → nat_lt a b ≡ false
not_below a b h = grind (arith, nat_tests)

pub none_found : {X : Type 0} (d : X) (p : X → Bool) (xs : List X) → All (λ x. p x ≡ false) xs → position p xs ≡ None
none_found d p xs none =
    let n : position_or_len p xs ≡ length xs = position_or_len_is p xs (length xs) d (omega arith) (λ k lt. none k d lt) (λ lt. absurd (omega arith)) in
    not_found (nat_lt (position_or_len p xs) (length xs)) (position_or_len p xs) (not_below (position_or_len p xs) (length xs) (omega arith))
