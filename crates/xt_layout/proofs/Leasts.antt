-- The least of two first faults.
use Rattle.std.proofs.Common.{◌≡◌, true, false, ◌&&◌, ◌||◌, List, [], ◌∷◌, ◌++◌, refl, ap, ℕ, ◌<◌, ◌≤◌, Some, None, if◌then◌else◌, arith, eqb}
use Rattle.std.specs.Prelude.{nat_lt}
use Rattle.std.proofs.lemmas.Bool.Decides.{nat_tests}
use Rattle.xt_lex.specs.declared.fault.AsmPlace.{AsmPlace}
use Rattle.xt_parse.specs.declared.line.Line.{Line}
use Rattle.xt_parse.specs.Small.{AreAbove}
use Rattle.xt_layout.specs.Around.{each_after}
use Rattle.xt_layout.specs.Findings.{Finding, IsOf, LeastIsFirst, first, is_before, least, or_else, rank}

-- a finding is of a line above n
abbrev IsAbove : ℕ → Finding → Type 0
IsAbove n None = Unit {0}
IsAbove n (Some place) = n < place.line

of_above : (n : ℕ) (l : Line) (x : Finding) → n < l.number → IsOf l x → IsAbove n x
of_above n l None lt of = tt
of_above n l (Some place) lt of = omega arith

weaker : (n m : ℕ) (x : Finding) → n ≤ m → IsAbove m x → IsAbove n x
weaker n m None le h = tt
weaker n m (Some place) le h = omega arith

or_else_above : (n : ℕ) (x y : Finding) → IsAbove n x → IsAbove n y → IsAbove n (or_else x y)
or_else_above n None y hx hy = hy
or_else_above n (Some place) y hx hy = hx

-- the first fault of lines above n
first_above : (f : List Line → Line → List Line → Finding) (n : ℕ) (before lines : List Line) → AreAbove n lines → ((before : List Line) (l : Line) (rest : List Line) → IsOf l (f before l rest)) → IsAbove n (first (each_after f before lines))
first_above f n before [] above of = tt
first_above f n before (l ∷ rest) above of = or_else_above n (f before l rest) (first (each_after f (before ++ l ∷ []) rest)) (of_above n l (f before l rest) above.0 (of before l rest))
    (weaker n l.number (first (each_after f (before ++ l ∷ []) rest)) (omega arith) (first_above f l.number (before ++ l ∷ []) rest above.1 of))

later_false : (a b r s : ℕ) → a < b → (nat_lt b a || (eqb b a && nat_lt r s)) ≡ false
later_false a b r s lt = grind (arith, nat_tests)

sooner_true : (a b r s : ℕ) → a < b → (nat_lt a b || (eqb a b && nat_lt r s)) ≡ true
sooner_true a b r s lt = grind (arith, nat_tests)

keep_left : (n : ℕ) (x : AsmPlace) (y : Finding) → x.line ≡ n → IsAbove n y → least (Some x) y ≡ Some x
keep_left n x None is above = refl
keep_left n x (Some y) is above = ap (λ b. if b then Some y else Some x) (later_false x.line y.line (rank y.kind) (rank x.kind) (omega arith))

keep_right : (n : ℕ) (x : Finding) (y : AsmPlace) → y.line ≡ n → IsAbove n x → least x (Some y) ≡ Some y
keep_right n None y is above = refl
keep_right n (Some x) y is above = ap (λ b. if b then Some y else Some x) (sooner_true y.line x.line (rank y.kind) (rank x.kind) (omega arith))

-- one line, with what the lines after it find
joined : (l : Line) (x y later_x later_y rest : Finding) → IsOf l x → IsOf l y → IsAbove l.number later_x → IsAbove l.number later_y → least later_x later_y ≡ rest →
    least (or_else x later_x) (or_else y later_y) ≡ or_else (least x y) rest
joined l None None later_x later_y rest of_x of_y above_x above_y e = e
joined l (Some x) None later_x later_y rest of_x of_y above_x above_y e = keep_left l.number x later_y of_x above_y
joined l None (Some y) later_x later_y rest of_x of_y above_x above_y e = keep_right l.number later_x y of_y above_x
joined l (Some x) (Some y) later_x later_y rest of_x of_y above_x above_y e = elim (is_before y x) as (λ b. (if b then Some y else Some x) ≡ or_else (if b then Some y else Some x) rest) [ true ↦ refl | false ↦ refl ]

least_from : (f g : List Line → Line → List Line → Finding) (n : ℕ) (before lines : List Line) → AreAbove n lines
    → ((before : List Line) (l : Line) (rest : List Line) → IsOf l (f before l rest)) → ((before : List Line) (l : Line) (rest : List Line) → IsOf l (g before l rest))
    → least (first (each_after f before lines)) (first (each_after g before lines)) ≡ first (each_after (λ before l rest. least (f before l rest) (g before l rest)) before lines)
least_from f g n before [] above of_f of_g = refl
least_from f g n before (l ∷ rest) above of_f of_g = joined l (f before l rest) (g before l rest) (first (each_after f (before ++ l ∷ []) rest)) (first (each_after g (before ++ l ∷ []) rest))
    (first (each_after (λ before l rest. least (f before l rest) (g before l rest)) (before ++ l ∷ []) rest)) (of_f before l rest) (of_g before l rest)
    (first_above f l.number (before ++ l ∷ []) rest above.1 of_f) (first_above g l.number (before ++ l ∷ []) rest above.1 of_g)
    (least_from f g l.number (before ++ l ∷ []) rest above.1 of_f of_g)

pub least_fault : LeastIsFirst
least_fault f g lines above of_f of_g = least_from f g 0 [] lines above of_f of_g
