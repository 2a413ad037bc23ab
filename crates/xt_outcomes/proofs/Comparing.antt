-- The order of outcomes.
use Rattle.std.proofs.Common.{Ordering, Less, Equal, Greater, ◌≡◌, ℕ, ◌<◌, true, false, List, [], ◌∷◌, refl, sym, ap, ◌∙◌, subst, arith}
use Rattle.std.proofs.lemmas.Bool.{true≢false}
use Rattle.std.proofs.lemmas.Cmp.{nat_list_cmp_total}
use Rattle.std.specs.Cmp.{ranks}
use Rattle.std.specs.Ordering.{MatchOrdering, is_eq, is_lt, nat_cmp, ordering_reverse, ordering_then}
use Rattle.std.specs.Cmp.Lexicographic.{slice_cmp}
use Rattle.xt_trace.specs.declared.trace.Stop.{Stop}
use Rattle.xt_trace.specs.declared.trace.Stop.TheVariants as stop
use Rattle.xt_outcomes.specs.Listing.{outcome_ordering, rank, rest_of}
use Rattle.xt_outcomes.specs.Outcomes.{Outcome}

-- ---- the other way round

then_reversed : (a b : Ordering) → ordering_then (ordering_reverse a) (ordering_reverse b) ≡ ordering_reverse (ordering_then a b)
then_reversed Less b = refl
then_reversed Equal b = refl
then_reversed Greater b = refl

reversed : (x y : Outcome) → outcome_ordering y x ≡ ordering_reverse (outcome_ordering x y)
reversed x y =
    let a = nat_list_cmp_total.antisymm y.sent x.sent in
    let b = nat_list_cmp_total.antisymm (rest_of y) (rest_of x) in
    (λ i. ordering_then (a i) (b i)) ∙ then_reversed (slice_cmp nat_cmp x.sent y.sent) (slice_cmp nat_cmp (rest_of x) (rest_of y))

less_is : (r : Ordering) → is_lt r ≡ true → r ≡ Less
less_is Less h = refl
less_is Equal h = absurd (true≢false (sym h))
less_is Greater h = absurd (true≢false (sym h))

greater_is : (r : Ordering) → is_lt r ≡ false → is_eq r ≡ false → r ≡ Greater
greater_is Less h g = absurd (true≢false h)
greater_is Equal h g = absurd (true≢false g)
greater_is Greater h g = refl

pub comes_before : (x y : Outcome) → is_lt (outcome_ordering x y) ≡ true → outcome_ordering x y ≡ Less
comes_before x y h = less_is (outcome_ordering x y) h

pub comes_after : (x y : Outcome) → is_lt (outcome_ordering x y) ≡ false → is_eq (outcome_ordering x y) ≡ false → outcome_ordering y x ≡ Less
comes_after x y h g = reversed x y ∙ ap ordering_reverse (greater_is (outcome_ordering x y) h g)

-- ---- equal outcomes

equal_is : (r : Ordering) → is_eq r ≡ true → r ≡ Equal
equal_is Less h = absurd (true≢false (sym h))
equal_is Equal h = refl
equal_is Greater h = absurd (true≢false (sym h))

then_equal : (a b : Ordering) → ordering_then a b ≡ Equal → (a ≡ Equal) × (b ≡ Equal)
then_equal Less b h = absurd (true≢false (sym (ap is_eq h)))
then_equal Equal b h = (refl, h)
then_equal Greater b h = absurd (true≢false (sym (ap is_eq h)))

same_number : (x y : ℕ) → nat_cmp x y ≡ Equal → x ≡ y
same_number x y h = subst (λ (r : Ordering). MatchOrdering r (x < y) (x ≡ y) (y < x)) h (ranks x y)

same_list : (xs ys : List ℕ) → slice_cmp nat_cmp xs ys ≡ Equal → xs ≡ ys
same_list [] [] h = refl
same_list [] (y ∷ ys) h = absurd (true≢false (sym (ap is_eq h)))
same_list (x ∷ xs) [] h = absurd (true≢false (sym (ap is_eq h)))
same_list (x ∷ xs) (y ∷ ys) h =
    let p = then_equal (nat_cmp x y) (slice_cmp nat_cmp xs ys) h in
    let a = same_number x y p.0 in
    let b = same_list xs ys p.1 in
    λ i. a i ∷ b i

same_stop : (s t : Stop) → rank s ≡ rank t → s ≡ t
same_stop stop.Turns stop.Turns h = refl
same_stop stop.Turns stop.Break h = absurd (omega arith)
same_stop stop.Break stop.Turns h = absurd (omega arith)
same_stop stop.Break stop.Break h = refl

abbrev tail_of : List ℕ → List ℕ
tail_of [] = []
tail_of (x ∷ xs) = xs

abbrev head_of : List ℕ → ℕ
head_of [] = 0
head_of (x ∷ xs) = x

pub same_outcome : (x y : Outcome) → is_eq (outcome_ordering x y) ≡ true → x ≡ y
same_outcome x y h =
    let p = then_equal (slice_cmp nat_cmp x.sent y.sent) (slice_cmp nat_cmp (rest_of x) (rest_of y)) (equal_is (outcome_ordering x y) h) in
    let sent = same_list x.sent y.sent p.0 in
    let rest = same_list (rest_of x) (rest_of y) p.1 in
    let stop0 = same_stop x.stop0 y.stop0 (ap head_of rest) in
    let one = ap tail_of rest in
    let two = ap tail_of one in
    let stop1 = same_stop x.stop1 y.stop1 (ap head_of two) in
    let three = ap tail_of two in
    let pc0 : x.pc0 ≡ y.pc0 = ap head_of one in
    let pc1 : x.pc1 ≡ y.pc1 = ap head_of three in
    let words : x.words ≡ y.words = ap tail_of three in
    λ i. record { sent = sent i; stop0 = stop0 i; pc0 = pc0 i; stop1 = stop1 i; pc1 = pc1 i; words = words i }
