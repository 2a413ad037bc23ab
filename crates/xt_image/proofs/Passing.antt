-- Lists of five findings, none of which fails.
use Rattle.std.proofs.Common.{◌≡◌, ℕ, ◌≤◌, ◌<◌, List, [], ◌∷◌, Some, None, Bool, true, false, ◌&&◌, ◌||◌, length, refl, arith}
use Rattle.std.specs.Prelude.{nat_le, nat_lt, ◌==◌, not, option_map}
use Rattle.std.proofs.lemmas.Bool.Decides.{nat_tests}
use Rattle.std.specs.List.{position}
use Rattle.xt_map.specs.declared.segment.Segment.{Segment}
use Rattle.xt_image.specs.declared.fault.ImageFault.{ImageFault}
use Rattle.xt_image.specs.declared.fault.ImageFault.TheVariants.{SegmentEnd, SegmentLength, SegmentPlace}
use Rattle.xt_image.specs.Findings.{fails, first}
use Rattle.xt_image.specs.Rules.{Finding, first_overlap, is_misplaced, is_uneven, segment_rules}

pub five_pass : (a b c d e : Bool) (f g h k l : ImageFault) → a ≡ false → b ≡ false → c ≡ false → d ≡ false → e ≡ false
    → first (fails a f ∷ fails b g ∷ fails c h ∷ fails d k ∷ fails e l ∷ []) ≡ None
five_pass a b c d e f g h k l p q r s t = rw (p, q, r, s, t) refl

pub record Five (a b c d e : Bool) : Type 0 where
  pub one : a ≡ false
  pub two : b ≡ false
  pub three : c ≡ false
  pub four : d ≡ false
  pub five : e ≡ false

pub five_passed : (a b c d e : Bool) (f g h k l : ImageFault) → first (fails a f ∷ fails b g ∷ fails c h ∷ fails d k ∷ fails e l ∷ []) ≡ None → Five a b c d e
five_passed true b c d e f g h k l n = absurd cc
five_passed false true c d e f g h k l n = absurd cc
five_passed false false true d e f g h k l n = absurd cc
five_passed false false false true e f g h k l n = absurd cc
five_passed false false false false true f g h k l n = absurd cc
five_passed false false false false false f g h k l n = record { one = refl; two = refl; three = refl; four = refl; five = refl }

-- a count that may fail, and three more findings
pub record Four (a : Bool) (x y z : Finding) : Type 0 where
  pub one : a ≡ false
  pub two : x ≡ None
  pub three : y ≡ None
  pub four : z ≡ None

pub four_passed : (a : Bool) (f : ImageFault) (x y z : Finding) → first (fails a f ∷ x ∷ y ∷ z ∷ []) ≡ None → Four a x y z
four_passed true f x y z n = absurd cc
four_passed false f (Some g) y z n = absurd cc
four_passed false f None (Some g) z n = absurd cc
four_passed false f None None (Some g) n = absurd cc
four_passed false f None None None n = record { one = refl; two = refl; three = refl; four = refl }

pub segments_passed : (count : ℕ) (segments : List Segment) → first (segment_rules count segments) ≡ None
    → Four (nat_lt (length segments) count) (option_map SegmentLength (position is_uneven segments)) (option_map SegmentPlace (position is_misplaced segments)) (first_overlap [] segments)
segments_passed count segments h =
    four_passed (nat_lt (length segments) count) (SegmentEnd (length segments)) (option_map SegmentLength (position is_uneven segments))
    (option_map SegmentPlace (position is_misplaced segments)) (first_overlap [] segments) h

-- ---- tests of numbers and bools

pub not_below : (a b : ℕ) → b ≤ a → nat_lt a b ≡ false
not_below a b h = grind (arith, nat_tests)

pub at_least : (a b : ℕ) → nat_lt a b ≡ false → b ≤ a
at_least a b h = grind (arith, nat_tests)

pub not_at_least : (a b : ℕ) → b < a → nat_le a b ≡ false
not_at_least a b h = grind (arith, nat_tests)

pub above : (a b : ℕ) → nat_le a b ≡ false → b < a
above a b h = grind (arith, nat_tests)

pub is_same : (n : ℕ) → not (n == n) ≡ false
is_same n = grind (arith, nat_tests)

pub same : (a b : ℕ) → not (a == b) ≡ false → a ≡ b
same a b h = grind (arith, nat_tests)

pub in_count : (n : ℕ) → 0 < n → n ≤ 16 → (n == 0 || nat_lt 16 n) ≡ false
in_count n h k = grind (arith, nat_tests)

pub count_in : (n : ℕ) → (n == 0 || nat_lt 16 n) ≡ false → (0 < n) × (n ≤ 16)
count_in n h = grind (arith, nat_tests)

pub not_false : (b : Bool) → not b ≡ false → b ≡ true
not_false true h = refl
not_false false h = absurd cc

pub is_not_false : (b : Bool) → b ≡ true → not b ≡ false
is_not_false b h = rw h refl

-- a test that only counts where another one holds
pub only_where : (h d t : Bool) → h ≡ d → (d ≡ true → t ≡ false) → (h && t) ≡ false
only_where h true t e f = rw (e, f refl) refl
only_where h false t e f = rw e refl

pub where_it_holds : (h t : Bool) → (h && t) ≡ false → h ≡ true → t ≡ false
where_it_holds true t e p = e
where_it_holds false t e p = absurd cc
