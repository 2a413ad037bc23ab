-- Loaded segments that share no byte are together no larger than the ranges of addresses that they lie in.
use Rattle.std.proofs.Common.{◌≡◌, ℕ, suc, ◌+◌, ◌-◌, ◌*◌, ◌<◌, ◌≤◌, Bool, true, false, ◌&&◌, ◌||◌, cond, if◌then◌else◌, List, [], ◌∷◌, length, get_or, min, max, refl, sym, ap, ◌∙◌, ◌⊎◌, inl, inr, ⊎_elim, arith, length-append}
use Rattle.std.specs.Prelude.{All, nat_le, nat_lt, not, ◌==◌}
use Rattle.std.specs.List.{AllByRecursion, flat_map, list_any, sum_by}
use Rattle.std.proofs.lemmas.Bool.{and_parts, or_cases}
use Rattle.std.proofs.lemmas.Bool.Decides.{nat_tests}
use Rattle.std.proofs.lemmas.List.Elements.{recursion_from_All}
use Rattle.std.proofs.lemmas.List.Sums.{sum_by-cons}
use Rattle.xt_map.specs.declared.segment.Segment.{Segment}
use Rattle.xt_map.specs.Memory.{is_loaded}
use Rattle.xt_map.specs.Placing.{IsPlaced, end_of_segment, is_device, is_well_placed, takes}
use Rattle.xt_map.specs.Regions.{Range, ranges}
use Rattle.xt_image.specs.declared.image.Image.{Image}
use Rattle.xt_image.specs.Layout.{checksum_place, segment_bytes}
use Rattle.xt_image.specs.ImageParts.{FitsImage, MeetsRules, image_bytes}
use Rattle.xt_image.proofs.Ruled.{written_length}

-- two segments share an address
abbrev pub share_address : Segment → Segment → Bool
share_address s t = nat_lt (max s.addr t.addr) (min (end_of_segment s) (end_of_segment t))

abbrev pub bytes_in : Segment → ℕ
bytes_in s = length s.bytes

-- ---- between two addresses

-- the bytes of a segment that lies between two addresses, and 0 for any other
abbrev part : ℕ → ℕ → Segment → ℕ
part low high s = cond (nat_le low s.addr && nat_le (end_of_segment s) high) (length s.bytes) 0

-- of numbers: n addresses from s on that share none with those from a to b lie below a or above b
split_numbers : (low high a b s n : ℕ) → a < b → low ≤ a → b ≤ high → nat_lt (max a s) (min b (s + n)) ≡ false →
    cond (nat_le low s && nat_le (s + n) high) n 0 ≤ cond (nat_le low s && nat_le (s + n) a) n 0 + cond (nat_le b s && nat_le (s + n) high) n 0
split_numbers low high a b s n lt le ge apart = grind (arith, nat_tests)

split_part : (low high : ℕ) (x y : Segment) → 0 < bytes_in x → low ≤ x.addr → end_of_segment x ≤ high → share_address x y ≡ false →
    part low high y ≤ part low x.addr y + part (end_of_segment x) high y
split_part low high x y some le ge apart = split_numbers low high x.addr (end_of_segment x) y.addr (length y.bytes) (omega arith) le ge apart

split_sum : (low high : ℕ) (x : Segment) (ys : List Segment) → 0 < bytes_in x → low ≤ x.addr → end_of_segment x ≤ high → AllByRecursion (λ y. share_address x y ≡ false) ys →
    sum_by (part low high) ys ≤ sum_by (part low x.addr) ys + sum_by (part (end_of_segment x) high) ys
split_sum low high x [] some le ge apart = omega arith
split_sum low high x (y ∷ ys) some le ge apart =
    omega (
      arith,
      split_part low high x y some le ge apart.0,
      split_sum low high x ys some le ge apart.1,
      sum_by-cons (part low high) y ys,
      sum_by-cons (part low x.addr) y ys,
      sum_by-cons (part (end_of_segment x) high) y ys,
    )

-- a segment counts nothing, or it has a byte and lies between the two
part_numbers : (low high s n : ℕ) →
    (cond (nat_le low s && nat_le (s + n) high) n 0 ≡ 0) ⊎ ((0 < n) × (low ≤ s) × (s + n ≤ high) × (cond (nat_le low s && nat_le (s + n) high) n 0 ≡ n))
part_numbers low high s n = grind (arith, nat_tests)

-- no two of the segments share an address
abbrev AreApart : List Segment → Type 0
AreApart [] = Unit {0}
AreApart (x ∷ xs) = AllByRecursion (λ y. share_address x y ≡ false) xs × AreApart xs

apart_by_recursion : (xs : List Segment) → ((i j : ℕ) (d : Segment) → i < j → j < length xs → share_address (get_or xs i d) (get_or xs j d) ≡ false) → AreApart xs
apart_by_recursion [] apart = tt
apart_by_recursion (x ∷ xs) apart = (
  recursion_from_All (λ y. share_address x y ≡ false) xs (λ k d lt. apart 0 (suc k) d (omega arith) (omega arith)),
  apart_by_recursion xs (λ i j d lt within. apart (suc i) (suc j) d (omega arith) (omega arith)),
)

-- those that lie between two addresses are together no larger
fit_between : (xs : List Segment) (low high : ℕ) → AreApart xs → sum_by (part low high) xs ≤ high - low
fit_between [] low high apart = omega arith
fit_between (x ∷ xs) low high apart =
    let cons : sum_by (part low high) (x ∷ xs) ≡ part low high x + sum_by (part low high) xs = sum_by-cons (part low high) x xs in
    let rest : sum_by (part low high) xs ≤ high - low = fit_between xs low high apart.1 in
    let below : sum_by (part low x.addr) xs ≤ x.addr - low = fit_between xs low x.addr apart.1 in
    let above : sum_by (part (end_of_segment x) high) xs ≤ high - end_of_segment x = fit_between xs (end_of_segment x) high apart.1 in
    ⊎_elim
    (λ (none : part low high x ≡ 0). omega arith)
    (λ (all : (0 < bytes_in x) × (low ≤ x.addr) × (end_of_segment x ≤ high) × (part low high x ≡ bytes_in x)).
    let parts : sum_by (part low high) xs ≤ sum_by (part low x.addr) xs + sum_by (part (end_of_segment x) high) xs = split_sum low high x xs all.0 all.1 all.2 apart.0 in
    omega arith) (part_numbers low high x.addr (length x.bytes))

-- ---- within ranges

-- the range holds all addresses of the segment
abbrev is_within : Segment → Range → Bool
is_within s r = nat_le r.first s.addr && nat_le (end_of_segment s) (r.last + 1)

abbrev room : Range → ℕ
room r = (r.last + 1) - r.first

abbrev part_in : Segment → Range → ℕ
part_in s r = part r.first (r.last + 1) s

whole_part : (s : Segment) (r : Range) → is_within s r ≡ true → bytes_in s ≤ part_in s r
whole_part s r h = rw h (omega arith)

-- a segment that stands in one of the ranges counts there
whole_in : (rs : List Range) (s : Segment) → list_any (takes s) rs ≡ true → bytes_in s ≤ sum_by (part_in s) rs
whole_in [] s h = absurd cc
whole_in (r ∷ rs) s h =
    ⊎_elim
    (λ (here : takes s r ≡ true). omega (arith, whole_part s r (and_parts (not (is_device r.region)) (is_within s r) here).1, sum_by-cons (part_in s) r rs))
    (λ (later : list_any (takes s) rs ≡ true). omega (arith, whole_in rs s later, sum_by-cons (part_in s) r rs))
    (or_cases (takes s r) (list_any (takes s) rs) h)

-- what the segments count in a range
abbrev parts_in : List Segment → Range → ℕ
parts_in xs r = sum_by (part r.first (r.last + 1)) xs

parts_more : (rs : List Range) (x : Segment) (xs : List Segment) → sum_by (parts_in (x ∷ xs)) rs ≡ sum_by (part_in x) rs + sum_by (parts_in xs) rs
parts_more [] x xs = refl
parts_more (r ∷ rs) x xs = omega (
  arith,
  parts_more rs x xs,
  sum_by-cons (parts_in (x ∷ xs)) r rs,
  sum_by-cons (part_in x) r rs,
  sum_by-cons (parts_in xs) r rs,
  sum_by-cons (part r.first (r.last + 1)) x xs,
)

-- each segment has no byte, or stands in one of the ranges
abbrev pub LieIn : List Range → List Segment → Type 0
LieIn rs xs = AllByRecursion (λ x. (bytes_in x ≡ 0) ⊎ (list_any (takes x) rs ≡ true)) xs

whole_sum : (rs : List Range) (xs : List Segment) → LieIn rs xs → sum_by bytes_in xs ≤ sum_by (parts_in xs) rs
whole_sum rs [] lie = omega arith
whole_sum rs (x ∷ xs) lie =
    let here : bytes_in x ≤ sum_by (part_in x) rs = ⊎_elim (λ (none : bytes_in x ≡ 0). omega arith) (λ (one : list_any (takes x) rs ≡ true). whole_in rs x one) lie.0 in
    omega (arith, whole_sum rs xs lie.1, parts_more rs x xs, sum_by-cons bytes_in x xs)

ranges_hold : (rs : List Range) (xs : List Segment) → AreApart xs → sum_by (parts_in xs) rs ≤ sum_by room rs
ranges_hold [] xs apart = omega arith
ranges_hold (r ∷ rs) xs apart = omega (arith, ranges_hold rs xs apart, fit_between xs r.first (r.last + 1) apart, sum_by-cons (parts_in xs) r rs, sum_by-cons room r rs)

-- All ranges together have 8,093,698 addresses. So no more bytes are in segments of which no two share an address, where each
-- has no byte or stands in one of the ranges.
pub fit_in_regions : (xs : List Segment) → ((i j : ℕ) (d : Segment) → i < j → j < length xs → share_address (get_or xs i d) (get_or xs j d) ≡ false)
    → LieIn ranges xs → sum_by bytes_in xs ≤ 8093698
fit_in_regions xs apart lie =
    let all : sum_by room ranges ≡ 8093698 = refl in
    omega (arith, whole_sum ranges xs lie, ranges_hold ranges xs (apart_by_recursion xs apart))

-- ---- the segments of an image

both_loaded : (a b t : Bool) → a ≡ true → b ≡ true → ((a && b) && t) ≡ false → t ≡ false
both_loaded a b t p q h = sym (rw (p, q) refl) ∙ h

no_byte : (n : ℕ) → (n == 0) ≡ true → n ≡ 0
no_byte n h = grind (arith, nat_tests)

stands : (s : Segment) → is_loaded s ≡ true → is_well_placed s ≡ true → (bytes_in s ≡ 0) ⊎ (list_any (takes s) ranges ≡ true)
stands s loaded placed =
    let some : (length s.bytes == 0 || list_any (takes s) ranges) ≡ true = sym (ap (λ b. not b || (length s.bytes == 0 || list_any (takes s) ranges)) loaded) ∙ placed in
    ⊎_elim (λ (none : (length s.bytes == 0) ≡ true). inl (no_byte (length s.bytes) none)) (λ (one : list_any (takes s) ranges ≡ true). inr one)
    (or_cases (length s.bytes == 0) (list_any (takes s) ranges) some)

all_bytes : (segments : List Segment) → IsPlaced segments → All (λ s. is_loaded s ≡ true) segments → sum_by bytes_in segments ≤ 8093698
all_bytes segments placed loaded = fit_in_regions segments
    (λ i j d lt within.
    both_loaded (is_loaded (get_or segments i d)) (is_loaded (get_or segments j d)) (share_address (get_or segments i d) (get_or segments j d))
    (loaded i d (omega arith)) (loaded j d within) (placed.apart i j d lt within))
    (recursion_from_All (λ x. (bytes_in x ≡ 0) ⊎ (list_any (takes x) ranges ≡ true)) segments (λ k d lt. stands (get_or segments k d) (loaded k d lt) (placed.placed k d lt)))

segment_long : (s : Segment) → length (segment_bytes s) ≡ 8 + bytes_in s
segment_long s = omega arith

segments_long : (segments : List Segment) → length (flat_map segment_bytes segments) ≡ 8 * length segments + sum_by bytes_in segments
segments_long [] = refl
segments_long (s ∷ segments) =
    omega (arith, length-append (segment_bytes s) (flat_map segment_bytes segments), segment_long s, segments_long segments, sum_by-cons bytes_in s segments)

digest_at_most : (b : Bool) → (if b then 32 else 0) ≤ 32
digest_at_most true = omega arith
digest_at_most false = omega arith

-- the file of an image whose segments have no more bytes than all ranges together
pub short_by_bytes : (i : Image) → FitsImage i → length i.segments ≤ 16 → sum_by bytes_in i.segments ≤ 8093698 → length (image_bytes i) ≤ 8388608
short_by_bytes i fits few bytes =
    let long : length (image_bytes i) ≡ (checksum_place i.segments + 1) + (if i.digest then 32 else 0) = written_length i fits in
    omega (arith, segments_long i.segments, bytes, few, digest_at_most i.digest)

pub is_short : (i : Image) → FitsImage i → MeetsRules i → All (λ s. is_loaded s ≡ true) i.segments → length (image_bytes i) ≤ 8388608
is_short i fits rules loaded = short_by_bytes i fits rules.few (all_bytes i.segments rules.placed loaded)
