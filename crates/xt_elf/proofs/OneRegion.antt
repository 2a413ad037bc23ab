-- Two addresses lie in one region exactly where the first and the last have the same.
use Rattle.std.proofs.Common.{◌≡◌, ℕ, ◌+◌, ◌<◌, ◌≤◌, Bool, true, false, ◌&&◌, List, [], ◌∷◌, get_or, Option, Some, refl, sym, ◌∙◌, ⊎_elim, arith}
use Rattle.std.specs.Prelude.{◌↔◌, IsTrue, nat_le, not}
use Rattle.std.specs.List.{AllByRecursion, list_any}
use Rattle.std.proofs.lemmas.Bool.{and_from, and_parts, or_cases}
use Rattle.std.proofs.lemmas.Bool.Decides.{nat_tests}
use Rattle.std.proofs.lemmas.List.Folds.{list_any_at}
use Rattle.xt_map.specs.declared.regions.Region.{Region}
use Rattle.xt_map.specs.declared.regions.Region.TheVariants.{Drom, Uart, RtcFastData, Dram, Iram, RtcFastCode, Irom, RtcSlow}
use Rattle.xt_map.specs.Placing.{is_device}
use Rattle.xt_map.specs.Regions.{Range, range, ranges, region_of}
use Rattle.xt_map.proofs.Ranged.{dram_range, iram_range, range_dram, range_rtc_fast_data, range_rtc_slow, rtc_fast_data_range, rtc_slow_range}
use Rattle.xt_elf.specs.Rules.{takes}
use Rattle.xt_elf.specs.Spans.{IsOneRegion}

drom_range : (a : ℕ) → region_of a ≡ Some Drom → (0x3F400000 ≤ a) × (a ≤ 0x3F7FFFFF)
unfolding region_of
drom_range a h = grind (arith, nat_tests)

rtc_fast_code_range : (a : ℕ) → region_of a ≡ Some RtcFastCode → (0x400C0000 ≤ a) × (a ≤ 0x400C1FFF)
unfolding region_of
rtc_fast_code_range a h = grind (arith, nat_tests)

irom_range : (a : ℕ) → region_of a ≡ Some Irom → (0x400D0000 ≤ a) × (a ≤ 0x403FFFFF)
unfolding region_of
irom_range a h = grind (arith, nat_tests)

range_drom : (a : ℕ) → 0x3F400000 ≤ a → a ≤ 0x3F7FFFFF → region_of a ≡ Some Drom
unfolding region_of
range_drom a low high = grind (arith, nat_tests)

range_iram : (a : ℕ) → 0x40070000 ≤ a → a ≤ 0x4009FFFF → region_of a ≡ Some Iram
unfolding region_of
range_iram a low high = grind (arith, nat_tests)

range_rtc_fast_code : (a : ℕ) → 0x400C0000 ≤ a → a ≤ 0x400C1FFF → region_of a ≡ Some RtcFastCode
unfolding region_of
range_rtc_fast_code a low high = grind (arith, nat_tests)

range_irom : (a : ℕ) → 0x400D0000 ≤ a → a ≤ 0x403FFFFF → region_of a ≡ Some Irom
unfolding region_of
range_irom a low high = grind (arith, nat_tests)

-- ---- from the range to the region

at_least : (a b : ℕ) → nat_le a b ≡ true → a ≤ b
at_least a b h = grind (arith, nat_tests)

is_at_least : (a b : ℕ) → a ≤ b → nat_le a b ≡ true
is_at_least a b h = grind (arith, nat_tests)

no_device : (b : Bool) → not b ≡ true → b ≡ false
no_device false h = refl
no_device true h = absurd cc

is_no_device : (b : Bool) → b ≡ false → not b ≡ true
is_no_device b h = rw h refl

-- the addresses of the range are of its region
abbrev IsOf : Range → Type 0
IsOf r = is_device r.region ≡ false → (c : ℕ) → r.first ≤ c → c ≤ r.last → region_of c ≡ Some r.region

each_is_of : AllByRecursion IsOf ranges
each_is_of = (
  λ _. range_drom,
  (
    λ device. absurd cc,
    (
      λ device. absurd cc,
      (
        λ _. range_rtc_fast_data,
        (λ _. range_dram, (λ _. range_iram, (λ _. range_rtc_fast_code, (λ _. range_irom, (λ _. range_rtc_slow, tt))))),
      ),
    ),
  ),
)

-- what a range that takes some addresses says of them
pub record Taken (first behind : ℕ) (r : Range) : Type 0 where
  pub device : is_device r.region ≡ false
  pub low : r.first ≤ first
  pub high : behind ≤ r.last + 1

pub taken : (first behind : ℕ) (r : Range) → takes first behind r ≡ true → Taken first behind r
taken first behind r h =
    let (device, place) = and_parts (not (is_device r.region)) (nat_le r.first first && nat_le behind (r.last + 1)) h in
    let (low, high) = and_parts (nat_le r.first first) (nat_le behind (r.last + 1)) place in
    record { device = no_device (is_device r.region) device; low = at_least r.first first low; high = at_least behind (r.last + 1) high }

is_taken : (first behind : ℕ) (r : Range) → Taken first behind r → takes first behind r ≡ true
is_taken first behind r t =
    and_from (not (is_device r.region)) (nat_le r.first first && nat_le behind (r.last + 1)) (is_no_device (is_device r.region) t.device)
    (and_from (nat_le r.first first) (nat_le behind (r.last + 1)) (is_at_least r.first first t.low) (is_at_least behind (r.last + 1) t.high))

-- the addresses from a first one up to the one after the last are all of one region, which is no device
pub record InRegion (first behind : ℕ) : Type 0 where
  pub region : Region
  pub device : is_device region ≡ false
  pub all : (c : ℕ) → first ≤ c → c < behind → region_of c ≡ Some region

in_list : (rs : List Range) (first behind : ℕ) → AllByRecursion IsOf rs → list_any (takes first behind) rs ≡ true → InRegion first behind
in_list [] first behind of h = absurd cc
in_list (r ∷ rs) first behind of h =
    ⊎_elim
    (λ (here : takes first behind r ≡ true).
    let t = taken first behind r here in
    let low : r.first ≤ first = t.low in
    let high : behind ≤ r.last + 1 = t.high in
    record { region = r.region; device = t.device; all = λ c le lt. of.0 t.device c (omega arith) (omega arith) })
    (λ (later : list_any (takes first behind) rs ≡ true). in_list rs first behind of.1 later)
    (or_cases (takes first behind r) (list_any (takes first behind) rs) h)

pub in_region : (first behind : ℕ) → list_any (takes first behind) ranges ≡ true → InRegion first behind
in_region first behind h = in_list ranges first behind each_is_of h

-- the lowest and the highest address of all
abbrev IsBetween : Range → Type 0
IsBetween r = (0x3F400000 ≤ r.first) × (r.last ≤ 0x50001FFF)

between_in : (rs : List Range) (first behind : ℕ) → AllByRecursion IsBetween rs → list_any (takes first behind) rs ≡ true → (0x3F400000 ≤ first) × (behind ≤ 0x50002000)
between_in [] first behind all h = absurd cc
between_in (r ∷ rs) first behind all h =
    ⊎_elim
    (λ (here : takes first behind r ≡ true).
    let t = taken first behind r here in
    let low : r.first ≤ first = t.low in
    let high : behind ≤ r.last + 1 = t.high in
    let least : 0x3F400000 ≤ r.first = all.0.0 in
    let most : r.last ≤ 0x50001FFF = all.0.1 in
    (omega arith, omega arith))
    (λ (later : list_any (takes first behind) rs ≡ true). between_in rs first behind all.1 later)
    (or_cases (takes first behind r) (list_any (takes first behind) rs) h)

all_between : AllByRecursion IsBetween ranges
all_between = ((omega arith, omega arith), ((omega arith, omega arith), ((omega arith, omega arith), ((omega arith, omega arith), ((omega arith, omega arith), ((omega arith, omega arith), ((omega arith, omega arith), ((omega arith, omega arith), ((omega arith, omega arith), tt)))))))))

pub between : (first behind : ℕ) → list_any (takes first behind) ranges ≡ true → (0x3F400000 ≤ first) × (behind ≤ 0x50002000)
between first behind h = between_in ranges first behind all_between h

-- ---- from the region to the range

abbrev no_range : Range
no_range = range Uart 0 0

at_range : (first last k : ℕ) → k < 9 → takes first (last + 1) (get_or ranges k no_range) ≡ true → list_any (takes first (last + 1)) ranges ≡ true
at_range first last k lt h = list_any_at (takes first (last + 1)) ranges k no_range lt h

take_range : (first last : ℕ) (r : Range) → is_device r.region ≡ false → r.first ≤ first → last ≤ r.last → takes first (last + 1) r ≡ true
take_range first last r device low high = is_taken first (last + 1) r (record { device = device; low = low; high = omega arith })

by_region : (first last : ℕ) (r : Region) → is_device r ≡ false → region_of first ≡ Some r → region_of last ≡ Some r → list_any (takes first (last + 1)) ranges ≡ true
by_region first last Drom device p q = at_range first last 0 (omega arith) (take_range first last (range Drom 0x3F400000 0x3F7FFFFF) refl (drom_range first p).0 (drom_range last q).1)
by_region first last Uart device p q = absurd cc
by_region first last RtcFastData device p q = at_range first last 3 (omega arith) (take_range first last (range RtcFastData 0x3FF80000 0x3FF81FFF) refl (rtc_fast_data_range first p).0 (rtc_fast_data_range last q).1)
by_region first last Dram device p q = at_range first last 4 (omega arith) (take_range first last (range Dram 0x3FFAE000 0x3FFFFFFF) refl (dram_range first p).0 (dram_range last q).1)
by_region first last Iram device p q = at_range first last 5 (omega arith) (take_range first last (range Iram 0x40070000 0x4009FFFF) refl (iram_range first p).0 (iram_range last q).1)
by_region first last RtcFastCode device p q = at_range first last 6 (omega arith) (take_range first last (range RtcFastCode 0x400C0000 0x400C1FFF) refl (rtc_fast_code_range first p).0 (rtc_fast_code_range last q).1)
by_region first last Irom device p q = at_range first last 7 (omega arith) (take_range first last (range Irom 0x400D0000 0x403FFFFF) refl (irom_range first p).0 (irom_range last q).1)
by_region first last RtcSlow device p q = at_range first last 8 (omega arith) (take_range first last (range RtcSlow 0x50000000 0x50001FFF) refl (rtc_slow_range first p).0 (rtc_slow_range last q).1)

-- ---- in both directions

same_answer : (x y : Bool) → (x ≡ true → y ≡ true) → (y ≡ true → x ≡ true) → x ≡ y
same_answer true y f g = sym (f refl)
same_answer false true f g = g refl
same_answer false false f g = refl

pub one_region : (first last : ℕ) (a b : Option Region) (x : Bool) → first ≤ last → a ≡ region_of first → b ≡ region_of last → (IsTrue x ↔ IsOneRegion a b) → x ≡ list_any (takes first (last + 1)) ranges
one_region first last a b x le p q one = same_answer x (list_any (takes first (last + 1)) ranges)
    (λ h. let (r, s, t, device) = one.0 h in by_region first last r device (sym p ∙ s) (sym q ∙ t))
    (λ h. let i = in_region first (last + 1) h in one.1 (i.region, p ∙ i.all first (omega arith) (omega arith), q ∙ i.all last (omega arith) (omega arith), i.device))
