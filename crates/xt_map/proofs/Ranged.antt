-- The addresses of the regions, and the regions of addresses.
use Rattle.std.proofs.Common.{◌≡◌, ℕ, ◌≤◌, Some, arith}
use Rattle.std.proofs.lemmas.Bool.Decides.{nat_tests}
use Rattle.xt_map.specs.declared.regions.Region.TheVariants.{RtcFastData, Dram, Iram, RtcSlow}
use Rattle.xt_map.specs.Regions.{region_of}

pub iram_range : (a : ℕ) → region_of a ≡ Some Iram → (0x40070000 ≤ a) × (a ≤ 0x4009FFFF)
unfolding region_of
iram_range a h = grind (arith, nat_tests)

pub dram_range : (a : ℕ) → region_of a ≡ Some Dram → (0x3FFAE000 ≤ a) × (a ≤ 0x3FFFFFFF)
unfolding region_of
dram_range a h = grind (arith, nat_tests)

pub rtc_fast_data_range : (a : ℕ) → region_of a ≡ Some RtcFastData → (0x3FF80000 ≤ a) × (a ≤ 0x3FF81FFF)
unfolding region_of
rtc_fast_data_range a h = grind (arith, nat_tests)

pub rtc_slow_range : (a : ℕ) → region_of a ≡ Some RtcSlow → (0x50000000 ≤ a) × (a ≤ 0x50001FFF)
unfolding region_of
rtc_slow_range a h = grind (arith, nat_tests)

pub range_dram : (a : ℕ) → 0x3FFAE000 ≤ a → a ≤ 0x3FFFFFFF → region_of a ≡ Some Dram
unfolding region_of
range_dram a low high = grind (arith, nat_tests)

pub range_rtc_fast_data : (a : ℕ) → 0x3FF80000 ≤ a → a ≤ 0x3FF81FFF → region_of a ≡ Some RtcFastData
unfolding region_of
range_rtc_fast_data a low high = grind (arith, nat_tests)

pub range_rtc_slow : (a : ℕ) → 0x50000000 ≤ a → a ≤ 0x50001FFF → region_of a ≡ Some RtcSlow
unfolding region_of
range_rtc_slow a low high = grind (arith, nat_tests)
