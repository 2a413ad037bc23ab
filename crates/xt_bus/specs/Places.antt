-- Carries a proof; nothing that a reader must believe.
-- Where an address lies.
use Rattle.std.specs.Prelude.{◌≡◌, ℕ, ◌+◌, ◌<◌, Bool, false, ◌&&◌, ◌||◌, nat_le}
use Rattle.xt_map.specs.Memory.{dram_first, dram_size, rtc_fast_data_first, rtc_fast_data_size}
use Rattle.xt_map.specs.Memory.{rtc_slow_first, rtc_slow_size}
use Rattle.xt_map.specs.Regions.{is_memory, region_of}
use Rattle.xt_bus.specs.declared.places.Place.{Place}
use Rattle.xt_bus.specs.declared.places.Place.TheVariants.{RtcFastData, Dram, RtcSlow, Outside}

-- the place of the address in the list of its region, where it is in memory
abbrev pub IsPlaceOf : ℕ → Place → Type 0
IsPlaceOf a (RtcFastData at) = (a ≡ rtc_fast_data_first + at) × (at < rtc_fast_data_size)
IsPlaceOf a (Dram at) = (a ≡ dram_first + at) × (at < dram_size)
IsPlaceOf a (RtcSlow at) = (a ≡ rtc_slow_first + at) × (at < rtc_slow_size)
IsPlaceOf a Outside = is_memory (region_of a) ≡ false

-- n bytes from the address on end below the data memory, or lie between its
-- end and the RTC slow memory
abbrev pub lies_apart : ℕ → ℕ → Bool
lies_apart a n = nat_le (a + n) 0x3FF80000 || (nat_le 0x40000000 a && nat_le (a + n) 0x50000000)
