-- The memory map. The addresses are those of the ESP32 Technical Reference Manual, chapter 'System
-- and Memory'; which of its regions exist, and that constant regions are never written, is this
-- project's own choice ('profile').
--
-- Profile: only these regions exist, since no image tells what ROM and other peripherals hold; both
-- cores reach all of them. The two RTC fast regions are two memories, not two views of one.
-- Profile: flash and the executable regions are constant. So an instruction is a function of the
-- image and needs no bus access, and no store can change a window handler. A byte of them that no
-- segment loads is 0.
use Rattle.std.specs.Prelude.{ℕ, ◌*◌, ◌%◌, ◌^◌, Bool, true, false, ◌==◌, ◌&&◌, ◌||◌, nat_le, nat_lt}
use Rattle.std.specs.Prelude.{if◌then◌else◌, Option, Some, None, List, [], ◌∷◌}
use Rattle.xt_map.specs.declared.regions.Region.{Region}
use Rattle.xt_map.specs.declared.regions.Region.TheVariants.{Drom, Uart, RtcFastData, Dram, Iram}
use Rattle.xt_map.specs.declared.regions.Region.TheVariants.{RtcFastCode, Irom, RtcSlow}
use Rattle.xt_map.specs.declared.access.Kind.{Kind}
use Rattle.xt_map.specs.declared.access.Kind.TheVariants.{Load, Store, Cas}
use Rattle.xt_map.specs.declared.access.Access.{Access}

-- a region, with its first and its last address
pub record Range : Type 0 where
  pub region : Region
  pub first : ℕ
  pub last : ℕ

abbrev pub range : Region → ℕ → ℕ → Range
range region first last = record { region = region; first = first; last = last }

-- the transmit address of UART0, and its status address
abbrev pub uart_transmit : ℕ
uart_transmit = 0x3FF40000

abbrev pub uart_status : ℕ
uart_status = 0x3FF4001C

abbrev pub ranges : List Range
ranges =
    range Drom 0x3F400000 0x3F7FFFFF
    ∷ range Uart uart_transmit uart_transmit
    ∷ range Uart uart_status uart_status
    ∷ range RtcFastData 0x3FF80000 0x3FF81FFF
    ∷ range Dram 0x3FFAE000 0x3FFFFFFF
    ∷ range Iram 0x40070000 0x4009FFFF
    ∷ range RtcFastCode 0x400C0000 0x400C1FFF
    ∷ range Irom 0x400D0000 0x403FFFFF
    ∷ range RtcSlow 0x50000000 0x50001FFF
    ∷ []

abbrev pub holds : Range → ℕ → Bool
holds r a = nat_le r.first a && nat_le a r.last

-- the region of the first range that holds the address
abbrev pub region_in : List Range → ℕ → Option Region
region_in [] a = None
region_in (r ∷ rest) a = if holds r a then Some r.region else region_in rest a

unfoldable pub region_of : ℕ → Option Region
region_of a = region_in ranges a

-- ---- the kinds of region

abbrev pub is_constant : Option Region → Bool
is_constant (Some Drom) = true
is_constant (Some Iram) = true
is_constant (Some RtcFastCode) = true
is_constant (Some Irom) = true
is_constant _ = false

abbrev pub is_executable : Option Region → Bool
is_executable (Some Iram) = true
is_executable (Some RtcFastCode) = true
is_executable (Some Irom) = true
is_executable _ = false

abbrev pub is_memory : Option Region → Bool
is_memory (Some RtcFastData) = true
is_memory (Some Dram) = true
is_memory (Some RtcSlow) = true
is_memory _ = false

-- ---- bus accesses

abbrev pub is_uart : ℕ → Bool
is_uart a = a == uart_transmit || a == uart_status

abbrev pub is_size : ℕ → Bool
is_size n = n == 1 || (n == 2 || n == 4)

-- a stored value has no more bytes than the access; a compare-and-swap is of words
abbrev pub kind_fits : Kind → ℕ → Bool
kind_fits Load size = true
kind_fits (Store v) size = nat_lt v (2 ^ (8 * size))
kind_fits (Cas expected new) size = size == 4

-- the two addresses of UART0 take loads and stores
abbrev pub uart_takes : Kind → Bool
uart_takes Load = true
uart_takes (Store v) = true
uart_takes (Cas expected new) = false

-- What the bus serves: an aligned access of 1, 2 or 4 bytes to a memory region, or a load or store
-- of UART0. Each memory region begins and ends at a multiple of 4, so an aligned access that begins
-- in one lies in it whole.
abbrev pub is_mapped : Access → Bool
is_mapped a = is_size a.size && (kind_fits a.kind a.size
    && ((is_memory (region_of a.addr) && a.addr % a.size == 0)
    || (is_uart a.addr && uart_takes a.kind)))
