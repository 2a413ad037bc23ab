-- What memory holds: a list of bytes for each memory region, and the bytes that UART0 has sent.
-- Which regions there are, and their opening contents, is this project's own choice ('profile').
--
-- Profile: memory opens as zeros, the loaded segments in file order, and then two link words: 76
-- below the end of each stack stands that end, which the handlers need for the opening frame, which
-- has no caller.
use Rattle.std.specs.Prelude.{◌≡◌, ℕ, zero, suc, ◌+◌, ◌-◌, ◌*◌, ◌/◌, ◌%◌, Bool, ◌&&◌, nat_le}
use Rattle.std.specs.Prelude.{nat_lt, if◌then◌else◌, Option, Some, List, [], ◌∷◌, length, replicate}
use Rattle.std.specs.Prelude.{find, slice_index, slice_set}
use Rattle.std.specs.Option.{option_map_or}
use Rattle.xt_map.specs.declared.regions.Region.{Region}
use Rattle.xt_map.specs.declared.regions.Region.TheVariants.{RtcFastData, Dram, RtcSlow}
use Rattle.xt_map.specs.declared.segment.Segment.{Segment}
use Rattle.xt_map.specs.declared.contents.MemoryContents.{MemoryContents}
use Rattle.xt_map.specs.Regions.{region_of, is_constant}

-- ---- bytes and numbers, least byte first

abbrev pub little_endian : List ℕ → ℕ
little_endian [] = 0
little_endian (b ∷ bs) = b + 256 * little_endian bs

-- the n low bytes of a number
abbrev pub low_bytes : ℕ → ℕ → List ℕ
low_bytes zero v = []
low_bytes (suc n) v = v % 256 ∷ low_bytes n (v / 256)

-- ---- one byte of memory

abbrev pub rtc_fast_data_first : ℕ
rtc_fast_data_first = 0x3FF80000

abbrev pub dram_first : ℕ
dram_first = 0x3FFAE000

abbrev pub rtc_slow_first : ℕ
rtc_slow_first = 0x50000000

abbrev pub byte_in : Option Region → MemoryContents → ℕ → ℕ
byte_in (Some RtcFastData) m a = slice_index m.rtc_fast_data (a - rtc_fast_data_first)
byte_in (Some Dram) m a = slice_index m.dram (a - dram_first)
byte_in (Some RtcSlow) m a = slice_index m.rtc_slow (a - rtc_slow_first)
byte_in _ m a = 0

-- the byte at an address, 0 outside the memory regions
unfoldable pub byte_at : MemoryContents → ℕ → ℕ
byte_at m a = byte_in (region_of a) m a

abbrev pub with_byte_in : Option Region → MemoryContents → ℕ → ℕ → MemoryContents
with_byte_in (Some RtcFastData) m a b =
    record m { rtc_fast_data = slice_set m.rtc_fast_data (a - rtc_fast_data_first) b }
with_byte_in (Some Dram) m a b = record m { dram = slice_set m.dram (a - dram_first) b }
with_byte_in (Some RtcSlow) m a b =
    record m { rtc_slow = slice_set m.rtc_slow (a - rtc_slow_first) b }
with_byte_in _ m a b = m

-- the memory with this byte at an address; nothing changes outside the memory regions
unfoldable pub with_byte : MemoryContents → ℕ → ℕ → MemoryContents
with_byte m a b = with_byte_in (region_of a) m a b

-- ---- several bytes

-- the n bytes from an address on
abbrev pub bytes_at : MemoryContents → ℕ → ℕ → List ℕ
bytes_at m a zero = []
bytes_at m a (suc n) = byte_at m a ∷ bytes_at m (a + 1) n

-- the memory with these bytes from an address on
abbrev pub with_bytes : MemoryContents → ℕ → List ℕ → MemoryContents
with_bytes m a [] = m
with_bytes m a (b ∷ bs) = with_bytes (with_byte m a b) (a + 1) bs

-- ---- the opening memory

unfoldable pub zeros : ℕ → List ℕ
zeros n = replicate n 0

abbrev pub rtc_fast_data_size : ℕ
rtc_fast_data_size = 8192

abbrev pub dram_size : ℕ
dram_size = 335872

abbrev pub rtc_slow_size : ℕ
rtc_slow_size = 8192

-- the lists are as long as their regions
pub record HasSizes (m : MemoryContents) : Type 0 where
  pub rtc_fast_data : length m.rtc_fast_data ≡ rtc_fast_data_size
  pub dram : length m.dram ≡ dram_size
  pub rtc_slow : length m.rtc_slow ≡ rtc_slow_size

-- every byte is 0, and nothing was sent
unfoldable pub cleared_memory : MemoryContents
cleared_memory = record {
  rtc_fast_data = zeros rtc_fast_data_size;
  dram = zeros dram_size;
  rtc_slow = zeros rtc_slow_size;
  sent = [];
}

-- a segment below this address is padding and is not loaded (esptool's image format)
abbrev pub is_loaded : Segment → Bool
is_loaded s = nat_le 0x10000000 s.addr

-- the bytes of the loaded segments, put at their addresses in file order
abbrev pub with_segments : MemoryContents → List Segment → MemoryContents
with_segments m [] = m
with_segments m (s ∷ rest) =
    with_segments (if is_loaded s then with_bytes m s.addr s.bytes else m) rest

-- words, each with its address, written in order
abbrev pub with_words : MemoryContents → List (ℕ × ℕ) → MemoryContents
with_words m [] = m
with_words m (w ∷ rest) = with_words (with_bytes m w.0 (low_bytes 4 w.1)) rest

-- what memory holds as a run opens: the segments, and then the words that each
-- core's stack begins with
unfoldable pub opening_memory : List Segment → List (ℕ × ℕ) → MemoryContents
opening_memory segments words = with_words (with_segments cleared_memory segments) words

-- ---- the constant regions

-- a loaded segment has a byte at this address
abbrev pub holds_address : ℕ → Segment → Bool
holds_address a s = is_loaded s && (nat_le s.addr a && nat_lt (a - s.addr) (length s.bytes))

-- the byte that a loaded segment has at an address, or 0 where none has one
abbrev pub loaded_byte : List Segment → ℕ → ℕ
loaded_byte segments a =
    option_map_or (λ s. slice_index s.bytes (a - s.addr)) (find (holds_address a) segments) 0

-- the byte at an address of a constant region, 0 elsewhere
unfoldable pub constant_byte : List Segment → ℕ → ℕ
constant_byte segments a = if is_constant (region_of a) then loaded_byte segments a else 0
