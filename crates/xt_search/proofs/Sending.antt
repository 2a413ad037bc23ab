-- What was sent plays no part in the bytes.
use Rattle.std.proofs.Common.{◌≡◌, ℕ, true, List, [], ◌∷◌, ◌++◌, Option, Some, ◌<◌, refl, sym, ap, ◌∙◌, ◌+◌, ◌%◌, ◌≤◌, ⊎_elim, eqb-true, arith}
use Rattle.xt_map.specs.declared.regions.Region.{Region}
use Rattle.xt_map.specs.declared.regions.Region.TheVariants.{RtcFastData, Dram, RtcSlow}
use Rattle.std.specs.Prelude.{◌==◌, ◌&&◌}
use Rattle.std.proofs.lemmas.Bool.{and_parts, or_cases}
use Rattle.xt_map.specs.declared.access.Access.{Access}
use Rattle.xt_map.specs.declared.contents.MemoryContents.{MemoryContents}
use Rattle.xt_map.specs.Regions.{region_of, is_memory, is_mapped, is_size, is_uart, kind_fits, uart_takes, uart_status, uart_transmit}
use Rattle.xt_map.specs.Memory.{HasSizes, byte_at, byte_in, with_byte, with_byte_in}
use Rattle.xt_map.proofs.Ranged.{dram_range, rtc_fast_data_range, rtc_slow_range}
use Rattle.xt_search.specs.declared.changes.Change.{Change}
use Rattle.xt_search.specs.Changed.{ChangesState, IsRising, contents_of, put_in, with_changes}
use Rattle.xt_search.specs.Changed as changed
use Rattle.xt_search.proofs.Putting.{byte_is, put_is}

-- a memory with these bytes sent
abbrev pub sending : MemoryContents → List ℕ → MemoryContents
sending m s = record m { sent = s }

pub sending_sizes : (m : MemoryContents) (s : List ℕ) → HasSizes m → HasSizes (sending m s)
sending_sizes m s h = record { rtc_fast_data = h.rtc_fast_data; dram = h.dram; rtc_slow = h.rtc_slow }

byte_apart : (r : Option Region) (m : MemoryContents) (s : List ℕ) (a : ℕ) → byte_in r (sending m s) a ≡ byte_in r m a
byte_apart (Some RtcFastData) m s a = refl
byte_apart (Some Dram) m s a = refl
byte_apart (Some RtcSlow) m s a = refl
byte_apart _ m s a = refl

pub byte_of_sending : (m : MemoryContents) (s : List ℕ) (a : ℕ) → byte_at (sending m s) a ≡ byte_at m a
unfolding byte_at
byte_of_sending m s a = byte_apart (region_of a) m s a

put_apart : (r : Option Region) (m : MemoryContents) (s : List ℕ) (a b : ℕ) → with_byte_in r (sending m s) a b ≡ sending (with_byte_in r m a b) s
put_apart (Some RtcFastData) m s a b = refl
put_apart (Some Dram) m s a b = refl
put_apart (Some RtcSlow) m s a b = refl
put_apart _ m s a b = refl

byte_then_sending : (m : MemoryContents) (s : List ℕ) (a b : ℕ) → with_byte (sending m s) a b ≡ sending (with_byte m a b) s
unfolding with_byte
byte_then_sending m s a b = put_apart (region_of a) m s a b

-- the bytes may be put before or after
pub changes_then_sending : (m : MemoryContents) (s : List ℕ) (cs : List Change) → with_changes (sending m s) cs ≡ sending (with_changes m cs) s
changes_then_sending m s [] = refl
changes_then_sending m s (c ∷ cs) = ap (λ (n : MemoryContents). with_changes n cs) (byte_then_sending m s c.addr c.byte) ∙ changes_then_sending (with_byte m c.addr c.byte) s cs

-- the byte at an address of memory
pub byte_of_contents : (m : MemoryContents) (s : ChangesState) (a : ℕ) → HasSizes m → is_memory (region_of a) ≡ true → IsRising s.bytes → changed.byte_in s.bytes a (byte_at m a) ≡ byte_at (contents_of m s) a
byte_of_contents m s a h mem r =
    sym (byte_is (sending m s.sent) s.bytes a (sending_sizes m s.sent h) mem r ∙ ap (changed.byte_in s.bytes a) (byte_of_sending m s.sent a))

-- one byte more
pub put_in_contents : (m : MemoryContents) (s : ChangesState) (x : Change) → HasSizes m → IsRising s.bytes
    → contents_of m (record s { bytes = put_in s.bytes x }) ≡ with_byte (contents_of m s) x.addr x.byte
put_in_contents m s x h r = put_is (sending m s.sent) s.bytes x (sending_sizes m s.sent h) r

-- one byte more that is sent
pub sent_more : (m : MemoryContents) (s : ChangesState) (v : ℕ) → contents_of m (record s { sent = s.sent ++ v ∷ [] }) ≡ record (contents_of m s) { sent = (contents_of m s).sent ++ v ∷ [] }
sent_more m s v =
    let more : MemoryContents → MemoryContents = λ n. record n { sent = n.sent ++ v ∷ [] } in
    changes_then_sending m (s.sent ++ v ∷ []) s.bytes ∙ sym (ap more (changes_then_sending m s.sent s.bytes))

-- an address of memory is low
low_in : (r : Option Region) (a : ℕ) → region_of a ≡ r → is_memory r ≡ true → a < 0x60000000
low_in (Some RtcFastData) a at h = let i = rtc_fast_data_range a at in omega arith
low_in (Some Dram) a at h = let i = dram_range a at in omega arith
low_in (Some RtcSlow) a at h = let i = rtc_slow_range a at in omega arith
low_in _ a at h = absurd cc

pub memory_is_low : (a : ℕ) → is_memory (region_of a) ≡ true → a < 0x60000000
memory_is_low a h = low_in (region_of a) a refl h

pub mapped_is_low : (a : Access) → is_mapped a ≡ true → a.addr + 4 ≤ 4294967296
mapped_is_low a h =
    let p = (and_parts (is_size a.size) _ h).1 in
    let q = (and_parts (kind_fits a.kind a.size) _ p).1 in
    ⊎_elim
    (λ (m : (is_memory (region_of a.addr) && a.addr % a.size == 0) ≡ true). let l = memory_is_low a.addr (and_parts (is_memory (region_of a.addr)) _ m).0 in omega arith)
    (λ (u : (is_uart a.addr && uart_takes a.kind) ≡ true).
    ⊎_elim (λ (e : (a.addr == uart_transmit) ≡ true). let i : a.addr ≡ 0x3FF40000 = eqb-true a.addr uart_transmit e in omega arith)
    (λ (e : (a.addr == uart_status) ≡ true). let i : a.addr ≡ 0x3FF4001C = eqb-true a.addr uart_status e in omega arith)
    (or_cases (a.addr == uart_transmit) (a.addr == uart_status) (and_parts (is_uart a.addr) _ u).0))
    (or_cases (is_memory (region_of a.addr) && a.addr % a.size == 0) (is_uart a.addr && uart_takes a.kind) q)
