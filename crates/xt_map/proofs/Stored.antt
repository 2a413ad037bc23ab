-- What stands in memory after a byte, several bytes or an access, and how long its lists are.
use Rattle.std.proofs.Common.{◌≡◌, ◌≢◌, ℕ, zero, suc, ◌+◌, ◌-◌, ◌/◌, ◌<◌, ◌≤◌, Bool, true, false, List, [], ◌∷◌, length, slice_index, slice_set, Option, Some, ◌⊎◌, ⊎_elim, inl, inr, refl, sym, ap, ◌∙◌, subst, arith}
use Rattle.std.specs.Prelude.{◌==◌, if◌then◌else◌}
use Rattle.std.proofs.lemmas.List.{length-set, length-replicate, get_or-set_same, get_or-set_other}
use Rattle.xt_map.specs.declared.regions.Region.{Region}
use Rattle.xt_map.specs.declared.regions.Region.TheVariants.{RtcFastData, Dram, RtcSlow}
use Rattle.xt_map.specs.declared.access.Kind.{Kind}
use Rattle.xt_map.specs.declared.access.Kind.TheVariants.{Load, Store, Cas}
use Rattle.xt_map.specs.declared.access.Access.{Access}
use Rattle.xt_map.specs.declared.segment.Segment.{Segment}
use Rattle.xt_map.specs.declared.contents.MemoryContents.{MemoryContents}
use Rattle.xt_map.specs.Regions.{region_of, is_memory, uart_transmit, uart_status}
use Rattle.xt_map.specs.Memory.{HasSizes, zeros, cleared_memory, is_loaded, low_bytes, byte_in, byte_at, with_byte_in, with_byte, with_bytes, with_segments, with_words, opening_memory, rtc_fast_data_first, dram_first, rtc_slow_first, rtc_fast_data_size, dram_size, rtc_slow_size}
use Rattle.xt_map.specs.Serving.{number_at, with_sent, contents_after, memory_past}
use Rattle.xt_map.proofs.Ranged.{dram_range, rtc_fast_data_range, rtc_slow_range}

-- ---- the byte that is put

put_in : (r : Option Region) (m : MemoryContents) (a b : ℕ) → HasSizes m → region_of a ≡ r → is_memory r ≡ true → byte_in r (with_byte_in r m a b) a ≡ b
put_in (Some RtcFastData) m a b s at h =
    let in_range = rtc_fast_data_range a at in let size : length m.rtc_fast_data ≡ rtc_fast_data_size = s.rtc_fast_data in
    get_or-set_same m.rtc_fast_data (a - rtc_fast_data_first) b 0 (omega arith)
put_in (Some Dram) m a b s at h =
    let in_range = dram_range a at in let size : length m.dram ≡ dram_size = s.dram in
    get_or-set_same m.dram (a - dram_first) b 0 (omega arith)
put_in (Some RtcSlow) m a b s at h =
    let in_range = rtc_slow_range a at in let size : length m.rtc_slow ≡ rtc_slow_size = s.rtc_slow in
    get_or-set_same m.rtc_slow (a - rtc_slow_first) b 0 (omega arith)
put_in _ m a b s at h = absurd cc

pub byte_put : (m : MemoryContents) (a b : ℕ) → HasSizes m → is_memory (region_of a) ≡ true → byte_at (with_byte m a b) a ≡ b
unfolding byte_at with_byte
byte_put m a b s h = put_in (region_of a) m a b s refl h

-- ---- the other bytes

other_rtc_fast_data : (r : Option Region) (m : MemoryContents) (xs : List ℕ) (c : ℕ)
    → (r ≡ Some RtcFastData → slice_index xs (c - rtc_fast_data_first) ≡ slice_index m.rtc_fast_data (c - rtc_fast_data_first))
    → byte_in r (record m { rtc_fast_data = xs }) c ≡ byte_in r m c
other_rtc_fast_data (Some RtcFastData) m xs c h = h refl
other_rtc_fast_data _ m xs c h = refl

other_dram : (r : Option Region) (m : MemoryContents) (xs : List ℕ) (c : ℕ)
    → (r ≡ Some Dram → slice_index xs (c - dram_first) ≡ slice_index m.dram (c - dram_first))
    → byte_in r (record m { dram = xs }) c ≡ byte_in r m c
other_dram (Some Dram) m xs c h = h refl
other_dram _ m xs c h = refl

other_rtc_slow : (r : Option Region) (m : MemoryContents) (xs : List ℕ) (c : ℕ)
    → (r ≡ Some RtcSlow → slice_index xs (c - rtc_slow_first) ≡ slice_index m.rtc_slow (c - rtc_slow_first))
    → byte_in r (record m { rtc_slow = xs }) c ≡ byte_in r m c
other_rtc_slow (Some RtcSlow) m xs c h = h refl
other_rtc_slow _ m xs c h = refl

-- two addresses of one region that differ are two places of its list
set_elsewhere : (xs : List ℕ) (first a b c : ℕ) → first ≤ a → first ≤ c → a ≢ c → slice_index (slice_set xs (a - first) b) (c - first) ≡ slice_index xs (c - first)
set_elsewhere xs first a b c ha hc ne = get_or-set_other xs (a - first) (c - first) b 0 (λ e. ne (omega arith))

other_in : (r : Option Region) (m : MemoryContents) (a b c : ℕ) → region_of a ≡ r → a ≢ c
    → byte_in (region_of c) (with_byte_in r m a b) c ≡ byte_in (region_of c) m c
other_in (Some RtcFastData) m a b c at ne =
    other_rtc_fast_data (region_of c) m (slice_set m.rtc_fast_data (a - rtc_fast_data_first) b) c
    (λ here. set_elsewhere m.rtc_fast_data rtc_fast_data_first a b c (rtc_fast_data_range a at).0 (rtc_fast_data_range c here).0 ne)
other_in (Some Dram) m a b c at ne =
    other_dram (region_of c) m (slice_set m.dram (a - dram_first) b) c
    (λ here. set_elsewhere m.dram dram_first a b c (dram_range a at).0 (dram_range c here).0 ne)
other_in (Some RtcSlow) m a b c at ne =
    other_rtc_slow (region_of c) m (slice_set m.rtc_slow (a - rtc_slow_first) b) c
    (λ here. set_elsewhere m.rtc_slow rtc_slow_first a b c (rtc_slow_range a at).0 (rtc_slow_range c here).0 ne)
other_in _ m a b c at ne = refl

pub byte_elsewhere : (m : MemoryContents) (a b c : ℕ) → a ≢ c → byte_at (with_byte m a b) c ≡ byte_at m c
unfolding byte_at with_byte
byte_elsewhere m a b c ne = other_in (region_of a) m a b c refl ne

pub bytes_elsewhere : (m : MemoryContents) (a : ℕ) (bs : List ℕ) (c : ℕ) → (c < a) ⊎ (a + length bs ≤ c) → byte_at (with_bytes m a bs) c ≡ byte_at m c
bytes_elsewhere m a [] c h = refl
bytes_elsewhere m a (b ∷ bs) c h =
    bytes_elsewhere (with_byte m a b) (a + 1) bs c
    (⊎_elim (λ (i : c < a). inl (omega arith)) (λ (i : a + suc (length bs) ≤ c). inr (omega arith)) h)
    ∙ byte_elsewhere m a b c (λ e. ⊎_elim (λ (i : c < a). omega arith) (λ (i : a + suc (length bs) ≤ c). omega arith) h)

pub length-low_bytes : (n v : ℕ) → length (low_bytes n v) ≡ n
length-low_bytes zero v = refl
length-low_bytes (suc n) v = ap suc (length-low_bytes n (v / 256))

low_bytes_elsewhere : (m : MemoryContents) (a size v c : ℕ) → (c < a) ⊎ (a + size ≤ c) → byte_at (with_bytes m a (low_bytes size v)) c ≡ byte_at m c
low_bytes_elsewhere m a size v c h =
    let P : ℕ → Type 0 = λ n. (c < a) ⊎ (a + n ≤ c) in
    bytes_elsewhere m a (low_bytes size v) c (subst P (sym (length-low_bytes size v)) h)

-- what was sent is no byte of memory
sent_in : (r : Option Region) (m : MemoryContents) (k : Kind) (c : ℕ) → byte_in r (with_sent m k) c ≡ byte_in r m c
sent_in r m Load c = refl
sent_in (Some RtcFastData) m (Store v) c = refl
sent_in (Some Dram) m (Store v) c = refl
sent_in (Some RtcSlow) m (Store v) c = refl
sent_in _ m (Store v) c = refl
sent_in r m (Cas expected new) c = refl

sent_elsewhere : (m : MemoryContents) (k : Kind) (c : ℕ) → byte_at (with_sent m k) c ≡ byte_at m c
unfolding byte_at
sent_elsewhere m k c = sent_in (region_of c) m k c

-- the same byte in two memories, picked by a test
either_byte : (t : Bool) (x y m : MemoryContents) (c : ℕ) → byte_at x c ≡ byte_at m c → byte_at y c ≡ byte_at m c → byte_at (if t then x else y) c ≡ byte_at m c
either_byte true x y m c p q = p
either_byte false x y m c p q = q

changed_elsewhere : (m : MemoryContents) (a size : ℕ) (k : Kind) (c : ℕ) → (c < a) ⊎ (a + size ≤ c) → byte_at (contents_after m a size k) c ≡ byte_at m c
changed_elsewhere m a size Load c h = refl
changed_elsewhere m a size (Store v) c h = low_bytes_elsewhere m a size v c h
changed_elsewhere m a size (Cas expected new) c h =
    either_byte (number_at m a size == expected) (with_bytes m a (low_bytes size new)) m m c (low_bytes_elsewhere m a size new c h) refl

pub access_elsewhere : (m : MemoryContents) (a : Access) (c : ℕ) → (c < a.addr) ⊎ (a.addr + a.size ≤ c) → byte_at (memory_past m a) c ≡ byte_at m c
unfolding memory_past
access_elsewhere m a c h =
    either_byte (a.addr == uart_transmit) (with_sent m a.kind) (if a.addr == uart_status then m else contents_after m a.addr a.size a.kind) m c
    (sent_elsewhere m a.kind c)
    (either_byte (a.addr == uart_status) m (contents_after m a.addr a.size a.kind) m c refl (changed_elsewhere m a.addr a.size a.kind c h))

-- ---- sizes

sizes_in : (r : Option Region) (m : MemoryContents) (a b : ℕ) → HasSizes m → HasSizes (with_byte_in r m a b)
sizes_in (Some RtcFastData) m a b s = record { rtc_fast_data = length-set m.rtc_fast_data (a - rtc_fast_data_first) b ∙ s.rtc_fast_data; dram = s.dram; rtc_slow = s.rtc_slow }
sizes_in (Some Dram) m a b s = record { rtc_fast_data = s.rtc_fast_data; dram = length-set m.dram (a - dram_first) b ∙ s.dram; rtc_slow = s.rtc_slow }
sizes_in (Some RtcSlow) m a b s = record { rtc_fast_data = s.rtc_fast_data; dram = s.dram; rtc_slow = length-set m.rtc_slow (a - rtc_slow_first) b ∙ s.rtc_slow }
sizes_in _ m a b s = s

pub byte_keeps_sizes : (m : MemoryContents) (a b : ℕ) → HasSizes m → HasSizes (with_byte m a b)
unfolding with_byte
byte_keeps_sizes m a b s = sizes_in (region_of a) m a b s

pub bytes_keep_sizes : (m : MemoryContents) (a : ℕ) (bs : List ℕ) → HasSizes m → HasSizes (with_bytes m a bs)
bytes_keep_sizes m a [] s = s
bytes_keep_sizes m a (b ∷ bs) s = bytes_keep_sizes (with_byte m a b) (a + 1) bs (byte_keeps_sizes m a b s)

either_sizes : (t : Bool) (x y : MemoryContents) → HasSizes x → HasSizes y → HasSizes (if t then x else y)
either_sizes true x y p q = p
either_sizes false x y p q = q

sent_keeps_sizes : (m : MemoryContents) (k : Kind) → HasSizes m → HasSizes (with_sent m k)
sent_keeps_sizes m Load s = s
sent_keeps_sizes m (Store v) s = record { rtc_fast_data = s.rtc_fast_data; dram = s.dram; rtc_slow = s.rtc_slow }
sent_keeps_sizes m (Cas expected new) s = s

changed_keeps_sizes : (m : MemoryContents) (a size : ℕ) (k : Kind) → HasSizes m → HasSizes (contents_after m a size k)
changed_keeps_sizes m a size Load s = s
changed_keeps_sizes m a size (Store v) s = bytes_keep_sizes m a (low_bytes size v) s
changed_keeps_sizes m a size (Cas expected new) s =
    either_sizes (number_at m a size == expected) (with_bytes m a (low_bytes size new)) m (bytes_keep_sizes m a (low_bytes size new) s) s

pub access_keeps_sizes : (m : MemoryContents) (a : Access) → HasSizes m → HasSizes (memory_past m a)
unfolding memory_past
access_keeps_sizes m a s =
    either_sizes (a.addr == uart_transmit) (with_sent m a.kind) (if a.addr == uart_status then m else contents_after m a.addr a.size a.kind)
    (sent_keeps_sizes m a.kind s)
    (either_sizes (a.addr == uart_status) m (contents_after m a.addr a.size a.kind) s (changed_keeps_sizes m a.addr a.size a.kind s))

pub length-zeros : (n : ℕ) → length (zeros n) ≡ n
unfolding zeros
length-zeros n = length-replicate n 0

pub cleared_has_sizes : HasSizes cleared_memory
unfolding cleared_memory
cleared_has_sizes = record { rtc_fast_data = length-zeros rtc_fast_data_size; dram = length-zeros dram_size; rtc_slow = length-zeros rtc_slow_size }

pub segments_keep_sizes : (m : MemoryContents) (segments : List Segment) → HasSizes m → HasSizes (with_segments m segments)
segments_keep_sizes m [] s = s
segments_keep_sizes m (x ∷ rest) s =
    segments_keep_sizes (if is_loaded x then with_bytes m x.addr x.bytes else m) rest
    (either_sizes (is_loaded x) (with_bytes m x.addr x.bytes) m (bytes_keep_sizes m x.addr x.bytes s) s)

pub words_keep_sizes : (m : MemoryContents) (words : List (ℕ × ℕ)) → HasSizes m → HasSizes (with_words m words)
words_keep_sizes m [] s = s
words_keep_sizes m (w ∷ rest) s = words_keep_sizes (with_bytes m w.0 (low_bytes 4 w.1)) rest (bytes_keep_sizes m w.0 (low_bytes 4 w.1) s)

pub opening_has_sizes : (segments : List Segment) (words : List (ℕ × ℕ)) → HasSizes (opening_memory segments words)
unfolding opening_memory
opening_has_sizes segments words = words_keep_sizes (with_segments cleared_memory segments) words (segments_keep_sizes cleared_memory segments cleared_has_sizes)
