-- States laws that are proved; nothing that a reader must believe.
-- Laws of memory and of histories. Each is the contract of a function of src/laws.rt.
use Rattle.std.specs.Prelude.{◌≡◌, ◌≢◌, ℕ, ◌+◌, ◌<◌, ◌≤◌, true, ◌==◌, if◌then◌else◌, ◌⊎◌, ◌↔◌, Some}
use Rattle.std.specs.Prelude.{List, [], ◌∷◌, ◌++◌, length}
use Rattle.xt_map.specs.declared.regions.Region.{Region}
use Rattle.xt_map.specs.declared.regions.Region.TheVariants.{RtcFastData, Dram, Iram, RtcSlow}
use Rattle.xt_map.specs.declared.access.Access.{Access}
use Rattle.xt_map.specs.declared.access.Entry.{Entry}
use Rattle.xt_map.specs.declared.segment.Segment.{Segment}
use Rattle.xt_map.specs.declared.contents.MemoryContents.{MemoryContents}
use Rattle.xt_map.specs.Regions.{region_of, is_memory}
use Rattle.xt_map.specs.Memory.{HasSizes, byte_at, with_byte, opening_memory, holds_address}
use Rattle.xt_map.specs.Placing.{do_overlap}
use Rattle.xt_map.specs.Serving.{memory_past, reply_to}
use Rattle.xt_map.specs.History.{memory_after, IsLegal, is_legal_from, IsOfCores, calls_of}

-- ---- histories

-- one entry more acts on the memory after the others
abbrev pub LongerHistoryIsOnePastMore : Type 0
LongerHistoryIsOnePastMore = (m : MemoryContents) (es : List Entry) (e : Entry)
    → memory_after m (es ++ e ∷ []) ≡ memory_past (memory_after m es) e.access

-- a legal history with one more entry is legal, where its reply is that of
-- the memory after the others
abbrev pub LegalGrows : Type 0
LegalGrows = (m : MemoryContents) (es : List Entry) (e : Entry)
    → IsLegal m es → e.reply ≡ reply_to (memory_after m es) e.access → IsLegal m (es ++ e ∷ [])

-- the test of a legal history decides the law
abbrev pub LegalTestIsLaw : Type 0
LegalTestIsLaw = (m : MemoryContents) (es : List Entry) → (is_legal_from m es ≡ true) ↔ IsLegal m es

-- entries of core 0 or 1 and one more
abbrev pub OfCoresGrows : Type 0
OfCoresGrows = (es : List Entry) (e : Entry) → IsOfCores es → e.core < 2 → IsOfCores (es ++ e ∷ [])

-- one entry more is one call more of its own core
abbrev pub LongerHistoryIsOneCallMore : Type 0
LongerHistoryIsOneCallMore = (core : ℕ) (es : List Entry) (e : Entry)
    → calls_of core (es ++ e ∷ [])
    ≡ calls_of core es ++ (if e.core == core then (e.access, e.reply) ∷ [] else [])

-- ---- bytes

-- a byte that is put at an address of a memory region is there
abbrev pub PutByteIsThere : Type 0
PutByteIsThere =
    (m : MemoryContents) (a b : ℕ) → HasSizes m → is_memory (region_of a) ≡ true
    → byte_at (with_byte m a b) a ≡ b

-- the bytes of the other addresses stay
abbrev pub PutByteKeepsOthers : Type 0
PutByteKeepsOthers =
    (m : MemoryContents) (a b c : ℕ) → a ≢ c → byte_at (with_byte m a b) c ≡ byte_at m c

-- the lists stay as long as their regions
abbrev pub PutByteKeepsSizes : Type 0
PutByteKeepsSizes = (m : MemoryContents) (a b : ℕ) → HasSizes m → HasSizes (with_byte m a b)

-- an access changes no byte before or after its own
abbrev pub AccessKeepsOtherBytes : Type 0
AccessKeepsOtherBytes = (m : MemoryContents) (a : Access) (c : ℕ)
    → (c < a.addr) ⊎ (a.addr + a.size ≤ c) → byte_at (memory_past m a) c ≡ byte_at m c

-- an access keeps the lists as long as their regions
abbrev pub AccessKeepsSizes : Type 0
AccessKeepsSizes = (m : MemoryContents) (a : Access) → HasSizes m → HasSizes (memory_past m a)

-- the opening memory's lists are as long as their regions
abbrev pub OpeningHasSizes : Type 0
OpeningHasSizes =
    (segments : List Segment) (words : List (ℕ × ℕ)) → HasSizes (opening_memory segments words)

-- an access sends at most one byte
abbrev pub AccessSendsAtMostOneByte : Type 0
AccessSendsAtMostOneByte =
    (m : MemoryContents) (a : Access) → length (memory_past m a).sent ≤ length m.sent + 1

-- ---- regions

-- an address of the region lies from its first to its last address
abbrev pub LiesIn : Region → ℕ → ℕ → Type 0
LiesIn r first last = (a : ℕ) → region_of a ≡ Some r → (first ≤ a) × (a ≤ last)

abbrev pub IramIsRange : Type 0
IramIsRange = LiesIn Iram 0x40070000 0x4009FFFF

abbrev pub DramIsRange : Type 0
DramIsRange = LiesIn Dram 0x3FFAE000 0x3FFFFFFF

abbrev pub RtcFastDataIsRange : Type 0
RtcFastDataIsRange = LiesIn RtcFastData 0x3FF80000 0x3FF81FFF

abbrev pub RtcSlowIsRange : Type 0
RtcSlowIsRange = LiesIn RtcSlow 0x50000000 0x50001FFF

-- an address from the first to the last one is of the region
abbrev pub HoldsFrom : Region → ℕ → ℕ → Type 0
HoldsFrom r first last = (a : ℕ) → first ≤ a → a ≤ last → region_of a ≡ Some r

abbrev pub RangeIsDram : Type 0
RangeIsDram = HoldsFrom Dram 0x3FFAE000 0x3FFFFFFF

abbrev pub RangeIsRtcFastData : Type 0
RangeIsRtcFastData = HoldsFrom RtcFastData 0x3FF80000 0x3FF81FFF

abbrev pub RangeIsRtcSlow : Type 0
RangeIsRtcSlow = HoldsFrom RtcSlow 0x50000000 0x50001FFF

-- ---- segments

-- two segments overlap exactly where some address is one that both have a byte at
abbrev pub OverlapIsSharedByte : Type 0
OverlapIsSharedByte =
    (s t : Segment) → (do_overlap s t ≡ true)
    ↔ ((a : ℕ) × ((holds_address a s ≡ true) × (holds_address a t ≡ true)))
