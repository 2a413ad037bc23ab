-- What memory has sent after the accesses of a history.
use Rattle.std.proofs.Common.{◌≡◌, ℕ, ◌+◌, true, false, Bool, List, [], ◌∷◌, ◌++◌, Option, Some, None, refl, sym, ap, ◌∙◌}
use Rattle.std.specs.Prelude.{◌==◌, if◌then◌else◌}
use mathlib.Core.List.{append_assoc, append-nil}
use Rattle.xt_map.specs.Regions.{region_of, uart_transmit, uart_status}
use Rattle.xt_map.specs.Memory.{with_byte_in, with_byte, with_bytes, low_bytes}
use Rattle.xt_map.specs.Serving.{with_sent, contents_after, number_at, memory_past}
use Rattle.xt_map.specs.declared.regions.Region.{Region}
use Rattle.xt_map.specs.declared.regions.Region.TheVariants as region
use Rattle.xt_map.specs.declared.access.Kind.{Kind}
use Rattle.xt_map.specs.declared.access.Kind.TheVariants.{Load, Store, Cas}
use Rattle.xt_map.specs.declared.access.Entry.{Entry}
use Rattle.xt_map.specs.declared.contents.MemoryContents.{MemoryContents}
use Rattle.xt_report.specs.Reports.{SendsAsMemory, byte_sent, byte_of, sent_bytes}

-- writing bytes of a region sends nothing
with_byte_in-sent : (r : Option Region) (m : MemoryContents) (a b : ℕ) → (with_byte_in r m a b).sent ≡ m.sent
with_byte_in-sent None m a b = refl
with_byte_in-sent (Some region.Drom) m a b = refl
with_byte_in-sent (Some region.Uart) m a b = refl
with_byte_in-sent (Some region.RtcFastData) m a b = refl
with_byte_in-sent (Some region.Dram) m a b = refl
with_byte_in-sent (Some region.Iram) m a b = refl
with_byte_in-sent (Some region.RtcFastCode) m a b = refl
with_byte_in-sent (Some region.Irom) m a b = refl
with_byte_in-sent (Some region.RtcSlow) m a b = refl

with_byte-sent : (m : MemoryContents) (a b : ℕ) → (with_byte m a b).sent ≡ m.sent
unfolding with_byte
with_byte-sent m a b = with_byte_in-sent (region_of a) m a b

with_bytes-sent : (m : MemoryContents) (a : ℕ) (bs : List ℕ) → (with_bytes m a bs).sent ≡ m.sent
with_bytes-sent m a [] = refl
with_bytes-sent m a (b ∷ bs) = with_bytes-sent (with_byte m a b) (a + 1) bs ∙ with_byte-sent m a b

-- two memories that have sent nothing more
cond-sent : (test : Bool) (x y m : MemoryContents) → x.sent ≡ m.sent → y.sent ≡ m.sent → (if test then x else y).sent ≡ m.sent
cond-sent true x y m p q = p
cond-sent false x y m p q = q

-- an access outside UART0 sends nothing
changed-sent : (m : MemoryContents) (a size : ℕ) (k : Kind) → (contents_after m a size k).sent ≡ m.sent
changed-sent m a size Load = refl
changed-sent m a size (Store v) = with_bytes-sent m a (low_bytes size v)
changed-sent m a size (Cas expected new) = cond-sent (number_at m a size == expected) _ _ m (with_bytes-sent m a (low_bytes size new)) refl

-- the bytes of an entry, none or one
abbrev listed : Option ℕ → List ℕ
listed None = []
listed (Some b) = b ∷ []

-- an access to the transmit address sends the bytes of its kind
with_sent-sent : (m : MemoryContents) (k : Kind) → (with_sent m k).sent ≡ m.sent ++ listed (byte_sent k)
with_sent-sent m Load = sym (append-nil m.sent)
with_sent-sent m (Store v) = refl
with_sent-sent m (Cas expected new) = sym (append-nil m.sent)

-- a memory that has sent the byte where the test holds, and nothing more elsewhere
by_test : (t : Bool) (m x y : MemoryContents) (o : Option ℕ) → x.sent ≡ m.sent ++ listed o → y.sent ≡ m.sent
    → (if t then x else y).sent ≡ m.sent ++ listed (if t then o else None)
by_test true m x y o p q = p
by_test false m x y o p q = q ∙ sym (append-nil m.sent)

-- an access sends the bytes of its entry
memory_past-sent : (m : MemoryContents) (e : Entry) → (memory_past m e.access).sent ≡ m.sent ++ listed (byte_of e)
unfolding memory_past
memory_past-sent m e = by_test (e.access.addr == uart_transmit) m _ _ _ (with_sent-sent m e.access.kind)
    (cond-sent (e.access.addr == uart_status) _ _ m refl (changed-sent m e.access.addr e.access.size e.access.kind))

-- the bytes of an entry stand before those of the rest
listed-cons : (o : Option ℕ) (entries : List Entry) (e : Entry) → byte_of e ≡ o → listed o ++ sent_bytes entries ≡ sent_bytes (e ∷ entries)
listed-cons None entries e is = rw is refl
listed-cons (Some b) entries e is = rw is refl

pub sends_as_memory : SendsAsMemory
sends_as_memory m [] = sym (append-nil m.sent)
sends_as_memory m (e ∷ rest) =
    sends_as_memory (memory_past m e.access) rest
    ∙ ap (λ sent. sent ++ sent_bytes rest) (memory_past-sent m e)
    ∙ append_assoc m.sent (listed (byte_of e)) (sent_bytes rest)
    ∙ ap (λ tail. m.sent ++ tail) (listed-cons (byte_of e) rest e refl)
