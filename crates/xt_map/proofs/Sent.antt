-- How many bytes an access sends.
use Rattle.std.proofs.Common.{◌≡◌, ℕ, ◌+◌, ◌%◌, ◌≤◌, Bool, true, false, List, [], ◌∷◌, length, Option, Some, refl, ap, ◌∙◌, arith, length-append}
use Rattle.std.specs.Prelude.{◌==◌, if◌then◌else◌}
use Rattle.xt_map.specs.declared.regions.Region.{Region}
use Rattle.xt_map.specs.declared.regions.Region.TheVariants.{RtcFastData, Dram, RtcSlow}
use Rattle.xt_map.specs.declared.access.Kind.{Kind}
use Rattle.xt_map.specs.declared.access.Kind.TheVariants.{Load, Store, Cas}
use Rattle.xt_map.specs.declared.access.Access.{Access}
use Rattle.xt_map.specs.declared.contents.MemoryContents.{MemoryContents}
use Rattle.xt_map.specs.Regions.{region_of, uart_transmit, uart_status}
use Rattle.xt_map.specs.Memory.{low_bytes, with_byte_in, with_byte, with_bytes}
use Rattle.xt_map.specs.Serving.{number_at, with_sent, contents_after, memory_past}

sent_of_byte_in : (r : Option Region) (m : MemoryContents) (a b : ℕ) → (with_byte_in r m a b).sent ≡ m.sent
sent_of_byte_in (Some RtcFastData) m a b = refl
sent_of_byte_in (Some Dram) m a b = refl
sent_of_byte_in (Some RtcSlow) m a b = refl
sent_of_byte_in _ m a b = refl

pub sent_of_byte : (m : MemoryContents) (a b : ℕ) → (with_byte m a b).sent ≡ m.sent
unfolding with_byte
sent_of_byte m a b = sent_of_byte_in (region_of a) m a b

pub sent_of_bytes : (m : MemoryContents) (a : ℕ) (bs : List ℕ) → (with_bytes m a bs).sent ≡ m.sent
sent_of_bytes m a [] = refl
sent_of_bytes m a (b ∷ bs) = sent_of_bytes (with_byte m a b) (a + 1) bs ∙ sent_of_byte m a b

either_more : (t : Bool) (n : ℕ) (x y : MemoryContents) → length x.sent ≤ n + 1 → length y.sent ≤ n + 1 → length (if t then x else y).sent ≤ n + 1
either_more true n x y p q = p
either_more false n x y p q = q

bytes_send_none : (m : MemoryContents) (a : ℕ) (bs : List ℕ) → length (with_bytes m a bs).sent ≤ length m.sent + 1
bytes_send_none m a bs = omega (arith, ap length (sent_of_bytes m a bs))

sends_one : (m : MemoryContents) (k : Kind) → length (with_sent m k).sent ≤ length m.sent + 1
sends_one m Load = omega arith
sends_one m (Store v) = omega (arith, length-append m.sent (v % 256 ∷ []))
sends_one m (Cas expected new) = omega arith

changes_send_none : (m : MemoryContents) (a size : ℕ) (k : Kind) → length (contents_after m a size k).sent ≤ length m.sent + 1
changes_send_none m a size Load = omega arith
changes_send_none m a size (Store v) = bytes_send_none m a (low_bytes size v)
changes_send_none m a size (Cas expected new) =
    either_more (number_at m a size == expected) (length m.sent) (with_bytes m a (low_bytes size new)) m (bytes_send_none m a (low_bytes size new)) (omega arith)

pub access_sends : (m : MemoryContents) (a : Access) → length (memory_past m a).sent ≤ length m.sent + 1
unfolding memory_past
access_sends m a =
    either_more (a.addr == uart_transmit) (length m.sent) (with_sent m a.kind) (if a.addr == uart_status then m else contents_after m a.addr a.size a.kind) (sends_one m a.kind)
    (either_more (a.addr == uart_status) (length m.sent) m (contents_after m a.addr a.size a.kind) (omega arith) (changes_send_none m a.addr a.size a.kind))
