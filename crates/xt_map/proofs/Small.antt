-- Memories are of bytes, so replies are words.
use Rattle.std.proofs.Common.{◌≡◌, ⊎_elim, ℕ, zero, suc, ◌+◌, ◌/◌, ◌%◌, ◌^◌, ◌<◌, Bool, true, false, cond, eqb, sym, refl, ◌∙◌, ap, arith, Some, Option}
use Rattle.std.proofs.lemmas.Bool.{cases_eq, cases_Bool, and_parts}
use Rattle.std.proofs.lemmas.Nat.{mod_below}
use Rattle.xt_map.specs.declared.regions.Region.{Region}
use Rattle.xt_map.specs.declared.regions.Region.TheVariants.{RtcFastData, Dram, RtcSlow}
use Rattle.xt_map.specs.declared.access.Access.{Access}
use Rattle.xt_map.specs.declared.access.Kind.{Kind}
use Rattle.xt_map.specs.declared.access.Kind.TheVariants.{Load, Store, Cas}
use Rattle.xt_map.specs.declared.contents.MemoryContents.{MemoryContents}
use Rattle.xt_map.specs.Regions.{region_of, is_memory, is_mapped, is_size, is_uart, uart_transmit, uart_status}
use Rattle.xt_map.specs.Memory.{HasSizes, byte_in, byte_at, with_byte, with_bytes, low_bytes}
use Rattle.xt_map.specs.Serving.{number_at, access_reply, reply_to, contents_after, memory_past, with_sent}
use Rattle.xt_map.specs.Touching.{IsMemory}
use Rattle.xt_map.proofs.Stored.{byte_put, byte_elsewhere, byte_keeps_sizes}
use Rattle.xt_map.proofs.Alike.{outside_memory, three_sizes}

pub put_small : (m : MemoryContents) (x b a : ℕ) → IsMemory m → b < 256 → byte_at (with_byte m x b) a < 256
put_small m x b a i small = ⊎_elim
    (λ same. ⊎_elim
    (λ is. let e = ap (byte_at (with_byte m x b)) same ∙ byte_put m x b i.sizes is in omega arith)
    (λ isnt. let z : is_memory (region_of a) ≡ false = rw same isnt in let e = outside_memory (with_byte m x b) a z in omega arith)
    (cases_Bool (is_memory (region_of x))))
    (λ other. let e = byte_elsewhere m x b a (λ e. other (sym e)) in let s = i.small a in omega arith)
    (cases_eq a x)

pub low_memory : (n v : ℕ) (m : MemoryContents) (x : ℕ) → IsMemory m → IsMemory (with_bytes m x (low_bytes n v))
low_memory zero v m x i = i
low_memory (suc n) v m x i = low_memory n (v / 256) (with_byte m x (v % 256)) (x + 1) (record { sizes = byte_keeps_sizes m x (v % 256) i.sizes; small = λ a. put_small m x (v % 256) a i (mod_below v 256 (omega arith)) })

pub if_memory : (b : Bool) (m n : MemoryContents) → IsMemory m → IsMemory n → IsMemory (cond b m n)
if_memory true m n i j = i
if_memory false m n i j = j

changed_memory : (m : MemoryContents) (x size : ℕ) (k : Kind) → IsMemory m → IsMemory (contents_after m x size k)
changed_memory m x size Load i = i
changed_memory m x size (Store v) i = low_memory size v m x i
changed_memory m x size (Cas expected new) i = if_memory (eqb (number_at m x size) expected) (with_bytes m x (low_bytes size new)) m (low_memory size new m x i) i

sent_byte : (m : MemoryContents) (k : Kind) (a : ℕ) → byte_at (with_sent m k) a ≡ byte_at m a
unfolding byte_at
sent_byte m Load a = refl
sent_byte m (Store v) a = in_region (region_of a)
  where
    in_region : (r : Option Region) → byte_in r (with_sent m (Store v)) a ≡ byte_in r m a
    in_region (Some RtcFastData) = refl
    in_region (Some Dram) = refl
    in_region (Some RtcSlow) = refl
    in_region _ = refl
sent_byte m (Cas expected new) a = refl

sent_sizes : (m : MemoryContents) (k : Kind) → HasSizes m → HasSizes (with_sent m k)
sent_sizes m Load s = s
sent_sizes m (Store v) s = record { rtc_fast_data = s.rtc_fast_data; dram = s.dram; rtc_slow = s.rtc_slow }
sent_sizes m (Cas expected new) s = s

pub past_memory : (m : MemoryContents) (access : Access) → IsMemory m → IsMemory (memory_past m access)
unfolding memory_past
past_memory m access i = if_memory (eqb access.addr uart_transmit) (with_sent m access.kind) (cond (eqb access.addr uart_status) m (contents_after m access.addr access.size access.kind))
    (record { sizes = sent_sizes m access.kind i.sizes; small = λ a. let e = sent_byte m access.kind a in let s = i.small a in omega arith })
    (if_memory (eqb access.addr uart_status) m (contents_after m access.addr access.size access.kind) i (changed_memory m access.addr access.size access.kind i))

-- ---- replies are words
number_small : (m : MemoryContents) (x size : ℕ) → IsMemory m → is_size size ≡ true → number_at m x size < 2 ^ 32
number_small m x size i h = ⊎_elim
    (λ one. let s = i.small x in rw one (omega arith))
    (λ r. ⊎_elim
    (λ two. let s0 = i.small x in let s1 = i.small (x + 1) in rw two (omega arith))
    (λ four. let s0 = i.small x in let s1 = i.small (x + 1) in let s2 = i.small (x + 1 + 1) in let s3 = i.small (x + 1 + 1 + 1) in rw four (omega arith))
    r)
    (three_sizes size h)

replied_small : (k : Kind) (n : ℕ) → n < 2 ^ 32 → access_reply k n < 2 ^ 32
replied_small Load n h = h
replied_small (Store v) n h = omega arith
replied_small (Cas expected new) n h = h

if_small : (b : Bool) (n : ℕ) → n < 2 ^ 32 → cond b 0 n < 2 ^ 32
if_small true n h = omega arith
if_small false n h = h

pub to_small : (m : MemoryContents) (access : Access) → IsMemory m → is_mapped access ≡ true → reply_to m access < 2 ^ 32
unfolding reply_to
to_small m access i h = if_small (is_uart access.addr) (access_reply access.kind (number_at m access.addr access.size)) (replied_small access.kind (number_at m access.addr access.size) (number_small m access.addr access.size i (and_parts (is_size access.size) _ h).0))
