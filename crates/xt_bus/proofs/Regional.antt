-- Bytes at addresses of one region are bytes at places of its list.
use Rattle.std.proofs.Common.{◌≡◌, ℕ, zero, suc, ◌+◌, ◌-◌, ◌<◌, ◌≤◌, Bool, true, false, List, [], ◌∷◌, length, slice_index, slice_set, Option, Some, refl, sym, ap, ◌∙◌, arith}
use Rattle.std.specs.Prelude.{◌==◌, if◌then◌else◌}
use Rattle.std.proofs.lemmas.Bool.Decides.{nat_tests}
use Rattle.xt_map.specs.declared.regions.Region.{Region}
use Rattle.xt_map.specs.declared.regions.Region.TheVariants.{RtcFastData, Dram, RtcSlow}
use Rattle.xt_map.specs.declared.access.Kind.{Kind}
use Rattle.xt_map.specs.declared.access.Kind.TheVariants.{Load, Store, Cas}
use Rattle.xt_map.specs.declared.access.Access.{Access}
use Rattle.xt_map.specs.declared.contents.MemoryContents.{MemoryContents}
use Rattle.xt_map.specs.Regions.{region_of, is_memory, is_uart, is_mapped, uart_transmit, uart_status}
use Rattle.xt_map.specs.Memory.{little_endian, low_bytes, byte_in, byte_at, with_byte_in, with_byte, bytes_at, with_bytes, rtc_fast_data_first, dram_first, rtc_slow_first, rtc_fast_data_size, dram_size, rtc_slow_size}
use Rattle.xt_map.specs.Serving.{number_at, access_reply, reply_to, with_sent, contents_after, memory_past}
use Rattle.xt_map.proofs.Ranged.{range_dram, range_rtc_fast_data, range_rtc_slow}
use Rattle.xt_map.proofs.Stored.{length-low_bytes}
use Rattle.xt_bus.specs.ListBytes.{bytes_in, number_in, put_in, changed_in}
use Rattle.xt_bus.specs.States.{part_bytes}

-- the list of a memory region, its first address, and how many bytes it has
abbrev pub list_in : Region → MemoryContents → List ℕ
list_in RtcFastData m = m.rtc_fast_data
list_in Dram m = m.dram
list_in RtcSlow m = m.rtc_slow
list_in _ m = []

abbrev pub with_list : Region → MemoryContents → List ℕ → MemoryContents
with_list RtcFastData m xs = record m { rtc_fast_data = xs }
with_list Dram m xs = record m { dram = xs }
with_list RtcSlow m xs = record m { rtc_slow = xs }
with_list _ m xs = m

abbrev pub first_of : Region → ℕ
first_of RtcFastData = rtc_fast_data_first
first_of Dram = dram_first
first_of RtcSlow = rtc_slow_first
first_of _ = 0

abbrev pub size_of : Region → ℕ
size_of RtcFastData = rtc_fast_data_size
size_of Dram = dram_size
size_of RtcSlow = rtc_slow_size
size_of _ = 0

region_holds : (r : Region) (at : ℕ) → is_memory (Some r) ≡ true → at < size_of r → region_of (first_of r + at) ≡ Some r
region_holds RtcFastData at h l = range_rtc_fast_data (rtc_fast_data_first + at) (omega arith) (omega arith)
region_holds Dram at h l = range_dram (dram_first + at) (omega arith) (omega arith)
region_holds RtcSlow at h l = range_rtc_slow (rtc_slow_first + at) (omega arith) (omega arith)
region_holds _ at h l = absurd cc

-- ---- lists of a memory

with_same : (r : Region) (m : MemoryContents) → with_list r m (list_in r m) ≡ m
with_same RtcFastData m = refl
with_same Dram m = refl
with_same RtcSlow m = refl
with_same _ m = refl

list_of_with : (r : Region) (m : MemoryContents) (xs : List ℕ) → is_memory (Some r) ≡ true → list_in r (with_list r m xs) ≡ xs
list_of_with RtcFastData m xs h = refl
list_of_with Dram m xs h = refl
list_of_with RtcSlow m xs h = refl
list_of_with _ m xs h = absurd cc

with_twice : (r : Region) (m : MemoryContents) (xs ys : List ℕ) → with_list r (with_list r m xs) ys ≡ with_list r m ys
with_twice RtcFastData m xs ys = refl
with_twice Dram m xs ys = refl
with_twice RtcSlow m xs ys = refl
with_twice _ m xs ys = refl

-- ---- one byte

byte_in_is : (r : Region) (m : MemoryContents) (at : ℕ) → is_memory (Some r) ≡ true → byte_in (Some r) m (first_of r + at) ≡ slice_index (list_in r m) at
byte_in_is RtcFastData m at h = let e : (rtc_fast_data_first + at) - rtc_fast_data_first ≡ at = omega arith in ap (λ k. slice_index m.rtc_fast_data k) e
byte_in_is Dram m at h = let e : (dram_first + at) - dram_first ≡ at = omega arith in ap (λ k. slice_index m.dram k) e
byte_in_is RtcSlow m at h = let e : (rtc_slow_first + at) - rtc_slow_first ≡ at = omega arith in ap (λ k. slice_index m.rtc_slow k) e
byte_in_is _ m at h = absurd cc

pub byte_is : (r : Region) (m : MemoryContents) (at : ℕ) → is_memory (Some r) ≡ true → at < size_of r → byte_at m (first_of r + at) ≡ slice_index (list_in r m) at
unfolding byte_at
byte_is r m at h l = ap (λ o. byte_in o m (first_of r + at)) (region_holds r at h l) ∙ byte_in_is r m at h

with_byte_in_is : (r : Region) (m : MemoryContents) (at b : ℕ) → is_memory (Some r) ≡ true → with_byte_in (Some r) m (first_of r + at) b ≡ with_list r m (slice_set (list_in r m) at b)
with_byte_in_is RtcFastData m at b h = let e : (rtc_fast_data_first + at) - rtc_fast_data_first ≡ at = omega arith in ap (λ k. with_list RtcFastData m (slice_set m.rtc_fast_data k b)) e
with_byte_in_is Dram m at b h = let e : (dram_first + at) - dram_first ≡ at = omega arith in ap (λ k. with_list Dram m (slice_set m.dram k b)) e
with_byte_in_is RtcSlow m at b h = let e : (rtc_slow_first + at) - rtc_slow_first ≡ at = omega arith in ap (λ k. with_list RtcSlow m (slice_set m.rtc_slow k b)) e
with_byte_in_is _ m at b h = absurd cc

pub with_byte_is : (r : Region) (m : MemoryContents) (at b : ℕ) → is_memory (Some r) ≡ true → at < size_of r
    → with_byte m (first_of r + at) b ≡ with_list r m (slice_set (list_in r m) at b)
unfolding with_byte
with_byte_is r m at b h l = ap (λ o. with_byte_in o m (first_of r + at) b) (region_holds r at h l) ∙ with_byte_in_is r m at b h

-- ---- several bytes

bytes_are : (r : Region) (m : MemoryContents) (at n : ℕ) → is_memory (Some r) ≡ true → at + n ≤ size_of r → bytes_at m (first_of r + at) n ≡ bytes_in (list_in r m) at n
bytes_are r m at zero h l = refl
bytes_are r m at (suc n) h l =
    let e : first_of r + at + 1 ≡ first_of r + (at + 1) = omega arith in
    let tail : bytes_at m (first_of r + at + 1) n ≡ bytes_in (list_in r m) (at + 1) n = ap (λ a. bytes_at m a n) e ∙ bytes_are r m (at + 1) n h (omega arith) in
    let head : byte_at m (first_of r + at) ≡ slice_index (list_in r m) at = byte_is r m at h (omega arith) in
    cc

shifted : (x : ℕ) (xs : List ℕ) (i n : ℕ) → bytes_in (x ∷ xs) (suc i) n ≡ bytes_in xs i n
shifted x xs i zero = refl
shifted x xs i (suc n) =
    let e : suc i + 1 ≡ suc (i + 1) = omega arith in
    ap (λ k. slice_index xs i ∷ bytes_in (x ∷ xs) k n) e ∙ ap (λ l. slice_index xs i ∷ l) (shifted x xs (i + 1) n)

all_in : (xs : List ℕ) → bytes_in xs 0 (length xs) ≡ xs
all_in [] = refl
all_in (x ∷ xs) = ap (λ l. x ∷ l) (shifted x xs 0 (length xs) ∙ all_in xs)

-- a region whole
pub part_is : (r : Region) (m : MemoryContents) → is_memory (Some r) ≡ true → length (list_in r m) ≡ size_of r
    → part_bytes m (first_of r) (size_of r) ≡ list_in r m
unfolding part_bytes
part_is r m h len =
    let first : first_of r ≡ first_of r + 0 = omega arith in
    ap (λ a. bytes_at m a (size_of r)) first
    ∙ bytes_are r m 0 (size_of r) h (omega arith)
    ∙ ap (λ n. bytes_in (list_in r m) 0 n) (sym len)
    ∙ all_in (list_in r m)

with_bytes_are : (r : Region) (m : MemoryContents) (at : ℕ) (bs : List ℕ) → is_memory (Some r) ≡ true → at + length bs ≤ size_of r
    → with_bytes m (first_of r + at) bs ≡ with_list r m (put_in (list_in r m) at bs)
with_bytes_are r m at [] h l = sym (with_same r m)
with_bytes_are r m at (b ∷ bs) h l =
    let n : MemoryContents = with_list r m (slice_set (list_in r m) at b) in
    let e : first_of r + at + 1 ≡ first_of r + (at + 1) = omega arith in
    ap (λ k. with_bytes k (first_of r + at + 1) bs) (with_byte_is r m at b h (omega arith))
    ∙ ap (λ a. with_bytes n a bs) e
    ∙ with_bytes_are r n (at + 1) bs h (omega arith)
    ∙ ap (λ xs. with_list r n (put_in xs (at + 1) bs)) (list_of_with r m (slice_set (list_in r m) at b) h)
    ∙ with_twice r m (slice_set (list_in r m) at b) (put_in (slice_set (list_in r m) at b) (at + 1) bs)

low_bytes_are : (r : Region) (m : MemoryContents) (at size v : ℕ) → is_memory (Some r) ≡ true → at + size ≤ size_of r
    → with_bytes m (first_of r + at) (low_bytes size v) ≡ with_list r m (put_in (list_in r m) at (low_bytes size v))
low_bytes_are r m at size v h l = with_bytes_are r m at (low_bytes size v) h (omega (arith, length-low_bytes size v))

-- ---- one access

no_uart : (r : Region) (at : ℕ) → is_memory (Some r) ≡ true → at < size_of r → is_uart (first_of r + at) ≡ false
no_uart RtcFastData at h l = grind (arith, nat_tests)
no_uart Dram at h l = grind (arith, nat_tests)
no_uart RtcSlow at h l = grind (arith, nat_tests)
no_uart _ at h l = absurd cc

-- an aligned access that begins in a memory region lies in it whole
pub lies_within : (r : Region) (at : ℕ) (a : Access) → is_memory (Some r) ≡ true → is_mapped a ≡ true → a.addr ≡ first_of r + at → at < size_of r → at + a.size ≤ size_of r
lies_within RtcFastData at a h k e l = grind (arith, nat_tests)
lies_within Dram at a h k e l = grind (arith, nat_tests)
lies_within RtcSlow at a h k e l = grind (arith, nat_tests)
lies_within _ at a h k e l = absurd cc

reply_at : (r : Region) (m : MemoryContents) (at size : ℕ) (k : Kind) → is_memory (Some r) ≡ true → at < size_of r → at + size ≤ size_of r
    → (if is_uart (first_of r + at) then 0 else access_reply k (number_at m (first_of r + at) size)) ≡ access_reply k (number_in (list_in r m) at size)
reply_at r m at size k h l w =
    ap (λ t. if t then 0 else access_reply k (number_at m (first_of r + at) size)) (no_uart r at h l) ∙ ap (λ bs. access_reply k (little_endian bs)) (bytes_are r m at size h w)

pub reply_is : (r : Region) (m : MemoryContents) (at : ℕ) (a : Access) → is_memory (Some r) ≡ true → is_mapped a ≡ true → a.addr ≡ first_of r + at → at < size_of r
    → reply_to m a ≡ access_reply a.kind (number_in (list_in r m) at a.size)
unfolding reply_to
reply_is r m at a h k e l =
    ap (λ x. if is_uart x then 0 else access_reply a.kind (number_at m x a.size)) e ∙ reply_at r m at a.size a.kind h l (lies_within r at a h k e l)

changed_list : (t : Bool) (r : Region) (m : MemoryContents) (xs : List ℕ) → (if t then with_list r m xs else m) ≡ with_list r m (if t then xs else list_in r m)
changed_list true r m xs = refl
changed_list false r m xs = sym (with_same r m)

changed_is : (r : Region) (m : MemoryContents) (at size : ℕ) (k : Kind) → is_memory (Some r) ≡ true → at + size ≤ size_of r
    → contents_after m (first_of r + at) size k ≡ with_list r m (changed_in (list_in r m) at size k)
changed_is r m at size Load h w = sym (with_same r m)
changed_is r m at size (Store v) h w = low_bytes_are r m at size v h w
changed_is r m at size (Cas expected new) h w =
    let found : number_at m (first_of r + at) size ≡ number_in (list_in r m) at size = ap little_endian (bytes_are r m at size h w) in
    ap (λ n. if n == expected then with_bytes m (first_of r + at) (low_bytes size new) else m) found
    ∙ ap (λ x. if number_in (list_in r m) at size == expected then x else m) (low_bytes_are r m at size new h w)
    ∙ changed_list (number_in (list_in r m) at size == expected) r m (put_in (list_in r m) at (low_bytes size new))

no_transmit : (r : Region) (at : ℕ) → is_memory (Some r) ≡ true → at < size_of r → (first_of r + at == uart_transmit) ≡ false
no_transmit RtcFastData at h l = grind (arith, nat_tests)
no_transmit Dram at h l = grind (arith, nat_tests)
no_transmit RtcSlow at h l = grind (arith, nat_tests)
no_transmit _ at h l = absurd cc

no_status : (r : Region) (at : ℕ) → is_memory (Some r) ≡ true → at < size_of r → (first_of r + at == uart_status) ≡ false
no_status RtcFastData at h l = grind (arith, nat_tests)
no_status Dram at h l = grind (arith, nat_tests)
no_status RtcSlow at h l = grind (arith, nat_tests)
no_status _ at h l = absurd cc

past_at : (r : Region) (m : MemoryContents) (at size : ℕ) (k : Kind) → is_memory (Some r) ≡ true → at < size_of r → at + size ≤ size_of r
    → (if first_of r + at == uart_transmit then with_sent m k else (if first_of r + at == uart_status then m else contents_after m (first_of r + at) size k))
    ≡ with_list r m (changed_in (list_in r m) at size k)
past_at r m at size k h l w =
    ap (λ t. if t then with_sent m k else (if first_of r + at == uart_status then m else contents_after m (first_of r + at) size k)) (no_transmit r at h l)
    ∙ ap (λ t. if t then m else contents_after m (first_of r + at) size k) (no_status r at h l)
    ∙ changed_is r m at size k h w

pub past_is : (r : Region) (m : MemoryContents) (at : ℕ) (a : Access) → is_memory (Some r) ≡ true → is_mapped a ≡ true → a.addr ≡ first_of r + at → at < size_of r
    → memory_past m a ≡ with_list r m (changed_in (list_in r m) at a.size a.kind)
unfolding memory_past
past_is r m at a h k e l =
    ap (λ x. if x == uart_transmit then with_sent m a.kind else (if x == uart_status then m else contents_after m x a.size a.kind)) e
    ∙ past_at r m at a.size a.kind h l (lies_within r at a h k e l)

-- ---- outside the memory regions

byte_in_none : (o : Option Region) (m : MemoryContents) (a : ℕ) → is_memory o ≡ false → byte_in o m a ≡ 0
byte_in_none (Some RtcFastData) m a h = absurd cc
byte_in_none (Some Dram) m a h = absurd cc
byte_in_none (Some RtcSlow) m a h = absurd cc
byte_in_none _ m a h = refl

pub byte_outside : (m : MemoryContents) (a : ℕ) → is_memory (region_of a) ≡ false → byte_at m a ≡ 0
unfolding byte_at
byte_outside m a h = byte_in_none (region_of a) m a h

with_byte_in_none : (o : Option Region) (m : MemoryContents) (a b : ℕ) → is_memory o ≡ false → with_byte_in o m a b ≡ m
with_byte_in_none (Some RtcFastData) m a b h = absurd cc
with_byte_in_none (Some Dram) m a b h = absurd cc
with_byte_in_none (Some RtcSlow) m a b h = absurd cc
with_byte_in_none _ m a b h = refl

pub with_byte_outside : (m : MemoryContents) (a b : ℕ) → is_memory (region_of a) ≡ false → with_byte m a b ≡ m
unfolding with_byte
with_byte_outside m a b h = with_byte_in_none (region_of a) m a b h
