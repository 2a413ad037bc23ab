-- What the image of a file holds at an address.
use Rattle.std.proofs.Common.{◌≡◌, ℕ, zero, suc, ◌+◌, ◌-◌, ◌≤◌, ◌<◌, Bool, true, false, ◌&&◌, cond, if◌then◌else◌, List, [], ◌∷◌, length, take, drop, get_or, slice_index, map, filter, find, Option, Some, None, ⊎_elim, refl, sym, ap, ◌∙◌, arith, length-take-le, length-drop}
use Rattle.std.specs.Prelude.{All, max, min, nat_le, nat_lt, replicate}
use Rattle.std.specs.List.{AllPairs}
use Rattle.std.specs.Option.{option_map_or}
use Rattle.std.proofs.lemmas.Bool.{and_right, cases_Bool, cases_lt}
use Rattle.std.proofs.lemmas.Bool.Decides.{nat_tests}
use Rattle.std.proofs.lemmas.List.{get_or-append_right, get_or-drop, get_or-take, get_or_append_left}
use Rattle.xt_map.specs.declared.regions.Region.{Region}
use Rattle.xt_map.specs.declared.regions.Region.TheVariants.{Drom, Uart, RtcFastData, Dram, Iram, RtcFastCode, Irom, RtcSlow}
use Rattle.xt_map.specs.declared.contents.MemoryContents.{MemoryContents}
use Rattle.xt_map.specs.declared.segment.Segment.{Segment}
use Rattle.xt_map.specs.Memory.{byte_at, byte_in, constant_byte, holds_address, is_loaded, loaded_byte, opening_memory}
use Rattle.xt_map.specs.Placing.{is_device}
use Rattle.xt_map.specs.Regions.{is_constant, is_memory, region_of}
use Rattle.xt_map.proofs.Indexed.{constant_is_loaded}
use Rattle.xt_map.proofs.Placed.{find_none}
use Rattle.xt_image.specs.ImageParts.{IsWellFormed}
use Rattle.xt_image.proofs.Opened.{memory_is}
use Rattle.xt_elf.specs.declared.header.Header.{Header}
use Rattle.xt_elf.specs.Headers.{elf_memory, headers_of, is_loaded_header, loads_at}
use Rattle.xt_elf.specs.Rules.{do_overlap, padded_end, padding}
use Rattle.xt_elf.specs.Format.{HoldsMemoryOf, elf_image, segment_of}
use Rattle.xt_elf.proofs.OneRegion.{in_region}
use Rattle.xt_elf.proofs.Passed.{IsPassed}
use Rattle.xt_elf.proofs.WellFormed.{IsGood, segment_length, segment_loaded}

-- ---- one header

-- a header of the list, where it is loaded, is good
abbrev AreGood : List ℕ → List Header → Type 0
AreGood bytes hs = All (λ h. is_loaded_header h ≡ true → IsGood bytes h) hs

-- the bytes of a segment: those of the file, and then zeros
inside : (bytes : List ℕ) (h : Header) (k : ℕ) → h.offset + h.file_size ≤ length bytes → k < h.file_size → slice_index (segment_of bytes h).bytes k ≡ slice_index bytes (h.offset + k)
inside bytes h k le lt =
    let held = take h.file_size (drop h.offset bytes) in
    let long : length held ≡ h.file_size = length-take-le h.file_size (drop h.offset bytes) (omega (arith, length-drop h.offset bytes)) in
    get_or_append_left held (replicate (padding h.file_size) 0) 0 k (omega arith) ∙ get_or-take h.file_size (drop h.offset bytes) k 0 lt ∙ get_or-drop h.offset bytes k 0

nothing_at : (n k : ℕ) → slice_index (replicate n 0) k ≡ 0
nothing_at zero k = refl
nothing_at (suc n) zero = refl
nothing_at (suc n) (suc k) = nothing_at n k

behind : (bytes : List ℕ) (h : Header) (k : ℕ) → h.offset + h.file_size ≤ length bytes → h.file_size ≤ k → slice_index (segment_of bytes h).bytes k ≡ 0
behind bytes h k le ge =
    let held = take h.file_size (drop h.offset bytes) in
    let long : length held ≡ h.file_size = length-take-le h.file_size (drop h.offset bytes) (omega (arith, length-drop h.offset bytes)) in
    get_or-append_right held (replicate (padding h.file_size) 0) h.file_size k 0 long ge ∙ nothing_at (padding h.file_size) (k - h.file_size)

-- ---- numbers

there : (l : Bool) (s n a : ℕ) → (l && (nat_le s a && nat_lt (a - s) n)) ≡ true → (l ≡ true) × (s ≤ a) × (a - s < n)
there true s n a h = (refl, grind (arith, nat_tests), grind (arith, nat_tests))
there false s n a h = absurd cc

is_there : (l : Bool) (s n a : ℕ) → l ≡ true → s ≤ a → a - s < n → (l && (nat_le s a && nat_lt (a - s) n)) ≡ true
is_there true s n a loaded le lt = grind (arith, nat_tests)
is_there false s n a loaded le lt = absurd cc

not_there : (l : Bool) (s n m a : ℕ) → l ≡ true → n ≤ m → (l && (nat_le s a && nat_lt (a - s) m)) ≡ false → (nat_le s a && nat_lt (a - s) n) ≡ false
not_there true s n m a loaded le h = grind (arith, nat_tests)
not_there false s n m a loaded le h = absurd cc

overlap_numbers : (a m b n c : ℕ) → a ≤ c → c - a < m → b ≤ c → c - b < n → nat_lt (max a b) (min (a + m) (b + n)) ≡ true
overlap_numbers a m b n c p q r s = grind (arith, nat_tests)

-- two loaded headers whose padded bytes are both at an address overlap
overlap_there : (h k : Header) (a : ℕ) → is_loaded_header h ≡ true → is_loaded_header k ≡ true → h.addr ≤ a → a - h.addr < h.file_size + padding h.file_size → k.addr ≤ a → a - k.addr < k.file_size + padding k.file_size
    → do_overlap h k ≡ true
overlap_there h k a l m p q r s = rw (l, m) (overlap_numbers h.addr (h.file_size + padding h.file_size) k.addr (k.file_size + padding k.file_size) a p q r s)

not_both : {A : Type 0} (b : Bool) → b ≡ true → b ≡ false → A
not_both b h k = absurd cc

-- ---- all of them

abbrev found : List ℕ → ℕ → Option Header → ℕ
found bytes a o = option_map_or (λ h. slice_index bytes (h.offset + (a - h.addr))) o 0

abbrev held_by : ℕ → Option Segment → ℕ
held_by a o = option_map_or (λ s. slice_index s.bytes (a - s.addr)) o 0

-- where a loaded header's padded bytes are at an address, no later one loads a byte there
none_later : (h : Header) (rest : List Header) (a : ℕ) → is_loaded_header h ≡ true → h.addr ≤ a → a - h.addr < h.file_size + padding h.file_size → All (λ k. do_overlap h k ≡ false) rest
    → find (loads_at a) rest ≡ None
none_later h rest a loaded le lt apart = find_none (loads_at a) rest h (λ j l q.
    let k = get_or rest j h in
    let (m, r, s) = there (is_loaded_header k) k.addr k.file_size a q in
    not_both (do_overlap h k) (overlap_there h k a loaded m le lt r (omega arith)) (apart j h l))

first_is : (s : Segment) (segments : List Segment) (a : ℕ) → holds_address a s ≡ true → loaded_byte (s ∷ segments) a ≡ slice_index s.bytes (a - s.addr)
first_is s segments a h = ap (λ b. held_by a (cond b (Some s) (find (holds_address a) segments))) h

first_is_not : (s : Segment) (segments : List Segment) (a : ℕ) → holds_address a s ≡ false → loaded_byte (s ∷ segments) a ≡ loaded_byte segments a
first_is_not s segments a h = ap (λ b. held_by a (cond b (Some s) (find (holds_address a) segments))) h

found_here : (bytes : List ℕ) (h : Header) (rest : List Header) (a : ℕ) → loads_at a h ≡ true → found bytes a (find (loads_at a) (h ∷ rest)) ≡ slice_index bytes (h.offset + (a - h.addr))
found_here bytes h rest a is = ap (λ b. found bytes a (cond b (Some h) (find (loads_at a) rest))) is

found_later : (bytes : List ℕ) (h : Header) (rest : List Header) (a : ℕ) → loads_at a h ≡ false → found bytes a (find (loads_at a) (h ∷ rest)) ≡ found bytes a (find (loads_at a) rest)
found_later bytes h rest a is = ap (λ b. found bytes a (cond b (Some h) (find (loads_at a) rest))) is

not_loading : (h : Header) (a : ℕ) → (nat_le h.addr a && nat_lt (a - h.addr) h.file_size) ≡ false → loads_at a h ≡ false
not_loading h a past = and_right (is_loaded_header h) (nat_le h.addr a && nat_lt (a - h.addr) h.file_size) past

too_far : (s n a : ℕ) → n ≤ a - s → (nat_le s a && nat_lt (a - s) n) ≡ false
too_far s n a h = grind (arith, nat_tests)

loaded_first : (bytes : List ℕ) (h : Header) (rest : List Header) (a : ℕ) → IsGood bytes h → All (λ k. do_overlap h k ≡ false) rest
    → loaded_byte (map (segment_of bytes) (filter is_loaded_header rest)) a ≡ found bytes a (find (loads_at a) rest)
    → loaded_byte (segment_of bytes h ∷ map (segment_of bytes) (filter is_loaded_header rest)) a ≡ found bytes a (find (loads_at a) (h ∷ rest))
loaded_first bytes h rest a good apart later =
    let s = segment_of bytes h in
    let segments = map (segment_of bytes) (filter is_loaded_header rest) in
    let long : length s.bytes ≡ h.file_size + padding h.file_size = segment_length bytes h good.within in
    let loaded : is_loaded s ≡ true = segment_loaded bytes h good in
    ⊎_elim
    (λ (is : holds_address a s ≡ true).
    let (l, le, lt) = there (is_loaded s) h.addr (length s.bytes) a is in
    let padded : a - h.addr < h.file_size + padding h.file_size = omega arith in
    first_is s segments a is
    ∙ ⊎_elim
    (λ (first : a - h.addr < h.file_size). inside bytes h (a - h.addr) good.within first
    ∙ sym (found_here bytes h rest a (is_there (is_loaded_header h) h.addr h.file_size a good.loaded le first)))
    (λ (past : h.file_size ≤ a - h.addr). behind bytes h (a - h.addr) good.within past
    ∙ sym (found_later bytes h rest a (not_loading h a (too_far h.addr h.file_size a past)) ∙ ap (found bytes a) (none_later h rest a good.loaded le padded apart)))
    (cases_lt (a - h.addr) h.file_size))
    (λ (is : holds_address a s ≡ false).
    first_is_not s segments a is ∙ later
    ∙ sym (found_later bytes h rest a (not_loading h a (not_there (is_loaded s) h.addr h.file_size (length s.bytes) a loaded (omega arith) is))))
    (cases_Bool (holds_address a s))

holds_same : (bytes : List ℕ) (hs : List Header) (a : ℕ) → AreGood bytes hs → AllPairs (λ h k. do_overlap h k ≡ false) hs
    → loaded_byte (map (segment_of bytes) (filter is_loaded_header hs)) a ≡ found bytes a (find (loads_at a) hs)
holds_same bytes [] a good apart = refl
holds_same bytes (h ∷ rest) a good apart =
    let segments = map (segment_of bytes) (filter is_loaded_header rest) in
    let later : loaded_byte segments a ≡ found bytes a (find (loads_at a) rest)
    = holds_same bytes rest a (λ k d lt. good (suc k) d (omega arith)) (λ i j d lt within. apart (suc i) (suc j) d (omega arith) (omega arith)) in
    ⊎_elim
    (λ (loaded : is_loaded_header h ≡ true).
    ap (λ b. loaded_byte (map (segment_of bytes) (cond b (h ∷ filter is_loaded_header rest) (filter is_loaded_header rest))) a) loaded
    ∙ loaded_first bytes h rest a (good 0 h (omega arith) loaded) (λ k d lt. apart 0 (suc k) d (omega arith) (omega arith)) later)
    (λ (idle : is_loaded_header h ≡ false).
    ap (λ b. loaded_byte (map (segment_of bytes) (cond b (h ∷ filter is_loaded_header rest) (filter is_loaded_header rest))) a) idle
    ∙ later ∙ sym (found_later bytes h rest a (ap (λ b. b && (nat_le h.addr a && nat_lt (a - h.addr) h.file_size)) idle)))
    (cases_Bool (is_loaded_header h))

-- ---- outside the regions

some_kind : (r : Region) → is_device r ≡ false → is_constant (Some r) ≡ false → is_memory (Some r) ≡ false → ⊥
some_kind Drom d c m = absurd cc
some_kind Uart d c m = absurd cc
some_kind RtcFastData d c m = absurd cc
some_kind Dram d c m = absurd cc
some_kind Iram d c m = absurd cc
some_kind RtcFastCode d c m = absurd cc
some_kind Irom d c m = absurd cc
some_kind RtcSlow d c m = absurd cc

no_header : Header
no_header = record { kind = 0; offset = 0; addr = 0; file_size = 0; memory_size = 0 }

padded_more : (h : Header) (a : ℕ) → h.addr ≤ a → a - h.addr < h.file_size → a < padded_end h
padded_more h a le lt = omega arith

nothing_loaded : (bytes : List ℕ) (hs : List Header) (a : ℕ) → AreGood bytes hs → is_constant (region_of a) ≡ false → is_memory (region_of a) ≡ false → find (loads_at a) hs ≡ None
nothing_loaded bytes hs a good constant memory = find_none (loads_at a) hs no_header (λ j l q.
    let h = get_or hs j no_header in
    let (loaded, le, lt) = there (is_loaded_header h) h.addr h.file_size a q in
    let i = in_region h.addr (padded_end h) (good j no_header l loaded).placed in
    let at : region_of a ≡ Some i.region = i.all a le (padded_more h a le lt) in
    some_kind i.region i.device (sym (ap is_constant at) ∙ constant) (sym (ap is_memory at) ∙ memory))

no_byte_in : (r : Option Region) (m : MemoryContents) (a : ℕ) → is_memory r ≡ false → byte_in r m a ≡ 0
no_byte_in (Some RtcFastData) m a h = absurd cc
no_byte_in (Some Dram) m a h = absurd cc
no_byte_in (Some RtcSlow) m a h = absurd cc
no_byte_in _ m a h = refl

no_byte_at : (m : MemoryContents) (a : ℕ) → is_memory (region_of a) ≡ false → byte_at m a ≡ 0
unfolding byte_at
no_byte_at m a h = no_byte_in (region_of a) m a h

-- ---- the image

pub holds : (bytes : List ℕ) → IsWellFormed (elf_image bytes) → IsPassed (length bytes) (headers_of bytes) → HoldsMemoryOf bytes (elf_image bytes)
holds bytes w p a =
    let i = elf_image bytes in
    let good : AreGood bytes (headers_of bytes) = λ k d lt loaded. record { loaded = loaded; within = p.within k d lt loaded; placed = p.placed k d lt loaded } in
    let same : loaded_byte i.segments a ≡ elf_memory bytes a = holds_same bytes (headers_of bytes) a good p.apart in
    let there : Bool → ℕ = λ b. if b then constant_byte i.segments a else byte_at (opening_memory i.segments []) a in
    ⊎_elim
    (λ (constant : is_constant (region_of a) ≡ true). ap there constant ∙ constant_is_loaded i.segments a constant ∙ same)
    (λ (constant : is_constant (region_of a) ≡ false). ap there constant
    ∙ ⊎_elim
    (λ (memory : is_memory (region_of a) ≡ true). memory_is i a w memory ∙ same)
    (λ (memory : is_memory (region_of a) ≡ false). no_byte_at (opening_memory i.segments []) a memory
    ∙ sym (ap (found bytes a) (nothing_loaded bytes (headers_of bytes) a good constant memory)))
    (cases_Bool (is_memory (region_of a))))
    (cases_Bool (is_constant (region_of a)))
