-- What the opening memory of an image holds.
use Rattle.std.proofs.Common.{◌≡◌, ℕ, zero, suc, ◌+◌, ◌-◌, ◌<◌, ◌≤◌, Bool, true, false, ◌&&◌, cond, if◌then◌else◌, List, [], ◌∷◌, length, get_or, slice_index, Option, Some, None, find, ◌⊎◌, inl, ⊎_elim, refl, sym, ap, ◌∙◌, arith}
use Rattle.std.specs.Prelude.{nat_le, nat_lt, replicate}
use Rattle.std.specs.Option.{option_map_or}
use Rattle.std.proofs.lemmas.Bool.{cases_Bool, cases_lt}
use Rattle.std.proofs.lemmas.Bool.Decides.{nat_tests}
use Rattle.xt_map.specs.declared.regions.Region.{Region}
use Rattle.xt_map.specs.declared.regions.Region.TheVariants.{RtcFastData, Dram, RtcSlow}
use Rattle.xt_map.specs.declared.segment.Segment.{Segment}
use Rattle.xt_map.specs.declared.contents.MemoryContents.{MemoryContents}
use Rattle.xt_map.specs.Regions.{is_memory, region_of}
use Rattle.xt_map.specs.Memory.{HasSizes, byte_at, byte_in, cleared_memory, holds_address, is_loaded, loaded_byte, opening_memory, with_byte, with_bytes, with_segments, zeros, rtc_fast_data_first, dram_first, rtc_slow_first, rtc_fast_data_size, dram_size, rtc_slow_size}
use Rattle.xt_map.specs.Placing.{do_overlap}
use Rattle.xt_map.proofs.Placed.{find_none, holds_parts, overlap_at}
use Rattle.xt_map.proofs.Stored.{byte_keeps_sizes, byte_put, bytes_elsewhere, bytes_keep_sizes, cleared_has_sizes}
use Rattle.xt_image.specs.declared.image.Image.{Image}
use Rattle.xt_image.specs.ImageParts.{IsWellFormed}
use Rattle.xt_image.proofs.Placement.{well_formed_placed}

-- ---- several bytes

held : (m : MemoryContents) (s : ℕ) (bs : List ℕ) (a : ℕ) → HasSizes m → is_memory (region_of a) ≡ true → s ≤ a → a - s < length bs
    → byte_at (with_bytes m s bs) a ≡ slice_index bs (a - s)
held m s [] a sizes h le lt = absurd (omega arith)
held m s (b ∷ bs) a sizes h le lt =
    ⊎_elim
    (λ (more : s < a).
    let next : a - s ≡ suc (a - (s + 1)) = omega arith in
    held (with_byte m s b) (s + 1) bs a (byte_keeps_sizes m s b sizes) h (omega arith) (omega arith) ∙ sym (ap (λ n. get_or (b ∷ bs) n 0) next))
    (λ (at_most : a ≤ s).
    let here : s ≡ a = omega arith in
    let none : a - s ≡ 0 = omega arith in
    bytes_elsewhere (with_byte m s b) (s + 1) bs a (inl (omega arith)) ∙ ap (λ x. byte_at (with_byte m x b) a) here ∙ byte_put m a b sizes h ∙ sym (ap (λ n. get_or (b ∷ bs) n 0) none))
    (cases_lt s a)

-- ---- segments

-- what an address holds after a memory's segments
abbrev byte_or : List Segment → ℕ → ℕ → ℕ
byte_or segments a b = option_map_or (λ s. slice_index s.bytes (a - s.addr)) (find (holds_address a) segments) b

-- no later segment holds the address of one that holds it
abbrev AtMostOne : ℕ → List Segment → Type 0
AtMostOne a [] = Unit {0}
AtMostOne a (s ∷ rest) = (holds_address a s ≡ true → find (holds_address a) rest ≡ None) × AtMostOne a rest

not_both : {A : Type 0} (b : Bool) → b ≡ true → b ≡ false → A
not_both b h k = absurd cc

at_most_one : (a : ℕ) (segments : List Segment) → ((i j : ℕ) (d : Segment) → i < j → j < length segments → do_overlap (get_or segments i d) (get_or segments j d) ≡ false) → AtMostOne a segments
at_most_one a [] apart = tt
at_most_one a (s ∷ rest) apart = (
  λ h. find_none (holds_address a) rest s (λ j l q. not_both (do_overlap s (get_or rest j s)) (overlap_at a s (get_or rest j s) (holds_parts a s h) (holds_parts a (get_or rest j s) q)) (apart 0 (suc j) s (omega arith) (omega arith))),
  at_most_one a rest (λ i j d lt within. apart (suc i) (suc j) d (omega arith) (omega arith)),
)

not_there : (s n a : ℕ) → (nat_le s a && nat_lt (a - s) n) ≡ false → (a < s) ⊎ (s + n ≤ a)
not_there s n a h = grind (arith, nat_tests)

there : (s n a : ℕ) → (nat_le s a && nat_lt (a - s) n) ≡ true → (s ≤ a) × (a - s < n)
there s n a h = grind (arith, nat_tests)

-- a segment that does not hold the address leaves its byte
passed_by : (m : MemoryContents) (s : Segment) (a : ℕ) (loaded : Bool) → (loaded && (nat_le s.addr a && nat_lt (a - s.addr) (length s.bytes))) ≡ false
    → byte_at (if loaded then with_bytes m s.addr s.bytes else m) a ≡ byte_at m a
passed_by m s a true h = bytes_elsewhere m s.addr s.bytes a (not_there s.addr (length s.bytes) a h)
passed_by m s a false h = refl

-- one that holds it puts its byte there
put_there : (m : MemoryContents) (s : Segment) (a : ℕ) (loaded : Bool) → HasSizes m → is_memory (region_of a) ≡ true → (loaded && (nat_le s.addr a && nat_lt (a - s.addr) (length s.bytes))) ≡ true
    → byte_at (if loaded then with_bytes m s.addr s.bytes else m) a ≡ slice_index s.bytes (a - s.addr)
put_there m s a true sizes h is = (let (le, lt) = there s.addr (length s.bytes) a is in held m s.addr s.bytes a sizes h le lt)
put_there m s a false sizes h is = absurd cc

keeps_sizes : (m : MemoryContents) (s : Segment) (loaded : Bool) → HasSizes m → HasSizes (if loaded then with_bytes m s.addr s.bytes else m)
keeps_sizes m s true sizes = bytes_keep_sizes m s.addr s.bytes sizes
keeps_sizes m s false sizes = sizes

opened : (m : MemoryContents) (segments : List Segment) (a : ℕ) → HasSizes m → is_memory (region_of a) ≡ true → AtMostOne a segments
    → byte_at (with_segments m segments) a ≡ byte_or segments a (byte_at m a)
opened m [] a sizes h one = refl
opened m (s ∷ rest) a sizes h one =
    let next : MemoryContents = if is_loaded s then with_bytes m s.addr s.bytes else m in
    let later : byte_at (with_segments next rest) a ≡ byte_or rest a (byte_at next a) = opened next rest a (keeps_sizes m s (is_loaded s) sizes) h one.1 in
    ⊎_elim
    (λ (is : holds_address a s ≡ true).
    later ∙ ap (λ o. option_map_or (λ (s : Segment). slice_index s.bytes (a - s.addr)) o (byte_at next a)) (one.0 is) ∙ put_there m s a (is_loaded s) sizes h is
    ∙ sym (ap (λ b. option_map_or (λ (s : Segment). slice_index s.bytes (a - s.addr)) (cond b (Some s) (find (holds_address a) rest)) (byte_at m a)) is))
    (λ (is : holds_address a s ≡ false).
    later ∙ ap (byte_or rest a) (passed_by m s a (is_loaded s) is)
    ∙ sym (ap (λ b. option_map_or (λ (s : Segment). slice_index s.bytes (a - s.addr)) (cond b (Some s) (find (holds_address a) rest)) (byte_at m a)) is))
    (cases_Bool (holds_address a s))

-- ---- before any segment

nothing_at : (n k : ℕ) → slice_index (replicate n 0) k ≡ 0
nothing_at zero k = refl
nothing_at (suc n) zero = refl
nothing_at (suc n) (suc k) = nothing_at n k

zero_at : (n k : ℕ) → slice_index (zeros n) k ≡ 0
unfolding zeros
zero_at n k = nothing_at n k

cleared_in : (r : Option Region) (a : ℕ) → byte_in r cleared_memory a ≡ 0
unfolding cleared_memory
cleared_in (Some RtcFastData) a = zero_at rtc_fast_data_size (a - rtc_fast_data_first)
cleared_in (Some Dram) a = zero_at dram_size (a - dram_first)
cleared_in (Some RtcSlow) a = zero_at rtc_slow_size (a - rtc_slow_first)
cleared_in _ a = refl

cleared_at : (a : ℕ) → byte_at cleared_memory a ≡ 0
unfolding byte_at
cleared_at a = cleared_in (region_of a) a

pub memory_is : (i : Image) (a : ℕ) → IsWellFormed i → is_memory (region_of a) ≡ true → byte_at (opening_memory i.segments []) a ≡ loaded_byte i.segments a
unfolding opening_memory
memory_is i a w h =
    opened cleared_memory i.segments a cleared_has_sizes h (at_most_one a i.segments (well_formed_placed i w).apart)
    ∙ ap (byte_or i.segments a) (cleared_at a)
