-- The image of a file that no rule refuses is well formed.
use Rattle.std.proofs.Common.{◌≡◌, ℕ, suc, ◌+◌, ◌-◌, ◌%◌, ◌≤◌, ◌<◌, ◌^◌, Bool, true, false, ◌&&◌, ◌||◌, cond, List, [], ◌∷◌, length, take, drop, get_or, map, filter, refl, sym, ap, ap₂, ◌∙◌, arith, length-append, length-take-le, length-drop}
use Rattle.std.specs.Prelude.{All, ◌==◌, min, max, nat_le, nat_lt, not, replicate}
use Rattle.std.specs.List.{AllPairs, list_any}
use Rattle.std.proofs.lemmas.Bool.{and_right, or_right}
use Rattle.std.proofs.lemmas.Bool.Decides.{nat_tests}
use Rattle.std.proofs.lemmas.List.{get_or-map, length-map, length-replicate}
use Rattle.std.proofs.lemmas.List.Elements.{All-append, All-cons, All-drop, All-map, All-nil, All-replicate, All-take}
use Rattle.std.proofs.lemmas.List.Kept.{AllPairs-filter}
use Rattle.std.proofs.lemmas.List.Sums.{length-filter}
use Rattle.xt_map.specs.declared.segment.Segment.{Segment}
use Rattle.xt_map.specs.Memory.{is_loaded}
use Rattle.xt_map.specs.Placing.{IsPlaced, end_of_segment, is_device, is_well_placed}
use Rattle.xt_map.specs.Placing as map
use Rattle.xt_map.specs.Regions.{is_executable, ranges, region_of}
use Rattle.xt_image.specs.declared.image.Image.{Image}
use Rattle.xt_image.specs.Made.{made_head}
use Rattle.xt_image.specs.ImageParts.{FitsImage, FitsSegment, IsWellFormed, MeetsRules}
use Rattle.xt_image.proofs.Capacity.{is_short}
use Rattle.xt_image.proofs.Ruled.{by_rules}
use Rattle.xt_elf.specs.declared.header.Header.{Header}
use Rattle.xt_elf.specs.Headers.{entry_of, headers_of, is_loaded_header}
use Rattle.xt_elf.specs.Rules.{do_overlap, loaded_count, padded_end, padding, takes}
use Rattle.xt_elf.specs.Format.{elf_image, segment_of}
use Rattle.xt_elf.proofs.OneRegion.{between}
use Rattle.xt_elf.proofs.Passed.{IsPassed}

-- ---- one segment

pub segment_length : (bytes : List ℕ) (h : Header) → h.offset + h.file_size ≤ length bytes → length (segment_of bytes h).bytes ≡ h.file_size + padding h.file_size
segment_length bytes h le =
    let held : length (take h.file_size (drop h.offset bytes)) ≡ h.file_size = length-take-le h.file_size (drop h.offset bytes) (omega (arith, length-drop h.offset bytes)) in
    length-append (take h.file_size (drop h.offset bytes)) (replicate (padding h.file_size) 0) ∙ ap₂ (λ a b. a + b) held (length-replicate (padding h.file_size) 0)

-- a loaded header whose bytes stand in the file and whose padded bytes lie in one region
pub record IsGood (bytes : List ℕ) (h : Header) : Type 0 where
  pub loaded : is_loaded_header h ≡ true
  pub within : h.offset + h.file_size ≤ length bytes
  pub placed : list_any (takes h.addr (padded_end h)) ranges ≡ true

pub segment_end : (bytes : List ℕ) (h : Header) → h.offset + h.file_size ≤ length bytes → end_of_segment (segment_of bytes h) ≡ padded_end h
segment_end bytes h le = ap (λ n. h.addr + n) (segment_length bytes h le)

high_enough : (a : ℕ) → 0x3F400000 ≤ a → nat_le 0x10000000 a ≡ true
high_enough a h = grind (arith, nat_tests)

pub segment_loaded : (bytes : List ℕ) (h : Header) → IsGood bytes h → is_loaded (segment_of bytes h) ≡ true
segment_loaded bytes h good = high_enough h.addr (between h.addr (padded_end h) good.placed).0

segment_placed : (bytes : List ℕ) (h : Header) → IsGood bytes h → is_well_placed (segment_of bytes h) ≡ true
segment_placed bytes h good =
    let s = segment_of bytes h in
    or_right (not (is_loaded s)) (length s.bytes == 0 || list_any (map.takes s) ranges)
    (or_right (length s.bytes == 0) (list_any (map.takes s) ranges)
    (ap (λ e. list_any (takes h.addr e) ranges) (segment_end bytes h good.within) ∙ good.placed))

whole_words : (n : ℕ) → (n + (4 - n % 4) % 4) % 4 ≡ 0
whole_words n = omega arith

segment_even : (bytes : List ℕ) (h : Header) → IsGood bytes h → length (segment_of bytes h).bytes % 4 ≡ 0
segment_even bytes h good = ap (λ n. n % 4) (segment_length bytes h good.within) ∙ whole_words h.file_size

segment_fits : (bytes : List ℕ) (h : Header) → All (λ b. b < 256) bytes → IsGood bytes h → FitsSegment (segment_of bytes h)
segment_fits bytes h are good =
    let b = between h.addr (padded_end h) good.placed in
    let most : h.addr + (h.file_size + padding h.file_size) ≤ 0x50002000 = b.1 in
    let long : length (segment_of bytes h).bytes ≡ h.file_size + padding h.file_size = segment_length bytes h good.within in
    record {
      addr = omega arith;
      len = omega arith;
      bytes = All-append (λ b. b < 256) (take h.file_size (drop h.offset bytes)) (replicate (padding h.file_size) 0)
          (All-take (λ b. b < 256) h.file_size (drop h.offset bytes) (All-drop (λ b. b < 256) h.offset bytes are))
          (All-replicate (λ b. b < 256) (padding h.file_size) 0 (omega arith));
    }

both_hold : (a b t : Bool) → a ≡ true → b ≡ true → ((a && b) && t) ≡ false → t ≡ false
both_hold a b t p q h = sym (rw (p, q) refl) ∙ h

segments_apart : (bytes : List ℕ) (h k : Header) → IsGood bytes h → IsGood bytes k → do_overlap h k ≡ false → map.do_overlap (segment_of bytes h) (segment_of bytes k) ≡ false
segments_apart bytes h k good other apart =
    let s = segment_of bytes h in
    let t = segment_of bytes k in
    and_right (is_loaded s && is_loaded t) (nat_lt (max s.addr t.addr) (min (end_of_segment s) (end_of_segment t)))
    (ap₂ (λ e f. nat_lt (max h.addr k.addr) (min e f)) (segment_end bytes h good.within) (segment_end bytes k other.within)
    ∙ both_hold (is_loaded_header h) (is_loaded_header k) _ good.loaded other.loaded apart)

-- ---- all segments

-- what is so of each element that passes a test is so of those that pass
kept_one : {X : Type 0} (b : Bool) (P : X → Type 0) (x : X) (xs : List X) → All P xs → (b ≡ true → P x) → All P (cond b (x ∷ xs) xs)
kept_one true P x xs rest here = All-cons P x xs (here refl) rest
kept_one false P x xs rest here = rest

kept : {X : Type 0} (p : X → Bool) (P : X → Type 0) (xs : List X) → All (λ x. p x ≡ true → P x) xs → All P (filter p xs)
kept p P [] h = All-nil P
kept p P (x ∷ xs) h = kept_one (p x) P x (filter p xs) (kept p P xs (λ k d lt. h (suc k) d (omega arith))) (h 0 x (omega arith))

good_headers : (bytes : List ℕ) (hs : List Header) → IsPassed (length bytes) hs → All (IsGood bytes) (filter is_loaded_header hs)
good_headers bytes hs p = kept is_loaded_header (IsGood bytes) hs (λ k d lt loaded. record { loaded = loaded; within = p.within k d lt loaded; placed = p.placed k d lt loaded })

all_mapped : (bytes : List ℕ) (fs : List Header) (P : Segment → Type 0) → ((h : Header) → IsGood bytes h → P (segment_of bytes h)) → All (IsGood bytes) fs → All P (map (segment_of bytes) fs)
all_mapped bytes fs P f good = All-map P (segment_of bytes) fs (λ k d lt. f (get_or fs k d) (good k d lt))

no_header : Header
no_header = record { kind = 0; offset = 0; addr = 0; file_size = 0; memory_size = 0 }

mapped_apart : (bytes : List ℕ) (fs : List Header) → All (IsGood bytes) fs → AllPairs (λ h k. do_overlap h k ≡ false) fs
    → (i j : ℕ) (d : Segment) → i < j → j < length (map (segment_of bytes) fs)
    → map.do_overlap (get_or (map (segment_of bytes) fs) i d) (get_or (map (segment_of bytes) fs) j d) ≡ false
mapped_apart bytes fs good apart i j d lt within =
    let long : length (map (segment_of bytes) fs) ≡ length fs = length-map fs (segment_of bytes) in
    let jn : j < length fs = omega arith in
    ap₂ map.do_overlap (get_or-map (segment_of bytes) fs i no_header d (omega arith)) (get_or-map (segment_of bytes) fs j no_header d jn)
    ∙ segments_apart bytes (get_or fs i no_header) (get_or fs j no_header) (good i no_header (omega arith)) (good j no_header jn) (apart i j no_header lt jn)

-- ---- the image

abbrev image_with : List ℕ → List Header → Image
image_with bytes hs = record { head = made_head; entry = entry_of bytes; digest = true; segments = map (segment_of bytes) (filter is_loaded_header hs) }

with_headers : (bytes : List ℕ) (hs : List Header) → All (λ b. b < 256) bytes → entry_of bytes < 2 ^ 32 → IsPassed (length bytes) hs → is_executable (region_of (entry_of bytes)) ≡ true
    → IsWellFormed (image_with bytes hs)
with_headers bytes hs are entry p code =
    let fs = filter is_loaded_header hs in
    let good : All (IsGood bytes) fs = good_headers bytes hs p in
    let apart : AllPairs (λ h k. do_overlap h k ≡ false) fs = AllPairs-filter (λ h k. do_overlap h k ≡ false) is_loaded_header hs p.apart in
    let many : length (map (segment_of bytes) fs) ≡ loaded_count hs = length-map fs (segment_of bytes) ∙ length-filter is_loaded_header hs in
    let some : 0 < loaded_count hs = p.some in
    let few : loaded_count hs ≤ 16 = p.few in
    let fits : FitsImage (image_with bytes hs) = record {
      entry = entry;
      min_rev = omega arith;
      max_rev = omega arith;
      drive = refl;
      reserved = refl;
      segments = all_mapped bytes fs FitsSegment (λ h g. segment_fits bytes h are g) good;
    } in
    let rules : MeetsRules (image_with bytes hs) = record {
      some = omega arith;
      few = omega arith;
      whole_words = all_mapped bytes fs (λ s. length s.bytes % 4 ≡ 0) (segment_even bytes) good;
      placed = record {
        placed = all_mapped bytes fs (λ s. is_well_placed s ≡ true) (segment_placed bytes) good;
        apart = mapped_apart bytes fs good apart;
      };
      entry = code;
    } in
    (by_rules (image_with bytes hs)).1 (fits, (rules, is_short (image_with bytes hs) fits rules (all_mapped bytes fs (λ s. is_loaded s ≡ true) (segment_loaded bytes) good)))

pub well_formed : (bytes : List ℕ) → All (λ b. b < 256) bytes → entry_of bytes < 2 ^ 32 → IsPassed (length bytes) (headers_of bytes) → is_executable (region_of (entry_of bytes)) ≡ true
    → IsWellFormed (elf_image bytes)
well_formed bytes are entry p code = with_headers bytes (headers_of bytes) are entry p code
