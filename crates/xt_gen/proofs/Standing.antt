-- The image that is made of a number is well formed.
use Rattle.std.proofs.Common.{◌≡◌, ℕ, ◌+◌, ◌%◌, ◌<◌, ◌^◌, Bool, true, false, ◌&&◌, ◌||◌, List, [], ◌∷◌, length, refl, sym, ap, subst, ◌∙◌, arith}
use Rattle.std.specs.Prelude.{All, ◌==◌, min, max, nat_le, nat_lt, not, replicate}
use Rattle.std.specs.List.{AllByRecursion, AllPairs, list_all, list_any}
use Rattle.std.proofs.lemmas.Bool.{and_parts}
use Rattle.std.proofs.lemmas.Bool.Decides.{nat_tests}
use Rattle.std.proofs.lemmas.List.Elements.{All-from_recursion}
use Rattle.std.proofs.lemmas.List.Kept.{AllPairs-cons}
use Rattle.xt_map.specs.declared.segment.Segment.{Segment}
use Rattle.xt_map.specs.Memory.{is_loaded}
use Rattle.xt_map.specs.Placing.{do_overlap, is_device, is_well_placed}
use Rattle.xt_map.specs.Regions.{is_executable, ranges, region_of}
use Rattle.xt_image.specs.declared.image.Image.{Image}
use Rattle.xt_image.specs.Made.{made_head}
use Rattle.xt_image.specs.ImageParts.{FitsImage, FitsSegment, IsWellFormed, MeetsRules}
use Rattle.xt_image.proofs.Capacity.{is_short}
use Rattle.xt_image.proofs.Ruled.{by_rules}
use Rattle.xt_gen.specs.Generated.{code, generated_image, handlers, segment_at, table_of}
use Rattle.xt_gen.proofs.Tabled.{words_length, words_small}

-- so many bytes
record Good (len : ℕ) (bytes : List ℕ) : Type 0 where
  long : length bytes ≡ len
  small : AllByRecursion (λ b. b < 256) bytes

below : (b : ℕ) → nat_lt b 256 ≡ true → b < 256
below b h = grind (arith, nat_tests)

are_small : (bytes : List ℕ) → list_all (λ b. nat_lt b 256) bytes ≡ true → AllByRecursion (λ b. b < 256) bytes
are_small [] h = tt
are_small (b ∷ bs) h = let p = and_parts _ _ h in (below b p.0, are_small bs p.1)

good_table : (number : ℕ) → Good 131072 (table_of number)
good_table number = record { long = words_length 32768 number; small = words_small 32768 number }

good_words : Good 8 (replicate 8 0)
good_words = record { long = refl; small = are_small (replicate 8 0) refl }

good_handlers : Good 364 handlers
unfolding handlers
good_handlers = record { long = refl; small = are_small handlers refl }

good_code : Good 176 code
unfolding code
good_code = record { long = refl; small = are_small code refl }

-- ---- one segment

fits : (addr len : ℕ) (bytes : List ℕ) → addr < 2 ^ 32 → len < 2 ^ 32 → Good len bytes → FitsSegment (segment_at addr bytes)
fits addr len bytes low short good = record {
  addr = low;
  len = omega (arith, good.long);
  bytes = All-from_recursion (λ b. b < 256) bytes good.small;
}

even : (len : ℕ) (bytes : List ℕ) → len % 4 ≡ 0 → Good len bytes → length bytes % 4 ≡ 0
even len bytes whole good = ap (λ n. n % 4) good.long ∙ whole

-- what is asked of a segment of so many bytes
abbrev placed_by : ℕ → ℕ → Bool
placed_by addr len = not (nat_le 0x10000000 addr)
    || (len == 0 || list_any (λ r. not (is_device r.region) && (nat_le r.first addr && nat_le (addr + len) (r.last + 1))) ranges)

placed : (addr len : ℕ) (bytes : List ℕ) → placed_by addr len ≡ true → Good len bytes → is_well_placed (segment_at addr bytes) ≡ true
placed addr len bytes h good = let P : ℕ → Type 0 = λ n. placed_by addr n ≡ true in subst P (sym good.long) h

-- ---- two segments

abbrev overlap_by : ℕ → ℕ → ℕ → ℕ → Bool
overlap_by a m b n = (nat_le 0x10000000 a && nat_le 0x10000000 b) && nat_lt (max a b) (min (a + m) (b + n))

apart : (a m : ℕ) (first : List ℕ) (b n : ℕ) (second : List ℕ) → overlap_by a m b n ≡ false → Good m first → Good n second
    → do_overlap (segment_at a first) (segment_at b second) ≡ false
apart a m first b n second h one_good other_good =
    let P : ℕ → Type 0 = λ k. overlap_by a k b n ≡ false in
    let Q : ℕ → Type 0 = λ k. overlap_by a (length first) b k ≡ false in
    subst Q (sym other_good.long) (subst P (sym one_good.long) h)

-- ---- the image

abbrev Apart : Segment → Segment → Type 0
Apart s t = do_overlap s t ≡ false

-- four segments
four : (P : Segment → Type 0) (a b c d : Segment) → P a → P b → P c → P d → All P (a ∷ b ∷ c ∷ d ∷ [])
four P a b c d p q r s = All-from_recursion P (a ∷ b ∷ c ∷ d ∷ []) (p, (q, (r, (s, tt))))

three : (P : Segment → Type 0) (b c d : Segment) → P b → P c → P d → All P (b ∷ c ∷ d ∷ [])
three P b c d q r s = All-from_recursion P (b ∷ c ∷ d ∷ []) (q, (r, (s, tt)))

two : (P : Segment → Type 0) (c d : Segment) → P c → P d → All P (c ∷ d ∷ [])
two P c d r s = All-from_recursion P (c ∷ d ∷ []) (r, (s, tt))

one : (P : Segment → Type 0) (d : Segment) → P d → All P (d ∷ [])
one P d s = All-from_recursion P (d ∷ []) (s, tt)

none : (P : Segment → Type 0) → All P []
none P = All-from_recursion P [] tt

no_pairs : AllPairs Apart []
no_pairs = λ i j d lt within. absurd (omega arith)

pairs : (a b c d : Segment) → Apart a b → Apart a c → Apart a d → Apart b c → Apart b d → Apart c d → AllPairs Apart (a ∷ b ∷ c ∷ d ∷ [])
pairs a b c d ab ac ad bc bd cd =
    AllPairs-cons Apart a (b ∷ c ∷ d ∷ []) (three (Apart a) b c d ab ac ad)
    (AllPairs-cons Apart b (c ∷ d ∷ []) (two (Apart b) c d bc bd)
    (AllPairs-cons Apart c (d ∷ []) (one (Apart c) d cd)
    (AllPairs-cons Apart d [] (none (Apart d)) no_pairs)))

entry_is_code : is_executable (region_of 0x400D0018) ≡ true
unfolding region_of
entry_is_code = refl

with_good : (t h c : List ℕ) → Good 131072 t → Good 364 h → Good 176 c → IsWellFormed (record {
  head = made_head;
  entry = 0x400D0018;
  digest = true;
  segments = segment_at 0x3F400000 t ∷ segment_at 0x3FFB0000 (replicate 8 0) ∷ segment_at 0x40080000 h ∷ segment_at 0x400D0000 c ∷ [];
})
with_good t h c gt gh gc =
    let gw = good_words in
    let w : List ℕ = replicate 8 0 in
    let i : Image = record {
      head = made_head;
      entry = 0x400D0018;
      digest = true;
      segments = segment_at 0x3F400000 t ∷ segment_at 0x3FFB0000 w ∷ segment_at 0x40080000 h ∷ segment_at 0x400D0000 c ∷ [];
    } in
    let fitting : FitsImage i = record {
      entry = omega arith;
      min_rev = omega arith;
      max_rev = omega arith;
      drive = refl;
      reserved = refl;
      segments = four FitsSegment _ _ _ _
          (fits 0x3F400000 131072 t (omega arith) (omega arith) gt) (fits 0x3FFB0000 8 w (omega arith) (omega arith) gw)
          (fits 0x40080000 364 h (omega arith) (omega arith) gh) (fits 0x400D0000 176 c (omega arith) (omega arith) gc);
    } in
    let rules : MeetsRules i = record {
      some = omega arith;
      few = omega arith;
      whole_words = four (λ s. length s.bytes % 4 ≡ 0) _ _ _ _ (even 131072 t refl gt) (even 8 w refl gw) (even 364 h refl gh) (even 176 c refl gc);
      placed = record {
        placed = four (λ s. is_well_placed s ≡ true) _ _ _ _
            (placed 0x3F400000 131072 t refl gt) (placed 0x3FFB0000 8 w refl gw) (placed 0x40080000 364 h refl gh) (placed 0x400D0000 176 c refl gc);
        apart = pairs _ _ _ _
            (apart 0x3F400000 131072 t 0x3FFB0000 8 w refl gt gw) (apart 0x3F400000 131072 t 0x40080000 364 h refl gt gh)
            (apart 0x3F400000 131072 t 0x400D0000 176 c refl gt gc) (apart 0x3FFB0000 8 w 0x40080000 364 h refl gw gh)
            (apart 0x3FFB0000 8 w 0x400D0000 176 c refl gw gc) (apart 0x40080000 364 h 0x400D0000 176 c refl gh gc);
      };
      entry = entry_is_code;
    } in
    (by_rules i).1 (fitting, (rules, is_short i fitting rules (four (λ s. is_loaded s ≡ true) _ _ _ _ refl refl refl refl)))

pub generated_is_well_formed : (number : ℕ) → IsWellFormed (generated_image number)
generated_is_well_formed number = with_good (table_of number) handlers code (good_table number) good_handlers good_code
