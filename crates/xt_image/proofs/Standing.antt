-- A file without a fault is its parts joined, and its image meets the rules.
use Rattle.std.proofs.Common.{◌≡◌, ℕ, zero, suc, ◌+◌, ◌≤◌, ◌<◌, ◌^◌, List, [], ◌∷◌, ◌++◌, Option, Some, None, Bool, true, false, ◌&&◌, length, take, drop, get_or, slice_index, refl, sym, ap, ap₂, subst, ◌∙◌, arith, append_assoc, length-append, length-take-le, length-drop, take-append-drop}
use Rattle.std.proofs.Math.Seq.{drop-cons}
use Rattle.std.specs.Int.{w16, w32, to_le_bytes, from_le_bytes}
use Rattle.std.specs.List.{flat_map}
use Rattle.std.specs.Option.{option_map_or}
use Rattle.std.specs.Prelude.{All, nat_le, nat_lt, replicate, ◌==◌, not, if◌then◌else◌}
use Rattle.std.specs.Str.{bytes_eq}
use Rattle.std.proofs.lemmas.List.{get_or-append-add, get_or-drop, get_or_default, length-replicate}
use Rattle.std.proofs.lemmas.List.Elements.{All-nil, All-cons}
use Rattle.std.proofs.lemmas.Nat.{le_bytes_2, le_bytes_4}
use Rattle.std.proofs.lemmas.Option.{cond_some}
use Rattle.std.proofs.lemmas.Slice.Eq.{bytes_eq-Decides}
use Rattle.sha2.specs.Sha256.{sha256}
use Rattle.sha2.proofs.Facts256.{length-sha256}
use Rattle.xt_map.specs.declared.segment.Segment.{Segment}
use Rattle.xt_map.specs.Regions.{region_of, is_executable}
use Rattle.xt_image.specs.declared.image.Image.{Image}
use Rattle.xt_image.specs.declared.fault.ImageFault.TheVariants.{NoChecksum, Checksum, NoDigest, Digest, Entry}
use Rattle.xt_image.specs.Layout.{checksum_place, end_of, front, half_at, word_at, segment_bytes, segments_at, segments_in}
use Rattle.xt_image.specs.Findings.{first}
use Rattle.xt_image.specs.Rules.{head_rules, segment_rules, end_rules, has_digest, kept_digest, right_digest, checksum, image_fault}
use Rattle.xt_image.specs.Format.{image_of}
use Rattle.xt_image.specs.ImageParts.{FitsImage, FitsSegment, IsFileOf, IsWellFormed, digest_bytes, flag_of, gap_length, head_bytes, image_bytes, summed_bytes}
use Rattle.xt_image.proofs.Accepted.{Meets, accepts, file_length, file_parts, front_of, rest_of, summed_length}
use Rattle.xt_image.proofs.Joined.{IsBytes, take_fits}
use Rattle.xt_image.proofs.Findings.{none_of}
use Rattle.xt_image.proofs.Passing.{Five, above, at_least, count_in, five_passed, segments_passed, not_false, same, where_it_holds}
use Rattle.xt_image.proofs.Written.{head_length}

-- ---- what the rules say

pub record Passed (bytes : List ℕ) : Type 0 where
  pub head : first (head_rules bytes) ≡ None
  pub segments : first (segment_rules (slice_index bytes 1) (segments_in bytes)) ≡ None
  pub ends : first (end_rules bytes (checksum_place (segments_in bytes)) (checksum (segments_in bytes))) ≡ None

pub passed : (bytes : List ℕ) → image_fault bytes ≡ None → Passed bytes
unfolding image_fault
passed bytes h =
    let later = end_rules bytes (checksum_place (segments_in bytes)) (checksum (segments_in bytes)) in
    let (head, rest) = none_of (head_rules bytes) (segment_rules (slice_index bytes 1) (segments_in bytes) ++ later) h in
    let (segments, ends) = none_of (segment_rules (slice_index bytes 1) (segments_in bytes)) later rest in
    record { head = head; segments = segments; ends = ends }

pub record Head (bytes : List ℕ) : Type 0 where
  pub long : 24 ≤ length bytes
  pub magic : slice_index bytes 0 ≡ 0xE9
  pub some : 0 < slice_index bytes 1
  pub few : slice_index bytes 1 ≤ 16
  pub chip : half_at bytes 12 ≡ 0
  pub flag : slice_index bytes 23 ≤ 1

pub head_is : (bytes : List ℕ) → first (head_rules bytes) ≡ None → Head bytes
head_is bytes h =
    let five : Five (nat_lt (length bytes) 24) _ _ _ (nat_lt 1 (slice_index bytes 23)) = five_passed _ _ _ _ _ _ _ _ _ _ h in
    record {
      long = at_least (length bytes) 24 five.one;
      magic = same (slice_index bytes 0) 0xE9 five.two;
      some = (count_in (slice_index bytes 1) five.three).0;
      few = (count_in (slice_index bytes 1) five.three).1;
      chip = same (half_at bytes 12) 0 five.four;
      flag = at_least 1 (slice_index bytes 23) five.five;
    }

ends_passed : (bytes : List ℕ) (place sum : ℕ) → first (end_rules bytes place sum) ≡ None
    → Five (nat_le (length bytes) place) (not (slice_index bytes place == sum)) (has_digest bytes && nat_lt (length bytes) (place + 33))
    (has_digest bytes && not (bytes_eq (kept_digest bytes place) (right_digest bytes place))) (not (is_executable (region_of (word_at bytes 4))))
ends_passed bytes place sum h =
    five_passed (nat_le (length bytes) place) (not (slice_index bytes place == sum)) (has_digest bytes && nat_lt (length bytes) (place + 33))
    (has_digest bytes && not (bytes_eq (kept_digest bytes place) (right_digest bytes place))) (not (is_executable (region_of (word_at bytes 4))))
    NoChecksum (Checksum (slice_index bytes place) sum) NoDigest (Digest (kept_digest bytes place) (right_digest bytes place)) (Entry (word_at bytes 4)) h

-- ---- as many segments as there should be

at_most_of : (o : Option (Segment × List ℕ)) (n : ℕ) → ((bytes : List ℕ) → length (segments_at n bytes) ≤ n)
    → length (option_map_or (λ x. x.0 ∷ segments_at n x.1) o []) ≤ suc n
at_most_of None n h = omega arith
at_most_of (Some (s, after)) n h = (let le : length (segments_at n after) ≤ n = h after in omega arith)

at_most : (n : ℕ) (bytes : List ℕ) → length (segments_at n bytes) ≤ n
unfolding segments_at
at_most zero bytes = omega arith
at_most (suc n) bytes = at_most_of (front bytes) n (at_most n)

pub count_is : (bytes : List ℕ) → Passed bytes → length (segments_in bytes) ≡ slice_index bytes 1
count_is bytes p =
    let four = segments_passed (slice_index bytes 1) (segments_in bytes) p.segments in
    let le : length (segments_in bytes) ≤ slice_index bytes 1 = at_most (slice_index bytes 1) (drop 24 bytes) in
    let ge : slice_index bytes 1 ≤ length (segments_in bytes) = at_least _ _ four.one in
    omega arith

pub meets : (bytes : List ℕ) → image_fault bytes ≡ None → Meets (image_of bytes)
meets bytes h =
    let p = passed bytes h in
    let head = head_is bytes p.head in
    let count = count_is bytes p in
    let ends = ends_passed bytes (checksum_place (segments_in bytes)) (checksum (segments_in bytes)) p.ends in
    let some : 0 < slice_index bytes 1 = head.some in
    let few : slice_index bytes 1 ≤ 16 = head.few in
    record {
      some = omega arith;
      few = omega arith;
      segments = ap (λ n. first (segment_rules n (segments_in bytes))) count ∙ p.segments;
      entry = not_false (is_executable (region_of (word_at bytes 4))) ends.five;
    }

-- ---- numbers in range

pair_fits : (bs : List ℕ) → IsBytes bs → from_le_bytes w16 bs < 2 ^ 16
pair_fits bs fits = omega (arith, fits 0, fits 1)

four_fit : (bs : List ℕ) → IsBytes bs → from_le_bytes w32 bs < 2 ^ 32
four_fit bs fits = omega (arith, fits 0, fits 1, fits 2, fits 3)

drop_fits : (n : ℕ) (bytes : List ℕ) → IsBytes bytes → IsBytes (drop n bytes)
drop_fits n bytes fits i = rw (get_or-drop n bytes i 0) (fits (n + i))

pub half_fits : (bytes : List ℕ) (k : ℕ) → IsBytes bytes → half_at bytes k < 2 ^ 16
half_fits bytes k fits = pair_fits (take 2 (drop k bytes)) (take_fits 2 (drop k bytes) (drop_fits k bytes fits))

pub word_fits : (bytes : List ℕ) (k : ℕ) → IsBytes bytes → word_at bytes k < 2 ^ 32
unfolding word_at
word_fits bytes k fits = four_fit (take 4 (drop k bytes)) (take_fits 4 (drop k bytes) (drop_fits k bytes fits))

pub all_fit : (bs : List ℕ) → IsBytes bs → All (λ b. b < 256) bs
all_fit bs fits k d lt = rw (get_or_default bs k d 0 lt) (fits k)

-- the segment at the front, and what follows it
record FitsFront (s : Segment) (after bytes : List ℕ) : Type 0 where
  segment : FitsSegment s
  after_fits : IsBytes after
  shorter : length after ≤ length bytes

take_shorter : (n : ℕ) (bytes : List ℕ) → length (take n bytes) ≤ length bytes
take_shorter n bytes = omega (arith, ap length (take-append-drop n bytes), length-append (take n bytes) (drop n bytes))

drop_shorter : (n : ℕ) (bytes : List ℕ) → length (drop n bytes) ≤ length bytes
drop_shorter n bytes = omega (arith, length-drop n bytes)

front_fits : (bytes : List ℕ) (s : Segment) (after : List ℕ) → IsBytes bytes → length bytes < 2 ^ 32 → front bytes ≡ Some (s, after) → FitsFront s after bytes
unfolding front
front_fits bytes s after fits short h =
    let (b, same) = cond_some _ _ _ h in
    let n = word_at bytes 4 in
    let held = take n (drop 8 bytes) in
    let P : Segment × List ℕ → Type 0 = λ p. FitsFront p.0 p.1 bytes in
    let a = take_shorter n (drop 8 bytes) in
    let b = drop_shorter 8 bytes in
    let c = drop_shorter n (drop 8 bytes) in
    subst P same (record {
      segment = record {
        addr = word_fits bytes 0 fits;
        len = omega arith;
        bytes = all_fit held (take_fits n (drop 8 bytes) (drop_fits 8 bytes fits));
      };
      after_fits = drop_fits n (drop 8 bytes) (drop_fits 8 bytes fits);
      shorter = omega arith;
    })

segments_fit_of : (o : Option (Segment × List ℕ)) (n : ℕ) (bytes : List ℕ) → ((s : Segment) (after : List ℕ) → o ≡ Some (s, after) → FitsFront s after bytes)
    → ((after : List ℕ) → IsBytes after → length after < 2 ^ 32 → All FitsSegment (segments_at n after)) → length bytes < 2 ^ 32
    → All FitsSegment (option_map_or (λ x. x.0 ∷ segments_at n x.1) o [])
segments_fit_of None n bytes fits rest short = All-nil FitsSegment
segments_fit_of (Some (s, after)) n bytes fits rest short =
    let f = fits s after refl in
    let le : length after ≤ length bytes = f.shorter in
    All-cons FitsSegment s (segments_at n after) f.segment (rest after f.after_fits (omega arith))

segments_fit : (n : ℕ) (bytes : List ℕ) → IsBytes bytes → length bytes < 2 ^ 32 → All FitsSegment (segments_at n bytes)
unfolding segments_at
segments_fit zero bytes fits short = All-nil FitsSegment
segments_fit (suc n) bytes fits short = segments_fit_of (front bytes) n bytes (λ s after h. front_fits bytes s after fits short h) (segments_fit n) short

pub image_fits : (bytes : List ℕ) → IsBytes bytes → 24 ≤ length bytes → length bytes ≤ 8388608 → FitsImage (image_of bytes)
image_fits bytes fits long short = record {
  entry = word_fits bytes 4 fits;
  min_rev = half_fits bytes 15 fits;
  max_rev = half_fits bytes 17 fits;
  drive = length-take-le 3 (drop 9 bytes) (omega (arith, length-drop 9 bytes));
  reserved = length-take-le 4 (drop 19 bytes) (omega (arith, length-drop 19 bytes));
  segments = segments_fit (slice_index bytes 1) (drop 24 bytes) (drop_fits 24 bytes fits) (omega (arith, length-drop 24 bytes));
}

-- ---- the head as it stands

-- the flag, from the byte
flag_is : (b : ℕ) → b ≤ 1 → flag_of (b == 1) ≡ b
flag_is zero h = refl
flag_is (suc zero) h = refl
flag_is (suc (suc b)) h = absurd (omega arith)

parts_of_head : (a n : ℕ) (entry : List ℕ) (b2 b3 b8 b9 b10 b11 : ℕ) (chip : List ℕ) (b14 : ℕ) (min max : List ℕ) (b19 b20 b21 b22 f : ℕ) → List ℕ
parts_of_head a n entry b2 b3 b8 b9 b10 b11 chip b14 min max b19 b20 b21 b22 f =
    a ∷ n ∷ b2 ∷ b3 ∷ [] ++ entry ++ b8 ∷ [] ++ (b9 ∷ b10 ∷ b11 ∷ []) ++ chip ++ b14 ∷ [] ++ min ++ max ++ (b19 ∷ b20 ∷ b21 ∷ b22 ∷ []) ++ f ∷ []

abbrev listed : (b0 b1 b2 b3 b4 b5 b6 b7 b8 b9 b10 b11 b12 b13 b14 b15 b16 b17 b18 b19 b20 b21 b22 b23 : ℕ) (rest : List ℕ) → List ℕ
listed b0 b1 b2 b3 b4 b5 b6 b7 b8 b9 b10 b11 b12 b13 b14 b15 b16 b17 b18 b19 b20 b21 b22 b23 rest =
    b0 ∷ b1 ∷ b2 ∷ b3 ∷ b4 ∷ b5 ∷ b6 ∷ b7 ∷ b8 ∷ b9 ∷ b10 ∷ b11 ∷ b12 ∷ b13 ∷ b14 ∷ b15 ∷ b16 ∷ b17 ∷ b18 ∷ b19 ∷ b20 ∷ b21 ∷ b22 ∷ b23 ∷ rest

stands : (b0 b1 b2 b3 b4 b5 b6 b7 b8 b9 b10 b11 b12 b13 b14 b15 b16 b17 b18 b19 b20 b21 b22 b23 : ℕ) (rest : List ℕ)
    → IsBytes (listed b0 b1 b2 b3 b4 b5 b6 b7 b8 b9 b10 b11 b12 b13 b14 b15 b16 b17 b18 b19 b20 b21 b22 b23 rest)
    → Head (listed b0 b1 b2 b3 b4 b5 b6 b7 b8 b9 b10 b11 b12 b13 b14 b15 b16 b17 b18 b19 b20 b21 b22 b23 rest)
    → length (segments_in (listed b0 b1 b2 b3 b4 b5 b6 b7 b8 b9 b10 b11 b12 b13 b14 b15 b16 b17 b18 b19 b20 b21 b22 b23 rest)) ≡ b1
    → head_bytes (image_of (listed b0 b1 b2 b3 b4 b5 b6 b7 b8 b9 b10 b11 b12 b13 b14 b15 b16 b17 b18 b19 b20 b21 b22 b23 rest))
    ≡ b0 ∷ b1 ∷ b2 ∷ b3 ∷ b4 ∷ b5 ∷ b6 ∷ b7 ∷ b8 ∷ b9 ∷ b10 ∷ b11 ∷ b12 ∷ b13 ∷ b14 ∷ b15 ∷ b16 ∷ b17 ∷ b18 ∷ b19 ∷ b20 ∷ b21 ∷ b22 ∷ b23 ∷ []
unfolding head_bytes word_at parts_of_head
stands b0 b1 b2 b3 b4 b5 b6 b7 b8 b9 b10 b11 b12 b13 b14 b15 b16 b17 b18 b19 b20 b21 b22 b23 rest fits head count =
    let bytes = listed b0 b1 b2 b3 b4 b5 b6 b7 b8 b9 b10 b11 b12 b13 b14 b15 b16 b17 b18 b19 b20 b21 b22 b23 rest in
    let parts : ℕ → ℕ → List ℕ → List ℕ → List ℕ → List ℕ → ℕ → List ℕ = λ a n e c mi ma f. parts_of_head a n e b2 b3 b8 b9 b10 b11 c b14 mi ma b19 b20 b21 b22 f in
    let n = length (segments_in bytes) in
    let e = to_le_bytes w32 (word_at bytes 4) in
    let chip = to_le_bytes w16 0 in
    let min = to_le_bytes w16 (half_at bytes 15) in
    let max = to_le_bytes w16 (half_at bytes 17) in
    let f = flag_of (b23 == 1) in
    let four = b4 ∷ b5 ∷ b6 ∷ b7 ∷ [] in
    ap (λ a. parts a n e chip min max f) (sym head.magic)
    ∙ ap (λ m. parts b0 m e chip min max f) count
    ∙ ap (λ x. parts b0 b1 x chip min max f) (le_bytes_4 four (word_at bytes 4) refl (take_fits 4 (drop 4 bytes) (drop_fits 4 bytes fits)) refl)
    ∙ ap (λ x. parts b0 b1 four x min max f) (le_bytes_2 (b12 ∷ b13 ∷ []) 0 refl (take_fits 2 (drop 12 bytes) (drop_fits 12 bytes fits)) (sym head.chip))
    ∙ ap (λ x. parts b0 b1 four (b12 ∷ b13 ∷ []) x max f) (le_bytes_2 (b15 ∷ b16 ∷ []) (half_at bytes 15) refl (take_fits 2 (drop 15 bytes) (drop_fits 15 bytes fits)) refl)
    ∙ ap (λ x. parts b0 b1 four (b12 ∷ b13 ∷ []) (b15 ∷ b16 ∷ []) x f) (le_bytes_2 (b17 ∷ b18 ∷ []) (half_at bytes 17) refl (take_fits 2 (drop 17 bytes) (drop_fits 17 bytes fits)) refl)
    ∙ ap (λ x. parts b0 b1 four (b12 ∷ b13 ∷ []) (b15 ∷ b16 ∷ []) (b17 ∷ b18 ∷ []) x) (flag_is b23 head.flag)

pub head_stands : (bytes : List ℕ) → IsBytes bytes → Head bytes → length (segments_in bytes) ≡ slice_index bytes 1 → head_bytes (image_of bytes) ≡ take 24 bytes
head_stands (b0 ∷ b1 ∷ b2 ∷ b3 ∷ b4 ∷ b5 ∷ b6 ∷ b7 ∷ b8 ∷ b9 ∷ b10 ∷ b11 ∷ b12 ∷ b13 ∷ b14 ∷ b15 ∷ b16 ∷ b17 ∷ b18 ∷ b19 ∷ b20 ∷ b21 ∷ b22 ∷ b23 ∷ rest) fits head count =
    stands b0 b1 b2 b3 b4 b5 b6 b7 b8 b9 b10 b11 b12 b13 b14 b15 b16 b17 b18 b19 b20 b21 b22 b23 rest fits head count
head_stands bytes fits head count = absurd (omega (arith, head.long))

-- ---- all parts

-- a place after the first part
sum_behind : (front rest : List ℕ) (bytes : List ℕ) (g place : ℕ) → bytes ≡ front ++ rest → place ≡ length front + g → slice_index bytes place ≡ slice_index rest g
sum_behind front rest bytes g place is at = ap₂ (λ (l : List ℕ) n. get_or l n 0) is at ∙ get_or-append-add front rest g 0

regrouped : (front gap : List ℕ) (sum : ℕ) (rest : List ℕ) → front ++ (gap ++ sum ∷ rest) ≡ ((front ++ gap) ++ sum ∷ []) ++ rest
regrouped front gap sum rest = simp append_assoc

-- what stands up to the checksum, and what follows
record Summed (i : Image) (bytes : List ℕ) : Type 0 where
  gap : List ℕ
  rest : List ℕ
  gap_fits : length gap ≡ gap_length i
  joined : bytes ≡ summed_bytes i gap ++ rest

summed : (bytes rest : List ℕ) → IsBytes bytes → Passed bytes → FitsImage (image_of bytes) → drop 24 bytes ≡ flat_map segment_bytes (segments_in bytes) ++ rest
    → Summed (image_of bytes) bytes
unfolding summed_bytes
summed bytes rest fits p fit joined =
    let i = image_of bytes in
    let ss = segments_in bytes in
    let g = gap_length i in
    let place = checksum_place ss in
    let front = head_bytes i ++ flat_map segment_bytes ss in
    let ends = ends_passed bytes (checksum_place (segments_in bytes)) (checksum (segments_in bytes)) p.ends in
    let whole : bytes ≡ front ++ rest =
    sym (take-append-drop 24 bytes) ∙ ap₂ (λ (a b : List ℕ). a ++ b) (sym (head_stands bytes fits (head_is bytes p.head) (count_is bytes p))) joined
    ∙ sym (append_assoc (head_bytes i) (flat_map segment_bytes ss) rest) in
    let size : length front ≡ end_of ss = length-append (head_bytes i) (flat_map segment_bytes ss) ∙ ap (λ n. n + length (flat_map segment_bytes ss)) (head_length i fit) in
    let all : length bytes ≡ length front + length rest = ap length whole ∙ length-append front rest in
    let within : place < length bytes = above (length bytes) place ends.one in
    let lt : g < length rest = omega arith in
    let at : slice_index rest g ≡ checksum ss = sym (sum_behind front rest bytes g place whole (omega arith)) ∙ same (slice_index bytes place) (checksum ss) ends.two in
    let split : rest ≡ take g rest ++ (checksum ss ∷ drop (suc g) rest) =
    sym (take-append-drop g rest) ∙ ap (λ l. take g rest ++ l) (drop-cons rest g 0 lt ∙ ap (λ n. n ∷ drop (suc g) rest) at) in
    record {
      gap = take g rest;
      rest = drop (suc g) rest;
      gap_fits = length-take-le g rest (omega arith);
      joined = whole ∙ ap (λ l. front ++ l) split ∙ regrouped front (take g rest) (checksum ss) (drop (suc g) rest);
    }

-- the digest stands at the front of what follows the checksum
digest_stands : (i : Image) (bytes gap rest : List ℕ) (d : Bool) → i.digest ≡ d → bytes ≡ summed_bytes i gap ++ rest → length (summed_bytes i gap) ≡ checksum_place i.segments + 1
    → (i.digest ≡ true → checksum_place i.segments + 33 ≤ length bytes)
    → (i.digest ≡ true → kept_digest bytes (checksum_place i.segments) ≡ right_digest bytes (checksum_place i.segments))
    → (behind : List ℕ) × (rest ≡ digest_bytes i gap ++ behind)
digest_stands i bytes gap rest true e is len long equal =
    let size : length bytes ≡ length (summed_bytes i gap) + length rest = ap length is ∙ length-append (summed_bytes i gap) rest in
    let enough : checksum_place i.segments + 33 ≤ length bytes = long e in
    let place = checksum_place i.segments in
    let here : drop (place + 1) bytes ≡ rest = ap (drop (place + 1)) is ∙ rest_of (summed_bytes i gap) rest (place + 1) len in
    let before : take (place + 1) bytes ≡ summed_bytes i gap = ap (take (place + 1)) is ∙ front_of (summed_bytes i gap) rest (place + 1) len in
    let digest : take 32 rest ≡ sha256 (summed_bytes i gap) = ap (take 32) (sym here) ∙ equal e ∙ ap sha256 before in
    (drop 32 rest, sym (take-append-drop 32 rest) ∙ ap (λ l. l ++ drop 32 rest) (digest ∙ ap (λ (b : Bool). if b then sha256 (summed_bytes i gap) else []) (sym e)))
digest_stands i bytes gap rest false e is len long equal =
    (rest, ap (λ (b : Bool). (if b then sha256 (summed_bytes i gap) else []) ++ rest) (sym e))

pub file_of : (bytes rest : List ℕ) → IsBytes bytes → length bytes ≤ 8388608 → image_fault bytes ≡ None → drop 24 bytes ≡ flat_map segment_bytes (segments_in bytes) ++ rest
    → IsFileOf (image_of bytes) bytes
file_of bytes rest fits short none joined =
    let i = image_of bytes in
    let p = passed bytes none in
    let ends = ends_passed bytes (checksum_place (segments_in bytes)) (checksum (segments_in bytes)) p.ends in
    let image_fit = image_fits bytes fits (head_is bytes p.head).long short in
    let s = summed bytes rest fits p image_fit joined in
    let place = checksum_place (segments_in bytes) in
    let (behind, is) = digest_stands i bytes s.gap s.rest (has_digest bytes) refl s.joined (summed_length i s.gap image_fit s.gap_fits)
    (λ e. at_least (length bytes) (place + 33) (where_it_holds (has_digest bytes) _ ends.three e))
    (λ e. (bytes_eq-Decides (kept_digest bytes place) (right_digest bytes place)).0 (not_false _ (where_it_holds (has_digest bytes) _ ends.four e))) in
    record {
      gap = s.gap;
      behind = behind;
      gap_fits = s.gap_fits;
      joined = s.joined ∙ ap (λ l. summed_bytes i s.gap ++ l) is ∙ sym (file_parts i s.gap behind);
    }

-- ---- an accepted image is well formed

digests_alike : (d : Bool) (x y : List ℕ) → length (if d then sha256 x else []) ≡ length (if d then sha256 y else [])
digests_alike true x y = length-sha256 x ∙ sym (length-sha256 y)
digests_alike false x y = refl

written_shorter : (i : Image) (bytes : List ℕ) → FitsImage i → IsFileOf i bytes → length (image_bytes i) ≤ length bytes
unfolding image_bytes
written_shorter i bytes fits file =
    let zeros : List ℕ = replicate (gap_length i) 0 in
    let z : length zeros ≡ gap_length i = length-replicate (gap_length i) 0 in
    let a = file_length i zeros [] in
    let b : length bytes ≡ length (summed_bytes i file.gap) + (length (digest_bytes i file.gap) + length file.behind) = ap length file.joined ∙ file_length i file.gap file.behind in
    let c = summed_length i zeros fits z in
    let d = summed_length i file.gap fits file.gap_fits in
    let e : length (digest_bytes i zeros) ≡ length (digest_bytes i file.gap) = digests_alike i.digest (summed_bytes i zeros) (summed_bytes i file.gap) in
    omega arith

pub written_passes : (i : Image) → FitsImage i → Meets i → image_fault (image_bytes i) ≡ None
unfolding image_bytes
written_passes i fits m = accepts i (replicate (gap_length i) 0) [] fits m (length-replicate (gap_length i) 0)

pub accepted_well_formed : (bytes rest : List ℕ) → IsBytes bytes → length bytes ≤ 8388608 → image_fault bytes ≡ None → drop 24 bytes ≡ flat_map segment_bytes (segments_in bytes) ++ rest
    → IsWellFormed (image_of bytes)
accepted_well_formed bytes rest fits short none joined =
    let i = image_of bytes in
    let image_fit = image_fits bytes fits (head_is bytes (passed bytes none).head).long short in
    let m = meets bytes none in
    let le : length (image_bytes i) ≤ length bytes = written_shorter i bytes image_fit (file_of bytes rest fits short none joined) in
    record { fits = image_fit; few = m.few; no_fault = written_passes i image_fit m; short = omega arith }
