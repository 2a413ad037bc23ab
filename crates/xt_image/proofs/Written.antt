-- The parts of an image's file, read again.
use Rattle.std.proofs.Common.{◌≡◌, ℕ, ◌-◌, ◌≤◌, ◌<◌, ◌^◌, List, [], ◌∷◌, ◌++◌, Option, Some, None, Bool, true, false, cond, ◌&&◌, length, take, drop, slice_index, refl, sym, ap, ap₂, subst, ◌∙◌, arith, append_assoc, length-append}
use Rattle.std.specs.List.{flat_map}
use Rattle.std.specs.Option.{option_map_or}
use Rattle.std.specs.Int.{w16, w32, to_le_bytes, from_le_bytes}
use Rattle.std.specs.Prelude.{All, nat_le, ◌==◌}
use Rattle.std.proofs.lemmas.Bool.Decides.{nat_tests}
use Rattle.std.proofs.lemmas.List.{take_at, drop_at}
use Rattle.std.proofs.lemmas.List.Elements.{All-head, All-tail}
use Rattle.std.proofs.lemmas.Nat.{from_le_bytes-to_le_bytes_2, from_le_bytes-to_le_bytes_4}
use Rattle.xt_map.specs.declared.segment.Segment.{Segment}
use Rattle.xt_image.specs.declared.image.Image.{Image}
use Rattle.xt_image.specs.Layout.{front, half_at, word_at, segment_bytes, segments_at}
use Rattle.xt_image.specs.Rules.{checksum}
use Rattle.xt_image.specs.Format.{image_of}
use Rattle.xt_image.specs.ImageParts.{FitsImage, FitsSegment, digest_bytes, file_bytes, flag_of, head_bytes, image_bytes, summed_bytes}

-- ---- the segments

first_word : (n : ℕ) (rest : List ℕ) → n < 2 ^ 32 → word_at (to_le_bytes w32 n ++ rest) 0 ≡ n
unfolding word_at
first_word n rest lt = from_le_bytes-to_le_bytes_4 n lt

second_word : (m n : ℕ) (rest : List ℕ) → n < 2 ^ 32 → word_at (to_le_bytes w32 m ++ (to_le_bytes w32 n ++ rest)) 4 ≡ n
unfolding word_at
second_word m n rest lt = from_le_bytes-to_le_bytes_4 n lt

both : (a b c d : ℕ) → a ≤ b → c ≤ d → (nat_le a b && nat_le c d) ≡ true
both a b c d h k = grind (arith, nat_tests)

chosen : {A : Type 0} (b : Bool) (x y : A) → b ≡ true → x ≡ y → cond b (Some x) None ≡ Some y
chosen true x y h e = ap Some e
chosen false x y h e = cc

pub front_again : (s : Segment) (rest : List ℕ) → FitsSegment s → front (segment_bytes s ++ rest) ≡ Some (s, rest)
unfolding front
front_again s rest fits =
    let whole = segment_bytes s ++ rest in
    let n : word_at whole 4 ≡ length s.bytes = second_word s.addr (length s.bytes) (s.bytes ++ rest) fits.len in
    let a : word_at whole 0 ≡ s.addr = first_word s.addr (to_le_bytes w32 (length s.bytes) ++ (s.bytes ++ rest)) fits.addr in
    let pair : ℕ → List ℕ → List ℕ → Segment × List ℕ = λ x t r. (record { addr = x; bytes = t }, r) in
    let test = both 8 (length whole) (word_at whole 4) (length whole - 8) (omega arith) (omega (arith, n, length-append s.bytes rest)) in
    chosen _ _ _ test (ap₂ (λ x m. pair x (take m (s.bytes ++ rest)) (drop m (s.bytes ++ rest))) a n
    ∙ ap₂ (pair s.addr) (take_at s.bytes rest (length s.bytes) refl) (drop_at s.bytes rest (length s.bytes) refl))

pub segments_again : (ss : List Segment) (rest : List ℕ) → All FitsSegment ss → segments_at (length ss) (flat_map segment_bytes ss ++ rest) ≡ ss
unfolding segments_at
segments_again [] rest fits = refl
segments_again (s ∷ ss) rest fits =
    let after = flat_map segment_bytes ss ++ rest in
    let apart : flat_map segment_bytes (s ∷ ss) ++ rest ≡ segment_bytes s ++ after = append_assoc (segment_bytes s) (flat_map segment_bytes ss) rest in
    ap (λ (o : Option (Segment × List ℕ)). option_map_or (λ x. x.0 ∷ segments_at (length ss) x.1) o []) (ap front apart ∙ front_again s after (All-head FitsSegment s ss fits))
    ∙ ap (λ l. s ∷ l) (segments_again ss rest (All-tail FitsSegment s ss fits))

-- ---- the head

rev_again : (n : ℕ) → n < 2 ^ 16 → from_le_bytes w16 (to_le_bytes w16 n) ≡ n
rev_again n lt = from_le_bytes-to_le_bytes_2 n lt

flag_again : (digest : Bool) → (flag_of digest == 1) ≡ digest
flag_again true = refl
flag_again false = refl

-- an image of these parts
made : (drive reserved : List ℕ) (mode size wp old min max entry : ℕ) (digest : Bool) (segments : List Segment) → Image
made drive reserved mode size wp old min max entry digest segments = record {
  head = record { mode = mode; size_freq = size; wp_pin = wp; drive = drive; min_rev_old = old; min_rev = min; max_rev = max; reserved = reserved };
  entry = entry;
  digest = digest;
  segments = segments;
}

head_again : (drive reserved : List ℕ) (mode size wp old min max entry : ℕ) (digest : Bool) (segments : List Segment) (rest : List ℕ)
    → length drive ≡ 3 → length reserved ≡ 4 → min < 2 ^ 16 → max < 2 ^ 16 → entry < 2 ^ 32
    → segments_at (length segments) rest ≡ segments
    → image_of (head_bytes (made drive reserved mode size wp old min max entry digest segments) ++ rest) ≡ made drive reserved mode size wp old min max entry digest segments
unfolding head_bytes word_at made
head_again (a ∷ b ∷ c ∷ []) (p ∷ q ∷ r ∷ s ∷ []) mode size wp old min max entry digest segments rest hd hr hmin hmax hentry hs =
    let drive = a ∷ b ∷ c ∷ [] in
    let reserved = p ∷ q ∷ r ∷ s ∷ [] in
    ap₂ (λ x y. made drive reserved mode size wp old x y (from_le_bytes w32 (to_le_bytes w32 entry)) (flag_of digest == 1) (segments_at (length segments) rest)) (rev_again min hmin) (rev_again max hmax)
    ∙ ap₂ (λ x y. made drive reserved mode size wp old min max x y (segments_at (length segments) rest)) (from_le_bytes-to_le_bytes_4 entry hentry) (flag_again digest)
    ∙ ap (made drive reserved mode size wp old min max entry digest) hs
head_again drive reserved mode size wp old min max entry digest segments rest hd hr hmin hmax hentry hs = absurd (omega (arith, hd, hr))

-- what the rules of the head read
pub record HeadIs (i : Image) (bytes : List ℕ) : Type 0 where
  pub magic : slice_index bytes 0 ≡ 0xE9
  pub count : slice_index bytes 1 ≡ length i.segments
  pub chip : half_at bytes 12 ≡ 0
  pub flag : slice_index bytes 23 ≡ flag_of i.digest

head_reads : (drive reserved : List ℕ) (mode size wp old min max entry : ℕ) (digest : Bool) (segments : List Segment) (rest : List ℕ)
    → length drive ≡ 3 → length reserved ≡ 4
    → HeadIs (made drive reserved mode size wp old min max entry digest segments) (head_bytes (made drive reserved mode size wp old min max entry digest segments) ++ rest)
unfolding head_bytes made
head_reads (a ∷ b ∷ c ∷ []) (p ∷ q ∷ r ∷ s ∷ []) mode size wp old min max entry digest segments rest hd hr =
    record { magic = refl; count = refl; chip = rev_again 0 (omega arith); flag = refl }
head_reads drive reserved mode size wp old min max entry digest segments rest hd hr = absurd (omega (arith, hd, hr))

head_length_of : (drive reserved : List ℕ) (mode size wp old min max entry : ℕ) (digest : Bool) (segments : List Segment) → length drive ≡ 3 → length reserved ≡ 4
    → length (head_bytes (made drive reserved mode size wp old min max entry digest segments)) ≡ 24
unfolding head_bytes made
head_length_of (a ∷ b ∷ c ∷ []) (p ∷ q ∷ r ∷ s ∷ []) mode size wp old min max entry digest segments hd hr = refl
head_length_of drive reserved mode size wp old min max entry digest segments hd hr = absurd (omega (arith, hd, hr))

pub head_length : (i : Image) → FitsImage i → length (head_bytes i) ≡ 24
unfolding made
head_length i fits = head_length_of i.head.drive i.head.reserved i.head.mode i.head.size_freq i.head.wp_pin i.head.min_rev_old i.head.min_rev i.head.max_rev i.entry i.digest i.segments fits.drive fits.reserved

-- ---- the whole

regroup : (h f g c d b : List ℕ) → (((((h ++ f) ++ g) ++ c) ++ d) ++ b) ≡ h ++ (f ++ (g ++ (c ++ (d ++ b))))
regroup h f g c d b = simp append_assoc

-- what stands after the head
abbrev pub behind_head : Image → List ℕ → List ℕ → List ℕ
behind_head i gap behind = flat_map segment_bytes i.segments ++ (gap ++ ((checksum i.segments ∷ []) ++ (digest_bytes i gap ++ behind)))

pub file_is : (i : Image) (gap behind : List ℕ) → file_bytes i gap behind ≡ head_bytes i ++ behind_head i gap behind
unfolding file_bytes summed_bytes
file_is i gap behind = regroup (head_bytes i) (flat_map segment_bytes i.segments) gap (checksum i.segments ∷ []) (digest_bytes i gap) behind

pub file_again : (i : Image) (gap behind : List ℕ) → FitsImage i → image_of (file_bytes i gap behind) ≡ i
unfolding made
file_again i gap behind fits =
    let after = gap ++ ((checksum i.segments ∷ []) ++ (digest_bytes i gap ++ behind)) in
    ap image_of (file_is i gap behind)
    ∙ head_again i.head.drive i.head.reserved i.head.mode i.head.size_freq i.head.wp_pin i.head.min_rev_old i.head.min_rev i.head.max_rev i.entry i.digest i.segments
    (flat_map segment_bytes i.segments ++ after) fits.drive fits.reserved fits.min_rev fits.max_rev fits.entry (segments_again i.segments after fits.segments)

pub file_head : (i : Image) (gap behind : List ℕ) → FitsImage i → HeadIs i (file_bytes i gap behind)
unfolding made
file_head i gap behind fits =
    let P : List ℕ → Type 0 = HeadIs i in
    subst P (sym (file_is i gap behind))
    (head_reads i.head.drive i.head.reserved i.head.mode i.head.size_freq i.head.wp_pin i.head.min_rev_old i.head.min_rev i.head.max_rev i.entry i.digest i.segments
    (behind_head i gap behind) fits.drive fits.reserved)

-- the segments are no longer than the file
pub segments_short : (i : Image) → length (flat_map segment_bytes i.segments) ≤ length (image_bytes i)
unfolding image_bytes file_bytes summed_bytes
segments_short i = simp length-append (omega arith)
