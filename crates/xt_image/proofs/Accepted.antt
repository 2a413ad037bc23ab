-- The file of an image that meets the rules has no fault.
use Rattle.std.proofs.Common.{◌≡◌, ℕ, ◌+◌, ◌≤◌, ◌<◌, List, [], ◌∷◌, ◌++◌, None, Bool, true, false, ◌||◌, length, take, drop, get_or, slice_index, refl, sym, ap, ap₂, ◌∙◌, arith, append_assoc, length-append}
use Rattle.std.proofs.Math.Seq.{get_or-append_seam, take-append_seam, drop-append_seam}
use Rattle.std.specs.List.{flat_map}
use Rattle.std.specs.Prelude.{nat_lt, ◌==◌, not, if◌then◌else◌}
use Rattle.std.specs.Str.{bytes_eq}
use Rattle.std.proofs.lemmas.Slice.Eq.{bytes_eq-Decides}
use Rattle.sha2.specs.Sha256.{sha256}
use Rattle.sha2.proofs.Facts256.{length-sha256}
use Rattle.xt_map.specs.Regions.{region_of, is_executable}
use Rattle.xt_image.specs.declared.image.Image.{Image}
use Rattle.xt_image.specs.Layout.{checksum_place, segment_bytes, segments_in}
use Rattle.xt_image.specs.Findings.{first}
use Rattle.xt_image.specs.Rules.{head_rules, segment_rules, end_rules, has_digest, kept_digest, right_digest, checksum, image_fault}
use Rattle.xt_image.specs.ImageParts.{FitsImage, digest_bytes, file_bytes, flag_of, gap_length, head_bytes, summed_bytes}
use Rattle.xt_image.proofs.Findings.{none_in}
use Rattle.xt_image.proofs.Passing.{five_pass, not_below, not_at_least, is_same, in_count, is_not_false, only_where}
use Rattle.xt_image.proofs.Written.{HeadIs, file_again, file_head, head_length}

-- what the rules say of an image by itself
pub record Meets (i : Image) : Type 0 where
  pub some : 0 < length i.segments
  pub few : length i.segments ≤ 16
  pub segments : first (segment_rules (length i.segments) i.segments) ≡ None
  pub entry : is_executable (region_of i.entry) ≡ true

-- ---- lengths

pub summed_length : (i : Image) (gap : List ℕ) → FitsImage i → length gap ≡ gap_length i → length (summed_bytes i gap) ≡ checksum_place i.segments + 1
unfolding summed_bytes
summed_length i gap fits len =
    let head = head_length i fits in
    omega (
      arith,
      length-append ((head_bytes i ++ flat_map segment_bytes i.segments) ++ gap) (checksum i.segments ∷ []),
      length-append (head_bytes i ++ flat_map segment_bytes i.segments) gap,
      length-append (head_bytes i) (flat_map segment_bytes i.segments),
    )

pub digest_length : (i : Image) (gap : List ℕ) → i.digest ≡ true → length (digest_bytes i gap) ≡ 32
digest_length i gap e = ap (λ (b : Bool). length (if b then sha256 (summed_bytes i gap) else [])) e ∙ length-sha256 (summed_bytes i gap)

-- the file is what is summed, and the rest
pub file_parts : (i : Image) (gap behind : List ℕ) → file_bytes i gap behind ≡ summed_bytes i gap ++ (digest_bytes i gap ++ behind)
unfolding file_bytes
file_parts i gap behind = append_assoc (summed_bytes i gap) (digest_bytes i gap) behind

pub file_length : (i : Image) (gap behind : List ℕ) → length (file_bytes i gap behind) ≡ length (summed_bytes i gap) + (length (digest_bytes i gap) + length behind)
file_length i gap behind = ap length (file_parts i gap behind) ∙ length-append (summed_bytes i gap) (digest_bytes i gap ++ behind)
    ∙ ap (λ n. length (summed_bytes i gap) + n) (length-append (digest_bytes i gap) behind)

-- ---- the end

-- the checksum is the last of what is summed
sum_at : (front rest : List ℕ) (place sum : ℕ) → length (front ++ sum ∷ []) ≡ place + 1 → slice_index ((front ++ sum ∷ []) ++ rest) place ≡ sum
sum_at front rest place sum len =
    let n : length front ≡ place = omega (arith, length-append front (sum ∷ [])) in
    ap (λ (l : List ℕ). get_or l place 0) (append_assoc front (sum ∷ []) rest) ∙ ap (λ k. get_or (front ++ sum ∷ rest) k 0) (sym n) ∙ get_or-append_seam front sum rest 0

sum_is : (i : Image) (gap behind : List ℕ) → FitsImage i → length gap ≡ gap_length i → slice_index (file_bytes i gap behind) (checksum_place i.segments) ≡ checksum i.segments
unfolding summed_bytes
sum_is i gap behind fits len =
    ap (λ (l : List ℕ). slice_index l (checksum_place i.segments)) (file_parts i gap behind)
    ∙ sum_at ((head_bytes i ++ flat_map segment_bytes i.segments) ++ gap) (digest_bytes i gap ++ behind) (checksum_place i.segments) (checksum i.segments) (summed_length i gap fits len)

-- what stands up to a place, and after it
pub front_of : (front rest : List ℕ) (n : ℕ) → length front ≡ n → take n (front ++ rest) ≡ front
front_of front rest n e = ap (λ k. take k (front ++ rest)) (sym e) ∙ take-append_seam front rest

pub rest_of : (front rest : List ℕ) (n : ℕ) → length front ≡ n → drop n (front ++ rest) ≡ rest
rest_of front rest n e = ap (λ k. drop k (front ++ rest)) (sym e) ∙ drop-append_seam front rest

right_is : (i : Image) (gap behind : List ℕ) → FitsImage i → length gap ≡ gap_length i → right_digest (file_bytes i gap behind) (checksum_place i.segments) ≡ sha256 (summed_bytes i gap)
right_is i gap behind fits len =
    ap sha256 (ap (take (checksum_place i.segments + 1)) (file_parts i gap behind)
    ∙ front_of (summed_bytes i gap) (digest_bytes i gap ++ behind) (checksum_place i.segments + 1) (summed_length i gap fits len))

kept_is : (i : Image) (gap behind : List ℕ) → FitsImage i → length gap ≡ gap_length i → i.digest ≡ true
    → kept_digest (file_bytes i gap behind) (checksum_place i.segments) ≡ sha256 (summed_bytes i gap)
kept_is i gap behind fits len e =
    ap (take 32) (ap (drop (checksum_place i.segments + 1)) (file_parts i gap behind)
    ∙ rest_of (summed_bytes i gap) (digest_bytes i gap ++ behind) (checksum_place i.segments + 1) (summed_length i gap fits len))
    ∙ front_of (digest_bytes i gap) behind 32 (digest_length i gap e)
    ∙ ap (λ (b : Bool). if b then sha256 (summed_bytes i gap) else []) e

equal_bytes : (x y z : List ℕ) → x ≡ z → y ≡ z → not (bytes_eq x y) ≡ false
equal_bytes x y z p q = is_not_false (bytes_eq x y) ((bytes_eq-Decides x y).1 (p ∙ sym q))

end_passes : (i : Image) (gap behind : List ℕ) → FitsImage i → Meets i → length gap ≡ gap_length i
    → first (end_rules (file_bytes i gap behind) (checksum_place i.segments) (checksum i.segments)) ≡ None
end_passes i gap behind fits meets len =
    let bytes = file_bytes i gap behind in
    let place = checksum_place i.segments in
    let size = file_length i gap behind in
    let summed = summed_length i gap fits len in
    let again = file_again i gap behind fits in
    let digest : has_digest bytes ≡ i.digest = ap (λ (x : Image). x.digest) again in
    five_pass _ _ _ _ _ _ _ _ _ _
    (not_at_least (length bytes) place (omega arith))
    (ap (λ n. not (n == checksum i.segments)) (sum_is i gap behind fits len) ∙ is_same (checksum i.segments))
    (only_where (has_digest bytes) i.digest _ digest (λ e. not_below (length bytes) (place + 33) (let d : length (digest_bytes i gap) ≡ 32 = digest_length i gap e in omega arith)))
    (only_where (has_digest bytes) i.digest _ digest (λ e. equal_bytes _ _ _ (kept_is i gap behind fits len e) (right_is i gap behind fits len)))
    (is_not_false _ (ap (λ (x : Image). is_executable (region_of x.entry)) again ∙ meets.entry))

-- ---- the head, and all

small_flag : (digest : Bool) → nat_lt 1 (flag_of digest) ≡ false
small_flag true = refl
small_flag false = refl

head_passes : (i : Image) (bytes : List ℕ) → HeadIs i bytes → 24 ≤ length bytes → Meets i → first (head_rules bytes) ≡ None
head_passes i bytes head long meets =
    five_pass _ _ _ _ _ _ _ _ _ _
    (not_below (length bytes) 24 long)
    (ap (λ n. not (n == 0xE9)) head.magic)
    (ap (λ n. n == 0 || nat_lt 16 n) head.count ∙ in_count (length i.segments) meets.some meets.few)
    (ap (λ n. not (n == 0)) head.chip)
    (ap (λ n. nat_lt 1 n) head.flag ∙ small_flag i.digest)

pub accepts : (i : Image) (gap behind : List ℕ) → FitsImage i → Meets i → length gap ≡ gap_length i → image_fault (file_bytes i gap behind) ≡ None
unfolding image_fault
accepts i gap behind fits meets len =
    let bytes = file_bytes i gap behind in
    let head = file_head i gap behind fits in
    let again : segments_in bytes ≡ i.segments = ap (λ (x : Image). x.segments) (file_again i gap behind fits) in
    let long : 24 ≤ length bytes = (let size = file_length i gap behind in let summed = summed_length i gap fits len in omega arith) in
    let segments : first (segment_rules (slice_index bytes 1) (segments_in bytes)) ≡ None =
    ap₂ (λ n ss. first (segment_rules n ss)) head.count again ∙ meets.segments in
    let ends : first (end_rules bytes (checksum_place (segments_in bytes)) (checksum (segments_in bytes))) ≡ None =
    ap (λ ss. first (end_rules bytes (checksum_place ss) (checksum ss))) again ∙ end_passes i gap behind fits meets len in
    none_in (head_rules bytes) (segment_rules (slice_index bytes 1) (segments_in bytes) ++ end_rules bytes (checksum_place (segments_in bytes)) (checksum (segments_in bytes)))
    (head_passes i bytes head long meets)
    (none_in (segment_rules (slice_index bytes 1) (segments_in bytes)) (end_rules bytes (checksum_place (segments_in bytes)) (checksum (segments_in bytes))) segments ends)
