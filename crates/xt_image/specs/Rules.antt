-- The rules of an image (esptool's image format), in their order, each by itself: what is wrong by
-- this rule, or nothing. The order of the rules, the names of the faults, and the regions that they
-- allow are this project's own choice ('profile').
--
-- Profile: the order of the rules, the names of the faults, the regions that they allow, and the
-- head of an image that is made here (`made_head`). Any bytes after the end are accepted, since a
-- signature may follow an image.
-- Note: the entry is judged last, after checksum and digest. `segments_in` are the segments that
-- stand whole, so rule 6 compares their number with byte 1. `IsWellFormed` speaks of the image's
-- written file, not of the file that was read.
use Rattle.std.specs.Prelude.{ℕ, ◌+◌, ◌%◌, ◌++◌, Bool, List, [], ◌∷◌, length, take, drop}
use Rattle.std.specs.Prelude.{slice_index, Option, ◌==◌, ◌&&◌, ◌||◌, not, nat_le, nat_lt, fold}
use Rattle.std.specs.Prelude.{bit_xor, option_map}
use Rattle.std.specs.List.{flat_map, position}
use Rattle.std.specs.Str.{bytes_eq}
use Rattle.sha2.specs.Sha256.{sha256}
use Rattle.xt_map.specs.declared.segment.Segment.{Segment}
use Rattle.xt_map.specs.Regions.{region_of, is_executable}
use Rattle.xt_map.specs.Placing.{is_well_placed, do_overlap}
use Rattle.xt_image.specs.Findings.{fails, first, first_pair}
use Rattle.xt_image.specs.Layout.{half_at, word_at, segments_in, checksum_place}
use Rattle.xt_image.specs.declared.fault.ImageFault.{ImageFault}
use Rattle.xt_image.specs.declared.fault.ImageFault.TheVariants.{Short, Magic, Count, Chip}
use Rattle.xt_image.specs.declared.fault.ImageFault.TheVariants.{DigestFlag, SegmentEnd}
use Rattle.xt_image.specs.declared.fault.ImageFault.TheVariants.{SegmentLength, SegmentPlace}
use Rattle.xt_image.specs.declared.fault.ImageFault.TheVariants.{SegmentOverlap, NoChecksum}
use Rattle.xt_image.specs.declared.fault.ImageFault.TheVariants.{Checksum, NoDigest, Digest, Entry}

abbrev pub Finding : Type 0
Finding = Option ImageFault

-- ---- the head

abbrev pub head_rules : List ℕ → List Finding
head_rules bytes =
    fails (nat_lt (length bytes) 24) Short
    ∷ fails (not (slice_index bytes 0 == 0xE9)) (Magic (slice_index bytes 0))
    ∷ fails (slice_index bytes 1 == 0 || nat_lt 16 (slice_index bytes 1))
    (Count (slice_index bytes 1))
    ∷ fails (not (half_at bytes 12 == 0)) (Chip (half_at bytes 12))
    ∷ fails (nat_lt 1 (slice_index bytes 23)) (DigestFlag (slice_index bytes 23)) ∷ []

-- ---- the segments

-- the length is no multiple of 4
abbrev pub is_uneven : Segment → Bool
is_uneven s = not (length s.bytes % 4 == 0)

abbrev pub is_misplaced : Segment → Bool
is_misplaced s = not (is_well_placed s)

-- the first segment that shares a byte with one of those before it, and the first such one
abbrev pub first_overlap : List Segment → List Segment → Finding
first_overlap = first_pair do_overlap SegmentOverlap

-- so many segments should stand in the file, and these stand there whole
abbrev pub segment_rules : ℕ → List Segment → List Finding
segment_rules count segments =
    fails (nat_lt (length segments) count) (SegmentEnd (length segments))
    ∷ option_map SegmentLength (position is_uneven segments)
    ∷ option_map SegmentPlace (position is_misplaced segments)
    ∷ first_overlap [] segments ∷ []

-- ---- the end

-- EF xor all segment bytes
abbrev pub checksum : List Segment → ℕ
checksum segments = fold bit_xor 0xEF (flat_map (λ s. s.bytes) segments)

abbrev pub has_digest : List ℕ → Bool
has_digest bytes = slice_index bytes 23 == 1

-- the digest that stands after a place, and the one of all bytes up to it
abbrev pub kept_digest : List ℕ → ℕ → List ℕ
kept_digest bytes place = take 32 (drop (place + 1) bytes)

abbrev pub right_digest : List ℕ → ℕ → List ℕ
right_digest bytes place = sha256 (take (place + 1) bytes)

-- the checksum stands at this place and should be this sum
abbrev pub end_rules : List ℕ → ℕ → ℕ → List Finding
end_rules bytes place sum =
    fails (nat_le (length bytes) place) NoChecksum
    ∷ fails (not (slice_index bytes place == sum)) (Checksum (slice_index bytes place) sum)
    ∷ fails (has_digest bytes && nat_lt (length bytes) (place + 33)) NoDigest
    ∷ fails
    (has_digest bytes && not (bytes_eq (kept_digest bytes place) (right_digest bytes place)))
    (Digest (kept_digest bytes place) (right_digest bytes place))
    ∷ fails (not (is_executable (region_of (word_at bytes 4)))) (Entry (word_at bytes 4)) ∷ []

-- ---- all of them

-- the first rule that fails
unfoldable pub image_fault : List ℕ → Finding
image_fault bytes = first (head_rules bytes
    ++ (segment_rules (slice_index bytes 1) (segments_in bytes)
    ++ end_rules bytes (checksum_place (segments_in bytes)) (checksum (segments_in bytes))))
