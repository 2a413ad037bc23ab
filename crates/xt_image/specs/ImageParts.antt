-- An image as a file: its parts joined (esptool's image format, little-endian).
use Rattle.std.specs.Prelude.{ℕ, ◌-◌, ◌%◌, ◌≤◌, ◌<◌, ◌^◌, ◌++◌, ◌∷◌, [], Bool, List, length}
use Rattle.std.specs.Prelude.{replicate, if◌then◌else◌, true, None, ◌≡◌, All}
use Rattle.std.specs.List.{flat_map}
use Rattle.std.specs.Int.{w16, w32, to_le_bytes}
use Rattle.sha2.specs.Sha256.{sha256}
use Rattle.xt_map.specs.declared.segment.Segment.{Segment}
use Rattle.xt_map.specs.Placing.{IsPlaced}
use Rattle.xt_map.specs.Regions.{is_executable, region_of}
use Rattle.xt_image.specs.Layout.{end_of, segment_bytes}
use Rattle.xt_image.specs.Rules.{checksum, image_fault}
use Rattle.xt_image.specs.declared.image.Image.{Image}

abbrev pub flag_of : Bool → ℕ
flag_of digest = if digest then 1 else 0

-- the 24 bytes of the head; the chip id is 0
unfoldable pub head_bytes : Image → List ℕ
head_bytes i = 0xE9 ∷ length i.segments ∷ i.head.mode ∷ i.head.size_freq ∷ []
    ++ to_le_bytes w32 i.entry
    ++ i.head.wp_pin ∷ []
    ++ i.head.drive
    ++ to_le_bytes w16 0
    ++ i.head.min_rev_old ∷ []
    ++ to_le_bytes w16 i.head.min_rev
    ++ to_le_bytes w16 i.head.max_rev
    ++ i.head.reserved
    ++ flag_of i.digest ∷ []

-- how many bytes stand between the last segment and the checksum, so that its place has
-- 15 as its last four bits
abbrev pub gap_length : Image → ℕ
gap_length i = 15 - end_of i.segments % 16

-- the head, the segments, what stands in the gap, and the checksum
unfoldable pub summed_bytes : Image → List ℕ → List ℕ
summed_bytes i gap =
    head_bytes i ++ flat_map segment_bytes i.segments ++ gap ++ checksum i.segments ∷ []

-- the digest of all of that, where the image has one
abbrev pub digest_bytes : Image → List ℕ → List ℕ
digest_bytes i gap = if i.digest then sha256 (summed_bytes i gap) else []

-- the image's file with these bytes in the gap and these after its end
unfoldable pub file_bytes : Image → List ℕ → List ℕ → List ℕ
file_bytes i gap behind = summed_bytes i gap ++ digest_bytes i gap ++ behind

-- a file of the image: its parts joined, with anything in the gap and after the end
pub record IsFileOf (i : Image) (bytes : List ℕ) : Type 0 where
  pub gap : List ℕ
  pub behind : List ℕ
  pub gap_fits : length gap ≡ gap_length i
  pub joined : bytes ≡ file_bytes i gap behind

-- the image as it is written: zeros in the gap and nothing after the end
unfoldable pub image_bytes : Image → List ℕ
image_bytes i = file_bytes i (replicate (gap_length i) 0) []

-- ---- well-formed images

-- the numbers of an image are in the ranges of their types
pub record FitsSegment (s : Segment) : Type 0 where
  pub addr : s.addr < 2 ^ 32
  pub len : length s.bytes < 2 ^ 32
  pub bytes : All (λ b. b < 256) s.bytes

pub record FitsImage (i : Image) : Type 0 where
  pub entry : i.entry < 2 ^ 32
  pub min_rev : i.head.min_rev < 2 ^ 16
  pub max_rev : i.head.max_rev < 2 ^ 16
  pub drive : length i.head.drive ≡ 3
  pub reserved : length i.head.reserved ≡ 4
  pub segments : All FitsSegment i.segments

-- what the rules ask of an image, said without its file
pub record MeetsRules (i : Image) : Type 0 where
  pub some : 0 < length i.segments
  pub few : length i.segments ≤ 16
  pub whole_words : All (λ s. length s.bytes % 4 ≡ 0) i.segments
  pub placed : IsPlaced i.segments
  pub entry : is_executable (region_of i.entry) ≡ true

-- an image with a file that no rule refuses
pub record IsWellFormed (i : Image) : Type 0 where
  pub fits : FitsImage i
  pub few : length i.segments ≤ 16
  pub no_fault : image_fault (image_bytes i) ≡ None
  pub short : length (image_bytes i) ≤ 8388608
