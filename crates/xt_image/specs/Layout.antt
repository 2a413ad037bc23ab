-- An image file as a concatenation: a head of 24 bytes, the segments, and what follows them
-- (esptool's image format, little-endian).
use Rattle.std.specs.Prelude.{ℕ, zero, suc, ◌+◌, ◌-◌, ◌%◌, ◌++◌, List, [], ◌∷◌, length, take, drop}
use Rattle.std.specs.Prelude.{slice_index, Option, Some, None, if◌then◌else◌, nat_le, ◌&&◌}
use Rattle.std.specs.Option.{option_map_or}
use Rattle.std.specs.List.{flat_map}
use Rattle.std.specs.Int.{w16, w32, from_le_bytes, to_le_bytes}
use Rattle.xt_map.specs.declared.segment.Segment.{Segment}

-- the number in the two bytes at a place, and in the four
abbrev pub half_at : List ℕ → ℕ → ℕ
half_at bytes place = from_le_bytes w16 (take 2 (drop place bytes))

unfoldable pub word_at : List ℕ → ℕ → ℕ
word_at bytes place = from_le_bytes w32 (take 4 (drop place bytes))

-- a segment as it stands in a file: its address, its length and its bytes
abbrev pub segment_bytes : Segment → List ℕ
segment_bytes s = to_le_bytes w32 s.addr ++ to_le_bytes w32 (length s.bytes) ++ s.bytes

-- the segment that stands at the front, where a whole one does, and what follows it
unfoldable pub front : List ℕ → Option (Segment × List ℕ)
front bytes = if nat_le 8 (length bytes) && nat_le (word_at bytes 4) (length bytes - 8)
    then Some (
      record { addr = word_at bytes 0; bytes = take (word_at bytes 4) (drop 8 bytes) },
      drop (word_at bytes 4) (drop 8 bytes),
    ) else None

-- the whole segments that stand one after another at the front, at most n
unfoldable pub segments_at : ℕ → List ℕ → List Segment
segments_at zero bytes = []
segments_at (suc n) bytes = option_map_or (λ x. x.0 ∷ segments_at n x.1) (front bytes) []

-- the whole segments of a file: byte 1 is how many there should be
abbrev pub segments_in : List ℕ → List Segment
segments_in bytes = segments_at (slice_index bytes 1) (drop 24 bytes)

-- the place after the last segment
abbrev pub end_of : List Segment → ℕ
end_of segments = 24 + length (flat_map segment_bytes segments)

-- the place of the checksum: the least one from there on with 15 as its last four bits
abbrev pub checksum_place : List Segment → ℕ
checksum_place segments = end_of segments + (15 - end_of segments % 16)
