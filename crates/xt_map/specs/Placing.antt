-- Where the segments of an image may stand. That a loaded segment lies in one region, and that no
-- two share a byte, is this project's own choice ('profile').
--
-- Profile: a loaded segment lies whole in one region other than UART0, and no two share a byte, so
-- that no byte depends on the order of segments.
use Rattle.std.specs.Prelude.{◌≡◌, ℕ, ◌+◌, ◌<◌, Bool, true, false, ◌==◌, ◌&&◌, ◌||◌, not, nat_le}
use Rattle.std.specs.Prelude.{nat_lt, min, max, List, length, slice_index_or, All}
use Rattle.std.specs.List.{list_any}
use Rattle.xt_map.specs.declared.regions.Region.{Region}
use Rattle.xt_map.specs.declared.regions.Region.TheVariants.{Uart}
use Rattle.xt_map.specs.declared.segment.Segment.{Segment}
use Rattle.xt_map.specs.Regions.{Range, ranges}
use Rattle.xt_map.specs.Memory.{is_loaded}

abbrev pub is_device : Region → Bool
is_device Uart = true
is_device _ = false

-- the address after the last byte
abbrev pub end_of_segment : Segment → ℕ
end_of_segment s = s.addr + length s.bytes

-- all bytes of the segment lie in this range of addresses, and it is no device
abbrev pub takes : Segment → Range → Bool
takes s r =
    not (is_device r.region) && (nat_le r.first s.addr && nat_le (end_of_segment s) (r.last + 1))

-- a segment that is not loaded or has no byte may stand anywhere; any other
-- lies in one region whole
abbrev pub is_well_placed : Segment → Bool
is_well_placed s = not (is_loaded s) || (length s.bytes == 0 || list_any (takes s) ranges)

-- both are loaded, and the later of their first addresses lies before the earlier of their ends
abbrev pub do_overlap : Segment → Segment → Bool
do_overlap s t =
    (is_loaded s && is_loaded t)
    && nat_lt (max s.addr t.addr) (min (end_of_segment s) (end_of_segment t))

-- each segment is well placed, and no two share a byte
pub record IsPlaced (segments : List Segment) : Type 0 where
  pub placed : All (λ s. is_well_placed s ≡ true) segments
  pub apart : (i j : ℕ) (d : Segment) → i < j → j < length segments
      → do_overlap (slice_index_or segments i d) (slice_index_or segments j d) ≡ false
