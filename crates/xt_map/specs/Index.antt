-- Carries a proof; nothing that a reader must believe.
-- How the contents of the constant regions are found: by a list of where segments start, in
-- the order of the addresses.
use Rattle.std.specs.Prelude.{◌≡◌, ℕ, ◌<◌, ◌≤◌, Bool, true, ◌&&◌, nat_lt, List, length}
use Rattle.std.specs.Prelude.{slice_index_or, All}
use Rattle.std.specs.List.{Contains}
use Rattle.std.specs.List.Sorted.{IsNonDecreasingBy}
use Rattle.xt_map.specs.declared.segment.Segment.{Segment}
use Rattle.xt_map.specs.declared.constants.Start.{Start}
use Rattle.xt_map.specs.Memory.{is_loaded}
use Rattle.xt_map.specs.Placing.{IsPlaced}

-- a segment that puts bytes somewhere
abbrev pub has_bytes : Segment → Bool
has_bytes s = is_loaded s && nat_lt 0 (length s.bytes)

-- where the segment with this number starts
abbrev pub start_of : Segment → ℕ → Start
start_of s number = record { addr = s.addr; number = number }

-- it names a segment of the list that has bytes, and says where that starts
pub record IsStart (segments : List Segment) (start : Start) : Type 0 where
  pub number : start.number < length segments
  pub loaded : (d : Segment) → has_bytes (slice_index_or segments start.number d) ≡ true
  pub addr : (d : Segment) → start.addr ≡ (slice_index_or segments start.number d).addr

-- each start is one of a segment with bytes, and each of the first n segments that has
-- bytes has its start there
pub record HasStarts (segments : List Segment) (n : ℕ) (starts : List Start) : Type 0 where
  pub sound : All (IsStart segments) starts
  pub complete : (k : ℕ) (d : Segment) → k < n → has_bytes (slice_index_or segments k d) ≡ true
      → Contains starts (start_of (slice_index_or segments k d) k)

-- segments that stand apart, and all their starts in the order of the addresses
pub record IsIndexed (segments : List Segment) (starts : List Start) : Type 0 where
  pub placed : IsPlaced segments
  pub has_starts : HasStarts segments (length segments) starts
  pub ascending : IsNonDecreasingBy (λ (s : Start). s.addr) starts

-- so many of the starts, from the first on, have an address up to this one, and the others have not
pub record IsCountUpto (starts : List Start) (addr count : ℕ) : Type 0 where
  pub bound : count ≤ length starts
  pub upto : (k : ℕ) (d : Start) → k < count → (slice_index_or starts k d).addr ≤ addr
  pub above :
      (k : ℕ) (d : Start) → count ≤ k → k < length starts → addr < (slice_index_or starts k d).addr
