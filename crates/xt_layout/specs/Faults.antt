-- The faults of a text that its layout shows: kinds 4, 5, 6 and 7, and a seventeenth segment
-- (kind 2) ('profile').
use Rattle.std.specs.Prelude.{All, ℕ, ◌+◌, ◌-◌, ◌%◌, ◌==◌, Bool, true, false, not, ◌&&◌, ◌||◌}
use Rattle.std.specs.Prelude.{nat_le, nat_lt, ℤ, pos, List, [], ◌∷◌, ◌++◌, length, map, take}
use Rattle.std.specs.Prelude.{count_by, slice_get, Option, Some, None, if◌then◌else◌}
use Rattle.std.specs.Option.{option_map_or}
use Rattle.std.specs.List.{list_any}
use Rattle.std.specs.Str.{bytes_eq}
use Rattle.xt_lex.specs.declared.name.Name.{Name}
use Rattle.xt_map.specs.Placing.{is_device}
use Rattle.xt_map.specs.Regions.{Range, ranges, holds}
use Rattle.xt_lex.specs.declared.labels.Label.{Label}
use Rattle.xt_lex.specs.Values.{HaveAddresses, IsAddress}
use Rattle.xt_parse.specs.declared.line.Line.{Line}
use Rattle.xt_parse.specs.declared.line.Placed.{Placed}
use Rattle.xt_parse.specs.declared.statement.Statement.{Statement}
use Rattle.xt_parse.specs.declared.statement.Statement.TheVariants.{Empty, Seg, Entry, Words, Shorts}
use Rattle.xt_layout.specs.declared.word.PoolWord.{PoolWord}
use Rattle.xt_layout.specs.Around.{each}
use Rattle.xt_layout.specs.Findings.{Finding, at_statement, fails, first}
use Rattle.xt_layout.specs.Pools.{is_segment, words_of}
use Rattle.xt_layout.specs.declared.spot.Span.{Span}
use Rattle.xt_layout.specs.declared.spot.Spot.{Spot}
use Rattle.xt_layout.specs.Sizes.{padding, pool_size, size}
use Rattle.xt_layout.specs.Spots.{spot_at, address}
use Rattle.xt_layout.specs.Addresses.{label_name, literal_name, line_addresses, word_addresses}
use Rattle.xt_layout.specs.Addresses.{labels_of}
use Rattle.xt_layout.specs.Spans.{span, meet, spans_of}

-- ---- 4, Twice

-- the names that a line defines: its label, and the name of a `.literal`
abbrev pub names_at : Line → List Placed
names_at l = label_name l.label ++ literal_name l.statement

-- lines define the name
abbrev pub defines : List Line → Name → Bool
defines before name =
    list_any (λ l. list_any (λ (p : Placed). bytes_eq p.name name) (names_at l)) before

abbrev pub is_entry : Statement → Bool
is_entry (Entry value) = true
is_entry _ = false

-- the first of some names of a line that earlier lines define; `defined` tells which they define
abbrev pub again : (Name → Bool) → Line → List Placed → Finding
again defined l [] = None
again defined l (p ∷ rest) =
    if defined p.name then Some (record { line = l.number; column = p.column; kind = 4 })
    else again defined l rest

-- a name that an earlier line defines, the label first, else a second `.entry`
abbrev pub twice : (Name → Bool) → Bool → Line → Finding
twice defined has_entry l =
    first (again defined l (label_name l.label) ∷ again defined l (literal_name l.statement)
    ∷ fails (is_entry l.statement && has_entry) (at_statement l 4) ∷ [])

abbrev pub has_entry : List Line → Bool
has_entry before = list_any (λ l. is_entry l.statement) before

-- ---- 2, Range: a seventeenth segment

abbrev pub segments_in : List Line → ℕ
segments_in before = count_by (λ l. is_segment l.statement) before

abbrev pub is_too_many : ℕ → Line → Finding
is_too_many before l = fails (is_segment l.statement && nat_le 16 before) (at_statement l 2)

-- ---- 5, Misaligned: a `.seg` or a `.word` at an address that is no multiple of 4, or a `.short`
-- at one that is no multiple of 2

-- the number of which a statement's address has to be a multiple
abbrev pub wanted_multiple : Statement → ℕ
wanted_multiple (Seg start) = 4
wanted_multiple (Words values) = 4
wanted_multiple (Shorts values) = 2
wanted_multiple _ = 1

abbrev pub is_misaligned : Option Spot → Line → Finding
is_misaligned here l =
    fails (not (address here % wanted_multiple l.statement == 0)) (at_statement l 5)

-- ---- 6, OutOfMap: bytes outside the region of the segment's start

abbrev pub is_empty : Statement → Bool
is_empty Empty = true
is_empty _ = false

-- no statement follows in the segment
abbrev pub is_last : List Line → Bool
is_last [] = true
is_last (l ∷ rest) = is_segment l.statement || (is_empty l.statement && is_last rest)

-- the bytes of a statement at a spot; the zeros that pad the segment count to its last statement
abbrev pub bytes_at : ℕ → Spot → Statement → Bool → Span
bytes_at pool p s last =
    let end = p.at + size pool p.at s in
    span p.at (if (not (is_empty s) && last) then end + padding 4 (end - p.start) else end)

-- bytes between two addresses
abbrev pub within : ℕ → ℕ → Span → Bool
within first last bytes = nat_le first bytes.start && nat_le bytes.end (last + 1)

-- the bytes lie in the first of these ranges that holds a segment's start; UART0 takes none
abbrev pub lies_in : List Range → ℕ → Span → Bool
lies_in [] start bytes = false
lies_in (r ∷ rest) start bytes =
    if holds r start then not (is_device r.region) && within r.first r.last bytes
    else lies_in rest start bytes

-- the bytes lie in the region of a segment's start
unfoldable pub is_in_place : ℕ → Span → Bool
is_in_place start bytes = lies_in ranges start bytes

abbrev pub leaves : ℕ → Span → Bool
leaves start bytes = nat_lt bytes.start bytes.end && not (is_in_place start bytes)

abbrev pub is_outside : ℕ → Option Spot → Line → Bool → Finding
is_outside pool None l last = None
is_outside pool (Some p) l last =
    fails (leaves p.start (bytes_at pool p l.statement last)) (at_statement l 6)

-- ---- 7, Overlap: at a `.seg`, the segment shares an address with an earlier one; n stand before

abbrev pub overlaps : List Span → ℕ → Line → Finding
overlaps spans n l =
    fails (is_segment l.statement
    && option_map_or (λ own. list_any (meet own) (take n spans)) (slice_get spans n) false)
    (at_statement l 7)

-- ---- the first of them

-- the faults of a line, in the order of the kinds
abbrev pub layout_faults : List PoolWord → List Span → List Line → Line → List Line → List Finding
layout_faults words spans before l rest =
    let here = spot_at words before l in
    twice (defines before) (has_entry before) l
    ∷ is_too_many (segments_in before) l
    ∷ is_misaligned here l
    ∷ is_outside (pool_size words (length before)) here l (is_last rest)
    ∷ overlaps spans (segments_in before) l ∷ []

unfoldable pub layout_fault : List Line → Finding
layout_fault lines =
    first (each
    (λ before l rest. first (layout_faults (words_of lines) (spans_of lines) before l rest)) lines)

-- ---- the layout of a text

pub record Layout : Type 0 where
  pub lines : List ℤ
  pub words : List ℤ
  pub labels : List Label
  pub fault : Finding

abbrev pub layout_of : List Line → Layout
layout_of lines = record {
  lines = map pos (line_addresses lines);
  words = map pos (word_addresses lines);
  labels = labels_of lines;
  fault = layout_fault lines;
}

-- each address is a whole number from 0 to 2^40 - 1
pub record HasAddresses (l : Layout) : Type 0 where
  pub lines : All IsAddress l.lines
  pub words : All IsAddress l.words
  pub labels : HaveAddresses l.labels
