-- Carries a proof; nothing that a reader must believe.
-- The tables that the code keeps, and what they say of each address.
use Rattle.std.specs.Prelude.{◌≡◌, ◌↔◌, ℕ, ◌+◌, ◌-◌, Bool, true, false, ◌&&◌, ◌||◌}
use Rattle.std.specs.Prelude.{not, nat_le, nat_lt, if◌then◌else◌, Option, Some, None, List}
use Rattle.std.specs.Prelude.{◌++◌, length, slice_index_or, slice_set, is_some, replicate}
use Rattle.xt_map.specs.declared.segment.Segment.{Segment}
use Rattle.xt_image.specs.declared.image.Image.{Image}
use Rattle.xt_flow.specs.Following.{code_from, goes_to, insn_at, length_at, literal_at}
use Rattle.xt_flow.specs.Printing.{Marks}
use Rattle.xt_flow.specs.Sources.{Reading, flow_reading, plain_reading}
use Rattle.xt_flow.specs.Starts.{IsRead, Starts}
use Rattle.xt_flow.specs.declared.visits.Visited.{Visited}

-- ---- a table: a truth value for each address from the first executable one to the last

abbrev pub first_place : ℕ
first_place = 0x40070000

abbrev pub table_size : ℕ
table_size = 0x390000

-- whether an address is marked in a table
unfoldable pub is_marked : List Bool → ℕ → Bool
is_marked table a = nat_le first_place a && slice_index_or table (a - first_place) false

-- the table with a mark at an address
unfoldable pub with_mark : List Bool → ℕ → List Bool
with_mark table a =
    if nat_le first_place a then slice_set table (a - first_place) true else table

-- no mark, for so many addresses
unfoldable pub no_marks : ℕ → List Bool
no_marks n = replicate n false

-- ---- one address followed

-- whether an address is to be followed: an instruction lies there that has no mark yet
abbrev pub is_new : List Segment → List Bool → ℕ → Bool
is_new segments starts a = not (is_marked starts a) && is_some (insn_at segments a)

-- whether a segment has code at an address
abbrev pub is_in_code : List Segment → ℕ → Bool
is_in_code segments a = nat_lt 0 (length (code_from segments a))

-- the table of what is read, with a mark at a word in code
abbrev pub with_word : List Segment → List Bool → Option ℕ → List Bool
with_word segments reads None = reads
with_word segments reads (Some w) =
    if is_in_code segments w then with_mark reads w else reads

abbrev pub starts_after : List Segment → List Bool → ℕ → List Bool
starts_after segments starts a =
    if is_new segments starts a then with_mark starts a else starts

abbrev pub reads_after : List Segment → List Bool → List Bool → ℕ → List Bool
reads_after segments starts reads a =
    if is_new segments starts a then with_word segments reads (literal_at segments a) else reads

abbrev pub pending_after : List Segment → List Bool → List ℕ → ℕ → List ℕ
pending_after segments starts pending a =
    if is_new segments starts a then pending ++ goes_to segments a else pending

-- ---- all of them

-- the tables mark what starts, and what is read
pub record IsVisited
    (image : Image) (vecbase entry1 : ℕ) (roots : List ℕ) (starts reads : List Bool) : Type 0 where
  pub started : (a : ℕ) → (is_marked starts a ≡ true) ↔ Starts image vecbase entry1 roots a
  pub read : (w : ℕ) → (is_marked reads w ≡ true) ↔ IsRead image vecbase entry1 roots w

-- ---- the marks of two tables

-- whether an instruction of three bytes lies at an address
abbrev pub is_long : List Segment → ℕ → Bool
is_long segments a = is_some (insn_at segments a) && nat_lt 2 (length_at segments a)

-- whether an instruction that starts before an address reaches it
abbrev pub is_reached : List Segment → List Bool → ℕ → Bool
is_reached segments starts a =
    is_marked starts (a - 1) || (is_marked starts (a - 2) && is_long segments (a - 2))

-- whether an instruction starts in the four bytes at an address
abbrev pub starts_within : List Bool → ℕ → Bool
starts_within starts a =
    is_marked starts a || (is_marked starts (a + 1)
    || (is_marked starts (a + 2) || is_marked starts (a + 3)))

unfoldable pub is_free : List Segment → List Bool → ℕ → Bool
is_free segments starts a = not (is_reached segments starts a) && not (starts_within starts a)

abbrev pub marks_of : List Segment → List Bool → List Bool → Marks
marks_of segments starts reads = record {
  starts = λ a. is_marked starts a;
  words = λ a. is_marked reads a && is_free segments starts a;
}

-- how the code is read by what a walk has found, or by none
abbrev pub code_reading : List Segment → Option Visited → Reading
code_reading segments None = plain_reading
code_reading segments (Some v) = flow_reading (marks_of segments v.starts.items v.reads.items)
