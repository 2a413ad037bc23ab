-- Marks ('profile'). In an interrupt in the middle of a window handler the machine with unbounded
-- frames does not know what a0 to a3 hold: it is the handler's. A mark stands there: one of 0 to 3,
-- for what the visible register of that number held in the handler. RSR, WSR and XSR move marks
-- between a0 to a3 and some special registers, and nothing else can be done with one. Marks are a
-- list beside the numbers of the 16 registers, and one beside those of the special registers. Where
-- a mark stands, there is no number.
unfoldable pub use Rattle.xt_rows.specs.Kinds.{moved_to}
use Rattle.std.specs.Prelude.{ℕ, Bool, false, ◌==◌, ◌&&◌, ◌||◌, nat_lt, nat_le, Option, Some}
use Rattle.std.specs.Prelude.{None, List, ◌∷◌, is_some, replicate, slice_index_or}
use Rattle.std.specs.Prelude.{slice_set}
use Rattle.xt_isa.specs.declared.Insn.{Insn}
use Rattle.xt_isa.specs.declared.Insn.TheVariants as insn
use Rattle.xt_isa.specs.declared.system.System.TheVariants as system
use Rattle.xt_isa.specs.declared.system.SpecialName.TheVariants as SpecialName
use Rattle.xt_special.specs.Numbers as number
use Rattle.xt_trace.specs.declared.record.RegWrite.{RegWrite}

-- ---- where they stand

-- as the interrupt begins: in each of a0 to a3 its own
abbrev pub own_marks : List (Option ℕ)
own_marks = Some 0 ∷ Some 1 ∷ Some 2 ∷ Some 3 ∷ replicate 12 None

-- EXCSAVE1 to EXCSAVE7 and MISC0 to MISC3
abbrev pub holds_marks : ℕ → Bool
holds_marks n =
    (nat_le (number.excsave 1) n && nat_le n (number.excsave 7))
    || (nat_le (number.misc 0) n && nat_le n (number.misc 3))

-- RSR, WSR and XSR between a0 to a3 and these
unfoldable pub moves_marks : Insn → Bool
moves_marks (insn.System (system.Special name t n)) = nat_lt t 4 && holds_marks n
moves_marks _ = false

abbrev pub is_mark : ℕ → Option ℕ → Bool
is_mark k None = false
is_mark k (Some mark) = mark == k

abbrev pub are_own_marks : List (Option ℕ) → Bool
are_own_marks marks =
    is_mark 0 (slice_index_or marks 0 None)
    && (is_mark 1 (slice_index_or marks 1 None)
    && (is_mark 2 (slice_index_or marks 2 None)
    && is_mark 3 (slice_index_or marks 3 None)))

-- ---- a visible register that is written

-- the mark of the special register that RSR or XSR reads
unfoldable pub mark_read : Insn → List (Option ℕ) → Option ℕ
mark_read (insn.System (system.Special SpecialName.Rsr t n)) saved = slice_index_or saved n None
mark_read (insn.System (system.Special SpecialName.Xsr t n)) saved = slice_index_or saved n None
mark_read _ saved = None

-- A visible register that is written receives this mark, or where there is none a number. The value
-- of a mark in the record is an input.
abbrev pub marked_write : Option ℕ → ℕ → Option RegWrite → Option RegWrite
marked_write (Some mark) value (Some w) = Some (record w { value = value })
marked_write _ value write = write

abbrev pub marked_seen : Option ℕ → Option RegWrite → List (Option ℕ) → List (Option ℕ)
marked_seen (Some mark) (Some w) seen = slice_set seen w.reg None
marked_seen _ write seen = seen

abbrev pub marks_after : Option ℕ → Option RegWrite → List (Option ℕ) → List (Option ℕ)
marks_after mark None marks = marks
marks_after mark (Some w) marks = slice_set marks w.reg mark

-- ---- a special register that is written

-- the special register receives what the visible one holds: a number, or in a nested interrupt a
-- mark
abbrev pub unset_by : Option (ℕ × ℕ) → List (Option ℕ) → List Bool → List Bool
unset_by None marks unset = unset
unset_by (Some p) marks unset = slice_set unset p.1 (is_some (slice_index_or marks p.0 None))

abbrev pub unset_written : Insn → List (Option ℕ) → List Bool → List Bool
unset_written i marks unset = unset_by (moved_to i) marks unset

-- and its mark, if it is one
abbrev pub saved_by : Option (ℕ × ℕ) → List (Option ℕ) → List (Option ℕ) → List (Option ℕ)
saved_by None marks saved = saved
saved_by (Some p) marks saved = slice_set saved p.1 (slice_index_or marks p.0 None)
