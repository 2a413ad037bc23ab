-- What `trace --frames` appends to the line of a turn ('profile'): what the judge knows of the
-- frames of the turn's core after it.
--
-- Note: `known_at` of the next position has nothing from the turn with the breach on, so its line
-- is the first with `no frames`. In a nested interrupt the frame and its registers are those that are
-- kept, and the marks are those of the interrupt.
use Rattle.std.specs.Prelude.{◌≡◌, ℕ, ◌+◌, ◌-◌, ◌*◌, ◌==◌, if◌then◌else◌, Option, Some, None}
use Rattle.std.specs.Prelude.{Result, Ok, Err, List, [], ◌∷◌, ◌++◌, codes, is_some, length}
use Rattle.std.specs.Prelude.{slice_get, slice_index_or, take}
use Rattle.std.specs.Fmt.{decimal}
use Rattle.std.specs.List.{flat_map, range_with_len}
use Rattle.std.specs.Option.{option_map_or}
use Rattle.xt_word.specs.Hexadecimal.{hex8}
use Rattle.xt_trace.specs.declared.run.Run.{Run}
use Rattle.xt_image.specs.declared.image.Image.{Image}
use Rattle.xt_core.specs.Positions.{schedule_in}
use Rattle.xt_frames.specs.Frames.{Frame, FrameState, value_or_zero}
use Rattle.xt_frames.specs.Nesting.{mark_in}
use Rattle.xt_frames.specs.SaveAreas.{before}
use Rattle.xt_debug.specs.Calls.{stack_end}
use Rattle.xt_debug.specs.Depths.{frame_at}

-- ---- the save areas of the newest call

-- the first byte of an area, and how many there are
abbrev pub area_text : ℕ → ℕ → List ℕ
area_text from size = hex8 from ++ codes "+" ++ decimal size

abbrev pub both_text : ℕ → ℕ → ℕ → List ℕ
both_text low high size =
    codes " areas " ++ area_text low 16 ++ codes " " ++ area_text high size

-- the 16 bytes below the callee's stack pointer, and those that end 16 below the stack pointer of
-- the caller's caller, or below the end of the stack
abbrev pub areas_text : ℕ → ℕ → List Frame → List ℕ
areas_text hi sp [] = []
areas_text hi sp (f ∷ fs) = both_text (sp - 16) (before hi fs - 16 * f.by) (16 * (f.by - 1))

-- ---- the registers a0 to a15

abbrev pub registers : List ℕ
registers = range_with_len 0 16

-- ` R` for one that has no value
abbrev pub unset_text : FrameState → ℕ → List ℕ
unset_text f i = if is_some (slice_index_or f.seen i None) then [] else codes " " ++ decimal i

-- ` R:K` for one that holds mark K
abbrev pub mark_text : FrameState → ℕ → List ℕ
mark_text f i =
    option_map_or
    (λ k. codes " " ++ decimal i ++ codes ":" ++ decimal k)
    (mark_in f.nested i)
    []

-- a word before a list that is not empty
abbrev pub listed : List ℕ → List ℕ → List ℕ
listed word items = if length items == 0 then [] else word ++ items

abbrev pub depth_text : FrameState → List ℕ
depth_text f = codes " | depth " ++ decimal (length f.frames)

-- ` unset R ..` and ` marks R:K ..`, if there are any
abbrev pub all_unset : FrameState → List ℕ
all_unset f = listed (codes " unset") (flat_map (unset_text f) registers)

abbrev pub all_marks : FrameState → List ℕ
all_marks f = listed (codes " marks") (flat_map (mark_text f) registers)

-- ---- the note on a core whose stack ends at HI

-- ` | depth D[ areas LOW+16 HIGH+N][ unset R ..][ marks R:K ..]`
unfoldable pub frames_text : ℕ → FrameState → List ℕ
frames_text hi f =
    depth_text f ++ areas_text hi (value_or_zero f.seen 1) f.frames ++ all_unset f ++ all_marks f

abbrev pub note_text : ℕ → Option FrameState → List ℕ
note_text hi None = codes " | no frames"
note_text hi (Some f) = frames_text hi f

-- after the turn at a position, whose core the schedule names
abbrev pub note_at : Image → Run → ℕ → List ℕ
note_at image r p =
    option_map_or
    (λ core. note_text (stack_end core r) (frame_at image r core (p + 1)))
    (slice_get (schedule_in r) p)
    []

-- ---- lines with notes

-- a note before the newline of a line; an empty line stays empty
abbrev pub with_note : List ℕ → List ℕ → List ℕ
with_note line note =
    if length line == 0 then [] else take (length line - 1) line ++ note ++ codes "\n"

-- the lines of the turns from a position on, each with its note
abbrev pub noted : Image → Run → ℕ → List (List ℕ) → List (List ℕ)
noted image r p [] = []
noted image r p (line ∷ lines) = with_note line (note_at image r p) ∷ noted image r (p + 1) lines

-- the first of the lines that are left was given
abbrev pub GivesLine :
    {E : Type 0} → Result (Option (List ℕ)) E → List (List ℕ) → List (List ℕ) → Type 0
GivesLine (Ok None) old new = old ≡ []
GivesLine (Ok (Some text)) old new = old ≡ text ∷ new
GivesLine (Err e) old new = Unit {0}
