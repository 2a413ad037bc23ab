-- The breaches of the discipline of uses ('profile'). The kinds and their order are those of the
-- stack discipline, and so is all that is not said here: Unset is a use of what is not known,
-- StaleLoad an S32C1I of what is not known, and a MOVSP that keeps the stack is none.
use Rattle.std.specs.Prelude.{ℕ, ◌+◌, ◌%◌, Bool, true, false, ◌==◌, ◌&&◌, ◌||◌, not, nat_lt}
use Rattle.std.specs.Prelude.{nat_le, if◌then◌else◌, Option, Some, None, List, [], ◌∷◌, map}
use Rattle.std.specs.Prelude.{is_some, slice_index_or}
use Rattle.xt_isa.specs.declared.Insn.{Insn}
use Rattle.xt_isa.specs.declared.Insn.TheVariants as insn
use Rattle.xt_isa.specs.declared.shift.Shift.TheVariants as shift
use Rattle.xt_map.specs.declared.access.Access.{Access}
use Rattle.xt_map.specs.Touching.{is_load, is_store}
use Rattle.xt_special.specs.Interrupts.{pending_of}
use Rattle.xt_trace.specs.declared.record.StepKind.{StepKind}
use Rattle.xt_trace.specs.declared.record.StepKind.TheVariants as kind
use Rattle.xt_trace.specs.declared.record.StepRecord.{StepRecord}
use Rattle.xt_map.specs.Fetching.{Fetched, Fetches, Fails, SpellsNothing, fetch_at}
use Rattle.xt_rows.specs.Kinds.{is_return}
use Rattle.xt_rows.specs.Operands.{reads, special_reads}
use Rattle.xt_frames.specs.declared.holes.Nested.{Nested}
use Rattle.xt_frames.specs.declared.kinds.BreachKind.{BreachKind}
use Rattle.xt_frames.specs.declared.kinds.BreachKind.TheVariants as breach
use Rattle.xt_frames.specs.Frames.{Frame, FrameState, value_or_zero}
use Rattle.xt_frames.specs.FrameStep.{FrameTurn, with_inputs, step_with_inputs}
use Rattle.xt_frames.specs.Marks.{holds_marks, moves_marks}
use Rattle.xt_frames.specs.Nesting.{begins, current, ends_nested}
use Rattle.xt_frames.specs.SaveAreas.{Range, sp_of}
use Rattle.xt_frames.specs.Breaches.{Bounds, Test, first_shown, insn_tests, other_tests}
use Rattle.xt_frames.specs.Breaches.{return_tests, vector_test, some_byte, inputs_of, is_underflow}
use Rattle.xt_uses.specs.Used.{used_are_known}
use Rattle.xt_uses.specs.UseState.{UseState, first_word, second_word}

-- ---- Unset

-- A mark may be read by an RSR, WSR or XSR that moves marks, and by nothing else.
abbrev pub holds_mark : List (Option ℕ) → Option ℕ → Bool
holds_mark marks None = false
holds_mark marks (Some n) = is_some (slice_index_or marks n None)

abbrev pub reads_mark : Option Nested → Insn → Bool
reads_mark None i = false
reads_mark (Some x) i =
    not (moves_marks i)
    && (holds_mark x.marks (reads i).0
    || (holds_mark x.marks (reads i).1
    || (holds_mark x.saved (special_reads i).0 || holds_mark x.saved (special_reads i).1)))

-- A special register that keeps nothing unknown has a number or none. None has to be read; but in a
-- nested interrupt RFI 5 reads neither EPC5 nor EPS5.
abbrev pub has_no_number : List Bool → Option ℕ → Bool
has_no_number unset None = false
has_no_number unset (Some n) = not (holds_marks n) && slice_index_or unset n false

abbrev pub reads_no_number : Insn → FrameState → Bool
reads_no_number i f =
    not (is_some f.nested && ends_nested i)
    && (has_no_number f.unset (special_reads i).0 || has_no_number f.unset (special_reads i).1)

abbrev pub uses_unknown : Insn → UseState → FrameState → Bool
uses_unknown i s f =
    reads_mark f.nested i
    || (reads_no_number i f || not (used_are_known s.masks.discipline i (first_word i s f) (second_word i s f)))

-- ---- StaleLoad

abbrev pub is_swap : Access → Bool
is_swap a = not (is_load a.kind || is_store a.kind)

-- `bytes` are the masks with which bytes are read
abbrev pub swaps_unknown : (ℕ → ℕ) → Option Access → Bool
swaps_unknown bytes None = false
swaps_unknown bytes (Some a) = is_swap a && some_byte (λ b. not (bytes b == 255)) a.addr a.size

-- ---- Movsp

abbrev pub is_insn : StepKind → Bool
is_insn kind.Insn = true
is_insn _ = false

-- the new stack pointer is one that ENTRY may leave to the newest frame; the opening frame has none
abbrev pub keeps_stack : Range → ℕ → List Frame → Bool
keeps_stack r sp [] = false
keeps_stack r sp (g ∷ rest) =
    (sp % 16 == 0) && (nat_le (r.lo + 16) sp && nat_le (sp + 16) (sp_of g))

-- it is executed, writes a1 outside exception mode, and keeps the stack
unfoldable pub breaks_stack : Range → Insn → StepKind → FrameState → Bool
breaks_stack r (insn.Shift (shift.Movsp t s)) kind f =
    not (is_insn kind
    && ((t == 1) && (not f.control.ps.excm && keeps_stack r (value_or_zero f.seen s) f.frames)))
breaks_stack r i kind f = false

-- ---- the tests

-- the test of the stack discipline, but for these three kinds
abbrev pub shown_here : BreachKind → Bool → Bool → Bool → Bool → Bool
shown_here breach.Unset unset stale movsp shown = unset
shown_here breach.StaleLoad unset stale movsp shown = stale
shown_here breach.Movsp unset stale movsp shown = movsp
shown_here _ unset stale movsp shown = shown

abbrev pub use_tests : Bool → Bool → Bool → List Test → List Test
use_tests unset stale movsp tests =
    map (λ (t : Test). record t { shown = shown_here t.kind unset stale movsp t.shown }) tests

abbrev pub nowhere : ℕ → Bool
nowhere a = false

abbrev pub fetched_uses :
    Bounds → Bool → (ℕ → Bool) → (ℕ → ℕ) → Fetched → StepRecord → UseState → FrameState
    → FrameTurn → List Test
fetched_uses b fresh live bytes (Fetches i len) rec s f u =
    use_tests
    (uses_unknown i s f)
    (swaps_unknown bytes rec.access)
    (breaks_stack b.range i rec.kind f)
    (insn_tests b fresh live nowhere i rec f u)
fetched_uses b fresh live bytes (Fails address) rec s f u =
    use_tests false (swaps_unknown bytes rec.access) false (other_tests b live nowhere rec f u)
fetched_uses b fresh live bytes SpellsNothing rec s f u =
    use_tests false (swaps_unknown bytes rec.access) false (other_tests b live nowhere rec f u)

-- f is the state that the step finds, with the inputs laid over it
unfoldable pub laid_use :
    Bounds → Bool → (ℕ → ℕ) → (ℕ → Bool) → (ℕ → ℕ) → StepRecord → UseState → FrameState
    → Option BreachKind
laid_use b fresh code live bytes rec s f =
    if nat_lt 0 (pending_of f.control) || f.control.waits then first_shown (vector_test b f ∷ [])
    else first_shown
    (fetched_uses
    b
    fresh
    live
    bytes
    (fetch_at code f.control.pc)
    rec
    s
    f
    (step_with_inputs code rec.reply f))

-- The first breach of a judged step, where `live` are the bytes before it in a live save area of
-- either core, `bytes` the masks with which bytes are read, EPC1 has what was last written where
-- `fresh` says so, and the record is nested where `nested` does.
abbrev pub use_breach :
    Bounds → Bool → (ℕ → ℕ) → (ℕ → Bool) → (ℕ → ℕ) → Bool → StepRecord → UseState
    → Option BreachKind
use_breach b fresh code live bytes nested rec s =
    if begins nested rec.kind s.frame then None
    else laid_use b fresh code live bytes rec s (with_inputs (inputs_of rec) (current s.frame))

-- ---- the record of an underflow: it is tested for the RETW at the frame state's PC

abbrev pub fetched_return_use : Fetched → UseState → FrameState → Option BreachKind
fetched_return_use (Fetches i len) s f =
    if is_return i
    then first_shown (use_tests (uses_unknown i s f) false false (return_tests i f))
    else None
fetched_return_use _ s f = None

abbrev pub underflows : StepKind → Bool
underflows (kind.Window vector) = is_underflow vector
underflows _ = false

unfoldable pub window_use : (ℕ → ℕ) → StepRecord → UseState → Option BreachKind
window_use code rec s =
    let f = with_inputs (inputs_of rec) (current s.frame) in
    if underflows rec.kind then fetched_return_use (fetch_at code f.control.pc) s f else None
