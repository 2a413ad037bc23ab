-- The breaches of the stack discipline ('profile'): what a judged step shows, by the frame state
-- before it, the inputs, the written register and the access of its record, and live and stale
-- bytes. A kind that names an instruction looks at each judged step that fetches it, whether it is
-- executed or raises a cause.
--
-- Profile: the kinds of breach are the ways in which a program could notice windows or disturb
-- them. Reading a register without a value or a stale byte would show whether a window exception
-- came. a1 is written by ENTRY and MOVSP alone, and ENTRY's tests keep the save areas apart. RETW
-- has to match its call. A store into a live area would change saved registers. In exception mode
-- no window is checked, so registers above a3 may be another frame's; EPC1 is lost where a window
-- exception may have written it; and the machine has no window registers, vectors or MOVSP of its
-- own.
-- Note: `nested` of `breach_of` and `step_on` is the judge's word for the record, and counts only
-- where it begins such an interrupt. Any other step is in one where the state has one.
use Rattle.std.specs.Prelude.{ℕ, ◌+◌, ◌*◌, ◌/◌, ◌%◌, ◌^◌, Bool, true, false, ◌==◌, ◌&&◌, ◌||◌, not}
use Rattle.std.specs.Prelude.{nat_lt, nat_le, if◌then◌else◌, Option, Some, None, List, [], ◌∷◌}
use Rattle.std.specs.Prelude.{zero, suc, slice_index_or, is_some}
use Rattle.xt_frames.specs.declared.holes.Nested.{Nested}
use Rattle.xt_isa.specs.declared.Insn.{Insn}
use Rattle.xt_isa.specs.declared.Insn.TheVariants as insn
use Rattle.xt_isa.specs.declared.shift.Shift.TheVariants as shift
use Rattle.xt_isa.specs.declared.control.Control.TheVariants as control
use Rattle.xt_map.specs.declared.access.Access.{Access}
pub use Rattle.xt_map.specs.Touching.{is_load, is_store}
use Rattle.xt_special.specs.declared.ps.Ps.{Ps}
use Rattle.xt_special.specs.Numbers as number
use Rattle.xt_special.specs.Control.{special_of}
use Rattle.xt_special.specs.Interrupts.{pending_of}
use Rattle.xt_trace.specs.declared.record.StepKind.{StepKind}
use Rattle.xt_trace.specs.declared.record.StepKind.TheVariants as kind
use Rattle.xt_trace.specs.declared.record.RegWrite.{RegWrite}
use Rattle.xt_trace.specs.declared.record.StepRecord.{StepRecord}
use Rattle.xt_map.specs.Fetching.{Fetched, Fetches, Fails, SpellsNothing, fetch_at}
use Rattle.xt_rows.specs.Numbers.{minus, natural}
use Rattle.xt_rows.specs.Operands.{reads, special_reads, highest_register}
unfoldable pub use Rattle.xt_rows.specs.Kinds.{is_return, is_movsp, is_windowing}
unfoldable pub use Rattle.xt_rows.specs.Kinds.{names_window_register, sets_epc1}
use Rattle.xt_frames.specs.declared.kinds.BreachKind.{BreachKind}
use Rattle.xt_frames.specs.declared.kinds.BreachKind.TheVariants as breach
use Rattle.xt_frames.specs.Frames.{Frame, FrameState, value_or_zero}
use Rattle.xt_frames.specs.FrameStep.{Inputs, FrameTurn, with_inputs, step_with_inputs}
use Rattle.xt_frames.specs.Marks.{are_own_marks, moves_marks}
use Rattle.xt_frames.specs.Nesting.{begins, current, disturbs_nested, ends_nested}
use Rattle.xt_frames.specs.SaveAreas.{Range, before, touches}

-- a kind of breach, and whether the step shows it
pub record Test : Type 0 where
  pub kind : BreachKind
  pub shown : Bool

abbrev pub test : BreachKind → Bool → Test
test kind shown = record { kind = kind; shown = shown }

abbrev pub first_shown : List Test → Option BreachKind
first_shown [] = None
first_shown (t ∷ ts) = if t.shown then Some t.kind else first_shown ts

-- ---- registers without a value
-- An instruction reads each register whose value its row uses, also where the row's condition
-- leaves the value unused.
abbrev pub lacks : List (Option ℕ) → Option ℕ → Bool
lacks seen None = false
lacks seen (Some i) = not (is_some (slice_index_or seen i None))

abbrev pub is_unset : List Bool → Option ℕ → Bool
is_unset unset None = false
is_unset unset (Some n) = slice_index_or unset n false

abbrev pub reads_unset : Insn → FrameState → Bool
reads_unset i f =
    lacks f.seen (reads i).0
    || (lacks f.seen (reads i).1
    || (is_unset f.unset (special_reads i).0 || is_unset f.unset (special_reads i).1))

-- RSR, WSR and XSR that move marks read a number or a mark, one register of each kind at most
abbrev pub reads_no_mark : Insn → Nested → FrameState → Bool
reads_no_mark i x f =
    (lacks f.seen (reads i).0 && lacks x.marks (reads i).0)
    || (is_unset f.unset (special_reads i).0 && lacks x.saved (special_reads i).0)

-- in a nested interrupt RFI 5 reads neither EPC5 nor EPS5
abbrev pub reads_none_in : Option Nested → Insn → FrameState → Bool
reads_none_in None i f = reads_unset i f
reads_none_in (Some x) i f =
    if moves_marks i then reads_no_mark i x f else not (ends_nested i) && reads_unset i f

abbrev pub reads_none : Insn → FrameState → Bool
reads_none i f = reads_none_in f.nested i f

-- ---- the stack pointer
-- It is written by ENTRY and MOVSP alone. Both the register that the record shows and that of the
-- frame step count.
unfoldable pub may_write_sp : Insn → Bool
may_write_sp (insn.Control (control.Entry number size)) = true
may_write_sp (insn.Shift (shift.Movsp t s)) = true
may_write_sp _ = false

abbrev pub is_sp : Option RegWrite → Bool
is_sp None = false
is_sp (Some w) = w.reg == 1

abbrev pub writes_sp : Insn → Option RegWrite → Option RegWrite → Bool
writes_sp i shown write = not (may_write_sp i) && (is_sp shown || is_sp write)

-- ---- ENTRY's tests
-- The caller's frame is what lies between its stack pointer and its own caller's; of the opening
-- frame it is 64 bytes. The new stack pointer is taken modulo 2^32, and then compared as a whole
-- number.
abbrev pub small_frame : ℕ → ℕ → ℕ → ℕ → List Frame → Bool
small_frame hi sp size n frames = nat_lt size 16 || nat_lt (before hi frames) (sp + 16 * n)

abbrev pub outside : ℕ → ℕ → ℕ → Bool
outside lo hi sp = nat_lt sp (lo + 16) || nat_lt hi sp

unfoldable pub other_frame_size : Range → Insn → FrameState → Bool
other_frame_size r (insn.Control (control.Entry number size)) f =
    not (number == 1)
    || small_frame r.hi (value_or_zero f.seen 1) (natural size) f.control.ps.callinc f.frames
other_frame_size r i f = false

unfoldable pub leaves_range : Range → Insn → FrameState → Bool
leaves_range r (insn.Control (control.Entry number size)) f =
    outside r.lo r.hi (minus (value_or_zero f.seen 1) (natural size))
leaves_range r i f = false

unfoldable pub misaligns_sp : Insn → FrameState → Bool
misaligns_sp (insn.Control (control.Entry number size)) f =
    not (minus (value_or_zero f.seen 1) (natural size) % 16 == 0)
misaligns_sp i f = false

unfoldable pub opens_nothing : Insn → FrameState → Bool
opens_nothing (insn.Control (control.Entry number size)) f = f.control.ps.callinc == 0
opens_nothing _ f = false

-- ---- RETW's tests
-- The top two bits of a0 name the size of the call. There is nothing to compare with in the opening
-- frame.
abbrev pub mismatches : List Frame → ℕ → Bool
mismatches [] a0 = false
mismatches (g ∷ rest) a0 = not ((a0 / 2 ^ 30) == g.by)

abbrev pub returns_elsewhere : Insn → FrameState → Bool
returns_elsewhere i f = is_return i && mismatches f.frames (value_or_zero f.seen 0)

abbrev pub is_empty : List Frame → Bool
is_empty [] = true
is_empty (g ∷ rest) = false

abbrev pub has_no_caller : Insn → FrameState → Bool
has_no_caller i f = is_return i && is_empty f.frames

-- ---- save areas and stale bytes
-- A S32C1I touches its bytes also where it does not store.

-- one of the n bytes from an address on passes the test
abbrev pub some_byte : (ℕ → Bool) → ℕ → ℕ → Bool
some_byte test addr zero = false
some_byte test addr (suc n) = test addr || some_byte test (addr + 1) n

abbrev pub touches_save_area : (ℕ → Bool) → Option Access → Bool
touches_save_area live None = false
touches_save_area live (Some a) = not (is_load a.kind) && some_byte live a.addr a.size

abbrev pub loads_stale : (ℕ → Bool) → (ℕ → Bool) → Option Access → Bool
loads_stale live stale None = false
loads_stale live stale (Some a) =
    not (is_store a.kind)
    && (some_byte stale a.addr a.size || (is_load a.kind && some_byte live a.addr a.size))

-- ---- other kinds
-- An instruction names all of its register operands, and a CALL4, CALL8, CALL12 or its X form also
-- a4, a8 or a12.
abbrev pub names_high : Insn → FrameState → Bool
names_high i f = f.control.ps.excm && nat_le 4 (highest_register i)

-- the special registers that the frame machine no longer knows: EPC1, where exception mode has
-- ended since EPC1 was last written
abbrev pub lost_of : Bool → ℕ → Bool
lost_of fresh n = n == number.epc 1 && not fresh

-- EPC1 is read by RSR, XSR and RFE
abbrev pub reads_lost : Bool → Option ℕ → Bool
reads_lost fresh None = false
reads_lost fresh (Some n) = lost_of fresh n

abbrev pub reads_epc1 : Bool → Insn → Bool
reads_epc1 fresh i = reads_lost fresh (special_reads i).0 || reads_lost fresh (special_reads i).1

-- in a nested interrupt it is neither read nor written
abbrev pub loses_epc1 : Option Nested → Bool → Insn → Bool
loses_epc1 None fresh i = reads_epc1 fresh i
loses_epc1 (Some x) fresh i = reads_epc1 false i || sets_epc1 i

-- ---- nested interrupts
-- One ends by RFI 5 alone, with the registers as they were for the window handler.
abbrev pub is_exception : StepKind → Bool
is_exception (kind.Exc cause) = true
is_exception _ = false

abbrev pub breaks_nested : Option Nested → Insn → FrameTurn → Bool
breaks_nested None i u = false
breaks_nested (Some x) i u =
    is_exception u.kind
    || (disturbs_nested i || (ends_nested i && not (are_own_marks x.marks)))

-- ---- the first breach of a step

-- what a core is judged by: its stack range, and VECBASE as it opened
pub record Bounds : Type 0 where
  pub range : Range
  pub vecbase : ℕ

-- a PC in the six vectors of window exceptions
abbrev pub is_in_vectors : ℕ → ℕ → Bool
is_in_vectors vecbase pc = nat_le vecbase pc && nat_lt pc (vecbase + 0x180)

abbrev pub vector_test : Bounds → FrameState → Test
vector_test b f = test breach.VectorEntered (is_in_vectors b.vecbase f.control.pc)

abbrev pub moves_vectors : Bounds → FrameTurn → Bool
moves_vectors b u = not (special_of u.after.control number.vecbase == b.vecbase)

-- Of a step that fetches an instruction: f is the state before it, u the step. Where a step shows
-- several kinds, the first in this order counts.
abbrev pub insn_tests :
    Bounds → Bool → (ℕ → Bool) → (ℕ → Bool) → Insn → StepRecord → FrameState → FrameTurn → List Test
insn_tests b fresh live stale i rec f u =
    test breach.Unset (reads_none i f)
    ∷ test breach.SpWritten (writes_sp i rec.write u.write)
    ∷ test breach.FrameSize (other_frame_size b.range i f)
    ∷ test breach.StackRange (leaves_range b.range i f)
    ∷ test breach.SpAlign (misaligns_sp i f)
    ∷ test breach.OpeningCall (opens_nothing i f)
    ∷ test breach.ReturnMismatch (returns_elsewhere i f)
    ∷ test breach.NoCaller (has_no_caller i f)
    ∷ test breach.SaveStore (touches_save_area live rec.access)
    ∷ test breach.StaleLoad (loads_stale live stale rec.access)
    ∷ test breach.ExcmRegister (names_high i f)
    ∷ test breach.WindowInstruction (is_windowing i)
    ∷ test breach.WindowRegister (names_window_register i)
    ∷ test breach.WoeCleared (not u.after.control.ps.woe)
    ∷ test breach.VecbaseMoved (moves_vectors b u)
    ∷ test breach.EpcLost (loses_epc1 f.nested fresh i)
    ∷ test breach.Movsp (is_movsp i)
    ∷ vector_test b f
    ∷ test breach.Nested (breaks_nested f.nested i u)
    ∷ []

-- of a step that fetches none: a turn of cause 2, or of cause 0 because nothing spells the bytes,
-- either of which is an exception
abbrev pub other_tests :
    Bounds → (ℕ → Bool) → (ℕ → Bool) → StepRecord → FrameState → FrameTurn → List Test
other_tests b live stale rec f u =
    test breach.SaveStore (touches_save_area live rec.access)
    ∷ test breach.StaleLoad (loads_stale live stale rec.access)
    ∷ test breach.WoeCleared (not u.after.control.ps.woe)
    ∷ test breach.VecbaseMoved (moves_vectors b u)
    ∷ vector_test b f
    ∷ test breach.Nested (is_some f.nested)
    ∷ []

abbrev pub fetched_tests :
    Bounds → Bool → (ℕ → Bool) → (ℕ → Bool) → Fetched → StepRecord → FrameState → FrameTurn
    → List Test
fetched_tests b fresh live stale (Fetches i len) rec f u = insn_tests b fresh live stale i rec f u
fetched_tests b fresh live stale (Fails address) rec f u = other_tests b live stale rec f u
fetched_tests b fresh live stale SpellsNothing rec f u = other_tests b live stale rec f u

abbrev pub inputs_of : StepRecord → Inputs
inputs_of rec =
    record { ccount = rec.ccount; interrupt = rec.interrupt; owb = rec.owb % 16; reply = rec.reply }

-- of a state over which the inputs are laid, in a nested interrupt that inside; an interrupt or a
-- turn of waiting shows VectorEntered alone
unfoldable pub laid_breach :
    Bounds → Bool → (ℕ → ℕ) → (ℕ → Bool) → (ℕ → Bool) → StepRecord → FrameState → Option BreachKind
laid_breach b fresh code live stale rec f =
    if nat_lt 0 (pending_of f.control) || f.control.waits then first_shown (vector_test b f ∷ [])
    else
    let u = step_with_inputs code rec.reply f in
    first_shown (fetched_tests b fresh live stale (fetch_at code f.control.pc) rec f u)

-- The first breach of a judged step, where `live` and `stale` are the bytes before it, of both
-- cores, EPC1 has what was last written where `fresh` says so, and the record is nested where
-- `nested` does. The step that begins a nested interrupt shows none.
abbrev pub breach_of :
    Bounds → Bool → (ℕ → ℕ) → (ℕ → Bool) → (ℕ → Bool) → Bool → StepRecord → FrameState
    → Option BreachKind
breach_of b fresh code live stale nested rec f =
    if begins nested rec.kind f then None
    else laid_breach b fresh code live stale rec (with_inputs (inputs_of rec) (current f))

-- the first that one core alone shows: any kind but SaveStore and StaleLoad
abbrev pub own_breach : Bounds → Bool → (ℕ → ℕ) → Bool → StepRecord → FrameState → Option BreachKind
own_breach b fresh code nested rec f =
    breach_of b fresh code (λ a. false) (λ a. false) nested rec f

-- ---- the record of an underflow
-- It is tested for the RETW at the frame state's PC, and begins handler steps where it shows
-- nothing.

abbrev pub return_tests : Insn → FrameState → List Test
return_tests i f =
    test breach.Unset (reads_none i f)
    ∷ test breach.ReturnMismatch (returns_elsewhere i f)
    ∷ test breach.NoCaller (has_no_caller i f)
    ∷ []

abbrev pub fetched_return_breach : Fetched → FrameState → Option BreachKind
fetched_return_breach (Fetches i len) f =
    if is_return i then first_shown (return_tests i f) else None
fetched_return_breach (Fails address) f = None
fetched_return_breach SpellsNothing f = None

-- the vectors of Underflow4, Underflow8 and Underflow12
abbrev pub is_underflow : ℕ → Bool
is_underflow vector = vector == 1 || (vector == 3 || vector == 5)

unfoldable pub window_breach : (ℕ → ℕ) → StepKind → FrameState → Option BreachKind
window_breach code (kind.Window vector) f =
    if is_underflow vector then fetched_return_breach (fetch_at code f.control.pc) f else None
window_breach code k f = None

-- ---- EPC1
abbrev pub fetched_sets_epc1 : Fetched → Bool
fetched_sets_epc1 (Fetches i len) = sets_epc1 i
fetched_sets_epc1 _ = false

-- The step writes EPC1: by WSR or XSR, or by a general exception outside exception mode. An
-- interrupt of level 1 is a general exception.
unfoldable pub writes_epc1 : StepKind → Fetched → Ps → Bool
writes_epc1 (kind.Exc cause) at ps = not ps.excm
writes_epc1 (kind.Interrupt level) at ps = level == 1 && not ps.excm
writes_epc1 kind.Insn at ps = fetched_sets_epc1 at
writes_epc1 _ at ps = false

-- exception mode ends
abbrev pub ends_exception_mode : Ps → Ps → Bool
ends_exception_mode before after = before.excm && not after.excm

-- EPC1 has what was last written, after the step
abbrev pub fresh_after : Bool → StepKind → Fetched → Ps → Ps → Bool
fresh_after fresh kind at before after =
    writes_epc1 kind at before || (fresh && not (ends_exception_mode before after))

-- ---- stale bytes: where a save area is gone, until a judged store touches the byte
-- A S32C1I is no store here: it shows a breach where it touches a stale byte.
abbrev pub stores_at : Option Access → ℕ → Bool
stores_at None a = false
stores_at (Some access) a = is_store access.kind && touches access.addr access.size a

abbrev pub stale_after : (ℕ → Bool) → (ℕ → Bool) → (ℕ → Bool) → Option Access → ℕ → Bool
stale_after live_now live_before stale access a =
    not (live_now a) && (live_before a || (stale a && not (stores_at access a)))
