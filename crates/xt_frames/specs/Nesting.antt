-- Nested interrupts: those of level 5 in the middle of a window handler ('profile'). The machine
-- with unbounded frames has no window handler, and takes such an interrupt before the instruction
-- that caused the window exception. It keeps PC, the 16 registers and PS for the end of the
-- interrupt, RFI 5. Meanwhile a0 to a3 hold marks.
--
-- Profile: `Marks` is one page: where marks stand and how they are moved. `Nesting` has the
-- interrupt of level 5 in the middle of a window handler, whose steps move them. `nested` has its
-- PC, registers, PS and marks, and the state's own fields are those that are kept, so save areas
-- need no case. A step in it is `step_with_inputs` of the state `nested_view`, with the numbers
-- that are known, and then the marks are moved. No step there changes the frames
-- (`with_kept_frame`), since ENTRY and RETW are illegal in exception mode. `unset` says which
-- special registers have no number; one that holds a mark has none, so nothing is left to do at RFI
-- 5 but to forget the marks. Note: a special register without a number has some number in
-- `control.special`, which nothing may read, since that is Unset. EPC5 and EPS5 have the kept PC
-- and PS there, as the interrupt's own formula puts them; so the row of RFI 5 gives them back, and
-- a step that is tested for WoeCleared leaves the kept PS.
use Rattle.std.specs.Prelude.{ℕ, Bool, true, false, ◌==◌, ◌&&◌, ◌||◌, not, if◌then◌else◌, Option}
use Rattle.std.specs.Prelude.{Some, None, List, [], is_some, replicate, slice_index_or, slice_set}
use Rattle.xt_isa.specs.declared.Insn.{Insn}
use Rattle.xt_isa.specs.declared.Insn.TheVariants as insn
use Rattle.xt_isa.specs.declared.system.System.TheVariants as system
use Rattle.xt_isa.specs.declared.system.ExceptionReturnName.TheVariants as ExceptionReturnName
use Rattle.xt_isa.specs.declared.system.SpecialName.TheVariants as SpecialName
use Rattle.xt_special.specs.Numbers as number
use Rattle.xt_trace.specs.declared.record.StepKind.{StepKind}
use Rattle.xt_trace.specs.declared.record.StepKind.TheVariants as kind
use Rattle.xt_map.specs.Fetching.{Fetched, Fetches, Fails, SpellsNothing, fetch_at}
use Rattle.xt_rows.specs.Numbers.{natural}
use Rattle.xt_rows.specs.Settling.{settled_interrupt}
use Rattle.xt_frames.specs.declared.holes.Nested.{Nested}
use Rattle.xt_frames.specs.Frames.{FrameState}
use Rattle.xt_frames.specs.Marks.{mark_read, marked_seen, marked_write, marks_after, moved_to}
use Rattle.xt_frames.specs.Marks.{own_marks, saved_by, unset_written}
use Rattle.xt_frames.specs.FrameStep.{Inputs, FrameTurn, in_frame, with_inputs, step_with_inputs}

-- ---- what may be done

-- the level of timer 2, the one that exception mode does not mask
abbrev pub nested_level : ℕ
nested_level = 5

-- RFI 5
unfoldable pub ends_nested : Insn → Bool
ends_nested (insn.System (system.Rfi level)) = natural level == nested_level
ends_nested _ = false

-- a register that is put back at the end, or holds what is
abbrev pub is_kept_register : ℕ → Bool
is_kept_register n =
    n == number.ps || (n == number.epc nested_level || n == number.eps nested_level)

-- a write of PS, EPC5 or EPS5, RSIL, WAITI, RFE, RFDE, and RFI of another level
unfoldable pub disturbs_nested : Insn → Bool
disturbs_nested (insn.System (system.Special SpecialName.Wsr t n)) = is_kept_register n
disturbs_nested (insn.System (system.Special SpecialName.Xsr t n)) = is_kept_register n
disturbs_nested (insn.System (system.Level name t level)) = true
disturbs_nested (insn.System (system.ExceptionReturn ExceptionReturnName.Rfe)) = true
disturbs_nested (insn.System (system.ExceptionReturn ExceptionReturnName.Rfde)) = true
disturbs_nested (insn.System (system.Rfi level)) = not (natural level == nested_level)
disturbs_nested _ = false

-- ---- the state in a nested interrupt

-- PC, registers and PS of the interrupt, in place of those that are kept
abbrev pub nested_view : Nested → FrameState → FrameState
nested_view x f = record f { seen = x.seen; control = record f.control { pc = x.pc; ps = x.ps } }

abbrev pub current_in : Option Nested → FrameState → FrameState
current_in None f = f
current_in (Some x) f = nested_view x f

-- the mark that a visible register holds in an interrupt
abbrev pub mark_in : Option Nested → ℕ → Option ℕ
mark_in None i = None
mark_in (Some x) i = slice_index_or x.marks i None

-- what the next step finds
abbrev pub current : FrameState → FrameState
current f = current_in f.nested f

-- What a step has left, but for PC, registers, frames and PS, which are kept. Exception mode is
-- set in a nested interrupt, so ENTRY and RETW are illegal there, and no step changes the frames.
abbrev pub with_kept_frame : FrameState → FrameState → FrameState
with_kept_frame f after = record after {
  seen = f.seen;
  frames = f.frames;
  control = record after.control { pc = f.control.pc; ps = f.control.ps };
}

-- ---- the beginning

-- The interrupt is taken as any of its level. Then the registers have no number, and EPC5 and EPS5
-- have none, since the processor's hold the window handler's PC and PS.
abbrev pub begun_with : FrameState → FrameTurn → FrameTurn
begun_with f u = record u {
  after = record (with_kept_frame f u.after) {
    unset =
        slice_set
        (slice_set f.unset (number.epc nested_level) true)
        (number.eps nested_level)
        true;
    nested = Some (record {
      pc = u.after.control.pc;
      seen = replicate 16 None;
      ps = u.after.control.ps;
      marks = own_marks;
      saved = replicate 256 None;
    });
  };
}

-- of a state over which the inputs are laid
abbrev pub nested_entry : FrameState → FrameTurn
nested_entry f = begun_with f (in_frame (settled_interrupt nested_level f.control) 0 f)

-- ---- outside nested interrupts

-- The special registers that have no number after a step. WSR and XSR give theirs a number, and an
-- interrupt above level 1 gives one to EPC and EPS of its level.
abbrev pub unset_after : StepKind → Fetched → List Bool → List Bool
unset_after (kind.Interrupt level) at unset =
    slice_set (slice_set unset (number.epc level) false) (number.eps level) false
unset_after kind.Insn (Fetches i len) unset = unset_written i [] unset
unset_after _ at unset = unset

abbrev pub plain_turn : (ℕ → ℕ) → Inputs → FrameState → FrameTurn
plain_turn code inp f =
    let g = with_inputs inp f in
    let u = step_with_inputs code inp.reply g in
    record u {
      after = record u.after { unset = unset_after u.kind (fetch_at code g.control.pc) f.unset };
    }

-- ---- a step in a nested interrupt

abbrev pub nested_after : Insn → Option ℕ → Nested → FrameTurn → Nested
nested_after i mark x u = record {
  pc = u.after.control.pc;
  seen = marked_seen mark u.write u.after.seen;
  ps = u.after.control.ps;
  marks = marks_after mark u.write x.marks;
  saved = saved_by (moved_to i) x.marks x.saved;
}

-- RFI 5 puts back what is kept. A special register that holds a mark has no number then.
abbrev pub nested_insn : Insn → ℕ → Nested → FrameState → FrameTurn → FrameTurn
nested_insn i value x f u =
    if ends_nested i then record u { after = record (with_kept_frame f u.after) { nested = None } }
    else let mark = mark_read i x.saved in
    record u {
      write = marked_write mark value u.write;
      after = record (with_kept_frame f u.after) {
        unset = unset_written i x.marks f.unset;
        nested = Some (nested_after i mark x u);
      };
    }

-- what is left where no instruction is fetched, which is a breach
abbrev pub nested_other : Nested → FrameState → FrameTurn → FrameTurn
nested_other x f u = record u {
  after = record (with_kept_frame f u.after) {
    nested = Some (record x {
      pc = u.after.control.pc;
      seen = u.after.seen;
      ps = u.after.control.ps;
    });
  };
}

-- what the step u of the state inside leaves
abbrev pub nested_fetched : Fetched → ℕ → Nested → FrameState → FrameTurn → FrameTurn
nested_fetched (Fetches i len) value x f u = nested_insn i value x f u
nested_fetched (Fails address) value x f u = nested_other x f u
nested_fetched SpellsNothing value x f u = nested_other x f u

-- `value` is that of the written register in the record
abbrev pub nested_turn : (ℕ → ℕ) → ℕ → Inputs → Nested → FrameState → FrameTurn
nested_turn code value inp x f =
    let g = with_inputs inp (nested_view x f) in
    nested_fetched (fetch_at code g.control.pc) value x f (step_with_inputs code inp.reply g)

-- ---- the step of the machine

abbrev pub turn_in : Option Nested → (ℕ → ℕ) → ℕ → Inputs → FrameState → FrameTurn
turn_in None code value inp f = plain_turn code inp f
turn_in (Some x) code value inp f = nested_turn code value inp x f

-- a record that begins a nested interrupt in the middle of handler steps
abbrev pub is_nesting : StepKind → Bool
is_nesting (kind.Interrupt level) = level == nested_level
is_nesting _ = false

-- a nested record begins a nested interrupt where none has begun
abbrev pub begins : Bool → StepKind → FrameState → Bool
begins nested kind f = nested && (is_nesting kind && not (is_some f.nested))

abbrev pub frame_step : (ℕ → ℕ) → Bool → ℕ → Inputs → FrameState → FrameTurn
frame_step code begins value inp f =
    if begins then nested_entry (with_inputs inp f) else turn_in f.nested code value inp f
