-- Carries a proof; nothing that a reader must believe.
-- What the program answers of a judged step that shows no breach and stays in its frame: where it
-- was made, the write of its register, if any.
use Rattle.std.specs.Prelude.{◌≡◌, ℕ, Bool, true, false, ◌==◌, ◌&&◌, not, Option, Some, None}
use Rattle.std.specs.Prelude.{List}
use Rattle.xt_isa.specs.declared.Insn.{Insn}
use Rattle.xt_isa.specs.declared.Insn.TheVariants as insn
use Rattle.xt_special.specs.declared.writes.SpecialWrite.{SpecialWrite}
use Rattle.xt_special.specs.Control.{special_of}
use Rattle.xt_special.specs.Interrupts.{pending_of}
use Rattle.xt_special.specs.Numbers as number
use Rattle.xt_special.specs.Timers.{after_tick}
use Rattle.xt_trace.specs.declared.record.RegWrite.{RegWrite}
use Rattle.xt_trace.specs.declared.record.StepKind.TheVariants as kind
use Rattle.xt_trace.specs.declared.record.StepRecord.{StepRecord}
use Rattle.xt_map.specs.Fetching.{Fetches, fetch_at}
use Rattle.xt_rows.specs.declared.outcome.Effect.{Effect}
use Rattle.xt_rows.specs.RowLaws.{IsAny, IsProperWrite}
use Rattle.xt_rows.specs.Outcomes.{outcome_at}
use Rattle.xt_rows.specs.Settling.{after_effect}
use Rattle.xt_frames.specs.declared.breach.Limits.{Limits}
use Rattle.xt_frames.specs.declared.holes.UndefinedParts.{UndefinedParts}
use Rattle.xt_frames.specs.Frames.{Frame, FrameState, value_or_zero, seen_after_write}
use Rattle.xt_frames.specs.FrameStep.{FrameTurn, done_in_frame, step_with_inputs}
use Rattle.xt_frames.specs.Marks.{moved_to}
use Rattle.xt_frames.specs.Nesting.{unset_after}
use Rattle.xt_frames.specs.Breaches.{fresh_after, is_return}
use Rattle.xt_frames.specs.Breaches.{is_in_vectors, is_sp, is_windowing, laid_breach, loads_stale}
use Rattle.xt_frames.specs.Breaches.{may_write_sp}
use Rattle.xt_frames.specs.Breaches.{names_window_register, reads_epc1, reads_unset, sets_epc1}
use Rattle.xt_frames.specs.Breaches.{touches_save_area}
use Rattle.xt_frames.specs.KeptFrameState.{Upper, state_at}
use Rattle.xt_frames.specs.Walked.{bounds_of}

-- a system instruction
unfoldable pub is_system : Insn → Bool
is_system (insn.System i) = true
is_system _ = false

-- an instruction that no breach names, and that writes no special register by its number
pub record IsCommon (i : Insn) : Type 0 where
  pub stack : may_write_sp i ≡ false
  pub return : is_return i ≡ false
  pub windowing : is_windowing i ≡ false
  pub register : names_window_register i ≡ false
  pub moves : moved_to i ≡ None
  pub epc1 : sets_epc1 i ≡ false
  pub user : is_system i ≡ false

abbrev pub sets_vecbase : Option SpecialWrite → Bool
sets_vecbase None = false
sets_vecbase (Some w) = w.number == number.vecbase

-- an effect leaves PS.WOE set, and VECBASE as it is
abbrev pub is_mild : Effect → Bool
is_mild e =
    e.ps.woe
    && (not (sets_vecbase e.sets.0)
    && (not (sets_vecbase e.sets.1) && not (sets_vecbase e.sets.2)))

-- the write of such an effect, if it was made, and what it leaves
abbrev pub IsMade :
    Option (Option RegWrite) → Effect → ℕ → Option RegWrite → Upper → Upper → Type 0
IsMade (Some made) e len write v w =
    (is_mild e ≡ true)
    × (is_sp write ≡ false)
    × (w
    ≡ record {
      seen = seen_after_write write v.seen;
      control = after_tick (after_effect e len v.control);
    })
    × (made ≡ write)
    × IsProperWrite IsAny write
IsMade None e len write v w = w ≡ v

-- a state whose next step executes the instruction at PC, outside exception mode
pub record IsAtRest (limits : Limits) (v : Upper) : Type 0 where
  pub quiet : pending_of v.control ≡ 0
  pub goes : v.control.waits ≡ false
  pub excm : v.control.ps.excm ≡ false
  pub vectors : special_of v.control number.vecbase ≡ limits.vecbase
  pub outside : is_in_vectors limits.vecbase v.control.pc ≡ false

-- a turn that executes an instruction in its frame
pub record IsTurn
    (u : FrameTurn) (write : Option RegWrite) (frames : List Frame) (h : UndefinedParts)
    (w : Upper) : Type 0 where
  pub kind : u.kind ≡ kind.Insn
  pub writes : u.write ≡ write
  pub after : u.after ≡ state_at frames h w

-- what comes of an instruction of this length, by the registers of v
abbrev pub turn_at : (ℕ → ℕ) → Insn → ℕ → ℕ → Upper → FrameState → FrameTurn
turn_at code i len reply v f =
    done_in_frame (outcome_at code i (value_or_zero v.seen) v.control) len reply f

-- what is known of a fetched instruction that was made
pub record IsRow
    (fresh : Bool) (i : Insn) (len : ℕ) (code : ℕ → ℕ) (rec : StepRecord) (h : UndefinedParts)
    (write : Option RegWrite) (v w : Upper) : Type 0 where
  pub common : IsCommon i
  pub shown : is_sp rec.write ≡ false
  pub reads : (frames : List Frame) → reads_unset i (state_at frames h v) ≡ false
  pub lost : reads_epc1 fresh i ≡ false
  pub free : is_sp write ≡ false
  pub proper : IsProperWrite IsAny write
  pub seen : w.seen ≡ seen_after_write write v.seen
  pub turn :
      (frames : List Frame)
      → IsTurn (turn_at code i len rec.reply v (state_at frames h v)) write frames h w
  pub woe : w.control.ps.woe ≡ true
  pub vectors : special_of w.control number.vecbase ≡ special_of v.control number.vecbase

abbrev pub IsRowOr :
    Option (Option RegWrite) → Bool → Insn → ℕ → (ℕ → ℕ) → StepRecord → UndefinedParts → Upper
    → Upper
    → Type 0
IsRowOr (Some write) fresh i len code rec h v w = IsRow fresh i len code rec h write v w
IsRowOr None fresh i len code rec h v w = w ≡ v

-- the step of the state v
abbrev pub step_at : (ℕ → ℕ) → ℕ → List Frame → UndefinedParts → Upper → FrameTurn
step_at code reply frames h v = step_with_inputs code reply (state_at frames h v)

-- what is known of a step that was made, from a state over which the inputs are laid
pub record IsQuick
    (limits : Limits) (fresh : Bool) (code : ℕ → ℕ) (rec : StepRecord) (h : UndefinedParts)
    (write : Option RegWrite) (v w : Upper) : Type 0 where
  pub i : Insn
  pub len : ℕ
  pub rest : IsAtRest limits v
  pub at : fetch_at code v.control.pc ≡ Fetches i len
  pub row : IsRow fresh i len code rec h write v w
  pub none :
      (frames : List Frame) (live stale : ℕ → Bool)
      → touches_save_area live rec.access ≡ false → loads_stale live stale rec.access ≡ false
      → laid_breach (bounds_of limits) fresh code live stale rec (state_at frames h v) ≡ None
  pub turn :
      (frames : List Frame) → IsTurn (step_at code rec.reply frames h v) write frames h w
  pub unset :
      (frames : List Frame)
      → unset_after (step_at code rec.reply frames h v).kind (fetch_at code v.control.pc) h.unset
      ≡ h.unset
  pub kept :
      (frames : List Frame)
      → fresh_after
      fresh
      (step_at code rec.reply frames h v).kind
      (fetch_at code v.control.pc)
      v.control.ps
      w.control.ps
      ≡ fresh

abbrev pub IsQuickOr :
    Option (Option RegWrite) → Limits → Bool → (ℕ → ℕ) → StepRecord → UndefinedParts → Upper → Upper
    → Type 0
IsQuickOr (Some write) limits fresh code rec h v w = IsQuick limits fresh code rec h write v w
IsQuickOr None limits fresh code rec h v w = w ≡ v
