-- Carries a proof; nothing that a reader must believe.
-- What holds of a core in a nested interrupt. The relation of the window handler is said of the
-- state that RFI 5 would make: PC, PS, registers and window as they were when the interrupt was
-- taken, and all else as it is now. Of the state now: where the frame state has a number it is the
-- core's, and where it has mark k the core holds what its visible register k held then.
use Rattle.std.specs.Prelude.{◌≡◌, ◌⊎◌, ℕ, Bool, true, false, Some, None}
use Rattle.std.specs.Prelude.{length, slice_index, slice_index_or}
use Rattle.xt_map.specs.declared.contents.MemoryContents.{MemoryContents}
use Rattle.xt_map.specs.Memory.{HasSizes, byte_at}
use Rattle.xt_special.specs.Numbers as number
use Rattle.xt_special.specs.Control.{special_of, ps_word}
use Rattle.xt_window.specs.Ring.{place, visible}
use Rattle.xt_map.specs.Code.{AreBytes}
use Rattle.xt_exec.specs.State.{State}
use Rattle.xt_exec.specs.TurnLaws.{IsShaped}
use Rattle.xt_exec.specs.Turn.{planned_turn}
use Rattle.xt_frames.specs.declared.holes.Nested.{Nested}
use Rattle.xt_frames.specs.Frames.{FrameState}
use Rattle.xt_frames.specs.FrameStep.{with_inputs}
use Rattle.xt_frames.specs.HandlerSteps.{returns}
use Rattle.xt_frames.specs.Nesting.{nested_view, is_nesting, nested_level}
use Rattle.xt_frames.specs.SaveAreas.{is_live}
use Rattle.xt_frames.specs.Breaches.{Bounds, breach_of}
use Rattle.xt_frames.specs.Judging.{step_on, live_of}
use Rattle.xt_simulation.specs.Relation.{Even, inputs, lost_at}
use Rattle.xt_simulation.specs.Steps.{record_now, state_now, memory_now}
use Rattle.xt_simulation.specs.InHandlers.{as_left}
use Rattle.xt_simulation.specs.Memories.{Agree}
use Rattle.xt_simulation.specs.Judges.{Matches}
use Rattle.xt_simulation.specs.Handling.{IsGood, Handling}

-- the state that RFI 5 makes, but for the end of its turn
abbrev pub resumed_state : State → State → State
resumed_state suspended s = record s {
  regs = suspended.regs;
  control = record s.control { pc = suspended.control.pc; ps = suspended.control.ps };
}

-- a register that a nested interrupt can write
abbrev pub IsSpare : ℕ → ℕ → Type 0
IsSpare base p = (p ≡ place base 0) ⊎ ((p ≡ place base 2) ⊎ (p ≡ place base 3))

-- what visible register k held when the interrupt was taken
abbrev pub marked_value : State → ℕ → ℕ
marked_value suspended k = visible suspended.regs suspended.base k

-- the core now, beside the frame state, where `suspended` is its state when the interrupt was taken
pub record IsInside (suspended s : State) (f : FrameState) (x : Nested) : Type 0 where
  -- PC, PS, THREADPTR, and the special registers that have a number; the window exception has
  -- written EPC1
  pub even : Even (lost_at false f) s.control (with_inputs (inputs 0 s) (nested_view x f)).control
  -- so neither an interrupt nor a window exception comes
  pub level : s.control.ps.intlevel ≡ nested_level
  pub mode : s.control.ps.excm ≡ true
  pub running : s.control.waits ≡ false
  pub woe : suspended.control.ps.woe ≡ true
  -- what RFI 5 reads
  pub epc : special_of s.control (number.epc nested_level) ≡ suspended.control.pc
  pub eps : special_of s.control (number.eps nested_level) ≡ ps_word suspended.control.ps
  -- the window and the registers
  pub base : s.base ≡ suspended.base
  pub start : s.start ≡ suspended.start
  pub size : length s.regs ≡ length suspended.regs
  pub wide : length x.seen ≡ 16
  pub others : (p : ℕ) → (IsSpare s.base p → ⊥)
      → slice_index s.regs p ≡ slice_index suspended.regs p
  pub numbers : (i v : ℕ) → slice_index_or x.seen i None ≡ Some v → visible s.regs s.base i ≡ v
  -- the marks, which stand where there is no number
  pub marks : (i k : ℕ) → slice_index_or x.marks i None ≡ Some k
      → (visible s.regs s.base i ≡ marked_value suspended k) × (slice_index_or x.seen i None ≡ None)
  pub saved : (n k : ℕ) → slice_index_or x.saved n None ≡ Some k
      → (special_of s.control n ≡ marked_value suspended k)
      × (slice_index_or f.unset n false ≡ true)

pub record Suspends
    (code : ℕ → ℕ) (b : Bounds) (m : MemoryContents) (s : State) (f : FrameState)
    (before : State) (opened : ℕ → ℕ) (suspended : State) : Type 0 where
  pub x : Nested
  pub nested : f.nested ≡ Some x
  pub inside : IsInside suspended s f x
  -- its own fields are those that are kept
  pub handling : Handling code b m (resumed_state suspended s) f before opened

-- ---- what is said of nested interrupts

-- the record of one in the middle of a window handler
abbrev pub NestedBegin : Type 0
NestedBegin =
    (code : ℕ → ℕ) → AreBytes code → (b : Bounds) → IsGood code b
    → (m : MemoryContents) (s : State) (f : FrameState) (before : State) (opened : ℕ → ℕ)
    → Handling code b m s f before opened → f.nested ≡ None → IsShaped s
    → length f.unset ≡ 256 → is_nesting (planned_turn code s).kind ≡ true
    → Suspends code b m (state_now code m s)
    (step_on code true (record_now code m s) f).after
    (as_left before s (state_now code m s)) opened s

-- the relation after a nested step: of the interrupt, or after RFI 5, its last, of the handler
pub data Onward
    (code : ℕ → ℕ) (b : Bounds) (m : MemoryContents) (s : State) (f : FrameState)
    (before : State) (opened : ℕ → ℕ) (suspended : State) (last : Bool) : Type 0 where
  StaysIn : last ≡ false → Suspends code b m s f before opened suspended
      → Onward code b m s f before opened suspended last
  GoesBack : last ≡ true → f.nested ≡ None → Handling code b m s f before opened
      → Onward code b m s f before opened suspended last

-- any other nested step that shows no breach
abbrev pub NestedStepsAreKept : Type 0
NestedStepsAreKept =
    (code : ℕ → ℕ) → AreBytes code → (b : Bounds) → IsGood code b
    → (m framed : MemoryContents) (s : State) (f : FrameState) (before : State) (opened : ℕ → ℕ)
    (suspended : State) (others stale : ℕ → Bool)
    → Suspends code b m s f before opened suspended → IsShaped s → HasSizes m
    → Agree (live_of b f others) stale m framed
    → breach_of b false code (live_of b f others) stale true (record_now code m s) f ≡ None
    → (x : Nested) → f.nested ≡ Some x → length f.unset ≡ 256 → length x.marks ≡ 16
    → Matches x.pc (record_now code m s) (step_on code true (record_now code m s) f) framed
    × Onward code b (memory_now code m s) (state_now code m s)
    (step_on code true (record_now code m s) f).after
    (as_left before s (state_now code m s)) opened suspended
    (returns code (planned_turn code s).kind s.control.pc)

-- an access of the other core that touches no live byte
abbrev pub NestedAreSpared : Type 0
NestedAreSpared =
    (code : ℕ → ℕ) → AreBytes code → (b : Bounds) → IsGood code b
    → (old new : MemoryContents) (s : State) (f : FrameState) (before : State)
    (opened : ℕ → ℕ) (suspended : State)
    → Suspends code b old s f before opened suspended
    → ((a : ℕ) → is_live b.range f a ≡ true → byte_at new a ≡ byte_at old a)
    → Suspends code b new s f before opened suspended
