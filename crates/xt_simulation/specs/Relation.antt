-- Carries a proof; nothing that a reader must believe.
-- The relation between the processor with windows and the machine with frames, outside handler
-- steps.
use Rattle.std.specs.Prelude.{◌≡◌, ◌⊎◌, ℕ, ◌+◌, ◌-◌, ◌*◌, ◌%◌, ◌<◌, ◌≤◌, Bool, true, false, None}
use Rattle.std.specs.Prelude.{◌==◌, ◌||◌, List, [], ◌∷◌, ◌++◌, slice_index, slice_index_or, length}
use Rattle.xt_special.specs.Numbers as number
use Rattle.xt_special.specs.Control.{Control, special_of}
use Rattle.xt_special.specs.Access.{is_eps}
use Rattle.xt_exec.specs.State.{State}
use Rattle.xt_exec.specs.TurnLaws.{IsShaped}
use Rattle.xt_exec.specs.Turn.{planned_turn, window_exception}
use Rattle.xt_frames.specs.Frames.{Frame, FrameState, windows_moved}
use Rattle.xt_frames.specs.FrameStep.{Inputs, with_inputs}
use Rattle.xt_frames.specs.HandlerSteps.{is_window}
use Rattle.xt_frames.specs.Breaches.{lost_of, window_breach}
use Rattle.xt_frames.specs.Marks.{holds_marks}
use Rattle.xt_frames.specs.Nesting.{nested_level}
use Rattle.xt_frames.specs.Stacks.{AreFrames}
use Rattle.xt_simulation.specs.Ring.{Windows}

-- the special registers that the frame machine does not know: EPC1, where it is lost, and those
-- that have no number
abbrev pub lost_at : Bool → FrameState → ℕ → Bool
lost_at fresh f n = lost_of fresh n || slice_index_or f.unset n false

-- a window exception writes EPC1, which the frame machine does not see
abbrev pub without_epc1 : (ℕ → Bool) → ℕ → Bool
without_epc1 lost n = lost_of false n || lost n

-- a nested interrupt leaves EPC5 and EPS5 without a number, and those that hold marks; of EPS2 to
-- EPS7 the machine of uses need not know each bit
abbrev pub can_be_lost : ℕ → Bool
can_be_lost n =
    n == number.epc 1 || (n == number.epc nested_level || (is_eps n || holds_marks n))

-- special registers that are equal, but for those that are lost
pub record Same (lost : ℕ → Bool) (xs ys : List ℕ) : Type 0 where
  pub size : length xs ≡ length ys
  pub only : (k : ℕ) → lost k ≡ true → can_be_lost k ≡ true
  pub at : (k : ℕ) → lost k ≡ false → slice_index xs k ≡ slice_index ys k

pub record Even (lost : ℕ → Bool) (c d : Control) : Type 0 where
  pub pc : c.pc ≡ d.pc
  pub ps : c.ps ≡ d.ps
  pub threadptr : c.threadptr ≡ d.threadptr
  pub waits : c.waits ≡ d.waits
  pub special : Same lost c.special d.special

-- the inputs that a turn's record gives the frame step
abbrev pub inputs : ℕ → State → Inputs
inputs reply s =
    record {
      ccount = special_of s.control number.ccount;
      interrupt = special_of s.control number.interrupt;
      owb = s.control.ps.owb;
      reply = reply;
    }

-- the processor and a frame state over which its inputs are laid
pub record Level
    (vecbase : ℕ) (lost : ℕ → Bool) (s : State) (g : FrameState)
    (ring spilled : List Frame) : Type 0 where
  pub windows : Windows s.regs s.base s.start g.seen ring (windows_moved spilled)
  pub frames : g.frames ≡ ring ++ spilled
  pub older : AreFrames spilled
  pub even : Even lost s.control g.control
  pub woe : s.control.ps.woe ≡ true
  pub calls : s.control.ps.callinc < 4
  pub vectors : special_of s.control number.vecbase ≡ vecbase

-- outside handler steps, where `ring` are the callers whose windows stand and `spilled` the older
-- ones
abbrev pub Plain : ℕ → (ℕ → Bool) → State → FrameState → List Frame → List Frame → Type 0
Plain vecbase lost s f ring spilled = Level vecbase lost s (with_inputs (inputs 0 s) f) ring spilled

-- ---- window exceptions

-- an overflow: the window of the ring's oldest caller g is to be stored, through the vector of its
-- size
pub record Overflows (code : ℕ → ℕ) (s : State) (ring spilled : List Frame) : Type 0 where
  pub front : List Frame
  pub g : Frame
  pub last : ring ≡ front ++ g ∷ []
  pub moves : 0 < g.by
  pub within : g.by ≤ 3
  pub running : s.control.waits ≡ false
  pub low : s.control.ps.excm ≡ false
  pub is : planned_turn code s ≡ window_exception (2 * (g.by - 1)) (windows_moved spilled % 16) s

-- an underflow: no caller stands in the ring, and the window of the newest spilled one, g, is to be
-- loaded, through the vector of its size
pub record Underflows (code : ℕ → ℕ) (s : State) (ring spilled : List Frame) : Type 0 where
  pub empty : ring ≡ []
  pub g : Frame
  pub rest : List Frame
  pub older : spilled ≡ g ∷ rest
  pub moves : 0 < g.by
  pub within : g.by ≤ 3
  pub running : s.control.waits ≡ false
  pub low : s.control.ps.excm ≡ false
  pub is : planned_turn code s ≡ window_exception (2 * (g.by - 1) + 1) (windows_moved rest % 16) s

-- a turn that enters a window exception, where its record shows no breach
abbrev pub EntersWindow : Type 0
EntersWindow =
    (vecbase : ℕ) (code : ℕ → ℕ) (lost : ℕ → Bool) (s : State) (f : FrameState)
    (ring spilled : List Frame) (reply : ℕ)
    → Plain vecbase lost s f ring spilled
    → IsShaped s
    → is_window (planned_turn code s).kind ≡ true
    → window_breach code (planned_turn code s).kind (with_inputs (inputs reply s) f) ≡ None
    → Overflows code s ring spilled ⊎ Underflows code s ring spilled
