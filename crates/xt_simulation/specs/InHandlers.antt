-- What a handler step and a whole stretch of them have done ('profile').
--
-- Profile: the addresses of a stretch's save words are said in the words of the frames (`InAreas`):
-- by their stack pointers, in live save areas. The moved frame's bit of WINDOWSTART was set before
-- an overflow and clear before an underflow. In `oldest` windows are counted without end, so that
-- window w + 16 is window w again: before an overflow no bit is set behind the newest frame's
-- window, which is `windows_moved f.frames`, before the moved frame's comes again.
use Rattle.std.specs.Prelude.{◌≡◌, ◌≢◌, ◌≤◌, ◌<◌, ℕ, ◌+◌, ◌-◌, ◌*◌, ◌%◌, true, false, nat_lt}
use Rattle.std.specs.Prelude.{◌==◌, if◌then◌else◌, Option, Some, None}
use Rattle.std.specs.Prelude.{List, [], ◌∷◌, ◌++◌, length, slice_index, slice_index_or}
use Rattle.xt_special.specs.Numbers as number
use Rattle.xt_special.specs.Control.{Control}
use Rattle.xt_exec.specs.State.{State}
use Rattle.xt_frames.specs.Frames.{Frame, FrameState, value_or_zero, windows_moved}
use Rattle.xt_frames.specs.SaveAreas.{is_live, sp_of, before as sp_before}
use Rattle.xt_frames.specs.Breaches.{Bounds}
use Rattle.xt_handlers.specs.declared.stretch.Side.{Side}
use Rattle.xt_handlers.specs.declared.stretch.Side.TheVariants.{Overflow, Underflow}
use Rattle.xt_window.specs.Ring.{place, visible, bit, with_bit, without_bit}
use Rattle.xt_handlers.specs.Needs.{save_word}
use Rattle.xt_handlers.specs.Machines.{address_of, Machine, word_at, IsElsewhere}
use Rattle.xt_handlers.specs.Vectors.{vector_at}

-- PC, PS but OWB, and the special registers but EPC1, CCOUNT and INTERRUPT are as before the window
-- exception
pub record Resumes (c d : Control) : Type 0 where
  pub pc : d.pc ≡ c.pc
  pub ps : d.ps ≡ record c.ps { owb = d.ps.owb }
  pub threadptr : d.threadptr ≡ c.threadptr
  pub waits : d.waits ≡ c.waits
  pub size : length d.special ≡ length c.special
  pub special : (k : ℕ) → k ≢ number.epc 1 → k ≢ number.interrupt → k ≢ number.ccount
      → slice_index d.special k ≡ slice_index c.special k

-- a register after a nested step that has changed it, and else as it was before the stretch
abbrev pub value_left : ℕ → ℕ → ℕ → ℕ
value_left old from to = if to == from then old else to

abbrev pub special_left : List ℕ → List ℕ → List ℕ → List ℕ
special_left (old ∷ olds) (from ∷ froms) (to ∷ tos) =
    value_left old from to ∷ special_left olds froms tos
special_left _ _ _ = []

-- The state before a stretch, with THREADPTR and the special registers that a nested step from this
-- state to that one has changed.
abbrev pub as_left : State → State → State → State
as_left before from to = record before {
  control = record before.control {
    special = special_left before.control.special from.control.special to.control.special;
    threadptr = value_left before.control.threadptr from.control.threadptr to.control.threadptr;
  };
}

-- A nested interrupt that has ended leaves these as they were when it was taken, and all live bytes
-- of its core.
pub record LeavesHandler
    (b : Bounds) (f : FrameState) (suspended after : State) (held now : ℕ → ℕ) : Type 0 where
  pub seen : (i : ℕ) → i < 4
      → visible after.regs after.base i ≡ visible suspended.regs suspended.base i
  pub epc1 : slice_index after.control.special (number.epc 1) ≡ slice_index
      suspended.control.special
      (number.epc 1)
  pub ps : after.control.ps ≡ suspended.control.ps
  pub base : after.base ≡ suspended.base
  pub start : after.start ≡ suspended.start
  pub areas : (a : ℕ) → is_live b.range f a ≡ true → now a ≡ held a

-- only the registers below a(4n) of window `at` may have changed
pub record Changes (s t : State) (at n : ℕ) : Type 0 where
  pub base : t.base ≡ s.base
  pub size : length t.regs ≡ length s.regs
  pub others : (p : ℕ) → 4 * (at + n) ≤ p → p < 4 * at + 64
      → slice_index t.regs (p % 64) ≡ slice_index s.regs (p % 64)
  pub control : Resumes s.control t.control

-- the kept registers that have a value stand in the window w
abbrev pub Holds : List ℕ → List (Option ℕ) → ℕ → Type 0
Holds regs kept w =
    (i v : ℕ) → slice_index_or kept i None ≡ Some v → slice_index regs (place w i) ≡ v

-- the handler's window, with the registers and the bytes at the record of the window exception
abbrev pub start_of : State → (ℕ → ℕ) → List Frame → Machine
start_of before opened rest =
    record { ring = before.regs; base = windows_moved rest % 16; bytes = opened }

-- the handler has not to store there
abbrev pub Untouched : Side → ℕ → Machine → ℕ → Type 0
Untouched Overflow n start a = IsElsewhere n start a
Untouched Underflow n start a = Unit {0}

-- What a whole stretch has done, from the state before its record of a window exception to the one
-- after its RFWO or RFWU: PC, the window, PS but OWB, the special registers but EPC1, CCOUNT and
-- INTERRUPT, and all registers but the moved frame's own are as before; one bit of WINDOWSTART is
-- cleared or set; and the frame's registers stand in its save areas, or have come from there.
pub record Stretch
    (side : Side) (n : ℕ) (before after : State) (opened now : ℕ → ℕ)
    (rest : List Frame) : Type 0 where
  pub changes : Changes before after (windows_moved rest) n
  pub overflow_bit : side ≡ Overflow → after.start ≡ without_bit before.start (windows_moved rest)
  pub underflow_bit : side ≡ Underflow → after.start ≡ with_bit before.start (windows_moved rest)
  pub saved : side ≡ Overflow → (k : ℕ) → k < 4 * n
      → word_at now (address_of (start_of before opened rest) (save_word Overflow n k)) ≡ visible
      before.regs (windows_moved rest % 16) k
  pub loaded : side ≡ Underflow → (k : ℕ) → k < 4 * n
      → visible after.regs (windows_moved rest % 16) k ≡ word_at opened
      (address_of (start_of before opened rest) (save_word Underflow n k))

-- the callers in the ring above the moved frame
abbrev pub above : Side → List Frame → List Frame
above Overflow front = front
above Underflow front = []

-- the stack pointer of the oldest of these callers, or the newest frame's where there are none
abbrev pub sp_under : ℕ → List Frame → ℕ
sp_under sp [] = sp
sp_under sp (f ∷ fs) = sp_under (sp_of f) fs

-- Where register k of the frame g is saved, in the save areas of the machine with unbounded frames,
-- whose frames are newer ++ g ∷ rest: the first four in the 16 bytes below the stack pointer of the
-- frame that g called, the others in the bytes that end 16 below its caller's.
abbrev pub saved_at : Bounds → FrameState → List Frame → Frame → List Frame → ℕ → ℕ
saved_at b f newer g rest k =
    if nat_lt k 4 then sp_under (value_or_zero f.seen 1) newer - 16 + 4 * k
    else sp_before b.range.hi rest - 16 * g.by + 4 * (k - 4)

-- the handler's save words are these, and they lie in live save areas of the core
pub record InAreas
    (b : Bounds) (f : FrameState) (side : Side) (newer : List Frame) (g : Frame)
    (rest : List Frame) (start : Machine) : Type 0 where
  pub addresses : (k : ℕ) → k < 4 * g.by
      → address_of start (save_word side g.by k) ≡ saved_at b f newer g rest k
  pub live : (k a : ℕ) → k < 4 * g.by
      → saved_at b f newer g rest k ≤ a → a < saved_at b f newer g rest k + 4
      → is_live b.range f a ≡ true

-- A stretch has moved one frame: the oldest in the ring to its save areas, or the newest of the
-- others back. What it stores is the frame's kept registers, what it loads are they. No visible
-- register that has a value has changed, and no live byte of the core but those of its stores.
pub record MovesFrame
    (b : Bounds) (f : FrameState) (before after : State) (opened now : ℕ → ℕ) : Type 0 where
  pub side : Side
  pub front : List Frame
  pub g : Frame
  pub rest : List Frame
  pub frames : f.frames ≡ above side front ++ g ∷ rest
  pub areas : InAreas b f side (above side front) g rest (start_of before opened rest)
  -- its window stood before an overflow, and not before an underflow
  pub stood : side ≡ Overflow → bit before.start (windows_moved rest) ≡ true
  -- and in an overflow it is the oldest in the ring: from the newest frame's window round to its
  -- own no other stands
  pub newest : before.base ≡ windows_moved f.frames % 16
  pub oldest : side ≡ Overflow
      → (w : ℕ) → windows_moved f.frames < w → w < windows_moved rest + 16 → bit before.start w
      ≡ false
  pub spilled : side ≡ Underflow → bit before.start (windows_moved rest) ≡ false
  pub stretch : Stretch side g.by before after opened now rest
  pub seen : (i v : ℕ) → slice_index_or f.seen i None ≡ Some v
      → (visible before.regs before.base i ≡ v) × (visible after.regs after.base i ≡ v)
  pub stored : side ≡ Overflow → Holds before.regs g.kept (windows_moved rest)
  pub returned : side ≡ Underflow → Holds after.regs g.kept (windows_moved rest)
  pub elsewhere : (a : ℕ) → is_live b.range f a ≡ true
      → Untouched side g.by (start_of before opened rest) a → now a ≡ opened a

-- One handler step runs in the vector of one frame's size and in that frame's window, and changes
-- no byte but those of its save words; that of an underflow changes none.
pub record StoresAlone
    (b : Bounds) (f : FrameState) (before s : State) (opened old new : ℕ → ℕ) : Type 0 where
  pub side : Side
  pub front : List Frame
  pub g : Frame
  pub rest : List Frame
  pub frames : f.frames ≡ above side front ++ g ∷ rest
  pub areas : InAreas b f side (above side front) g rest (start_of before opened rest)
  pub vector_low : vector_at b.vecbase side g.by ≤ s.control.pc
  pub vector_high : s.control.pc < vector_at b.vecbase side g.by + 64
  pub window : s.base ≡ windows_moved rest % 16
  pub elsewhere : side ≡ Overflow
      → (a : ℕ) → IsElsewhere g.by (start_of before opened rest) a → new a ≡ old a
  pub nowhere : side ≡ Underflow → (a : ℕ) → new a ≡ old a
