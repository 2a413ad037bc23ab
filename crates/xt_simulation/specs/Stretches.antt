-- Carries a proof; nothing that a reader must believe.
-- A whole stretch of handler steps, by what the handler's stores and loads are.
use Rattle.std.specs.Prelude.{◌≡◌, ◌≢◌, ℕ, ◌+◌, ◌-◌, ◌*◌, ◌<◌, ◌≤◌, Bool, true, false, List}
use Rattle.std.specs.Prelude.{[], ◌∷◌, ◌++◌, slice_index, length}
use Rattle.xt_special.specs.Numbers as number
use Rattle.xt_special.specs.Control.{Control, special_of}
use Rattle.xt_special.specs.Timers.{after_tick}
use Rattle.xt_special.specs.WindowExceptions.{after_window_exception}
use Rattle.xt_window.specs.Ring.{visible, with_bit, without_bit}
use Rattle.xt_exec.specs.State.{State}
use Rattle.xt_frames.specs.Frames.{Frame, FrameState, windows_moved}
use Rattle.xt_frames.specs.Breaches.{Bounds}
use Rattle.xt_handlers.specs.Joined.{Finds}
use Rattle.xt_simulation.specs.Stacks.{IsElsewhere}
use Rattle.xt_simulation.specs.Cores.{word, Related}
use Rattle.xt_simulation.specs.Relation.{without_epc1}
use Rattle.xt_simulation.specs.InHandlers.{Resumes, Changes}

-- the stores of an overflow of n from window w
pub record Stores (old new : ℕ → ℕ) (s : State) (w n : ℕ) : Type 0 where
  pub low : (i : ℕ) → i < 4
      → word new (visible s.regs w (4 * n + 1) - 16 + 4 * i) ≡ visible s.regs w i
  pub high : (i : ℕ) → 4 ≤ i → i < 4 * n
      → word new (word old (visible s.regs w 1 - 12) - 16 * n + 4 * (i - 4)) ≡ visible s.regs w i
  pub others : (a : ℕ)
      → IsElsewhere a (visible s.regs w (4 * n + 1)) (word old (visible s.regs w 1 - 12)) n
      → word new a ≡ word old a

-- the loads of an underflow of n into window w
pub record Loads (m : ℕ → ℕ) (s t : State) (w n : ℕ) : Type 0 where
  pub low : (i : ℕ) → i < 4
      → visible t.regs w i ≡ word m (visible s.regs w (4 * n + 1) - 16 + 4 * i)
  pub high : (i : ℕ) → 4 ≤ i → i < 4 * n
      → visible t.regs w i ≡ word m
      (word m (word m (visible s.regs w (4 * n + 1) - 12) - 12) - 16 * n + 4 * (i - 4))

abbrev pub OverflowsKeepRelated : Type 0
OverflowsKeepRelated =
    (b : Bounds) (lost : ℕ → Bool) (s t : State) (f : FrameState) (ring : List Frame) (g : Frame)
    (spilled : List Frame) (old new : ℕ → ℕ)
    → Related old b lost s f (ring ++ g ∷ []) spilled
    → Changes s t (windows_moved spilled) g.by
    → t.start ≡ without_bit s.start (windows_moved spilled)
    → Stores old new s (windows_moved spilled) g.by
    → Related new b (without_epc1 lost) t f ring (g ∷ spilled)

abbrev pub UnderflowsKeepRelated : Type 0
UnderflowsKeepRelated =
    (b : Bounds) (lost : ℕ → Bool) (s t : State) (f : FrameState) (g : Frame) (rest : List Frame)
    (m : ℕ → ℕ)
    → Related m b lost s f [] (g ∷ rest)
    → Changes s t (windows_moved rest) g.by
    → t.start ≡ with_bit s.start (windows_moved rest)
    → Loads m s t (windows_moved rest) g.by
    → Related m b (without_epc1 lost) t f (g ∷ []) rest

-- ---- PC, PS and the special registers within a stretch
pub record InHandler (before now : Control) (base : ℕ) : Type 0 where
  pub ps : now.ps ≡ record before.ps { owb = base; excm = true }
  pub epc1 : special_of now (number.epc 1) ≡ before.pc
  pub threadptr : now.threadptr ≡ before.threadptr
  pub waits : now.waits ≡ before.waits
  pub size : length now.special ≡ length before.special
  pub special : (k : ℕ) → k ≢ number.epc 1 → k ≢ number.interrupt → k ≢ number.ccount
      → slice_index now.special k ≡ slice_index before.special k

abbrev pub StretchesBegin : Type 0
StretchesBegin =
    (c : Control) (base vector : ℕ) → number.epc 1 < length c.special
    → InHandler c (after_tick (after_window_exception base vector c)) base

abbrev pub StretchesGoOn : Type 0
StretchesGoOn =
    (before now : Control) (base pc : ℕ) → InHandler before now base
    → InHandler before (after_tick (record now { pc = pc })) base

-- RFWO and RFWU, beside the window
abbrev pub StretchesEnd : Type 0
StretchesEnd =
    (before now : Control) (base : ℕ) → before.ps.excm ≡ false → InHandler before now base
    → let ps = record now.ps { excm = false } in
    Resumes before (after_tick (record now { pc = special_of now (number.epc 1); ps = ps }))

-- ---- what a handler finds

abbrev pub OverflowsFindFrames : Type 0
OverflowsFindFrames =
    (b : Bounds) (lost : ℕ → Bool) (s : State) (f : FrameState) (ring : List Frame) (g : Frame)
    (spilled : List Frame) (m : ℕ → ℕ)
    → Related m b lost s f (ring ++ g ∷ []) spilled
    → Finds b.range.lo b.range.hi g.by (visible s.regs (windows_moved spilled) (4 * g.by + 1))
    (visible s.regs (windows_moved spilled) 1)
    (word m (visible s.regs (windows_moved spilled) 1 - 12))

abbrev pub UnderflowsFindFrames : Type 0
UnderflowsFindFrames =
    (b : Bounds) (lost : ℕ → Bool) (s : State) (f : FrameState) (g : Frame) (rest : List Frame)
    (m : ℕ → ℕ)
    → Related m b lost s f [] (g ∷ rest)
    → Finds b.range.lo b.range.hi g.by (visible s.regs (windows_moved rest) (4 * g.by + 1))
    (word m (visible s.regs (windows_moved rest) (4 * g.by + 1) - 12))
    (word m (word m (visible s.regs (windows_moved rest) (4 * g.by + 1) - 12) - 12))
