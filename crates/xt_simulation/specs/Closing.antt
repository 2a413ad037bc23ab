-- Carries a proof; nothing that a reader must believe.
-- What a handler leaves, and that the relation holds again after it.
use Rattle.std.specs.Prelude.{◌≡◌, ℕ, Bool, List, [], ◌∷◌, ◌++◌}
use Rattle.xt_window.specs.Ring.{with_bit, without_bit}
use Rattle.xt_exec.specs.State.{State}
use Rattle.xt_frames.specs.Frames.{Frame, FrameState, windows_moved}
use Rattle.xt_simulation.specs.InHandlers.{Changes, Holds}
use Rattle.xt_simulation.specs.Relation.{Plain, without_epc1}

-- an overflow's handler moves the oldest frame of the ring to the spilled ones
abbrev pub SpillsKeepPlain : Type 0
SpillsKeepPlain =
    (vecbase : ℕ) (lost : ℕ → Bool) (s t : State) (f : FrameState) (ring : List Frame) (g : Frame)
    (spilled : List Frame)
    → Plain vecbase lost s f (ring ++ g ∷ []) spilled
    → Changes s t (windows_moved spilled) g.by
    → t.start ≡ without_bit s.start (windows_moved spilled)
    → Plain vecbase (without_epc1 lost) t f ring (g ∷ spilled)

-- an underflow's handler moves the newest of the spilled frames back into the ring
abbrev pub FillsKeepPlain : Type 0
FillsKeepPlain =
    (vecbase : ℕ) (lost : ℕ → Bool) (s t : State) (f : FrameState) (g : Frame) (rest : List Frame)
    → Plain vecbase lost s f [] (g ∷ rest)
    → Changes s t (windows_moved rest) g.by
    → Holds t.regs g.kept (windows_moved rest)
    → t.start ≡ with_bit s.start (windows_moved rest)
    → Plain vecbase (without_epc1 lost) t f (g ∷ []) rest
