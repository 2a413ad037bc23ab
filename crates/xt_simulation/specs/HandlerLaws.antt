-- Carries a proof; nothing that a reader must believe.
-- What is said of handler steps: entered at the record of a window exception, kept by each step,
-- left at RFWO and RFWU, and not disturbed by an access of the other core that touches no live
-- byte.
use Rattle.std.specs.Prelude.{◌≡◌, ℕ, Bool, true, false, None, List}
use Rattle.xt_map.specs.declared.contents.MemoryContents.{MemoryContents}
use Rattle.xt_map.specs.Memory.{HasSizes, byte_at}
use Rattle.xt_map.specs.Code.{AreBytes}
use Rattle.xt_exec.specs.State.{State}
use Rattle.xt_exec.specs.TurnLaws.{IsShaped}
use Rattle.xt_exec.specs.Turn.{planned_turn, demand}
use Rattle.xt_frames.specs.Frames.{Frame, FrameState}
use Rattle.xt_frames.specs.FrameStep.{with_inputs}
use Rattle.xt_frames.specs.SaveAreas.{is_live}
use Rattle.xt_frames.specs.HandlerSteps.{is_window}
use Rattle.xt_frames.specs.Nesting.{is_nesting}
use Rattle.xt_frames.specs.Breaches.{Bounds, window_breach}
use Rattle.xt_simulation.specs.Relation.{inputs, lost_at}
use Rattle.xt_simulation.specs.Cores.{Related}
use Rattle.xt_simulation.specs.Steps.{state_now}
use Rattle.xt_simulation.specs.Handling.{IsGood, Handling, HandlerStep}

abbrev pub StretchesAreEntered : Type 0
StretchesAreEntered =
    (code : ℕ → ℕ) → AreBytes code → (b : Bounds) → IsGood code b
    → (m : MemoryContents) (fresh : Bool) (s : State) (f : FrameState)
    (ring spilled : List Frame) (reply : ℕ)
    → Related (byte_at m) b (lost_at fresh f) s f ring spilled → IsShaped s
    → is_window (planned_turn code s).kind ≡ true
    → window_breach code (planned_turn code s).kind (with_inputs (inputs reply s) f) ≡ None
    → (demand code s ≡ None) × Handling code b m (state_now code m s) f s (byte_at m)

abbrev pub HandlerStepsAreKept : Type 0
HandlerStepsAreKept =
    (code : ℕ → ℕ) → AreBytes code → (b : Bounds) → IsGood code b
    → (m : MemoryContents) (s : State) (f : FrameState) (before : State) (opened : ℕ → ℕ)
    → Handling code b m s f before opened → IsShaped s → HasSizes m
    → is_nesting (planned_turn code s).kind ≡ false
    → HandlerStep code b m s f before opened

abbrev pub HandlersAreSpared : Type 0
HandlersAreSpared =
    (code : ℕ → ℕ) → AreBytes code → (b : Bounds) → IsGood code b
    → (old new : MemoryContents) (s : State) (f : FrameState) (before : State) (opened : ℕ → ℕ)
    → Handling code b old s f before opened
    → ((a : ℕ) → is_live b.range f a ≡ true → byte_at new a ≡ byte_at old a)
    → Handling code b new s f before opened
