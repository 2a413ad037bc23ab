-- Carries a proof; nothing that a reader must believe.
-- A judged step keeps the relation: what is said of it.
use Rattle.std.specs.Prelude.{◌≡◌, ◌<◌, ℕ, Bool, false, None, List}
use Rattle.xt_trace.specs.declared.record.StepRecord.{StepRecord}
use Rattle.xt_map.specs.Code.{AreBytes}
use Rattle.xt_exec.specs.State.{State}
use Rattle.xt_exec.specs.TurnLaws.{IsShaped}
use Rattle.xt_exec.specs.Turn.{planned_turn, turn}
use Rattle.xt_frames.specs.Frames.{Frame, FrameState, value_or_zero}
use Rattle.xt_frames.specs.FrameStep.{FrameTurn, step_with_inputs}
use Rattle.xt_frames.specs.HandlerSteps.{is_window}
use Rattle.xt_frames.specs.Breaches.{Bounds, laid_breach, fresh_after}
use Rattle.xt_frames.specs.Nesting.{unset_after}
use Rattle.xt_map.specs.Fetching.{fetch_at}
use Rattle.xt_frames.specs.Stacks.{Stack}
use Rattle.xt_simulation.specs.Stacks.{sp_under}
use Rattle.xt_simulation.specs.Relation.{Level, lost_at}
use Rattle.xt_exec.specs.Finishing.{Turn, finished_turn}

-- a turn and a frame step with one record, after which the machines are level and the same frames
-- are spilled
pub record Steps
    (vecbase : ℕ) (lost : ℕ → Bool) (spilled : List Frame) (under : ℕ) (t : Turn)
    (u : FrameTurn) : Type 0 where
  pub kind : t.kind ≡ u.kind
  pub write : t.write ≡ u.write
  pub access : t.access ≡ u.access
  pub ring : List Frame
  pub level : Level vecbase lost t.after u.after ring spilled
  pub same : sp_under (value_or_zero u.after.seen 1) ring ≡ under

abbrev pub turn_of : (ℕ → ℕ) → State → ℕ → Turn
turn_of code s reply = finished_turn (planned_turn code s) reply

-- and the frame step, with the special registers to which it gives numbers
abbrev pub plain_after : (ℕ → ℕ) → ℕ → FrameState → FrameTurn
plain_after code reply g =
    let u = step_with_inputs code reply g in
    record u {
      after = record u.after { unset = unset_after u.kind (fetch_at code g.control.pc) g.unset };
    }

abbrev pub fresh_turn : Bool → (ℕ → ℕ) → ℕ → State → Bool
fresh_turn fresh code reply s =
    fresh_after fresh (planned_turn code s).kind (fetch_at code s.control.pc) s.control.ps
    (turn_of code s reply).after.control.ps

-- a step that shows no breach and is no window exception keeps the relation, and both machines
-- record the same
abbrev pub KeepsLevel : Type 0
KeepsLevel =
    (code : ℕ → ℕ) → AreBytes code
    → (b : Bounds) (fresh : Bool) (live stale : ℕ → Bool) (s : State) (g : FrameState)
    (ring spilled : List Frame) (reply : ℕ)
    → Level b.vecbase (lost_at fresh g) s g ring spilled → g.nested ≡ None
    → IsShaped s → IsShaped (turn code s reply).1
    → (turn code s reply).0.reply ≡ reply
    → is_window (planned_turn code s).kind ≡ false
    → laid_breach b fresh code live stale (turn code s reply).0 g ≡ None
    → let u = plain_after code reply g in
    Steps b.vecbase (lost_at (fresh_turn fresh code reply s) u.after) spilled
    (sp_under (value_or_zero g.seen 1) ring) (turn_of code s reply) u

-- the chain of stack pointers is the frame machine's alone
abbrev pub KeepsStack : Type 0
KeepsStack =
    (code : ℕ → ℕ) → AreBytes code
    → (b : Bounds) (fresh : Bool) (live stale : ℕ → Bool) (rec : StepRecord) (g : FrameState)
    → Stack b.range.lo b.range.hi g.seen g.frames → g.control.ps.callinc < 4
    → laid_breach b fresh code live stale rec g ≡ None
    → Stack b.range.lo b.range.hi (step_with_inputs code rec.reply g).after.seen
    (step_with_inputs code rec.reply g).after.frames
