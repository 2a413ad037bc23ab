-- Carries a proof; nothing that a reader must believe.
-- How the program keeps a frame state, and what its functions answer.
use Rattle.std.specs.Prelude.{◌≡◌, ◌≢◌, ℕ, ◌+◌, ◌-◌, ◌*◌, ◌/◌, ◌<◌, ◌≤◌, Bool, true, false, Option}
use Rattle.std.specs.Prelude.{Some, None, List, [], ◌∷◌, map, reverse, take}
use Rattle.xt_special.specs.Control.{Control}
use Rattle.xt_special.specs.Interrupts.{pending_of}
use Rattle.xt_trace.specs.declared.record.StepKind.{StepKind}
use Rattle.xt_trace.specs.declared.record.StepKind.TheVariants as kind
use Rattle.xt_trace.specs.declared.record.StepRecord.{StepRecord}
use Rattle.xt_map.specs.Fetching.{fetch_at}
use Rattle.xt_codec.specs.Fetches.{IsFetched, IsGoodFetch}
use Rattle.xt_frames.specs.declared.breach.Tested.{Tested}
use Rattle.xt_frames.specs.declared.breach.Case.{Case}
use Rattle.xt_frames.specs.declared.holes.UndefinedParts.{UndefinedParts}
use Rattle.xt_frames.specs.declared.view.Caller.{Caller}
use Rattle.xt_frames.specs.declared.view.Call.{Call}
use Rattle.xt_frames.specs.declared.view.Call.TheVariants.{Stays, Calls, Returns}
use Rattle.xt_frames.specs.declared.view.StepSummary.{StepSummary}
use Rattle.xt_frames.specs.declared.view.NextEvent.{NextEvent}
use Rattle.xt_frames.specs.declared.view.NextEvent.TheVariants as plan
use Rattle.xt_frames.specs.Frames.{Frame, FrameState, all_set}
use Rattle.xt_frames.specs.FrameStep.{FrameTurn}
use Rattle.xt_frames.specs.SaveAreas.{before}
use Rattle.xt_frames.specs.Breaches.{Test, loads_stale, touches_save_area}
use Rattle.xt_frames.specs.Stacks as stacks

-- ---- a frame state is kept as a view, its holes and the callers, the oldest first

pub record Upper : Type 0 where
  pub seen : List (Option ℕ)
  pub control : Control

abbrev pub no_holes : UndefinedParts
no_holes = record { unset = all_set; nested = None }

abbrev pub state_at : List Frame → UndefinedParts → Upper → FrameState
state_at frames h v = record {
  seen = v.seen;
  frames = frames;
  control = v.control;
  unset = h.unset;
  nested = h.nested;
}

abbrev pub frame_of : Caller → Frame
frame_of c = record { by = c.by; kept = take (4 * c.by) c.kept }

unfoldable pub frames_of : List Caller → List Frame
frames_of callers = reverse (map frame_of callers)

-- the newest caller of these frames, if any
abbrev pub newest_of : List Frame → Option Frame
newest_of [] = None
newest_of (f ∷ fs) = Some f

abbrev pub frame_where : Option Caller → Option Frame
frame_where None = None
frame_where (Some c) = Some (frame_of c)

abbrev pub IsNewest : Option Caller → List Frame → Type 0
IsNewest newest frames = newest_of frames ≡ frame_where newest

abbrev pub without_newest : List Frame → List Frame
without_newest [] = []
without_newest (f ∷ fs) = fs

-- a caller moved by 1, 2 or 3 windows
abbrev pub IsSmall : Option Caller → Type 0
IsSmall None = Unit {0}
IsSmall (Some c) = c.by < 4

-- ---- a step

-- the frames after a call, a return or another step
abbrev pub frames_after : Call → List Frame → List Frame
frames_after Stays frames = frames
frames_after (Calls c) frames = frame_of c ∷ frames
frames_after Returns frames = without_newest frames

abbrev pub turn_as : StepSummary → List Frame → UndefinedParts → Upper → FrameTurn
turn_as t frames h v = record {
  kind = t.kind;
  write = t.write;
  access = t.access;
  after = state_at (frames_after t.call frames) h v;
}

-- what the next step is
abbrev pub IsPlan : NextEvent → (ℕ → ℕ) → Control → Type 0
IsPlan (plan.Interrupt level) code c = (pending_of c ≡ level) × (1 ≤ level) × (level ≤ 5)
IsPlan plan.Waits code c = (pending_of c ≡ 0) × (c.waits ≡ true)
IsPlan (plan.Fetched f) code c =
    (pending_of c ≡ 0) × (c.waits ≡ false) × IsFetched f (fetch_at code c.pc)

-- a step that was planned so is of this kind
abbrev pub IsKindOf : NextEvent → StepKind → Type 0
IsKindOf (plan.Interrupt level) k = k ≡ kind.Interrupt level
IsKindOf plan.Waits k = k ≡ kind.Wait
IsKindOf (plan.Fetched f) k = (level : ℕ) → k ≢ kind.Interrupt level

abbrev pub IsGood : NextEvent → Type 0
IsGood (plan.Interrupt level) = Unit {0}
IsGood plan.Waits = Unit {0}
IsGood (plan.Fetched f) = IsGoodFetch f

-- ---- tests, as the program lists them

abbrev pub shown_test : Tested → Test
shown_test t = record { kind = t.kind; shown = t.shown }

abbrev pub shown_tests : List Tested → List Test
shown_tests tests = map shown_test tests

-- what a step is tested by
pub record IsCase
    (case : Case) (rec : StepRecord) (frames : List Frame) (live stale : ℕ → Bool) : Type 0 where
  pub saves : touches_save_area live rec.access ≡ case.saves
  pub stale_load : loads_stale live stale rec.access ≡ case.stale
  pub newest : IsNewest case.newest frames
  pub under : case.under ≡ before case.limits.hi frames

-- ---- the callers as they are kept: their frames are on the stack, and there is room for
-- all that can stand there
pub record AreKept (lo hi : ℕ) (v : Upper) (callers : List Caller) (capacity : ℕ) : Type 0 where
  pub stack : stacks.Stack lo hi v.seen (frames_of callers)
  pub room : (hi - lo) / 16 + 2 ≤ capacity
