-- Laws of call profiles; nothing that a reader must believe.
use Rattle.std.specs.Prelude.{◌≡◌, ℕ, ◌+◌, ◌-◌, ◌<◌, ◌≤◌, max, ◌⊎◌, Option, None, List, [], ◌∷◌}
use Rattle.std.specs.Prelude.{◌++◌, length, take}
use Rattle.xt_image.specs.declared.image.Image.{Image}
use Rattle.xt_trace.specs.declared.record.StepRecord.{StepRecord}
use Rattle.xt_trace.specs.declared.run.Run.{Run}
use Rattle.xt_frames.specs.declared.kinds.Breach.{Breach}
use Rattle.xt_frames.specs.FirstBreach.{Course, IsFirstBreach}
use Rattle.xt_frames.specs.Frames.{FrameState}
use Rattle.xt_frames.specs.declared.kinds.HandlerPhase.{HandlerPhase}
use Rattle.xt_frames.specs.declared.kinds.HandlerPhase.TheVariants.{Outside}
use Rattle.xt_discipline.specs.Verdicts.{course_of}
use Rattle.xt_core.specs.Runs.{IsRunOf}
use Rattle.xt_profile.specs.declared.changes.Change.{Change}
use Rattle.xt_profile.specs.declared.changes.Change.TheVariants.{Stays, Calls, Returns}
use Rattle.xt_profile.specs.Steps.{Step, frames_standing, steps_from}
use Rattle.xt_profile.specs.After.{calls_after, step_with_change}
use Rattle.xt_profile.specs.Keys.{functions}
use Rattle.xt_profile.specs.Profiled.{all_steps, count_before_cut, end_of, records}

-- the function list has one number more than frames stand
abbrev pub FunctionsAreFrames : Type 0
FunctionsAreFrames =
    (opening n : ℕ) (past : List Step) → length (functions opening n past) ≡ n + 1

-- one of these steps took the number of frames from below d to d or more
abbrev pub IsPushed : ℕ → List Step → Type 0
IsPushed d [] = ⊥
IsPushed d (s ∷ past) = ((s.before < d) × (d ≤ s.after)) ⊎ IsPushed d past

-- each frame that stands before a step was pushed by an earlier one
abbrev pub ArePushed : List Step → Type 0
ArePushed [] = Unit {0}
ArePushed (s ∷ past) =
    ((d : ℕ) → 0 < d → d ≤ s.before → IsPushed d past) × ArePushed past

-- of a core that opens with no frames: so each number of a function list is the PC of a step
abbrev pub FramesArePushed : Type 0
FramesArePushed =
    (code : ℕ → ℕ) (f : FrameState) (xs : List StepRecord) → f.frames ≡ []
    → ArePushed (steps_from code Outside f [] xs)

-- turn p shows the first breach, or p counts all turns and there is none; no other number does so
pub record IsOnlyEnd (c : Course) (p : ℕ) : Type 0 where
  pub found : Option Breach
  pub first : IsFirstBreach c p found
  pub only : (q : ℕ) (other : Option Breach) → IsFirstBreach c q other → q ≡ p

-- the cut of both cores, which counts the turns before `end_of`, stands at the first breach
abbrev pub ProfileEndsAtFirstBreach : Type 0
ProfileEndsAtFirstBreach =
    (image : Image) (r : Run) → IsOnlyEnd (course_of image r) (end_of image r)

-- if a run has no breach, the cut of each core stands after all of its records
abbrev pub WithoutBreachAllIsCounted : Type 0
WithoutBreachAllIsCounted =
    (image : Image) (r : Run) (p : ℕ) → IsRunOf image r → IsFirstBreach (course_of image r) p None
    → (count_before_cut 0 image r ≡ length (records 0 image r))
    × (count_before_cut 1 image r ≡ length (records 1 image r))

-- each function that stands before a later step was pushed by an earlier step, before the cut or
-- after it
abbrev pub LaterFunctionsArePushed : Type 0
LaterFunctionsArePushed =
    (core n : ℕ) (image : Image) (r : Run) → ArePushed (all_steps core n image r)

-- what a change makes of the function list: a call puts the step's PC behind it, and a return takes
-- the last number away, but never the first
abbrev pub functions_after : Change → ℕ → List ℕ → List ℕ
functions_after Stays pc xs = xs
functions_after Calls pc xs = xs ++ pc ∷ []
functions_after Returns pc xs = take (max 1 (length xs - 1)) xs

-- the function list after a later step is that of its change
abbrev pub LaterFunctionsFollowChanges : Type 0
LaterFunctionsFollowChanges =
    (opening pc : ℕ) (phase : HandlerPhase) (change : Change) (past : List Step)
    → functions
    opening
    (calls_after change (frames_standing past))
    (step_with_change pc phase change past ∷ past)
    ≡ functions_after change pc (functions opening (frames_standing past) past)
