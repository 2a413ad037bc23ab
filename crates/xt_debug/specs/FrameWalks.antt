-- Carries a proof; nothing that a reader must believe.
-- The walk of the judge at one position of a run after another.
use Rattle.std.specs.Prelude.{◌≡◌, ◌⊎◌, ℕ, ◌+◌, ◌<◌, ◌≤◌, Option, Some, None, Result, Ok, Err, List}
use Rattle.std.specs.Prelude.{◌++◌, Bool, true, false, length, slice_get, take}
use Rattle.xt_map.specs.Memory.{constant_byte}
use Rattle.xt_trace.specs.declared.record.StepRecord.{StepRecord}
use Rattle.xt_trace.specs.declared.run.Run.{Run}
use Rattle.xt_image.specs.declared.image.Image.{Image}
use Rattle.xt_handlers.specs.CheckAnswers.{handlers_of}
use Rattle.xt_core.specs.Positions.{schedule_in}
use Rattle.xt_core.specs.Runs.{IsRunOf, code_of, records_of}
use Rattle.xt_replay.specs.Shown.{ReplayState, replay_at}
use Rattle.xt_frames.specs.declared.kinds.Judged.{Judged}
use Rattle.xt_frames.specs.declared.kinds.Judged.TheVariants.{Whole}
use Rattle.xt_frames.specs.Verdict.{Judgement, Known, judgement, opening_known}
use Rattle.xt_discipline.specs.declared.walk.Walk.{Walk}
use Rattle.xt_discipline.specs.Before.{known_before}
use Rattle.xt_discipline.specs.Places.{Stands}
use Rattle.xt_discipline.specs.Verdicts.{are_yes, opened0, opened1}
use Rattle.xt_discipline.specs.Walks.{Knows}
use Rattle.xt_debug.specs.declared.frame_walk.Course.{Course}
use Rattle.xt_debug.specs.declared.frame_walk.Course.TheVariants.{GoesOn, Ended, Lost}
use Rattle.xt_debug.specs.declared.frame_walk.FrameWalk.TheInside.{Inside}

-- ---- what is judged along some turns

abbrev pub judged_along : Image → Run → List ℕ → Judgement
judged_along image r cores =
    judgement
    (code_of image)
    (opened0 image r.options).bounds
    (opened1 r.options).bounds
    cores
    (records_of 0 image r).records
    (records_of 1 image r).records
    (opening_known (opened0 image r.options).state (opened1 r.options).state)

abbrev pub passes_check : Image → Run → Type 0
passes_check image r = are_yes (handlers_of (code_of image) r.options.vecbase) ≡ true

abbrev pub known_along : Image → Run → List ℕ → Option Known
known_along image r cores =
    known_before
    (are_yes (handlers_of (code_of image) r.options.vecbase))
    (judged_along image r cores)

-- ---- a walk at a position, where these records are left

-- it goes on from what is known
pub record IsOn
    (w : Walk) (image : Image) (r : Run) (p : ℕ) (xs ys : List StepRecord)
    : Type 0 where
  pub checked : passes_check image r
  pub known : Known
  pub knows : Knows w (opened0 image r.options).bounds (opened1 r.options).bounds known
  pub steps : known.steps0 + known.steps1 ≡ p
  pub code_is : constant_byte w.code ≡ code_of image
  pub judged : (cores : List ℕ)
      → judged_along image r (take p (schedule_in r) ++ cores)
      ≡ judgement (code_of image) (opened0 image r.options).bounds (opened1 r.options).bounds cores
      xs ys known

-- a core has no record left, and what is known stays
pub record HasStopped (w : Walk) (image : Image) (r : Run) (p : ℕ) : Type 0 where
  pub checked : passes_check image r
  pub known : Known
  pub stands : Stands w (opened0 image r.options).bounds (opened1 r.options).bounds known
  pub judged : (cores : List ℕ)
      → judged_along image r (take p (schedule_in r) ++ cores)
      ≡ record { known = known; breach = None }

abbrev pub StandsAt :
    Course → Walk → Image → Run → ℕ → List StepRecord → List StepRecord → Type 0
StandsAt GoesOn w image r p xs ys = IsOn w image r p xs ys
StandsAt Ended w image r p xs ys = HasStopped w image r p
StandsAt Lost w image r p xs ys =
    (cores : List ℕ) → known_along image r (take p (schedule_in r) ++ cores) ≡ None

-- how a walk begins, by whether the window handlers pass their check
abbrev pub opening_course : Bool → Course
opening_course true = GoesOn
opening_course false = Lost

-- how a walk that went on goes on after a turn
abbrev pub course_of : Result Unit Judged → Course
course_of (Ok u) = GoesOn
course_of (Err Whole) = Ended
course_of (Err _) = Lost

abbrev pub is_lost : Course → Bool
is_lost Lost = true
is_lost _ = false

-- the turn at a position is this core's
pub record IsTurnOf (image : Image) (r : Run) (p core : ℕ) : Type 0 where
  pub is : slice_get (schedule_in r) p ≡ Some core
  pub inside : p < length (schedule_in r)
  pub short : length (schedule_in r) ≤ 8000000

-- ---- the walk with its fields

abbrev pub state_of : Inside → ReplayState
state_of t = record { image = t.image.now; run = t.run.now; position = t.position }

pub record IsAtPosition (t : Inside) : Type 0 where
  pub run_is : IsRunOf t.image.now t.run.now
  pub schedule_is : t.schedule ≡ schedule_in t.run.now
  pub within : t.position ≤ length t.schedule
  pub stands : StandsAt t.course t.walk t.image.now t.run.now t.position t.records0 t.records1

-- the next turn was made, which is this core's, or there is none
abbrev pub Advances : Option ℕ → ReplayState → ReplayState → Type 0
Advances None old new = (length (schedule_in old.run) ≤ old.position) × (new ≡ old)
Advances (Some core) old new =
    (slice_get (schedule_in old.run) old.position ≡ Some core)
    × (core < 2) × (new ≡ replay_at old (old.position + 1))

-- so many turns were made, as far as there were turns
abbrev pub Skips : ℕ → ReplayState → ReplayState → Type 0
Skips count old new =
    (q : ℕ) × (new ≡ replay_at old q)
    × ((q ≡ old.position + count)
    ⊎ ((length (schedule_in old.run) ≤ q) × (q ≤ old.position + count)))
