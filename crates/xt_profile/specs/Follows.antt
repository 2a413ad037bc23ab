-- Carries a proof; nothing that a reader must believe.
-- What is counted along the schedule of a run.
use Rattle.std.specs.Prelude.{◌≡◌, ℕ, zero, suc, ◌+◌, ◌≤◌, Option, Some, None, List, [], ◌∷◌, length, take}
use Rattle.xt_trace.specs.declared.record.StepRecord.{StepRecord}
use Rattle.xt_frames.specs.Breaches.{Bounds}
use Rattle.xt_frames.specs.Frames.{FrameState}
use Rattle.xt_frames.specs.declared.kinds.HandlerPhase.TheVariants.{Outside}
use Rattle.xt_frames.specs.HandlerSteps.{phase_after}
use Rattle.xt_frames.specs.Judging.{Standing}
use Rattle.xt_frames.specs.Verdict.{Judgement, Known, judgement}
use Rattle.xt_map.specs.Memory.{constant_byte}
use Rattle.xt_discipline.specs.declared.walk.Walk.{Walk}
use Rattle.xt_discipline.specs.Phases.{step_phase}
use Rattle.xt_discipline.specs.Walks.{Knows, Reaches}
use Rattle.xt_profile.specs.declared.counting.Made.{Made}
use Rattle.xt_profile.specs.declared.tally.Tally.{Tally}
use Rattle.xt_profile.specs.Steps.{Step, frame_after, frames_standing, steps_from}
use Rattle.xt_profile.specs.CountedSteps.{IsTally, Origin}

-- ---- one turn

-- how many frames a core has in the walk
abbrev pub depth_in : ℕ → Walk → ℕ
depth_in zero w = length w.side0.frames.state.frames
depth_in (suc core) w = length w.side1.frames.state.frames

-- what is known of a core past a record
pub record IsNext (code : ℕ → ℕ) (old : Standing) (x : StepRecord) (new : Standing) : Type 0 where
  pub phase_is : new.phase ≡ phase_after code old.phase x
  pub frame_is : new.frame ≡ frame_after code (step_phase old.phase x.kind) x old.frame

-- a core's record x was the turn, of which this was made
pub record IsStep
    (code : ℕ → ℕ) (x : StepRecord) (old new : Standing) (xs left : List StepRecord) (made : Made)
    : Type 0 where
  pub records_are : xs ≡ x ∷ left
  pub next : IsNext code old x new
  pub made_is : made
      ≡ record {
        pc = x.pc;
        phase = step_phase old.phase x.kind;
        after = length new.frame.frames;
      }

-- a core makes the turn, and the other does not
abbrev pub IsPassed :
    ℕ → (ℕ → ℕ) → Known → Known → Made → List StepRecord → List StepRecord → List StepRecord
    → List StepRecord → Type 0
IsPassed zero code k n made xs ys xs' ys' =
    ((x : StepRecord) × IsStep code x k.standing0 n.standing0 xs xs' made)
    × (n.steps0 ≡ suc k.steps0) × (n.standing1 ≡ k.standing1) × (n.steps1 ≡ k.steps1)
    × (ys' ≡ ys)
IsPassed (suc core) code k n made xs ys xs' ys' =
    ((y : StepRecord) × IsStep code y k.standing1 n.standing1 ys ys' made)
    × (n.steps1 ≡ suc k.steps1) × (n.standing0 ≡ k.standing0) × (n.steps0 ≡ k.steps0)
    × (xs' ≡ xs)

-- a turn: `xs` and `ys` are the records that were left before, and `xs'` and `ys'` those after it
abbrev pub IsMade :
    (ℕ → ℕ) → Bounds → Bounds → ℕ → Known → List StepRecord → List StepRecord → Walk
    → List StepRecord → List StepRecord → Option Made → Type 0
IsMade code b0 b1 core k xs ys new xs' ys' (Some made) =
    (n : Known) × Knows new b0 b1 n × (n.steps0 + n.steps1 ≡ suc (k.steps0 + k.steps1))
    × (constant_byte new.code ≡ code)
    × ((cs : List ℕ) → judgement code b0 b1 (core ∷ cs) xs ys k ≡ judgement code b0 b1 cs xs' ys' n)
    × IsPassed core code k n made xs ys xs' ys'
IsMade code b0 b1 core k xs ys new xs' ys' None =
    (cs : List ℕ) → (judgement code b0 b1 (core ∷ cs) xs ys k).known ≡ k

-- ---- so many turns

-- the records of a core up to those that are left have these steps
pub record IsCore
    (code : ℕ → ℕ) (f : FrameState) (xs left : List StepRecord) (n : ℕ) (st : Standing)
    (past : List Step) : Type 0 where
  pub depth_is : frames_standing past ≡ length st.frame.frames
  pub count_is : length past ≡ n
  pub left_is : n + length left ≡ length xs
  pub steps_are : (m : ℕ)
      → steps_from code Outside f [] (take (n + m) xs)
      ≡ steps_from code st.phase st.frame past (take m left)

-- both cores are counted so far
pub record Follows
    (code : ℕ → ℕ) (b0 b1 : Bounds) (k : Known) (schedule : List ℕ) (e0 e1 : Origin)
    (xs ys : List StepRecord) (w : Walk) (turns : ℕ) (xs' ys' : List StepRecord) (t0 t1 : Tally)
    : Type 0 where
  pub reach : Reaches code b0 b1 k schedule xs ys w turns xs' ys'
  pub past0 : List Step
  pub past1 : List Step
  pub core0 : IsCore code k.standing0.frame xs xs' reach.known.steps0 reach.known.standing0 past0
  pub core1 : IsCore code k.standing1.frame ys ys' reach.known.steps1 reach.known.standing1 past1
  pub tally0 : IsTally e0 past0 t0
  pub tally1 : IsTally e1 past1 t1

-- ---- at the cut
-- the first n records of a core are counted
pub record IsCut
    (code : ℕ → ℕ) (f : FrameState) (xs : List StepRecord) (n : ℕ) (opening : Origin)
    (t : Tally)
    : Type 0 where
  pub past : List Step
  pub count_is : length past ≡ n
  pub within : n ≤ length xs
  pub steps_are : steps_from code Outside f [] (take n xs) ≡ past
  pub tally : IsTally opening past t

pub record AreCut
    (code : ℕ → ℕ) (k : Known) (e0 e1 : Origin) (xs ys : List StepRecord) (j : Judgement)
    (t0 t1 : Tally) : Type 0 where
  pub core0 : IsCut code k.standing0.frame xs j.known.steps0 e0 t0
  pub core1 : IsCut code k.standing1.frame ys j.known.steps1 e1 t1
