-- The steps of a core, as a profile sees them ('profile').
--
-- Note: steps stand the latest first. The key of a step is that before it: ENTRY counts for its
-- caller, RETW for the function that returns.
use Rattle.std.specs.Prelude.{ℕ, true, false, List, [], ◌∷◌, length}
use Rattle.xt_trace.specs.declared.record.StepRecord.{StepRecord}
use Rattle.xt_frames.specs.Frames.{FrameState}
use Rattle.xt_frames.specs.declared.kinds.HandlerPhase.{HandlerPhase}
use Rattle.xt_frames.specs.declared.kinds.HandlerPhase.TheVariants.{Outside, InHandler, Nested}
use Rattle.xt_frames.specs.HandlerSteps.{phase_after}
use Rattle.xt_frames.specs.Judging.{step_on}
use Rattle.xt_discipline.specs.Phases.{step_phase}

-- a step: where, whether it is a handler step, and how many frames stand before and after it
pub record Step : Type 0 where
  pub pc : ℕ
  pub phase : HandlerPhase
  pub before : ℕ
  pub after : ℕ

-- the frame state past a record: no handler step changes it
abbrev pub frame_after : (ℕ → ℕ) → HandlerPhase → StepRecord → FrameState → FrameState
frame_after code Outside rec f = (step_on code false rec f).after
frame_after code InHandler rec f = f
frame_after code Nested rec f = (step_on code true rec f).after

abbrev pub step_of : HandlerPhase → StepRecord → FrameState → FrameState → Step
step_of phase rec f g =
    record { pc = rec.pc; phase = phase; before = length f.frames; after = length g.frames }

-- how many frames stand after these steps
abbrev pub frames_standing : List Step → ℕ
frames_standing [] = 0
frames_standing (s ∷ past) = s.after

-- the steps of these records in front of those in `past`: the latest first
abbrev pub steps_from :
    (ℕ → ℕ) → HandlerPhase → FrameState → List Step → List StepRecord → List Step
steps_from code m f past [] = past
steps_from code m f past (x ∷ xs) =
    let phase = step_phase m x.kind in
    let g = frame_after code phase x f in
    steps_from code (phase_after code m x) g (step_of phase x f g ∷ past) xs
