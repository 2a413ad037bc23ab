-- The headline in the words of an image and its run ('profile').
use Rattle.std.specs.Prelude.{◌≡◌, ℕ, Bool, true, None, List}
use Rattle.xt_trace.specs.declared.record.StepRecord.{StepRecord}
use Rattle.xt_trace.specs.declared.run.Run.{Run}
use Rattle.xt_image.specs.declared.image.Image.{Image}
use Rattle.xt_image.specs.ImageParts.{FitsImage}
use Rattle.xt_rows.specs.RowLaws.{IsWord}
use Rattle.xt_trace.specs.Short.{ShortRun, short_trace}
use Rattle.xt_exec.specs.State.{State}
use Rattle.xt_core.specs.Runs.{code_of, records_of, IsRunOf}
use Rattle.xt_frames.specs.FirstBreach.{judged_of}
use Rattle.xt_frames.specs.declared.kinds.HandlerPhase.TheVariants.{Outside}
use Rattle.xt_discipline.specs.Verdicts.{are_checked, judgement_of}
use Rattle.xt_simulation.specs.Walking.{Apart}
use Rattle.xt_simulation.specs.Opening.{Openings, openings_of}
use Rattle.xt_simulation.specs.Headline.{AreFrames, RunHasMovedFrames}

-- a run with what is kept of its records
abbrev pub short_of : Image → Run → ShortRun State
short_of image r = record {
  history = r.history;
  trace0 = short_trace (records_of 0 image r);
  trace1 = short_trace (records_of 1 image r);
}

-- how both machines open
abbrev pub opening : Image → Run → Openings
opening image r = openings_of image.segments image.entry r.options

-- the judged records of a core's trace: all but its handler steps, each with whether it is nested
abbrev pub judged_of_core : ℕ → Image → Run → List (Bool × StepRecord)
judged_of_core core image r = judged_of (code_of image) Outside (records_of core image r).records

-- The judged records before the first breach are a run of the machine with unbounded call frames,
-- over one legal history; and where there is no breach, they are all judged records of both traces.
pub record IsRunOfFrames (image : Image) (r : Run) : Type 0 where
  pub frames : AreFrames (opening image r) (code_of image) (judgement_of image r)
  pub all0 : (judgement_of image r).breach ≡ None
      → (judgement_of image r).known.judged0 ≡ judged_of_core 0 image r
  pub all1 : (judgement_of image r).breach ≡ None
      → (judgement_of image r).known.judged1 ≡ judged_of_core 1 image r

-- Where the answers for the six window handlers are all `yes` and the two stacks are apart, it is a
-- run of that machine; and at each position before the first breach each whole stretch of handler
-- steps has moved one frame, and each nested interrupt is pending in that machine too, and gives
-- the window handler back what it had.
abbrev pub IsFramed : Image → Run → Type 0
IsFramed image r =
    are_checked image r.options ≡ true
    → Apart (opening image r).range0 (opening image r).range1
    → IsRunOfFrames image r
    × RunHasMovedFrames image.segments image.entry r.options (short_of image r)

-- without the premise on the handlers
abbrev pub IsFrameRunOf : Image → Run → Type 0
IsFrameRunOf image r =
    Apart (opening image r).range0 (opening image r).range1 → IsRunOfFrames image r

-- the numbers of an image and of the addresses of a run's options are in the ranges of their types
pub record AreTyped (image : Image) (r : Run) : Type 0 where
  pub image_fits : FitsImage image
  pub vecbase : IsWord r.options.vecbase
  pub entry1 : IsWord r.options.entry1

abbrev pub RunsAreFramed : Type 0
RunsAreFramed = (image : Image) (r : Run) → AreTyped image r → IsRunOf image r → IsFramed image r
