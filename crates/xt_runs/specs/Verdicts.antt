-- What is judged of a run of an image ('profile').
use Rattle.std.specs.Prelude.{◌≡◌, ◌≢◌, ℕ, None, Some}
use Rattle.xt_trace.specs.declared.run.Run.{Run}
use Rattle.xt_image.specs.declared.image.Image.{Image}
use Rattle.xt_core.specs.Runs.{code_of}
use Rattle.xt_frames.specs.FirstBreach.{Course, IsFirstBreach}
use Rattle.xt_frames.specs.declared.kinds.Judged.{Judged}
use Rattle.xt_frames.specs.declared.kinds.Judged.TheVariants as judged
use Rattle.xt_handlers.specs.CheckAnswers.{handlers_of}
use Rattle.xt_discipline.specs.Verdicts.{course_of, judged_of, judgement_of}
use Rattle.xt_report.specs.Framed.{IsFrameRunOf}
use Rattle.xt_report.specs.declared.whole.Whole.{Whole}

-- by the definition over the whole lists of records: no turn before the breach shows one, and its
-- own turn shows it; or no turn at all shows one
abbrev pub IsFirstOf : Course → Judged → Type 0
IsFirstOf course judged.Unchecked = Unit {0}
IsFirstOf course judged.Whole = (p : ℕ) × IsFirstBreach course p None
IsFirstOf course (judged.Broken b) = (p : ℕ) × IsFirstBreach course p (Some b)

-- a run of an image with what is found of it: the answers for the window handlers are those of the
-- six vectors from the VECBASE on with which the run opens, and the verdict is that of the run's
-- records
abbrev pub whole_of : Image → Run → Whole
whole_of image r = record {
  run = r;
  handlers = handlers_of (code_of image) r.options.vecbase;
  judged = judged_of image r;
}

-- what is so of the verdict of a run of an image
pub record IsJudged (image : Image) (r : Run) : Type 0 where
  -- the breach that it names is the first of the run, and it names one where there is one
  pub first : IsFirstOf (course_of image r) (whole_of image r).judged
  -- where the verdict is not `none` and the two stacks are apart, the judged steps before the first
  -- breach are a run of the machine with unbounded call frames; where it is `whole`, that is all of
  -- them
  pub frames : (whole_of image r).judged ≢ judged.Unchecked → IsFrameRunOf image r
  pub whole : (whole_of image r).judged ≡ judged.Whole → (judgement_of image r).breach ≡ None
