-- What is judged of the runs of an image in all orders ('profile').
--
-- The verdict of a run is that of `run`: its first breach, if it has one.
use Rattle.std.specs.Prelude.{◌≡◌, ℕ, Bool, true, false, Option, None}
use Rattle.xt_image.specs.declared.image.Image.{Image}
use Rattle.xt_trace.specs.declared.options.Options.{Options}
use Rattle.xt_trace.specs.declared.run.Run.{Run}
use Rattle.xt_core.specs.Runs.{IsRunOf}
use Rattle.xt_frames.specs.declared.kinds.Breach.{Breach}
use Rattle.xt_frames.specs.FirstBreach.{IsFirstBreach}
use Rattle.xt_frames.specs.Verdict.{verdict_on}
use Rattle.xt_discipline.specs.Verdicts.{course_of, judged_of}

-- it is a run of the image, `run` says this breach of it, or that there is none, and that is its
-- first breach, or it has none
pub record IsVerdictOf (image : Image) (r : Run) (found : Option Breach) : Type 0 where
  pub run : IsRunOf image r
  pub verdict : judged_of image r ≡ verdict_on found
  pub first : (p : ℕ) × IsFirstBreach (course_of image r) p found

-- with these options, or with any numbers of turns instead of theirs
abbrev pub IsGiven : (timed : Bool) → Options → Options → Type 0
IsGiven true o own = own ≡ o
IsGiven false o own = own ≡ record o { turns0 = own.turns0; turns1 = own.turns1 }

-- no run has a breach, timed or with any numbers of turns
abbrev pub AllAreWhole : Image → Options → (timed : Bool) → Type 0
AllAreWhole image o timed =
    (r : Run) → IsRunOf image r → IsGiven timed o r.options → IsVerdictOf image r None
