-- What the report says of the window handlers and of the frames, beside the headline.
use Rattle.std.proofs.Common.{◌≡◌, ℕ, Bool, true, false, None, Option, Some, refl}
use Rattle.xt_image.specs.declared.image.Image.{Image}
use Rattle.xt_core.specs.Runs.{code_of, records_of}
use Rattle.xt_frames.specs.declared.kinds.Breach.{Breach}
use Rattle.xt_frames.specs.declared.kinds.Judged.{Judged}
use Rattle.xt_frames.specs.declared.kinds.Judged.TheVariants as judged
use Rattle.xt_frames.specs.FirstBreach.{Course, IsFirstBreach, IsJudgement, WalkFindsFirstBreach}
use Rattle.xt_frames.specs.Verdict.{Judgement, verdict, verdict_on}
use Rattle.xt_discipline.specs.Schedules.{schedule_in}
use Rattle.xt_discipline.specs.Verdicts.{are_yes, course_of, judgement_of, opened0, opened1}
use Rattle.xt_report.specs.Framed.{IsFramed}
use Rattle.xt_trace.specs.declared.run.Run.{Run}
use Rattle.xt_runs.specs.Verdicts.{IsFirstOf, IsJudged, whole_of}

unchecked_or : (b : Bool) (j : Judgement) (v : Judged) → v ≡ verdict b j → (v ≡ judged.Unchecked → ⊥) → b ≡ true
unchecked_or true j v e checked = refl
unchecked_or false j v e checked = absurd (checked e)

breach_none : (o : Option Breach) → verdict_on o ≡ judged.Whole → o ≡ None
breach_none None e = refl
breach_none (Some b) e = absurd cc

whole_none : (b : Bool) (j : Judgement) → verdict b j ≡ judged.Whole → j.breach ≡ None
whole_none true j e = breach_none j.breach e
whole_none false j e = absurd cc

-- ---- the first breach

first_on : (c : Course) (found : Option Breach) (p : ℕ) → IsFirstBreach c p found → IsFirstOf c (verdict_on found)
first_on c None p first = (p, first)
first_on c (Some b) p first = (p, first)

first_of : (c : Course) (checked : Bool) (j : Judgement) (p : ℕ) → IsFirstBreach c p j.breach → IsFirstOf c (verdict checked j)
first_of c true j p first = first_on c j.breach p first
first_of c false j p first = tt

is_first : (image : Image) (r : Run) → WalkFindsFirstBreach → IsFirstOf (course_of image r) (whole_of image r).judged
is_first image r law =
    let c = course_of image r in
    let found : IsJudgement c (judgement_of image r) =
    law (code_of image) (opened0 image r.options).bounds (opened1 r.options).bounds (schedule_in r) (records_of 0 image r).records (records_of 1 image r).records (opened0 image r.options).state (opened1 r.options).state in
    first_of c (are_yes (whole_of image r).handlers) (judgement_of image r) found.place found.first

pub is_judged : (image : Image) (r : Run) → WalkFindsFirstBreach → IsFramed image r → IsJudged image r
is_judged image r law framed =
    let w = whole_of image r in
    record {
      first = is_first image r law;
      frames = λ some apart. (framed (unchecked_or (are_yes w.handlers) (judgement_of image r) w.judged refl some) apart).0;
      whole = λ e. whole_none (are_yes w.handlers) (judgement_of image r) e;
    }
