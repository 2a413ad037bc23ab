-- What the endings of a run say.
use Rattle.std.proofs.Common.{◌≡◌, ℕ, inr, List, Option, Some, None, IfSome, refl, sym, ap, ◌∙◌, subst}
use Rattle.std.specs.Io.KnownBytes.{Appends}
use Rattle.xt_io.specs.Causes.{Rose}
use Rattle.xt_io.specs.Whole.{AppendsPrefix}
use Rattle.xt_image.specs.declared.image.Image.{Image}
use Rattle.xt_image.specs.Rules.{image_fault}
use Rattle.xt_image.specs.Format.{image_of}
use Rattle.xt_trace.specs.declared.run.Run.{Run}
use Rattle.xt_record.specs.Written.{recording_bytes}
use Rattle.xt_command_line.specs.declared.options.RunOptions.{RunOptions}
use Rattle.xt_report.specs.declared.status.Status.{Status}
use Rattle.xt_report.specs.declared.status.Status.TheVariants as status
use Rattle.xt_report.specs.declared.whole.Whole.{Whole}
use Rattle.xt_runs.specs.declared.outcome.Wanted.{Wanted}
use Rattle.xt_runs.specs.declared.outcome.Wanted.TheVariants as wanted
use Rattle.xt_runs.specs.declared.told.Told.{Told}
use Rattle.xt_runs.specs.declared.told.Told.TheVariants as told
use Rattle.xt_runs.specs.Runs.{HasRun, IsOutput, IsRunOfImage, IsText, Runs, image_limit, run_text}
use Rattle.xt_runs.specs.Requirements.{IsUnmet}
use Rattle.xt_runs.specs.Told.{IsTold, run_in, told_text, verdict_in}
use Rattle.xt_runs.specs.Verdicts.{IsJudged, whole_of}
use Rattle.xt_report.specs.Calls.{Ends}
use Rattle.xt_report.proofs.Quiet.{taken_within}

-- ---- what is written

pub same_run : (t : Wanted) (o : RunOptions) (image : Image) (run : Run) (x : Told) → IsTold t o image run x → run_in x ≡ run
same_run wanted.Report o image run (told.Report w analyses) (is, are) = ap (λ (w : Whole). w.run) is
same_run wanted.Report o image run (told.Recording r) is = absurd is
same_run wanted.Recording o image run (told.Report w analyses) is = absurd is
same_run wanted.Recording o image run (told.Recording r) is = is

-- the verdict that is known is the run's
pub is_known : (t : Wanted) (o : RunOptions) (image : Image) (run : Run) (x : Told) → IsTold t o image run x → IfSome (verdict_in x) (λ j. j ≡ (whole_of image run).judged)
is_known wanted.Report o image run (told.Report w analyses) (is, are) = ap (λ (w : Whole). w.judged) is
is_known wanted.Report o image run (told.Recording r) is = absurd is
is_known wanted.Recording o image run (told.Report w analyses) is = absurd is
is_known wanted.Recording o image run (told.Recording r) is = tt

is_text : (t : Wanted) (o : RunOptions) (image : Image) (run : Run) (x : Told) (P : List ℕ → Type 0) → IsTold t o image run x → P (told_text o image x)
    → (text : List ℕ) × IsText t o image run text × P text
is_text wanted.Report o image run (told.Report w analyses) P (is, are) holds =
    let Q : Whole → Type 0 = λ x. P (run_text o image x analyses) in
    (run_text o image (whole_of image run) analyses, (analyses, are, refl), subst Q is holds)
is_text wanted.Report o image run (told.Recording r) P is holds = absurd is
is_text wanted.Recording o image run (told.Report w analyses) P is holds = absurd is
is_text wanted.Recording o image run (told.Recording r) P is holds =
    let Q : Run → Type 0 = λ x. P (recording_bytes image x) in (recording_bytes image run, refl, subst Q is holds)

-- what is so of the image that was read is so of the input
pub of_input : (t : Wanted) (o : RunOptions) (input read : List ℕ) (image : Image) (run shown : Run) (x : Told) (unmet : Option (List ℕ)) (P : List ℕ → Type 0)
    → read ≡ input → (image_fault read ≡ None) × (image ≡ image_of read) → IsRunOfImage o image run → IsJudged image run → IsTold t o image run x
    → shown ≡ run_in x → IsUnmet o image shown unmet → P (told_text o image x) → IsOutput t o P run unmet input
of_input t o input read image run shown x unmet P same (none, is) is_run judged tells is_shown lacks holds =
    let A : List ℕ → Type 0 = λ bytes. image_fault bytes ≡ None in
    let B : List ℕ → Type 0 = λ bytes. image ≡ image_of bytes in
    let made : image ≡ image_of input = subst B same is in
    let text = is_text t o image run x P tells holds in
    let R : Run → Type 0 = λ r. IsUnmet o image r unmet in
    let Q : Image → Type 0 = λ i. IsRunOfImage o i run in
    let J : Image → Type 0 = λ i. IsJudged i run in
    let U : Image → Type 0 = λ i. IsUnmet o i run unmet in
    let T : Image → Type 0 = λ i. IsText t o i run text.0 in
    record {
      is_run = record { image = subst A same none; is_run = subst Q made is_run; judged = subst J made judged };
      is_unmet = subst U made (subst R (is_shown ∙ same_run t o image run x tells) lacks);
      text = text.0;
      is_text = subst T made text.1;
      written = text.2;
    }

-- ---- the endings

pub memory : (t : Wanted) (o : RunOptions) (e : Ends) (run : Run) (line : Option (List ℕ)) (s : Status) (r : Option Run) (unmet : Option (List ℕ))
    → s ≡ status.Memory → r ≡ None → unmet ≡ None → HasRun t o e run line (AppendsPrefix e.told e.told_after) → Runs t o e s r unmet
memory t o e run line s r unmet is none no_line has =
    let P : Status → Type 0 = λ x. Runs t o e x None None in
    let Q : Option Run → Type 0 = λ x. Runs t o e s x None in
    let R : Option (List ℕ) → Type 0 = λ x. Runs t o e s r x in
    subst R (sym no_line) (subst Q (sym none) (subst P (sym is) (taken_within image_limit e has.input has.taken has.within, inr (run, line, has))))

pub done : (t : Wanted) (o : RunOptions) (e : Ends) (run r : Run) (unmet : Option (List ℕ)) (s : Status) → s ≡ status.Done → r ≡ run
    → HasRun t o e run unmet (Appends e.told e.told_after) → Runs t o e s (Some r) unmet
done t o e run r unmet s is same has =
    let P : Status → Type 0 = λ x. Runs t o e x (Some r) unmet in
    let Q : Run → Type 0 = λ x. HasRun t o e x unmet (Appends e.told e.told_after) in
    subst P (sym is) (subst Q (sym same) has)

pub failed : (t : Wanted) (o : RunOptions) (e : Ends) (run r : Run) (unmet : Option (List ℕ)) (s : Status) → s ≡ status.WriteFault → r ≡ run
    → HasRun t o e run unmet (AppendsPrefix e.told e.told_after) → Rose e.sink_faults e.sink_faults_after
    → Runs t o e s (Some r) unmet
failed t o e run r unmet s is same has rose =
    let P : Status → Type 0 = λ x. Runs t o e x (Some r) unmet in
    let Q : Run → Type 0 = λ x. HasRun t o e x unmet (AppendsPrefix e.told e.told_after) in
    subst P (sym is) (subst Q (sym same) has, rose)
