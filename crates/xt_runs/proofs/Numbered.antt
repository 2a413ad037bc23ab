-- What the endings of `gen` say, and that its options are valid.
use Rattle.std.proofs.Common.{◌≡◌, ℕ, inr, List, length, Option, Some, None, refl, sym, ap, subst, ◌∙◌, arith}
use Rattle.std.specs.Io.KnownBytes.{Appends}
use Rattle.xt_io.specs.Causes.{Rose}
use Rattle.xt_io.specs.Whole.{AppendsPrefix}
use Rattle.xt_image.specs.declared.image.Image.{Image}
use Rattle.xt_image.specs.ImageParts.{image_bytes}
use Rattle.xt_gen.specs.Generated.{generated_image}
use Rattle.xt_command_line.specs.declared.options.RunOptions.{RunOptions}
use Rattle.xt_command_line.specs.Options.{AreValid}
use Rattle.xt_report.specs.declared.status.Status.{Status}
use Rattle.xt_report.specs.declared.status.Status.TheVariants as status
use Rattle.xt_trace.specs.declared.run.Run.{Run}
use Rattle.xt_report.specs.declared.whole.Whole.{Whole}
use Rattle.xt_report.specs.Summaries.{summary_text}
use Rattle.xt_runs.specs.Generating.{gen_options, gen_text}
use Rattle.xt_runs.specs.Runs.{Generates, IsGenerated, IsRunOfImage, generated_text}
use Rattle.xt_runs.specs.Verdicts.{IsJudged, whole_of}

pub options_are_valid : AreValid gen_options
options_are_valid = λ entry code. record {
  turns0 = omega arith;
  turns1 = omega arith;
  entry1 = code;
  vecbase = refl;
  stack0 = record { low = omega arith; high = omega arith; lo_aligned = refl; hi_aligned = refl; size = omega arith };
  stack1 = record { low = omega arith; high = omega arith; lo_aligned = refl; hi_aligned = refl; size = omega arith };
}

-- what is so of the image that was made is so of the number
pub of_number : (number : ℕ) (o : RunOptions) (image : Image) (run r : Run) → o ≡ gen_options → image ≡ generated_image number
    → IsRunOfImage o image run → IsJudged image run → r ≡ run → IsGenerated number r
of_number number o image run r given made is_run judged same =
    let P : RunOptions → Type 0 = λ x. IsRunOfImage x image run in
    let Q : Image → Type 0 = λ i. IsRunOfImage gen_options i run in
    let J : Image → Type 0 = λ i. IsJudged i run in
    let G : Run → Type 0 = λ x. IsGenerated number x in
    subst G (sym same) (record { is_run = subst Q made (subst P given is_run); judged = subst J made judged })

pub of_size : (number size : ℕ) (image : Image) (run r : Run) (w : Whole) (text : List ℕ) → size ≡ length (image_bytes image) → image ≡ generated_image number
    → w ≡ whole_of image run → r ≡ run → text ≡ summary_text number size w → text ≡ generated_text number r
of_size number size image run r w text long made whole same is =
    is
    ∙ ap (λ n. summary_text number n w) (long ∙ ap (λ i. length (image_bytes i)) made)
    ∙ ap (λ (x : Whole). gen_text number x) (whole ∙ ap (λ i. whole_of i run) made ∙ ap (λ x. whole_of (generated_image number) x) (sym same))

-- ---- the endings

pub gen_memory : (number : ℕ) (a b : Option (List ℕ)) (f g : ℕ) (run : Run) (s : Status) (r : Option Run) → s ≡ status.Memory → r ≡ None
    → IsGenerated number run → AppendsPrefix a b (generated_text number run) → Generates number a b f g s r
gen_memory number a b f g run s r is none generated_image front =
    let P : Status → Type 0 = λ x. Generates number a b f g x None in
    let Q : Option Run → Type 0 = λ x. Generates number a b f g s x in
    subst Q (sym none) (subst P (sym is) (inr (run, generated_image, front)))

pub gen_done : (number : ℕ) (a b : Option (List ℕ)) (f g : ℕ) (run : Run) (s : Status) → s ≡ status.Done
    → IsGenerated number run → Appends a b (generated_text number run) → Generates number a b f g s (Some run)
gen_done number a b f g run s is generated_image whole =
    let P : Status → Type 0 = λ x. Generates number a b f g x (Some run) in subst P (sym is) (generated_image, whole)

pub gen_failed : (number : ℕ) (a b : Option (List ℕ)) (f g : ℕ) (run : Run) (s : Status) → s ≡ status.WriteFault
    → IsGenerated number run → AppendsPrefix a b (generated_text number run) → Rose f g → Generates number a b f g s (Some run)
gen_failed number a b f g run s is generated_image front rose =
    let P : Status → Type 0 = λ x. Generates number a b f g x (Some run) in subst P (sym is) (generated_image, front, rose)
