-- What is so of the secrets of a run of an image, by its answer.
use Rattle.std.proofs.Common.{ℕ, List}
use Rattle.xt_trace.specs.declared.run.Run.{Run}
use Rattle.xt_image.specs.declared.image.Image.{Image}
use Rattle.xt_image.specs.ImageParts.{FitsImage}
use Rattle.xt_rows.specs.RowLaws.{IsWord}
use Rattle.xt_core.specs.Runs.{IsRunOf}
use Rattle.xt_simulation.specs.FirstLeak.{IsFirstLeak}
use Rattle.xt_simulation.specs.SecretRunLaws.{ImageRunsAreSameUpToTheLeak}
use Rattle.xt_simulation.specs.WatchedRuns.{has_byte_at}
use Rattle.xt_secret_walk.specs.Answers.{IsSecretsOf, SecretsAreOne}
use Rattle.xt_secret_walk.specs.declared.leak.Secrets.{Secrets}
use Rattle.xt_secret_walk.specs.declared.leak.Secrets.TheVariants.{Whole, Leaks}
use Rattle.xt_report.specs.SecretFindings.{AreKept, IsOnlyAnswer, leak_in, watched_in}

module _ (image : Image) (r : Run) (secret public : List (ℕ × ℕ)) where
  -- up to a first leak, or the end
  kept_by : ImageRunsAreSameUpToTheLeak → FitsImage image → IsWord r.options.vecbase → IsWord r.options.entry1 → IsRunOf image r
      → (answer : Secrets) (place : ℕ) → IsFirstLeak (watched_in image r secret public) place (leak_in answer) → AreKept image r secret public answer
  kept_by law fits vecbase entry1 run answer place first = record {
    place = place;
    is_first = first;
    same = law image r (has_byte_at secret) (has_byte_at public) place (leak_in answer) fits vecbase entry1 run first;
  }

  pub are_kept : ImageRunsAreSameUpToTheLeak → FitsImage image → IsWord r.options.vecbase → IsWord r.options.entry1 → IsRunOf image r
      → (answer : Secrets) → IsSecretsOf image r secret public answer → AreKept image r secret public answer
  are_kept law fits vecbase entry1 run (Whole n m) said = kept_by law fits vecbase entry1 run (Whole n m) _ said.none
  are_kept law fits vecbase entry1 run (Leaks first) said = kept_by law fits vecbase entry1 run (Leaks first) said.place said.is_first

  pub is_only : SecretsAreOne → (answer : Secrets) → IsSecretsOf image r secret public answer → IsOnlyAnswer image r secret public answer
  is_only law answer said other is = law (watched_in image r secret public) other answer is said
