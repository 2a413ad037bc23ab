-- States the law of runs of an image with other secrets: up to its first leak each run is the same.
use Rattle.std.specs.Prelude.{ℕ, Bool, Option}
use Rattle.xt_image.specs.declared.image.Image.{Image}
use Rattle.xt_image.specs.ImageParts.{FitsImage}
use Rattle.xt_trace.specs.declared.run.Run.{Run}
use Rattle.xt_rows.specs.RowLaws.{IsWord}
use Rattle.xt_core.specs.Runs.{IsRunOf}
use Rattle.xt_simulation.specs.FirstLeak.{IsFirstLeak, Leak}
use Rattle.xt_simulation.specs.WatchedRuns.{watched_of}
use Rattle.xt_simulation.specs.SecretRuns.{IsSameWithOtherSecrets}

-- what is a word or a byte by its type is one
abbrev pub ImageRunsAreSameUpToTheLeak : Type 0
ImageRunsAreSameUpToTheLeak =
    (image : Image) (r : Run) (secret public : ℕ → Bool) (p : ℕ) (found : Option Leak)
    → FitsImage image → IsWord r.options.vecbase → IsWord r.options.entry1
    → IsRunOf image r → IsFirstLeak (watched_of image r secret public) p found
    → IsSameWithOtherSecrets image r secret public p
