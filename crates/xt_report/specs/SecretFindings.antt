-- What `secrets` tells of a run of an image ('profile').
use Rattle.std.specs.Prelude.{◌≡◌, ℕ, Option, Some, None, List}
use Rattle.xt_trace.specs.declared.run.Run.{Run}
use Rattle.xt_image.specs.declared.image.Image.{Image}
use Rattle.xt_core.specs.Runs.{code_of}
use Rattle.xt_simulation.specs.FirstLeak.{IsFirstLeak, Leak, Watched}
use Rattle.xt_simulation.specs.SecretRuns.{IsSameWithOtherSecrets}
use Rattle.xt_simulation.specs.WatchedRuns.{has_byte_at, watched_of}
use Rattle.xt_secret_walk.specs.Answers.{IsSecretsOf}
use Rattle.xt_secret_walk.specs.declared.leak.Secrets.{Secrets}
use Rattle.xt_secret_walk.specs.declared.leak.Secrets.TheVariants.{Whole, Leaks}
use Rattle.xt_report.specs.SecretsText.{secrets_text}

-- a run of an image whose secret and public bytes are those of these ranges
abbrev pub watched_in : Image → Run → List (ℕ × ℕ) → List (ℕ × ℕ) → Watched
watched_in image r secret public =
    watched_of image r (has_byte_at secret) (has_byte_at public)

-- the leak that an answer names, if it names one
abbrev pub leak_in : Secrets → Option Leak
leak_in (Whole n m) = None
leak_in (Leaks first) = Some (record { core = first.core; step = first.step })

-- The leak of the answer is turn `place` of the run, or there is none and this is their number. The
-- turns before it are the same with every other secret.
pub record AreKept
    (image : Image) (r : Run) (secret public : List (ℕ × ℕ)) (answer : Secrets) : Type 0 where
  pub place : ℕ
  pub is_first : IsFirstLeak (watched_in image r secret public) place (leak_in answer)
  pub same : IsSameWithOtherSecrets image r (has_byte_at secret) (has_byte_at public) place

-- no other answer is one of the run
abbrev pub IsOnlyAnswer :
    Image → Run → List (ℕ × ℕ) → List (ℕ × ℕ) → Secrets → Type 0
IsOnlyAnswer image r secret public answer =
    (other : Secrets) → IsSecretsOf image r secret public other → other ≡ answer

-- This is the text of the answer on the secrets of the run, which has no other answer; and up to the
-- leak that it names, or to its end, the run is the same with every other secret.
pub record AreSecretsTold
    (image : Image) (r : Run) (secret public : List (ℕ × ℕ)) (text : List ℕ) : Type 0 where
  pub answer : Secrets
  pub is_answer : IsSecretsOf image r secret public answer
  pub text_is : text ≡ secrets_text (code_of image) answer
  pub only : IsOnlyAnswer image r secret public answer
  pub kept : AreKept image r secret public answer
