-- What `run` writes behind its report: memory, and the analyses that its words ask for ('profile').
use Rattle.std.specs.Prelude.{◌≡◌, ℕ, Bool, true, false, List, [], ◌++◌, Option, Some, None}
use Rattle.xt_image.specs.declared.image.Image.{Image}
use Rattle.xt_trace.specs.declared.run.Run.{Run}
use Rattle.xt_events.specs.Events.{events_text}
use Rattle.xt_race.specs.Races.{events_of}
use Rattle.xt_race.specs.RaceTexts.{IsRaceText}
use Rattle.xt_profile.specs.Profiled.{profile_of}
use Rattle.xt_profile.specs.ProfileText.{profile_text}
use Rattle.xt_uses.specs.declared.discipline.Discipline.TheVariants.{Strict}
use Rattle.xt_report.specs.UseFindings.{IsUsesTold}
use Rattle.xt_report.specs.SecretFindings.{AreSecretsTold}
use Rattle.xt_command_line.specs.declared.options.RunOptions.{RunOptions}
use Rattle.xt_command_line.specs.declared.secrets.SecretOptions.{SecretOptions}
use Rattle.xt_runs.specs.Memory.{memory_text}

-- this is the text of an analysis of the run of an image
abbrev pub IsEventsOf : Image → Run → List ℕ → Type 0
IsEventsOf image run text = text ≡ events_text image run

abbrev pub IsRaceOf : Image → Run → List ℕ → Type 0
IsRaceOf image run text = IsRaceText (events_of image run) text

abbrev pub IsProfileOf : Image → Run → List ℕ → Type 0
IsProfileOf image run text = text ≡ profile_text 8 (profile_of 8 image run)

-- the strict discipline of uses
abbrev pub IsUsesTextOf : Image → Run → List ℕ → Type 0
IsUsesTextOf image run text = IsUsesTold Strict image run text

-- the text of an analysis that is wanted, or nothing
abbrev pub IsWanted : Bool → (List ℕ → Type 0) → List ℕ → Type 0
IsWanted true Is text = Is text
IsWanted false Is text = text ≡ []

-- of the bytes that are secret, or nothing if none are
abbrev pub IsSecretsText : Option SecretOptions → Image → Run → List ℕ → Type 0
IsSecretsText None image run text = text ≡ []
IsSecretsText (Some s) image run text = AreSecretsTold image run s.secret s.public text

-- the texts that the words ask for, one after another
pub record AreAnalyses (o : RunOptions) (image : Image) (run : Run) (text : List ℕ) : Type 0 where
  pub events : List ℕ
  pub race : List ℕ
  pub profile : List ℕ
  pub uses : List ℕ
  pub secrets : List ℕ
  pub are_events : IsWanted o.events (IsEventsOf image run) events
  pub is_race : IsWanted o.race (IsRaceOf image run) race
  pub is_profile : IsWanted o.profile (IsProfileOf image run) profile
  pub is_uses : IsWanted o.uses (IsUsesTextOf image run) uses
  pub are_secrets : IsSecretsText o.secrets image run secrets
  pub are_all :
      text ≡ memory_text o image run ++ (events ++ (race ++ (profile ++ (uses ++ secrets))))
