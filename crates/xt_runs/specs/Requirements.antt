-- Which requirement a run does not meet, and the line that says so ('profile').
--
-- Profile: a core that has no turns need not end by a BREAK. A requirement needs no other option:
-- what it asks of uses or races is looked for if it is asked for.
use Rattle.std.specs.Prelude.{◌≡◌, ℕ, if◌then◌else◌, Option, Some, None, List}
use Rattle.std.specs.Prelude.{[], ◌∷◌, ◌++◌, codes, unwrap_or}
use Rattle.std.specs.List.{concat}
use Rattle.std.specs.Fmt.{decimal}
use Rattle.xt_image.specs.declared.image.Image.{Image}
use Rattle.xt_trace.specs.declared.run.Run.{Run}
use Rattle.xt_frames.specs.declared.kinds.Judged.{Judged}
use Rattle.xt_frames.specs.declared.kinds.Judged.TheVariants as judged
use Rattle.xt_race.specs.Races.{IsFirstRace, events_of}
use Rattle.xt_race.specs.declared.race.Race.{Race}
use Rattle.xt_uses.specs.declared.discipline.Discipline.TheVariants.{Strict}
use Rattle.xt_use_walk.specs.Verdicts.{IsUsesOf}
use Rattle.xt_use_walk.specs.declared.walk.Uses.{Uses}
use Rattle.xt_use_walk.specs.declared.walk.Uses.TheVariants as uses
use Rattle.xt_discipline.specs.Verdicts.{are_checked, course_of}
use Rattle.xt_report.specs.SecretsText.{leak_line}
use Rattle.xt_secret_walk.specs.Answers.{IsSecretsOf}
use Rattle.xt_secret_walk.specs.declared.leak.Secrets.{Secrets}
use Rattle.xt_secret_walk.specs.declared.leak.Secrets.TheVariants as secrets
use Rattle.xt_command_line.specs.declared.options.RunOptions.{RunOptions}
use Rattle.xt_command_line.specs.declared.requirements.Requirement.{Requirement}
use Rattle.xt_command_line.specs.declared.requirements.Requirement.TheVariants as requirement
use Rattle.xt_command_line.specs.declared.secrets.SecretOptions.{SecretOptions}
use Rattle.xt_report.specs.Breaches.{breach_text}
use Rattle.xt_report.specs.Verdicts.{frames_line}
use Rattle.xt_runs.specs.Exits.{is_used_up, stop_line, unmet_exit}
use Rattle.xt_runs.specs.Verdicts.{whole_of}

-- ---- `break`

abbrev pub unmet_break : Run → Option (List ℕ)
unmet_break r =
    if is_used_up r.options.turns0 r.trace0.stop then Some (stop_line 0)
    else if is_used_up r.options.turns1 r.trace1.stop then Some (stop_line 1)
    else None

-- ---- `whole`

abbrev pub unmet_whole : Judged → Option (List ℕ)
unmet_whole judged.Whole = None
unmet_whole j = Some (frames_line j)

-- ---- `used`

-- the first line of the text of `uses`
abbrev pub unmet_used : Uses → Option (List ℕ)
unmet_used uses.Unchecked = Some (codes "uses none\n")
unmet_used (uses.Whole n m) = None
unmet_used (uses.Broken first) =
    Some (codes "uses " ++ breach_text first.breach ++ codes "\n")

-- ---- `race-free`

-- the first line of the text of `race`
abbrev pub unmet_race : Option Race → Option (List ℕ)
unmet_race None = None
unmet_race (Some r) =
    Some (concat
    (codes "race " ∷ decimal r.first ∷ codes " " ∷ decimal r.second ∷ codes "\n" ∷ []))

-- ---- `secret`

-- the first line of the text of `secrets`
abbrev pub unmet_secret : Secrets → Option (List ℕ)
unmet_secret (secrets.Whole n m) = None
unmet_secret (secrets.Leaks first) = Some (leak_line first)

-- what the words say to be secret; if no word says so, nothing is
abbrev pub secrets_of : Option SecretOptions → SecretOptions
secrets_of said = unwrap_or said (record { secret = []; public = [] })

-- ---- a list of requirements

-- the line that says that the run does not meet a requirement, or none if it does
abbrev pub IsUnmetBy :
    Option SecretOptions → Requirement → Image → Run → Option (List ℕ) → Type 0
IsUnmetBy s requirement.Break image r line = line ≡ unmet_break r
IsUnmetBy s requirement.Whole image r line = line ≡ unmet_whole (whole_of image r).judged
IsUnmetBy s requirement.Used image r line =
    (found : Uses)
    × IsUsesOf Strict (are_checked image r.options) (course_of image r) found
    × (line ≡ unmet_used found)
IsUnmetBy s requirement.RaceFree image r line =
    (found : Option Race)
    × IsFirstRace (events_of image r) found
    × (line ≡ unmet_race found)
IsUnmetBy s requirement.Exit0 image r line = line ≡ unmet_exit image r
IsUnmetBy s requirement.Secret image r line =
    (found : Secrets)
    × IsSecretsOf image r (secrets_of s).secret (secrets_of s).public found
    × (line ≡ unmet_secret found)

-- this line, or else what follows
abbrev pub IsThisOr :
    Option (List ℕ) → (Option (List ℕ) → Type 0) → Option (List ℕ) → Type 0
IsThisOr (Some this) Follows line = line ≡ Some this
IsThisOr None Follows line = Follows line

-- the line of the first requirement that the run does not meet, or none
abbrev pub IsUnmetIn :
    Option SecretOptions → List Requirement → Image → Run → Option (List ℕ) → Type 0
IsUnmetIn s [] image r line = line ≡ None
IsUnmetIn s (one ∷ rest) image r line =
    (this : Option (List ℕ))
    × IsUnmetBy s one image r this
    × IsThisOr this (IsUnmetIn s rest image r) line

-- the same of the words of a run, which need not require anything
abbrev pub IsUnmet : RunOptions → Image → Run → Option (List ℕ) → Type 0
IsUnmet o image r line = IsUnmetIn o.secrets (unwrap_or o.required []) image r line
