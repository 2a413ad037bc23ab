-- What the words of `check`, `gen`, `replay`, `uses` and `secrets` say ('profile').
use Rattle.std.specs.Prelude.{◌≡◌, ℕ, ◌%◌, true, ◌==◌, List, Option, Some, None, Result, Ok, Err}
use Rattle.std.specs.Prelude.{[], ◌∷◌, if◌then◌else◌, codes, fold, ok_or, option_and_then}
use Rattle.clap.specs.Words.{App, Rule, Text, first_of, new_app, new_rule, with_rule}
use Rattle.xt_command_line.specs.MeaningAnswers.{and_then}
use Rattle.xt_command_line.specs.Numbers.{number_of}
use Rattle.xt_command_line.specs.Options.{is_set, said_or, with_flag, with_option}
use Rattle.xt_command_line.specs.Secrets.{secrets_in}
use Rattle.xt_command_line.specs.Simple.{matched_by}
use Rattle.xt_command_line.specs.declared.command.Refusal.{Refusal}
use Rattle.xt_command_line.specs.declared.command.Rigor.{Rigor}
use Rattle.xt_command_line.specs.declared.command.Rigor.TheVariants as rigor
use Rattle.xt_command_line.specs.declared.command.Refusal.TheVariants as refusal
use Rattle.xt_command_line.specs.declared.secrets.SecretOptions.{SecretOptions}

-- ---- check [--vecbase N]

abbrev pub check_app : App
check_app = with_option (new_app (codes "check")) (codes "vecbase")

abbrev pub IsVecbase : ℕ → Type 0
IsVecbase vecbase = vecbase % 1024 ≡ 0

-- a VECBASE, or the first rule of usage that is broken: it is no number, or no multiple of 1024
abbrev pub judged_vecbase : Option ℕ → Result ℕ Refusal
judged_vecbase None = Err (refusal.Usage 4)
judged_vecbase (Some vecbase) =
    if vecbase % 1024 == 0 then Ok vecbase else Err (refusal.Usage 7)

-- the VECBASE that the words of `check` say, or the first rule of usage that they break
abbrev pub vecbase_of : List Text → Result ℕ Refusal
vecbase_of words = and_then (matched_by check_app words) (λ rows.
    judged_vecbase (said_or number_of 0x40080000 (first_of (codes "vecbase") rows)))

-- ---- gen N

-- a text without a name, that must be there
abbrev pub positional_rule : Text → Rule
positional_rule name = record (new_rule name) { required = true }

abbrev pub gen_app : App
gen_app = with_rule (new_app (codes "gen")) (positional_rule (codes "number"))

-- the number that the words of `gen` say, or the first rule of usage that they break
abbrev pub generator_number_of : List Text → Result ℕ Refusal
generator_number_of words = and_then (matched_by gen_app words) (λ rows.
    ok_or (option_and_then number_of (first_of (codes "number") rows)) (refusal.Usage 4))

-- ---- replay [--lenient] SCRIPT

abbrev pub replay_app : App
replay_app =
    with_flag
    (with_rule (new_app (codes "replay")) (positional_rule (codes "script")))
    (codes "lenient")

-- the text of the script that the words of `replay` have, or the rule of usage that they break
abbrev pub script_text_of : List Text → Result Text Refusal
script_text_of words = and_then (matched_by replay_app words) (λ rows.
    ok_or (first_of (codes "script") rows) (refusal.Usage 3))

-- ---- uses [--lenient]

abbrev pub uses_app : App
uses_app = with_flag (new_app (codes "uses")) (codes "lenient")

-- the rigor that the words of `uses` say, or the rule of usage that they break
abbrev pub rigor_of : List Text → Result Rigor Refusal
rigor_of words = and_then (matched_by uses_app words) (λ rows.
    if is_set (first_of (codes "lenient") rows) then Ok rigor.Lenient else Ok rigor.Strict)

-- ---- secrets --secret LIST [--public LIST]

abbrev pub secrets_app : App
secrets_app = fold with_option (new_app (codes "secrets")) (codes "secret" ∷ codes "public" ∷ [])

-- what the words of `secrets` say to be secret, where they say it, or the first rule of usage that
-- they break
abbrev pub secret_options_of : List Text → Result SecretOptions Refusal
secret_options_of words = and_then (matched_by secrets_app words) (λ rows.
    and_then (secrets_in (first_of (codes "secret") rows) (first_of (codes "public") rows))
    (λ secrets. ok_or secrets (refusal.Usage 10)))
