-- What the words of `profile` say ('profile').
use Rattle.std.specs.Prelude.{ℕ, Bool, ◌&&◌, nat_le, List, Option, Some, None, Result, Ok, Err}
use Rattle.std.specs.Prelude.{if◌then◌else◌, codes}
use Rattle.clap.specs.Words.{App, Text, first_of, new_app}
use Rattle.xt_command_line.specs.MeaningAnswers.{and_then}
use Rattle.xt_command_line.specs.Numbers.{number_of}
use Rattle.xt_command_line.specs.Options.{is_set, said_or, with_flag, with_option}
use Rattle.xt_command_line.specs.Simple.{matched_by}
use Rattle.xt_command_line.specs.declared.command.ProfileOptions.{ProfileOptions}
use Rattle.xt_command_line.specs.declared.command.Refusal.{Refusal}
use Rattle.xt_command_line.specs.declared.command.Refusal.TheVariants as refusal

-- profile [--depth N] [--after]
abbrev pub profile_app : App
profile_app =
    with_flag (with_option (new_app (codes "profile")) (codes "depth")) (codes "after")

-- these options, or the rule of usage that is broken: the depth is no number from 1 to 64
abbrev pub judged_depth : Option ℕ → Bool → Result ProfileOptions Refusal
judged_depth None after = Err (refusal.Usage 4)
judged_depth (Some depth) after =
    if nat_le 1 depth && nat_le depth 64
    then Ok (record { depth = depth; after = after }) else Err (refusal.Usage 4)

-- how many functions a key has at most, but for cut ones, which is 8 where no word says it, and
-- whether the turns from the cut on are asked for
abbrev pub profile_options_of : List Text → Result ProfileOptions Refusal
profile_options_of words = and_then (matched_by profile_app words) (λ rows.
    judged_depth
    (said_or number_of 8 (first_of (codes "depth") rows))
    (is_set (first_of (codes "after") rows)))
