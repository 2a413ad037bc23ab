-- What the words of `replay` say of a script that leads beyond the run ('profile').
use Rattle.std.specs.Prelude.{List, Result, Ok, if◌then◌else◌, codes}
use Rattle.clap.specs.Words.{Text, first_of}
use Rattle.xt_command_line.specs.Arguments.{replay_app}
use Rattle.xt_command_line.specs.MeaningAnswers.{and_then}
use Rattle.xt_command_line.specs.Options.{is_set}
use Rattle.xt_command_line.specs.Simple.{matched_by}
use Rattle.xt_command_line.specs.declared.beyond.Beyond.{Beyond}
use Rattle.xt_command_line.specs.declared.beyond.Beyond.TheVariants as beyond
use Rattle.xt_command_line.specs.declared.command.Refusal.{Refusal}

-- replay [--lenient] SCRIPT
abbrev pub beyond_of : List Text → Result Beyond Refusal
beyond_of words = and_then (matched_by replay_app words) (λ rows.
    if is_set (first_of (codes "lenient") rows) then Ok beyond.GoesOn else Ok beyond.Ends)
