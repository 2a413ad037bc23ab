-- What the words of `trace` say ('profile').
use Rattle.std.specs.Prelude.{ℕ, Bool, List, Option, Some, None, Result, Ok, Err, nat_lt, codes}
use Rattle.std.specs.Prelude.{[], ◌∷◌, fold, option_map}
use Rattle.clap.specs.Words.{App, Text, first_of, new_app}
use Rattle.xt_command_line.specs.MeaningAnswers.{and_then}
use Rattle.xt_command_line.specs.Numbers.{number_of}
use Rattle.xt_command_line.specs.Options.{is_set, said_or, with_flag, with_option}
use Rattle.xt_command_line.specs.Parts.{passing}
use Rattle.xt_command_line.specs.Simple.{matched_by}
use Rattle.xt_command_line.specs.declared.command.Refusal.{Refusal}
use Rattle.xt_command_line.specs.declared.command.Refusal.TheVariants as refusal
use Rattle.xt_command_line.specs.declared.command.Turns.{Turns}

-- trace [--from N] [--to N] [--core C] [--accesses] [--jumps] [--frames]
abbrev pub trace_app : App
trace_app =
    fold with_flag
    (fold with_option (new_app (codes "trace")) (codes "from" ∷ codes "to" ∷ codes "core" ∷ []))
    (codes "accesses" ∷ codes "jumps" ∷ codes "frames" ∷ [])

-- the core that a text says, 0 or 1
abbrev pub core_of : Text → Option (Option ℕ)
core_of text = option_map Some (passing (λ n. nat_lt n 2) (number_of text))

-- the positions from one number on to before another, of which turns of a core, with an access and
-- that jump are asked for, and frames on their lines; a text that is no number, or no core, breaks
-- a rule
abbrev pub chosen_turns :
    Option ℕ → Option ℕ → Option (Option ℕ) → Bool → Bool → Bool → Result Turns Refusal
chosen_turns (Some from) (Some to) (Some core) accesses jumps frames =
    Ok (record {
      from = from;
      to = to;
      core = core;
      accesses = accesses;
      jumps = jumps;
      frames = frames;
    })
chosen_turns _ _ _ accesses jumps frames = Err (refusal.Usage 4)

-- the turns that the words of `trace` say, or the first rule of usage that they break; where no
-- word says them, the first position is 0, the last one that of the run, and no core is asked for
abbrev pub turns_of : List Text → Result Turns Refusal
turns_of words = and_then (matched_by trace_app words) (λ rows.
    chosen_turns
    (said_or number_of 0 (first_of (codes "from") rows))
    (said_or number_of 0xFFFFFFFF (first_of (codes "to") rows))
    (said_or core_of None (first_of (codes "core") rows))
    (is_set (first_of (codes "accesses") rows))
    (is_set (first_of (codes "jumps") rows))
    (is_set (first_of (codes "frames") rows)))
