-- What the words of `outcomes` say ('profile').
--
-- Profile: only `--timed` gives each core a number of turns, so `--turns0` and `--turns1` do not
-- match without it; nor does `--any-time` with it, and `--show` without `--any-time`. A fifth word
-- does not match what the command takes; a word that is no aligned address of memory, a number of
-- worlds that is none, or too many, and an outcome 0 are no numbers of their option.
use Rattle.std.specs.Prelude.{◌≤◌, ℕ, ◌+◌, ◌%◌, ◌^◌, Bool, ◌==◌, ◌&&◌, ◌||◌, not, nat_le, is_none, All}
use Rattle.std.specs.Prelude.{List, [], ◌∷◌, fold, length, Option, Some, unwrap_or, Result, Ok}
use Rattle.std.specs.Prelude.{Err, if◌then◌else◌, codes, option_map}
use Rattle.std.specs.Str.{bytes_eq}
use Rattle.clap.specs.Words.{App, Row, Text, all_of, first_of, new_app, with_rule}
use Rattle.clap.specs.declared.builder.action.ArgAction.TheVariants.{Append}
use Rattle.xt_map.specs.Regions.{region_of, is_memory}
use Rattle.xt_command_line.specs.Numbers.{number_of}
use Rattle.xt_command_line.specs.MeaningAnswers.{and_then}
use Rattle.xt_command_line.specs.Options.{AreValid, is_set, judged_texts, option_rule, place_names}
use Rattle.xt_command_line.specs.Options.{said_or, with_flag, with_option}
use Rattle.xt_command_line.specs.Parts.{all_said, passing}
use Rattle.xt_command_line.specs.Simple.{matched_by}
use Rattle.xt_command_line.specs.declared.command.Refusal.{Refusal}
use Rattle.xt_command_line.specs.declared.command.Refusal.TheVariants as refusal
use Rattle.xt_command_line.specs.declared.options.RunOptions.{RunOptions}
use Rattle.xt_command_line.specs.declared.outcomes.OutcomeOptions.{OutcomeOptions}
use Rattle.xt_command_line.specs.declared.outcomes.Shown.{Shown}
use Rattle.xt_command_line.specs.declared.outcomes.Shown.TheVariants as shown

-- an option that may stand more than once
abbrev pub with_many : App → Text → App
with_many app name = with_rule app (record (option_rule name) { action = Some Append })

-- [--turns0 N] [--turns1 N] [--entry1 N] [--vecbase N] [--stack0 LO:HI] [--stack1 LO:HI]
-- [--states N] [--show K] [--word ADDR].. [--timed] [--any-time]
abbrev pub outcomes_app : App
outcomes_app =
    fold with_flag
    (with_many
    (with_option
    (with_option (fold with_option (new_app (codes "outcomes")) place_names) (codes "states"))
    (codes "show"))
    (codes "word"))
    (codes "timed" ∷ codes "any-time" ∷ [])

-- ---- the words of an outcome

-- an aligned address of memory
abbrev pub is_place : ℕ → Bool
is_place address = is_memory (region_of address) && address % 4 == 0

unfoldable pub place_of : Text → Option ℕ
place_of text = passing is_place (number_of text)

abbrev pub word_texts : List Row → List Text
word_texts rows = unwrap_or (all_of (codes "word") rows) []

-- ---- how many worlds are kept

abbrev pub is_count : ℕ → Bool
is_count n = nat_le 1 n && nat_le n 16000000

abbrev pub states_of : Text → Option ℕ
states_of text = passing is_count (number_of text)

-- ---- which order is shown

-- `stuck`, or the number of an outcome, counted from 1
unfoldable pub shown_of : Text → Option Shown
shown_of text =
    if bytes_eq text (codes "stuck") then Some shown.Stuck
    else option_map shown.Outcome (passing (nat_le 1) (number_of text))

-- ---- the options

-- with these addresses, so many worlds and what is shown, where the texts say them
abbrev pub outcomes_with :
    Bool → Bool → Option (List ℕ) → Option ℕ → Option Shown → Result RunOptions Refusal
    → Result OutcomeOptions Refusal
outcomes_with timed any_time (Some words) (Some states) (Some which) (Ok run) =
    Ok (record {
      run = run;
      timed = timed;
      any_time = any_time;
      shown = which;
      words = words;
      states = states;
    })
outcomes_with timed any_time (Some words) (Some states) (Some which) (Err r) = Err r
outcomes_with timed any_time _ _ _ run = Err (refusal.Usage 4)

-- a number of turns is given only where `--timed` is
abbrev pub may_count : Bool → List Row → Bool
may_count timed rows =
    timed || (is_none (first_of (codes "turns0") rows) && is_none (first_of (codes "turns1") rows))

-- an order is shown only where `--any-time` is given
abbrev pub may_show : Bool → List Row → Bool
may_show any_time rows = any_time || is_none (first_of (codes "show") rows)

-- `--timed` and `--any-time` do not go together
abbrev pub may_stand : Bool → Bool → List Row → Bool
may_stand timed any_time rows =
    may_count timed rows && not (timed && any_time) && may_show any_time rows

-- by whether `--timed` and `--any-time` were given, and the texts of the other options
abbrev pub outcomes_in : Bool → Bool → List Row → Result OutcomeOptions Refusal
outcomes_in timed any_time rows =
    if may_stand timed any_time rows && nat_le (length (word_texts rows)) 4
    then outcomes_with timed any_time (all_said place_of (word_texts rows))
    (said_or states_of 1000000 (first_of (codes "states") rows))
    (said_or shown_of shown.Nothing (first_of (codes "show") rows)) (judged_texts rows)
    else Err (refusal.Usage 3)

-- the options that the words of `outcomes` say, or the first rule of usage that they break
abbrev pub outcomes_of : List Text → Result OutcomeOptions Refusal
outcomes_of words = and_then (matched_by outcomes_app words) (λ rows.
    outcomes_in
    (is_set (first_of (codes "timed") rows)) (is_set (first_of (codes "any-time") rows)) rows)

-- valid options of a run, and addresses that words of memory can have
pub record AreOutcomeOptions (o : OutcomeOptions) : Type 0 where
  pub run : AreValid o.run
  pub words : All (λ a. a + 4 ≤ 2 ^ 32) o.words
