-- What the words of the command line ask for ('profile'). A word is the list of its bytes.
use Rattle.std.specs.Prelude.{ℕ, All, if◌then◌else◌, List, Option, Some, None, Result, Ok, Err, codes}
use Rattle.std.specs.Str.{bytes_eq}
use Rattle.xt_command_line.specs.Arguments.{IsVecbase, script_text_of}
use Rattle.xt_command_line.specs.Beyond.{beyond_of}
use Rattle.xt_command_line.specs.Listings.{IsListing}
use Rattle.xt_command_line.specs.Meaning.{meaning_of}
use Rattle.xt_command_line.specs.Options.{AreValid}
use Rattle.xt_command_line.specs.Outcomes.{AreOutcomeOptions}
use Rattle.xt_command_line.specs.declared.beyond.Beyond.{Beyond}
use Rattle.xt_command_line.specs.declared.command.Command.{Command}
use Rattle.xt_command_line.specs.declared.command.Command.TheVariants as command
use Rattle.xt_command_line.specs.declared.command.Refusal.{Refusal}
use Rattle.xt_command_line.specs.declared.command.Refusal.TheVariants as refusal
use Rattle.xt_command_line.specs.declared.command.Rigor.{Rigor}
use Rattle.xt_command_line.specs.declared.command.Rigor.TheVariants as rigor
use Rattle.xt_uses.specs.declared.discipline.Discipline.{Discipline}
use Rattle.xt_uses.specs.declared.discipline.Discipline.TheVariants as discipline
use Rattle.xt_debug.specs.declared.script.Command as script
use Rattle.xt_debug.specs.Grammar.{IsInRange, script_of}
use Rattle.xt_cli.specs.declared.orders.Order.{Order}
use Rattle.xt_cli.specs.declared.orders.Order.TheVariants as order
use Rattle.xt_runs.specs.declared.outcome.Wanted.TheVariants as wanted
use Rattle.xt_cli.specs.declared.tool.Job.{Job}
use Rattle.xt_cli.specs.declared.tool.Job.TheVariants as job

-- ---- the order

-- `replay` with its script; a text that is no script breaks rule 9 of usage
abbrev pub script_order : Option (List script.Command) → Beyond → Result Order Refusal
script_order None b = Err (refusal.Usage 9)
script_order (Some commands) b = Ok (order.Work (job.Replay commands b))

-- the word `-` asks for a session
unfoldable pub replay_order : Result (List ℕ) Refusal → Result Beyond Refusal → Result Order Refusal
replay_order (Err r) beyond = Err r
replay_order (Ok text) (Err r) = Err r
replay_order (Ok text) (Ok b) =
    if bytes_eq text (codes "-") then Ok (order.Session b) else script_order (script_of text) b

-- the discipline of uses that the words ask for
abbrev pub discipline_of : Rigor → Discipline
discipline_of rigor.Strict = discipline.Strict
discipline_of rigor.Lenient = discipline.Lenient

-- a command, whose words these are
abbrev pub order_by : List (List ℕ) → Result Command Refusal → Result Order Refusal
order_by words (Ok command.Assemble) = Ok (order.Work job.Assemble)
order_by words (Ok command.Convert) = Ok (order.Work job.Convert)
order_by words (Ok (command.Disassemble listing)) = Ok (order.Work (job.List listing))
order_by words (Ok command.Map) = Ok (order.Work job.Map)
order_by words (Ok (command.Check vecbase)) = Ok (order.Work (job.Check vecbase))
order_by words (Ok command.Migrate) = Ok (order.Work job.Migrate)
order_by words (Ok command.Replay) =
    replay_order (script_text_of words) (beyond_of words)
order_by words (Ok command.Events) = Ok (order.Work job.Events)
order_by words (Ok command.Counts) = Ok (order.Work job.Counts)
order_by words (Ok (command.Trace turns)) = Ok (order.Work (job.Trace turns))
order_by words (Ok command.Race) = Ok (order.Work job.Race)
order_by words (Ok (command.Profile options)) = Ok (order.Work (job.Profile options))
order_by words (Ok (command.Uses rigor)) = Ok (order.Work (job.Uses (discipline_of rigor)))
order_by words (Ok (command.Secrets options)) = Ok (order.Work (job.Secrets options))
order_by words (Ok (command.Outcomes options)) = Ok (order.Work (job.Outcomes options))
order_by words (Ok (command.Run options)) = Ok (order.Run wanted.Report options)
order_by words (Ok (command.Record options)) = Ok (order.Run wanted.Recording options)
order_by words (Ok (command.Generate number)) = Ok (order.Generate number)
order_by words (Err r) = Err r

-- what the words ask for, or the first rule of usage that they break
abbrev pub order_of : List (List ℕ) → Result Order Refusal
order_of words = order_by words (meaning_of words)

-- ---- orders that can be carried out

-- the VECBASE of a command is one, its listing begins at openings, its script can be run, and its
-- options are valid
abbrev pub IsFit : Job → Type 0
IsFit (job.List listing) = IsListing listing
IsFit (job.Check vecbase) = IsVecbase vecbase
IsFit (job.Replay commands b) = All IsInRange commands
IsFit (job.Outcomes options) = AreOutcomeOptions options
IsFit _ = Unit {0}

-- the options of a run are valid
abbrev pub IsFitOrder : Order → Type 0
IsFitOrder (order.Work j) = IsFit j
IsFitOrder (order.Session b) = Unit {0}
IsFitOrder (order.Run wanted options) = AreValid options
IsFitOrder (order.Generate number) = Unit {0}
