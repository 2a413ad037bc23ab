-- What the words of the command line after the program's name mean ('profile'). A word is the list
-- of its bytes.
use Rattle.std.specs.Prelude.{◌≢◌, List, [], ◌∷◌, Option, Some, None, Result, Ok, Err}
use Rattle.std.specs.Prelude.{if◌then◌else◌, codes}
use Rattle.std.specs.Str.{bytes_eq}
use Rattle.clap.specs.Words.{Text, new_app}
use Rattle.xt_command_line.specs.Simple.{matched_by}
use Rattle.xt_command_line.specs.MeaningAnswers.{answer_with}
use Rattle.xt_command_line.specs.Options.{AreValid, record_options_of, run_options_of}
use Rattle.xt_command_line.specs.Arguments.{IsVecbase, generator_number_of, rigor_of}
use Rattle.xt_command_line.specs.Arguments.{secret_options_of, vecbase_of}
use Rattle.xt_command_line.specs.Turns.{turns_of}
use Rattle.xt_command_line.specs.Depths.{profile_options_of}
use Rattle.xt_command_line.specs.Listings.{IsListing, listing_of}
use Rattle.xt_command_line.specs.Outcomes.{AreOutcomeOptions, outcomes_of}
use Rattle.xt_command_line.specs.declared.command.Command.{Command}
use Rattle.xt_command_line.specs.declared.command.Command.TheVariants as command
use Rattle.xt_command_line.specs.declared.command.Refusal.{Refusal}
use Rattle.xt_command_line.specs.declared.command.Refusal.TheVariants as refusal
use Rattle.xt_command_line.specs.declared.command.Name.{Name}
use Rattle.xt_command_line.specs.declared.command.Name.TheVariants as name

-- the commands
abbrev pub names : List (Text × Name)
names =
    (codes "asm", name.Assemble)
    ∷ (codes "elf", name.Convert)
    ∷ (codes "dis", name.Disassemble)
    ∷ (codes "map", name.Map)
    ∷ (codes "check", name.Check)
    ∷ (codes "run", name.Run)
    ∷ (codes "record", name.Record)
    ∷ (codes "replay", name.Replay)
    ∷ (codes "migrate", name.Migrate)
    ∷ (codes "events", name.Events)
    ∷ (codes "counts", name.Counts)
    ∷ (codes "trace", name.Trace)
    ∷ (codes "race", name.Race)
    ∷ (codes "profile", name.Profile)
    ∷ (codes "uses", name.Uses)
    ∷ (codes "secrets", name.Secrets)
    ∷ (codes "outcomes", name.Outcomes)
    ∷ (codes "gen", name.Generate)
    ∷ []

abbrev pub name_in : List (Text × Name) → Text → Option Name
name_in [] word = None
name_in (n ∷ rest) word = if bytes_eq word n.0 then Some n.1 else name_in rest word

-- the command that a word names
unfoldable pub command_named : Text → Option Name
command_named word = name_in names word

-- what stands for a command of this name that takes no option
abbrev pub without_options : {A : Type 0} → Text → A → List Text → Result A Refusal
without_options name answer words = answer_with (λ _. answer) (matched_by (new_app name) words)

-- a command with what its words say, or the rule of usage that they break; the words of `replay`
-- are judged by themselves
abbrev pub meaning_by : Option Name → List Text → Result Command Refusal
meaning_by None words = Err (refusal.Usage 2)
meaning_by (Some name.Assemble) words = without_options (codes "asm") command.Assemble words
meaning_by (Some name.Convert) words = without_options (codes "elf") command.Convert words
meaning_by (Some name.Disassemble) words = answer_with command.Disassemble (listing_of words)
meaning_by (Some name.Map) words = without_options (codes "map") command.Map words
meaning_by (Some name.Check) words = answer_with command.Check (vecbase_of words)
meaning_by (Some name.Run) words = answer_with command.Run (run_options_of words)
meaning_by (Some name.Record) words = answer_with command.Record (record_options_of words)
meaning_by (Some name.Replay) words = Ok command.Replay
meaning_by (Some name.Migrate) words = without_options (codes "migrate") command.Migrate words
meaning_by (Some name.Events) words = without_options (codes "events") command.Events words
meaning_by (Some name.Counts) words = without_options (codes "counts") command.Counts words
meaning_by (Some name.Trace) words = answer_with command.Trace (turns_of words)
meaning_by (Some name.Race) words = without_options (codes "race") command.Race words
meaning_by (Some name.Profile) words = answer_with command.Profile (profile_options_of words)
meaning_by (Some name.Uses) words = answer_with command.Uses (rigor_of words)
meaning_by (Some name.Secrets) words = answer_with command.Secrets (secret_options_of words)
meaning_by (Some name.Outcomes) words = answer_with command.Outcomes (outcomes_of words)
meaning_by (Some name.Generate) words = answer_with command.Generate (generator_number_of words)

-- the command with its options that the words say, or why they say none
abbrev pub meaning_of : List Text → Result Command Refusal
meaning_of [] = Err (refusal.Usage 1)
meaning_of (word ∷ rest) = meaning_by (command_named word) (word ∷ rest)

-- the options of a command are valid for a run, or for a listing, and its VECBASE is one
abbrev pub HasValidOptions : Command → Type 0
HasValidOptions (command.Disassemble listing) = IsListing listing
HasValidOptions (command.Check vecbase) = IsVecbase vecbase
HasValidOptions (command.Run options) = AreValid options
HasValidOptions (command.Record options) = AreValid options
HasValidOptions (command.Outcomes options) = AreOutcomeOptions options
HasValidOptions _ = Unit {0}

-- clap reads the words of a command, which takes memory, but not those of `replay`
abbrev pub TakesMemory : Option Name → Type 0
TakesMemory None = ⊥
TakesMemory (Some name.Replay) = ⊥
TakesMemory _ = Unit {0}

-- the first word names a command whose words are read with memory
abbrev pub MayWantMemory : List Text → Type 0
MayWantMemory [] = ⊥
MayWantMemory (word ∷ rest) = TakesMemory (command_named word)

-- the meaning of words is never that memory ran out
abbrev pub NeedsNoMemory : Type 0
NeedsNoMemory = (words : List Text) → meaning_of words ≢ Err refusal.Memory
