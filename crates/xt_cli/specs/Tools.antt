-- The commands whose output is a function of their input, and what each status of them says
-- ('profile').
--
-- Note: `Makes` of `xt_cli`, `Runs` and `Generates` of `xt_runs` have a line for each status;
-- `Runs` and `Generates` exclude every other. `Memory` says that nothing was written, or a prefix
-- of the right text.
use Rattle.std.specs.Prelude.{◌≡◌, ◌≤◌, ◌+◌, ◌⊎◌, ℕ, Bool, true, false, List, length, Option, Some}
use Rattle.std.specs.Prelude.{None, Result, Ok, Err}
use Rattle.std.specs.Io.KnownBytes.{Appends, Keeps}
use Rattle.xt_io.specs.Causes.{Rose}
use Rattle.xt_io.specs.Whole.{AppendsPrefix, Takes}
use Rattle.xt_image.specs.Format.{image_of}
use Rattle.xt_asm.specs.Maps.{IsMapOfText}
use Rattle.xt_record.specs.Fields.{image_in}
use Rattle.xt_record.specs.Format.{run_in}
use Rattle.xt_debug.specs.declared.script.Command as script
use Rattle.xt_debug.specs.Scripts.{Outcome, script_outcome}
use Rattle.xt_report.specs.UseFindings.{IsUsesTold}
use Rattle.xt_report.specs.SecretFindings.{AreSecretsTold}
use Rattle.xt_command_line.specs.declared.beyond.Beyond.{Beyond}
use Rattle.xt_command_line.specs.declared.command.Refusal.{Refusal}
use Rattle.xt_command_line.specs.declared.command.Refusal.TheVariants as refusal
use Rattle.xt_report.specs.Checks.{check_text}
use Rattle.xt_report.specs.declared.status.Status.{Status}
use Rattle.xt_report.specs.declared.status.Status.TheVariants as status
use Rattle.xt_report.specs.Calls.{Ends, IsUntouched, ReadsWhole, TakesWithin}
use Rattle.xt_report.specs.Inputs.{image_refusal, recording_refusal}
use Rattle.xt_tools.specs.Calls.{Sessions}
use Rattle.xt_tools.specs.Commands as commands
use Rattle.xt_tools.specs.Commands.{IsAssembled, IsCountsTold, IsListed}
use Rattle.xt_tools.specs.Commands.{IsRaceTold, converted_image, elf_refusal, events_output}
use Rattle.xt_tools.specs.Commands.{migrated_recording, profile_output, text_refusal, trace_output}
use Rattle.xt_cli.specs.Outcomes.{AreOutcomesTold}
use Rattle.xt_cli.specs.declared.tool.Job.{Job}
use Rattle.xt_cli.specs.declared.tool.Job.TheVariants as job
use Rattle.xt_cli.specs.declared.tool.Tool.{Tool}
use Rattle.xt_cli.specs.declared.tool.Tool.TheVariants as tool
use Rattle.xt_cli.specs.declared.orders.Order.{Order}
use Rattle.xt_cli.specs.declared.orders.Order.TheVariants as order

-- ---- what a command makes of its input

-- what the input of a command is: a text, an ELF executable, an image, or a recording
pub data Input : Type 0 where
  Text : Input
  Executable : Input
  Image : Input
  Recording : Input

abbrev pub input_of : Job → Input
input_of job.Assemble = Text
input_of job.Map = Text
input_of job.Convert = Executable
input_of (job.List listing) = Image
input_of (job.Check vecbase) = Image
input_of (job.Outcomes options) = Image
input_of _ = Recording

-- the most bytes that it may have
abbrev pub limit_in : Input → ℕ
limit_in Text = 1048576
limit_in Executable = 67108864
limit_in Image = 8388608
limit_in Recording = 201326592

abbrev pub limit_of : Job → ℕ
limit_of j = limit_in (input_of j)

-- the status with which a whole input is refused, where it is: that of its first fault
abbrev pub refusal_in : Input → List ℕ → Option Status
refusal_in Text = text_refusal
refusal_in Executable = elf_refusal
refusal_in Image = image_refusal
refusal_in Recording = recording_refusal

abbrev pub refusal_of : Job → List ℕ → Option Status
refusal_of j = refusal_in (input_of j)

-- what a script comes to over the run that a recording holds
unfoldable pub replayed : List script.Command → Beyond → List ℕ → Outcome
replayed commands b input = script_outcome b (image_in input) (run_in input) commands 0

-- the bytes that a command writes for an input that it does not refuse
abbrev pub IsWritten : Job → List ℕ → List ℕ → Type 0
IsWritten job.Assemble input bytes = IsAssembled input bytes
IsWritten job.Convert input bytes = bytes ≡ converted_image input
IsWritten (job.List listing) input bytes = IsListed listing (image_of input) bytes
IsWritten job.Map input bytes = IsMapOfText input bytes
IsWritten (job.Check vecbase) input bytes = bytes ≡ check_text (image_of input) vecbase
IsWritten job.Migrate input bytes = bytes ≡ migrated_recording input
IsWritten (job.Replay commands b) input bytes = bytes ≡ (replayed commands b input).text
IsWritten job.Events input bytes = bytes ≡ events_output input
IsWritten job.Counts input bytes = IsCountsTold input bytes
IsWritten (job.Trace turns) input bytes = bytes ≡ trace_output turns input
IsWritten job.Race input bytes = IsRaceTold input bytes
IsWritten (job.Profile options) input bytes = bytes ≡ profile_output options input
IsWritten (job.Uses d) input bytes = IsUsesTold d (image_in input) (run_in input) bytes
IsWritten (job.Secrets options) input bytes =
    AreSecretsTold (image_in input) (run_in input) options.secret options.public bytes
IsWritten (job.Outcomes options) input bytes = AreOutcomesTold options (image_of input) bytes

-- the command does not refuse the input, and writes these bytes
abbrev pub IsMade : Job → List ℕ → List ℕ → Type 0
IsMade j input bytes = commands.IsMade (refusal_of j input) (IsWritten j input bytes)

-- the command is a script that leads beyond the run, and ends there
abbrev pub leads_beyond : Job → List ℕ → Bool
leads_beyond (job.Replay commands b) input = (replayed commands b input).beyond
leads_beyond _ input = false

-- ---- what each status says

-- the input was read to its end, the command makes bytes of it, and this is so of the bytes
abbrev pub HasOutput : Job → Ends → (List ℕ → Type 0) → Type 0
HasOutput j e P =
    (bytes : List ℕ) × ReadsWhole (limit_of j) e (λ input. IsMade j input bytes) × P bytes

-- the same where the whole output was written, and a script led beyond the run, or none did
abbrev pub HasEnded : Job → Ends → Bool → Type 0
HasEnded j e beyond =
    (bytes : List ℕ)
    × ReadsWhole (limit_of j) e (λ input. IsMade j input bytes × (leads_beyond j input ≡ beyond))
    × Appends e.told e.told_after bytes

-- Each status of a command, with its cause and what was written; the last line is that of the
-- input's first fault. The byte after the limit was taken exactly where it is `TooLarge`.
abbrev pub Makes : Job → Ends → Status → Type 0
Makes j e status.Done = HasEnded j e false
Makes j e status.PastEnd = HasEnded j e true
Makes j e status.WriteFault =
    HasOutput j e (AppendsPrefix e.told e.told_after) × Rose e.sink_faults e.sink_faults_after
Makes j e status.ReadFault =
    Rose e.source_faults e.source_faults_after
    × TakesWithin (limit_of j) e
    × Keeps e.told e.told_after
Makes j e (status.TooLarge limit) =
    (limit ≡ limit_of j)
    × Takes e.left e.left_after (λ n. n ≡ limit_of j + 1)
    × Keeps e.told e.told_after
Makes j e status.Memory =
    TakesWithin (limit_of j) e
    × (Keeps e.told e.told_after ⊎ HasOutput j e (AppendsPrefix e.told e.told_after))
Makes j e s =
    ReadsWhole (limit_of j) e (λ input. refusal_of j input ≡ Some s) × Keeps e.told e.told_after

-- the status that a refusal of the words comes to
abbrev pub status_of : Refusal → Status
status_of (refusal.Usage rule) = status.Usage rule
status_of refusal.Memory = status.Memory

-- words without a meaning are refused before anything is read or written; memory may run out while
-- they are read
abbrev pub RefusesWords : Refusal → Ends → Status → Type 0
RefusesWords r e s = ((s ≡ status_of r) ⊎ (s ≡ status.Memory)) × IsUntouched e

-- Each answer by what the words ask for. Words that ask for a run are handed back, and nothing was
-- touched.
abbrev pub Answers : Result Order Refusal → Ends → Tool → Type 0
Answers (Ok (order.Work j)) e (tool.Answer s) = Makes j e s
Answers (Ok (order.Session b)) e (tool.Answer s) = Sessions b e s
Answers (Ok (order.Run wanted options)) e tool.Threaded = IsUntouched e
Answers (Ok (order.Run wanted options)) e (tool.Answer s) = (s ≡ status.Memory) × IsUntouched e
Answers (Ok (order.Generate number)) e tool.Threaded = IsUntouched e
Answers (Ok (order.Generate number)) e (tool.Answer s) = (s ≡ status.Memory) × IsUntouched e
Answers (Err r) e (tool.Answer s) = RefusesWords r e s
Answers _ e _ = ⊥

-- ---- completeness

-- the source tells its bytes, and they are a whole input that the command does not refuse
pub record HasInput (j : Job) (left : Option (List ℕ)) : Type 0 where
  pub input : List ℕ
  pub told : left ≡ Some input
  pub within : length input ≤ limit_of j
  pub accepted : refusal_of j input ≡ None

-- the status where the whole output was written
abbrev pub done_status : Bool → Status
done_status false = status.Done
done_status true = status.PastEnd

-- such an input, and no fault of the source or the sink in this call, end in Done, or in PastEnd where
-- a script leads beyond the run, or in Memory
abbrev pub Finishes : Job → Ends → Status → Type 0
Finishes j e s =
    (has : HasInput j e.left)
    → (Rose e.source_faults e.source_faults_after → ⊥)
    → (Rose e.sink_faults e.sink_faults_after → ⊥)
    → (s ≡ done_status (leads_beyond j has.input)) ⊎ (s ≡ status.Memory)

-- of a session `Sessions` says it: each other status has a cause
abbrev pub IsComplete : Result Order Refusal → Ends → Tool → Type 0
IsComplete (Ok (order.Work j)) e (tool.Answer s) = Finishes j e s
IsComplete _ e _ = Unit {0}
