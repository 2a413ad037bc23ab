-- Carries a proof; nothing that a reader must believe.
-- What a command writes of an input that was read to its end ('profile').
use Rattle.std.specs.Prelude.{◌≡◌, ℕ, Bool, true, false, List, Option}
use Rattle.std.specs.Io.KnownBytes.{Appends}
use Rattle.xt_report.specs.declared.status.Status.{Status}
use Rattle.xt_report.specs.declared.status.Status.TheVariants as status
use Rattle.xt_tools.specs.Puts as puts
use Rattle.xt_cli.specs.declared.tool.Job.{Job}
use Rattle.xt_cli.specs.declared.tool.Job.TheVariants as job
use Rattle.xt_cli.specs.Tools.{IsWritten, done_status, leads_beyond, refusal_of}

-- its text is made before the first byte is written, and is all that it is asked for
abbrev pub IsWhole : Job → Type 0
IsWhole (job.Trace turns) = ⊥
IsWhole (job.Replay commands b) = ⊥
IsWhole _ = Unit {0}

-- the command makes bytes of the input, and this is so of the bytes
abbrev pub HasText : Job → List ℕ → (List ℕ → Type 0) → Type 0
HasText j input P = puts.HasText (refusal_of j input) (IsWritten j input) P

-- each status, with its cause and what was written
abbrev pub Puts : Job → List ℕ → Option (List ℕ) → Option (List ℕ) → ℕ → ℕ → Status → Type 0
Puts j input told told_after faults faults_after s =
    puts.Puts (refusal_of j input) (IsWritten j input) told told_after faults faults_after s

-- the status where a script led beyond the run, or did not
abbrev pub status_beyond : Bool → Status → Status
status_beyond beyond status.Done = done_status beyond
status_beyond beyond s = s

-- the same of `replay`, for a script that leads beyond the run
abbrev pub Replays :
    Job → List ℕ → Option (List ℕ) → Option (List ℕ) → ℕ → ℕ → Status → Type 0
Replays j input told told_after faults faults_after status.Done =
    HasText j input (Appends told told_after) × (leads_beyond j input ≡ false)
Replays j input told told_after faults faults_after status.PastEnd =
    HasText j input (Appends told told_after) × (leads_beyond j input ≡ true)
Replays j input told told_after faults faults_after s =
    Puts j input told told_after faults faults_after s
