-- What a command writes of an input that was read to its end ('profile').
use Rattle.std.specs.Prelude.{◌≡◌, ℕ, ◌⊎◌, List, Option, Some}
use Rattle.std.specs.Io.KnownBytes.{Appends, Keeps}
use Rattle.xt_io.specs.Causes.{Rose}
use Rattle.xt_io.specs.Whole.{AppendsPrefix}
use Rattle.xt_report.specs.declared.status.Status.{Status}
use Rattle.xt_report.specs.declared.status.Status.TheVariants as status
use Rattle.xt_tools.specs.Commands.{IsMade}

-- the input is not refused, bytes are made of it, and this is so of the bytes
abbrev pub HasText : Option Status → (List ℕ → Type 0) → (List ℕ → Type 0) → Type 0
HasText refusal Is P = (bytes : List ℕ) × IsMade refusal (Is bytes) × P bytes

-- each status of a command that refuses its input so, and makes bytes of it of which this is so,
-- with its cause and what was written
abbrev pub Puts :
    Option Status → (List ℕ → Type 0) → Option (List ℕ) → Option (List ℕ) → ℕ → ℕ → Status
    → Type 0
Puts refusal Is told told_after faults faults_after status.Done =
    HasText refusal Is (Appends told told_after)
Puts refusal Is told told_after faults faults_after status.WriteFault =
    HasText refusal Is (AppendsPrefix told told_after) × Rose faults faults_after
Puts refusal Is told told_after faults faults_after status.Memory =
    Keeps told told_after ⊎ HasText refusal Is (AppendsPrefix told told_after)
Puts refusal Is told told_after faults faults_after s =
    (refusal ≡ Some s) × Keeps told told_after
