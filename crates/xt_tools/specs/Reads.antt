-- Carries a proof; nothing that a reader must believe.
-- What the parts of an input come to as they are read ('profile').
use Rattle.std.specs.Prelude.{◌≡◌, ◌≤◌, ◌<◌, ◌+◌, ◌⊎◌, ℕ, false, All, List, [], ◌∷◌, ◌++◌, length}
use Rattle.std.specs.Prelude.{Option, Some, None, Result, Ok, Err}
use Rattle.std.specs.Io.KnownBytes.{Consumes, IsAtEnd}
use Rattle.xt_io.specs.Causes.{Rose}
use Rattle.xt_io.specs.declared.whole.ReadError.{ReadError}
use Rattle.xt_io.specs.declared.whole.ReadError.TheVariants as error
use Rattle.xt_trace.specs.declared.run.Run.{Run}
use Rattle.xt_image.specs.declared.image.Image.{Image}
use Rattle.xt_record.specs.declared.fault.RecordFault.TheVariants as record_fault
use Rattle.xt_command_line.specs.declared.beyond.Beyond.{Beyond}
use Rattle.xt_report.specs.Calls.{Ends}
use Rattle.xt_report.specs.declared.status.Status.{Status}
use Rattle.xt_report.specs.declared.status.Status.TheVariants as status
use Rattle.xt_tools.specs.Calls.{Answers, AnswersSome, Begins, IsTooLong, Tells}
use Rattle.xt_tools.specs.Session.{answers, is_newline, lines_in, lines_limit, number_in}
use Rattle.xt_tools.specs.Session.{recording_limit, refusal_of}

-- no newline is among these bytes
abbrev pub IsInLine : List ℕ → Type 0
IsInLine bytes = All (λ byte. is_newline byte ≡ false) bytes

-- some bytes were taken, and this is so of them
abbrev pub TakesSome :
    Option (List ℕ) → Option (List ℕ) → (List ℕ → Type 0) → Type 0
TakesSome old new P = (bytes : List ℕ) × Consumes old new bytes × P bytes

-- a line with its newline was read, or the source is at its end and has no further newline; the
-- bytes that may be taken are fewer by as many
abbrev pub ReadsLine :
    Result (Option (List ℕ)) ReadError
    → Option (List ℕ) → Option (List ℕ) → ℕ → ℕ
    → Type 0
ReadsLine (Ok (Some line)) old new spare spare_after =
    Consumes old new (line ++ (10 ∷ []))
    × IsInLine line
    × (spare ≡ spare_after + (length line + 1))
ReadsLine (Ok None) old new spare spare_after =
    TakesSome old new (λ bytes. IsInLine bytes × (length bytes ≤ spare)) × IsAtEnd new
ReadsLine (Err error.TooLarge) old new spare spare_after =
    (bytes : List ℕ)
    × (next : ℕ)
    × Consumes old new (bytes ++ (next ∷ []))
    × IsInLine bytes
    × (length bytes ≡ spare)
ReadsLine (Err e) old new spare spare_after = TakesSome old new IsInLine

-- so many bytes were read, or fewer where the source ends before; a fault comes before the last
abbrev pub ReadsCount :
    Result (List ℕ) ReadError → Option (List ℕ) → Option (List ℕ) → ℕ → Type 0
ReadsCount (Ok bytes) old new count =
    Consumes old new bytes
    × (length bytes ≤ count)
    × (length bytes < count → IsAtEnd new)
ReadsCount (Err error.Fault) old new count =
    TakesSome old new (λ bytes. length bytes < count)
ReadsCount (Err error.TooLarge) old new count = ⊥
ReadsCount (Err error.Memory) old new count = TakesSome old new (λ bytes. Unit {0})

-- a first line and the bytes of a recording were read, as many as the line says
abbrev pub Opens : Option (List ℕ) → Option (List ℕ) → List ℕ → Type 0
Opens old new recording =
    (line : List ℕ)
    × Consumes old new ((line ++ (10 ∷ [])) ++ recording)
    × IsInLine line
    × (number_in line ≡ Some (length recording))
    × (length recording ≤ recording_limit)

-- what was taken is no recording yet
abbrev pub IsShort : List ℕ → Type 0
IsShort taken = refusal_of taken ≡ Some (status.Recording record_fault.Short)

-- the whole input is refused with this status
abbrev pub IsRefused : Option (List ℕ) → Status → Type 0
IsRefused left s = (input : List ℕ) × Tells left input × (refusal_of input ≡ Some s)

-- the first line is too long
abbrev pub IsLongLine : Option (List ℕ) → Option (List ℕ) → ℕ → Type 0
IsLongLine left left_after limit =
    (taken : List ℕ)
    × (next : ℕ)
    × Consumes left left_after (taken ++ (next ∷ []))
    × IsShort taken
    × (length (lines_in taken) ≡ lines_limit)
    × (limit ≡ lines_limit)

-- the status where no recording was read
abbrev pub Misses : Option (List ℕ) → Option (List ℕ) → ℕ → ℕ → Status → Type 0
Misses left left_after faults faults_after status.Done = ⊥
Misses left left_after faults faults_after status.WriteFault = ⊥
Misses left left_after faults faults_after status.ReadFault =
    Rose faults faults_after × TakesSome left left_after IsShort
Misses left left_after faults faults_after status.Memory =
    TakesSome left left_after (λ taken. Unit {0})
Misses left left_after faults faults_after (status.TooLarge limit) =
    IsLongLine left left_after limit ⊎ IsRefused left (status.TooLarge limit)
Misses left left_after faults faults_after s = IsRefused left s

-- each status with which the lines behind a recording end
abbrev pub EndsLines : Beyond → Image → Run → Ends → Status → Type 0
EndsLines b image r e status.Done =
    (taken : List ℕ)
    × Answers (answers b image r) e taken
    × IsAtEnd e.left_after
    × (length taken ≤ lines_limit)
EndsLines b image r e status.WriteFault =
    Rose e.sink_faults e.sink_faults_after × Begins (answers b image r) e
EndsLines b image r e status.ReadFault =
    Rose e.source_faults e.source_faults_after × AnswersSome (answers b image r) e
EndsLines b image r e status.Memory = Begins (answers b image r) e
EndsLines b image r e (status.TooLarge limit) =
    IsTooLong (answers b image r) (λ taken. taken) e limit
EndsLines b image r e s = ⊥

-- the status of a read that failed
abbrev pub status_of : ReadError → Status
status_of error.Fault = status.ReadFault
status_of error.TooLarge = status.TooLarge lines_limit
status_of error.Memory = status.Memory
