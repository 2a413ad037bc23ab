-- What each status of a session says ('profile').
--
-- Note: a line is answered before a byte behind it is read. So a read that fails, or one byte too
-- many, comes when all lines before it have their whole answers.
use Rattle.std.specs.Prelude.{◌≡◌, ◌≤◌, ◌⊎◌, ℕ, List, [], ◌∷◌, ◌++◌, length, Option, Some, None}
use Rattle.std.specs.Io.KnownBytes.{Appends, Consumes, IsAtEnd, Keeps}
use Rattle.xt_io.specs.Causes.{Rose}
use Rattle.xt_io.specs.Whole.{AppendsPrefix}
use Rattle.xt_command_line.specs.declared.beyond.Beyond.{Beyond}
use Rattle.xt_report.specs.declared.status.Status.{Status}
use Rattle.xt_report.specs.declared.status.Status.TheVariants as status
use Rattle.xt_report.specs.Calls.{Ends}
use Rattle.xt_tools.specs.Session.{lines_in, lines_limit, refusal_of, session_text}

-- the source tells these bytes, or it tells nothing
abbrev pub Tells : Option (List ℕ) → List ℕ → Type 0
Tells None input = Unit {0}
Tells (Some bytes) input = bytes ≡ input

-- this was taken, and all of its text was written
abbrev pub Answers : (List ℕ → List ℕ) → Ends → List ℕ → Type 0
Answers text e taken =
    Consumes e.left e.left_after taken × Appends e.told e.told_after (text taken)

-- some bytes were taken, and a prefix of their text was written
abbrev pub Begins : (List ℕ → List ℕ) → Ends → Type 0
Begins text e =
    (taken : List ℕ)
    × Consumes e.left e.left_after taken
    × AppendsPrefix e.told e.told_after (text taken)

-- some bytes were taken, and all of their text was written
abbrev pub AnswersSome : (List ℕ → List ℕ) → Ends → Type 0
AnswersSome text e = (taken : List ℕ) × Answers text e taken

-- one byte more was taken than lines may have, and all lines before it are answered
abbrev pub IsTooLong : (List ℕ → List ℕ) → (List ℕ → List ℕ) → Ends → ℕ → Type 0
IsTooLong text lines e limit =
    (taken : List ℕ)
    × (next : ℕ)
    × Consumes e.left e.left_after (taken ++ (next ∷ []))
    × Appends e.told e.told_after (text taken)
    × (length (lines taken) ≡ lines_limit)
    × (limit ≡ lines_limit)

-- the whole input is refused with this status, and nothing was written
abbrev pub Refuses : Ends → Status → Type 0
Refuses e s =
    (input : List ℕ)
    × Tells e.left input
    × (refusal_of input ≡ Some s)
    × Keeps e.told e.told_after

-- the whole input is not refused, its lines are within the limit, and it was answered
abbrev pub Finishes : Beyond → Ends → Type 0
Finishes b e =
    (input : List ℕ)
    × Answers (session_text b) e input
    × IsAtEnd e.left_after
    × (refusal_of input ≡ None)
    × (length (lines_in input) ≤ lines_limit)

-- Each status, with its cause and what was written.
abbrev pub Sessions : Beyond → Ends → Status → Type 0
Sessions b e status.Done = Finishes b e
Sessions b e status.WriteFault =
    Rose e.sink_faults e.sink_faults_after × Begins (session_text b) e
Sessions b e status.ReadFault =
    Rose e.source_faults e.source_faults_after × AnswersSome (session_text b) e
Sessions b e status.Memory = Begins (session_text b) e
Sessions b e (status.TooLarge limit) =
    IsTooLong (session_text b) lines_in e limit ⊎ Refuses e (status.TooLarge limit)
Sessions b e s = Refuses e s
