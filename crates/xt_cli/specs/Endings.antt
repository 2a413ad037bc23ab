-- How the program ends: its line on standard error, and its code ('profile').
--
-- Note: `Ends` compares the source and the sink before and after the call. Of a source that tells
-- nothing, `ReadsWhole` only says that some input with the property exists.
use Rattle.std.specs.Prelude.{◌≡◌, ℕ, List, ◌++◌, Option, Some, None, IfOk, codes}
use Rattle.xt_cli.specs.declared.ending.End.{End}
use Rattle.xt_report.specs.declared.status.Status.{Status}
use Rattle.xt_report.specs.declared.status.Status.TheVariants as status
use Rattle.xt_runs.specs.declared.outcome.Outcome.{Outcome}
use Rattle.xt_report.specs.Calls.{Ends}
use Rattle.xt_cli.specs.Orders.{order_of}
use Rattle.xt_report.specs.Statuses.{status_code, status_text}
use Rattle.xt_cli.specs.Top.{Answers, IsComplete}

-- of a run that does not meet a requirement, by the line that says so
abbrev pub required_text : List ℕ → List ℕ
required_text line = codes "xt: Required " ++ line

-- none where the status is Done and each requirement is met
abbrev pub line_of : Status → Option (List ℕ) → Option (List ℕ)
line_of status.Done None = None
line_of status.Done (Some line) = Some (required_text line)
line_of s unmet = Some (status_text s)

-- the status's; but 20 where all was written of a run that does not meet a requirement
abbrev pub code_of : Status → Option (List ℕ) → ℕ
code_of status.Done (Some line) = 20
code_of s unmet = status_code s

-- the code and the line are those of a status, and of the line of a requirement that is not met
pub record IsEndOf (s : Status) (unmet : Option (List ℕ)) (e : End) : Type 0 where
  pub code : e.code ≡ code_of s unmet
  pub line : IfOk e.line (λ line. line ≡ line_of s unmet)

-- a call with these words ends so: in the status of the top call
pub record IsEndOfCall (words : List (List ℕ)) (c : Ends) (e : End) : Type 0 where
  pub outcome : Outcome
  pub answers : Answers (order_of words) c outcome
  pub complete : IsComplete (order_of words) c outcome
  pub end : IsEndOf outcome.status outcome.unmet e
