-- The trace of a core over the replies to its accesses ('profile').
--
-- Profile: a trace is kept as a count and the numbers of the turns with an access, because the
-- records can be made again from the replies.
use Rattle.std.specs.Prelude.{ℕ, zero, suc, Bool, if◌then◌else◌, Option, Some, None, List, [], ◌∷◌}
use Rattle.std.specs.List.{list_any}
use Rattle.xt_map.specs.declared.access.Access.{Access}
use Rattle.xt_trace.specs.declared.record.StepRecord.{StepRecord}
use Rattle.xt_trace.specs.declared.trace.Stop.{Stop}
use Rattle.xt_trace.specs.declared.trace.Stop.TheVariants as stop
use Rattle.xt_trace.specs.Calls.{is_stop}
use Rattle.xt_trace.specs.Chip.{Chip}

-- the reply for a turn: the first one where the turn asks, 0 where none is left
abbrev pub reply_for : Option Access → List ℕ → ℕ
reply_for None replies = 0
reply_for (Some a) [] = 0
reply_for (Some a) (r ∷ rest) = r

-- the replies for the turns after it
abbrev pub replies_past : Option Access → List ℕ → List ℕ
replies_past None replies = replies
replies_past (Some a) [] = []
replies_past (Some a) (r ∷ rest) = rest

-- a trace: its records, and the last state
pub record Traced (S : Type 0) : Type 0 where
  pub records : List StepRecord
  pub last : S

abbrev pub empty_trace : {S : Type 0} → S → Traced S
empty_trace s = record { records = []; last = s }

abbrev pub with_first_record : {S : Type 0} → StepRecord → Traced S → Traced S
with_first_record r rest = record { records = r ∷ rest.records; last = rest.last }

-- The trace from a state with so many turns left. The k-th record with an access takes the k-th
-- reply. It ends after its first Stop, or with the last turn.
abbrev pub trace_over : {S : Type 0} (P : Chip S) → S → ℕ → List ℕ → Traced S
trace_over P s zero replies = empty_trace s
trace_over P s (suc n) replies =
    let t = P.turn s (reply_for (P.demand s) replies) in
    let rest = trace_over P t.1 n (replies_past (P.demand s) replies) in
    with_first_record t.0 (if is_stop t.0.kind then empty_trace t.1 else rest)

-- one of the records is a Stop
abbrev pub has_stopped : List StepRecord → Bool
has_stopped records = list_any (λ (r : StepRecord). is_stop r.kind) records

-- why a trace ended: at a BREAK, or with its last turn
abbrev pub stop_where : Bool → Stop
stop_where stopped = if stopped then stop.Break else stop.Turns

abbrev pub stop_of : List StepRecord → Stop
stop_of records = stop_where (has_stopped records)
