-- The accesses of a list of records ('profile').
use Rattle.std.specs.Prelude.{ℕ, Bool, true, false, Option, Some, None, List, [], ◌∷◌}
use Rattle.xt_map.specs.declared.access.Access.{Access}
use Rattle.xt_trace.specs.declared.record.StepKind.{StepKind}
use Rattle.xt_trace.specs.declared.record.StepKind.TheVariants as kind
use Rattle.xt_trace.specs.declared.record.StepRecord.{StepRecord}

-- a record that stops its core
abbrev pub is_stop : StepKind → Bool
is_stop kind.Stop = true
is_stop _ = false

abbrev pub call_before : Option Access → ℕ → List (Access × ℕ) → List (Access × ℕ)
call_before None reply calls = calls
call_before (Some a) reply calls = (a, reply) ∷ calls

-- the accesses of the records that have one, with their replies, in order
abbrev pub calls_in : List StepRecord → List (Access × ℕ)
calls_in [] = []
calls_in (r ∷ rest) = call_before r.access r.reply (calls_in rest)
