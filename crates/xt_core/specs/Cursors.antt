-- The records that a core's turns will make ('profile').
use Rattle.std.specs.Prelude.{ℕ, List}
use Rattle.xt_map.specs.declared.access.Entry.{Entry}
use Rattle.xt_map.specs.History.{replies_of}
use Rattle.xt_trace.specs.declared.record.StepRecord.{StepRecord}
use Rattle.xt_trace.specs.Traces.{trace_over}
use Rattle.xt_exec.specs.State.{State}
use Rattle.xt_exec.specs.Chips.{processor}

-- from this state, with so many turns, over the replies that these entries have for the core
abbrev pub records_over : (ℕ → ℕ) → ℕ → State → ℕ → List Entry → List StepRecord
records_over code core s turns entries =
    (trace_over (processor code) s turns (replies_of core entries)).records
