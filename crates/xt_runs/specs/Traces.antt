-- The lines of the traces of a run, and what is written with them ('profile').
use Rattle.std.specs.Prelude.{ℕ, ◌+◌, Bool, true, false, List, [], ◌∷◌, ◌++◌}
use Rattle.xt_trace.specs.declared.record.StepRecord.{StepRecord}
use Rattle.xt_trace.specs.Lines.{line_text}
use Rattle.xt_report.specs.Reports.{report_text}
use Rattle.xt_report.specs.declared.whole.Whole.{Whole}

-- the lines of a core's records, of which the first has this number
abbrev pub lines_from : ℕ → ℕ → List StepRecord → List ℕ
lines_from core step [] = []
lines_from core step (r ∷ rest) = line_text core step r ++ lines_from core (step + 1) rest

-- the lines of core 0 and then of core 1
abbrev pub trace_text : List StepRecord → List StepRecord → List ℕ
trace_text records0 records1 = lines_from 0 0 records0 ++ lines_from 1 0 records1

-- what `run` writes: the report, the texts of analyses, and with `--trace` the lines of both traces
abbrev pub output_text :
    Bool → Whole → List ℕ → List StepRecord → List StepRecord → List ℕ
output_text false w analyses records0 records1 = report_text w ++ analyses
output_text true w analyses records0 records1 =
    report_text w ++ (analyses ++ trace_text records0 records1)
