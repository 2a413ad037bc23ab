-- Of the lines of the records that are gone the first bytes were written, and the others are gathered.
use Rattle.std.proofs.Common.{◌≡◌, ◌++◌, length, ℕ, ◌+◌, ◌≤◌, List}
use Rattle.std.specs.Io.KnownBytes.{Appends}
use Rattle.xt_runs.specs.Traces.{lines_from}
use Rattle.xt_runs.proofs.output.write_records.Given as goal

abbrev pub invariant-loop-step : goal.invariant-loop-step
invariant-loop-step g l = record {
  bytes : (done : List ℕ)
      × (lines_from l.core 0 (g.R.Records.left l.fn.records) ≡ done ++ (l.piece ++ lines_from l.core l.step (g.R.Records.left l.records)))
      × Appends (g.K.Sink.told l.fn.sink) (g.K.Sink.told l.sink) done;
  left : length (g.R.Records.left l.records) + l.step ≡ l.count;
  later : g.K.Sink.faults l.fn.sink ≤ g.K.Sink.faults l.sink;
}
