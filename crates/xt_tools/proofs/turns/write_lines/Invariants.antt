-- Of the lines that are gone the first bytes were written, and the others are gathered.
use Rattle.std.proofs.Common.{◌≡◌, ◌++◌, length, ℕ, ◌+◌, ◌≤◌, List}
use Rattle.std.specs.List.{concat}
use Rattle.std.specs.Io.KnownBytes.{Appends}
use Rattle.xt_tools.proofs.turns.write_lines.Given as goal

abbrev pub invariant-loop : goal.invariant-loop
invariant-loop g l = record {
  bytes : (done : List ℕ)
      × (concat (g.L.Lines.lines l.fn.lines) ≡ done ++ (l.piece ++ concat (g.L.Lines.lines l.lines)))
      × Appends (g.K.Sink.told l.fn.sink) (g.K.Sink.told l.sink) done;
  left : length (g.L.Lines.lines l.lines) + l.counter ≡ l.count;
  later : g.K.Sink.faults l.fn.sink ≤ g.K.Sink.faults l.sink;
}
