-- The bytes so far are of one line, and as many fewer may be taken.
use Rattle.std.proofs.Common.{◌≡◌, ◌≤◌, ◌+◌, length}
use Rattle.std.specs.Io.KnownBytes.{Consumes}
use Rattle.xt_tools.specs.Reads.{IsInLine}
use Rattle.xt_tools.proofs.lines.read_line.Given as goal

abbrev pub invariant-loop-line : goal.invariant-loop-line
invariant-loop-line g l = record {
  consumed : Consumes (g.S.Source.left l.fn.source) (g.S.Source.left l.source) l.line.items;
  inside : IsInLine l.line.items;
  count : l.fn.spare ≡ l.spare + length l.line.items;
  later : g.S.Source.faults l.fn.source ≤ g.S.Source.faults l.source;
}

abbrev pub decreases-loop-line : goal.decreases-loop-line
decreases-loop-line g l = l.spare
