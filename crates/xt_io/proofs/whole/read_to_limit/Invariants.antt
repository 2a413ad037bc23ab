-- What was taken is what the source gave, and is within the limit.
use Rattle.std.proofs.Common.{◌≤◌, ◌+◌, ◌-◌, length}
use Rattle.std.specs.Io.KnownBytes.{Consumes}
use Rattle.xt_io.proofs.whole.read_to_limit.Given as goal

abbrev pub invariant-loop-taken : goal.invariant-loop-taken
invariant-loop-taken g l = record {
  within : length l.taken.items ≤ l.limit;
  bytes : Consumes (g.S.Source.left l.fn.source) (g.S.Source.left l.source) l.taken.items;
  later : g.S.Source.faults l.fn.source ≤ g.S.Source.faults l.source;
}

abbrev pub decreases-loop-taken : goal.decreases-loop-taken
decreases-loop-taken g l = l.limit + 1 - length l.taken.items
