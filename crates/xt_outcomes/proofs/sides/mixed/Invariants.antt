-- So many registers were mixed in.
use Rattle.std.proofs.Common.{◌≡◌}
use Rattle.xt_outcomes.specs.SideMarks.{mixed, pairs_of}
use Rattle.xt_outcomes.proofs.sides.mixed.Given as goal

abbrev pub invariant-loop-n : goal.invariant-loop-n
invariant-loop-n l = record {
  ring : l.ring.regs ≡ l.windows.regs;
  digest : l.digest ≡ mixed (pairs_of l.windows.regs) l.initial.digest l.n;
}
