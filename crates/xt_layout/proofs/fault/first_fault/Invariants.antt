use Rattle.std.proofs.Common.{take}
use Rattle.xt_layout.specs.Faults.{layout_fault}
use Rattle.xt_layout.specs.Known.{has_name}
use Rattle.xt_layout.proofs.Each.{Finds}
use Rattle.xt_layout.proofs.Faulting.{Knows, line_faults}
use Rattle.xt_layout.proofs.fault.first_fault.Given as goal

-- what the lines so far define is known, and none of them has a fault
abbrev pub invariant-loop-k : goal.invariant-loop-k
invariant-loop-k l = record {
  known : Knows (has_name l.before.names) l.before.has_entry l.before.segments (take l.k l.lines);
  none : Finds (line_faults l.lines l.words) l.k l.lines (layout_fault l.fn.lines);
}
