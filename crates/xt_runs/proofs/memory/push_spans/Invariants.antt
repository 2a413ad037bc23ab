-- What was appended, and the lines of the places that are left, are all lines.
use Rattle.std.proofs.Common.{◌≡◌, ◌++◌, drop}
use Rattle.xt_runs.specs.Memory.{span_lines}
use Rattle.xt_runs.proofs.memory.push_spans.Given as goal

abbrev pub invariant-loop-span : goal.invariant-loop-span
invariant-loop-span l = l.out.items ++ span_lines l.state (drop l.span-index l.spans) ≡ l.initial.out.items ++ span_lines l.state l.spans
