use Rattle.std.proofs.Common.{◌≡◌, drop}
use Rattle.xt_layout.specs.Faults.{is_last}
use Rattle.xt_layout.proofs.fault.is_last.Given as goal

abbrev pub invariant-loop-line : goal.invariant-loop-line
invariant-loop-line l = is_last (drop l.line-index l.rest) ≡ is_last l.fn.rest
