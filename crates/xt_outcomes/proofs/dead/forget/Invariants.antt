use Rattle.std.proofs.Common.{◌≡◌}
use Rattle.xt_outcomes.specs.Dead.{cleared}
use Rattle.xt_outcomes.proofs.dead.forget.Given as goal

abbrev pub invariant-loop-i : goal.invariant-loop-i
invariant-loop-i l = l.windows ≡ record l.fn.windows { regs = cleared l.mask l.fn.windows.base l.fn.windows.regs l.i }
