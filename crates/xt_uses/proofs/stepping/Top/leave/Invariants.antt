use Rattle.std.proofs.Common.{◌≡◌}
use Rattle.xt_uses.proofs.Left.{gone_to}
use Rattle.xt_uses.proofs.stepping.Top.leave.Given as goal

abbrev pub invariant-loop-i : goal.invariant-loop-i
invariant-loop-i l = l.self ≡ gone_to l.first l.i l.initial.self
