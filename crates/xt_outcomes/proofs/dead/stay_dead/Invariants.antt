use Rattle.std.proofs.Common.{◌≡◌}
use Rattle.xt_outcomes.specs.Dead.{stay_dead}
use Rattle.xt_outcomes.proofs.dead.stay_dead.Given as goal

abbrev pub invariant-loop-i : goal.invariant-loop-i
invariant-loop-i l = l.stay ≡ stay_dead l.write l.before l.after l.i
