use Rattle.xt_judged.specs.Forgotten.{IsForgotten}
use Rattle.xt_judged.proofs.own_judges.forget_dead.Given as goal

abbrev pub invariant-loop-i : goal.invariant-loop-i
invariant-loop-i l = IsForgotten l.fn.frames l.frames
