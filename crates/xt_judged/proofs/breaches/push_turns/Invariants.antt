use Rattle.std.proofs.Common.{◌≡◌, ◌++◌}
use Rattle.xt_outcomes.specs.Places.{turns_of}
use Rattle.xt_judged.proofs.breaches.push_turns.Given as goal

abbrev pub invariant-loop-made : goal.invariant-loop-made
invariant-loop-made l = l.order.items ≡ l.fn.order.items ++ turns_of l.core l.made
