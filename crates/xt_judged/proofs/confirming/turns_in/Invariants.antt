-- The turns of the core from here on were counted.
use Rattle.std.proofs.Common.{◌≡◌, ◌≤◌, ◌+◌, drop, length}
use Rattle.xt_judged.specs.OrderFrames.{turns_in}
use Rattle.xt_judged.proofs.confirming.turns_in.Given as goal

abbrev pub invariant-loop-at : goal.invariant-loop-at
invariant-loop-at l = (l.turns ≡ turns_in l.core (drop l.at l.order)) × (l.turns + l.at ≤ length l.order)

abbrev pub decreases-loop-at : goal.decreases-loop-at
decreases-loop-at l = l.at
