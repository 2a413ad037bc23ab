use Rattle.xt_flow.proofs.Reaching.{Going, left}
use Rattle.xt_flow.proofs.visits.visit_all.Given as goal

abbrev pub invariant-loop-at : goal.invariant-loop-at
invariant-loop-at l = Going l.image l.vecbase l.entry1 l.roots l.visited.starts.items l.visited.reads.items l.pending.items

abbrev pub decreases-loop-at : goal.decreases-loop-at
decreases-loop-at l = left l.visited.starts.items l.pending.items
