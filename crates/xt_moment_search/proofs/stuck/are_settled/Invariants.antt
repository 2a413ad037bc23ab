use Rattle.std.proofs.Common.{◌<◌, ℕ}
use Rattle.xt_search.specs.Ends.{IsSettled}
use Rattle.xt_moment_search.specs.Stuckness.{has_ended}
use Rattle.xt_moment_search.proofs.stuck.are_settled.Given as goal

abbrev pub invariant-loop-at : goal.invariant-loop-at
invariant-loop-at l = (k : ℕ) → k < l.at → IsSettled has_ended l.graph l.marks k
