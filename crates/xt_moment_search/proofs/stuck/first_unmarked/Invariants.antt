use Rattle.std.proofs.Common.{◌≡◌, ◌<◌, ℕ, Some, true, slice_get}
use Rattle.xt_search.specs.Graphs.{IsAt}
use Rattle.xt_moment_search.specs.declared.worlds.World.{World}
use Rattle.xt_moment_search.proofs.stuck.first_unmarked.Given as goal

abbrev pub invariant-loop-at : goal.invariant-loop-at
invariant-loop-at l =
    (k : ℕ) (v : World) → k < l.at → IsAt l.graph.kept.items k v → v.passed ≡ 0
    → slice_get l.marks k ≡ Some true
