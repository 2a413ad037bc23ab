use Rattle.std.proofs.Common.{◌<◌, ℕ}
use Rattle.xt_search.specs.Graphs.{IsAt}
use Rattle.xt_moment_search.specs.Listed.{IsListed}
use Rattle.xt_moment_search.specs.declared.worlds.World.{World}
use Rattle.xt_moment_search.proofs.found.are_told.Given as goal

abbrev pub invariant-loop-kept : goal.invariant-loop-kept
invariant-loop-kept l =
    (at : ℕ) (v : World) → at < l.kept-index → IsAt l.graph.kept.items at v
    → IsListed l.machine.ground.opening.contents l.machine.ground.cleared.contents l.words l.list v
