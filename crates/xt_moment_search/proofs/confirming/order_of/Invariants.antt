use Rattle.std.proofs.Common.{◌<◌, reverse, length}
use Rattle.std.specs.List.{All}
use Rattle.xt_search.specs.Graphs.{IsAt}
use Rattle.xt_moments.specs.Moments.{IsMove}
use Rattle.xt_moment_search.specs.Stuckness.{IsPath}
use Rattle.xt_moment_search.specs.declared.worlds.World.{World}
use Rattle.xt_moment_search.proofs.confirming.order_of.Given as goal

-- the moves so far lead from the world here to the one that is asked for
abbrev pub invariant-loop-at : goal.invariant-loop-at
invariant-loop-at l = record {
  within : l.at < length l.graph.kept.items;
  moves : All IsMove (reverse l.order.items);
  path : (v w : World) → IsAt l.graph.kept.items l.at v → IsAt l.graph.kept.items l.number w → IsPath l.machine.ground (reverse l.order.items) v w;
}

abbrev pub decreases-loop-at : goal.decreases-loop-at
decreases-loop-at l = l.at
