use Rattle.std.proofs.Common.{◌<◌, reverse, length}
use Rattle.xt_search.specs.Worlds.{IsOrder, Reaches}
use Rattle.xt_search.specs.Graphs.{IsAt}
use Rattle.xt_search.proofs.orders.order_to.Given as goal

-- what was taken so far leads from the world here to the one that is asked for
abbrev pub invariant-loop-at : goal.invariant-loop-at
invariant-loop-at g l = record {
  within : l.at < length l.graph.kept.items;
  order : IsOrder (reverse l.cores.items);
  leads : (v w : g.row.M-World.Denot) → IsAt l.graph.kept.items l.at v → IsAt l.graph.kept.items l.number w → Reaches (g.M.Machine.Leads l.machine) (reverse l.cores.items) v w;
}

abbrev pub decreases-loop-at : goal.decreases-loop-at
decreases-loop-at g l = l.at
