-- What was taken so far is the order from the world here to the one that is asked for, backwards.
use Rattle.std.proofs.Common.{◌<◌, reverse, length}
use Rattle.xt_search.specs.Worlds.{IsOrder}
use Rattle.xt_judged.proofs.breaches.order_of.Given as goal

abbrev pub invariant-loop-at : goal.invariant-loop-at
invariant-loop-at g l = record {
  within : l.at < length l.graph.kept.items;
  order : IsOrder (reverse l.order.items);
}

abbrev pub decreases-loop-at : goal.decreases-loop-at
decreases-loop-at g l = l.at
