use Rattle.std.proofs.Common.{◌≡◌, ℕ, ◌<◌, None}
use Rattle.xt_search.specs.Graphs.{IsAt}
use Rattle.xt_judged.proofs.breaches.shows_some.Given as goal

abbrev pub invariant-loop-number : goal.invariant-loop-number
invariant-loop-number g l = (k : ℕ) (w : g.row.W.Denot) → k < l.number → IsAt l.graph.kept.items k w → g.W.Met.shows w ≡ None
