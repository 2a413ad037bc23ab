use Rattle.std.proofs.Common.{ℕ, ◌<◌}
use Rattle.xt_map.specs.Memory.{constant_byte}
use Rattle.xt_search.specs.Graphs.{IsAt}
use Rattle.xt_judged.specs.WatchedKept.{AreSettled}
use Rattle.xt_judged.specs.declared.watched.Watched.{Watched}
use Rattle.xt_judged.proofs.apart.are_settled.Given as goal

abbrev pub invariant-loop-number : goal.invariant-loop-number
invariant-loop-number l = (k : ℕ) (w : Watched) → k < l.number → IsAt l.search.graph.kept.items k w → AreSettled (constant_byte l.search.machine.timed.code) l.search.machine.places.list.items w
