use Rattle.std.proofs.Common.{◌≡◌, ◌≤◌, length, max, None}
use Rattle.xt_search.specs.Graphs.{IsMore}
use Rattle.xt_search.specs.Searched.{IsKept}
use Rattle.xt_search.proofs.seeking.go_on.Given as goal

abbrev pub invariant-loop-round : goal.invariant-loop-round
invariant-loop-round g l = record {
  kept : IsKept (g.M.Machine.Leads l.machine) (g.M.Machine.Same l.machine) (g.M.Machine.IsMark l.machine) l.graph;
  more : IsMore l.fn.graph l.graph;
  made : length l.graph.nexts.items ≡ l.round;
  within : length l.graph.kept.items ≤ max 1 l.most;
  free : l.graph.barred ≡ None;
}
