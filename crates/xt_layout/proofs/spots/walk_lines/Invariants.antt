use Rattle.xt_layout.specs.Bounds.{Walks}
use Rattle.xt_layout.proofs.spots.walk_lines.Given as goal

-- what is known after the lines so far
abbrev pub invariant-loop-k : goal.invariant-loop-k
invariant-loop-k l = Walks l.lines l.words l.k l.here l.spots.items l.spans.items
