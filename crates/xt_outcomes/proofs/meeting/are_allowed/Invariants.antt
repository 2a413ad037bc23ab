use Rattle.std.proofs.Common.{◌≡◌, ℕ, ◌<◌, true}
use Rattle.xt_map.specs.Memory.{constant_byte}
use Rattle.xt_search.specs.Graphs.{IsAt}
use Rattle.xt_outcomes.specs.Places.{is_told}
use Rattle.xt_outcomes.specs.declared.world.World.{World}
use Rattle.xt_outcomes.proofs.meeting.are_allowed.Given as goal

abbrev pub invariant-loop-number : goal.invariant-loop-number
invariant-loop-number l = (k : ℕ) (w : World) → k < l.number → IsAt l.search.graph.kept.items k w
    → (is_told (constant_byte l.search.machine.code) l.search.machine.places.list.items 0 w.side0.value ≡ true)
    × (is_told (constant_byte l.search.machine.code) l.search.machine.places.list.items 1 w.side1.value ≡ true)
