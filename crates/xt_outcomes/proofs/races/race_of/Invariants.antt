use Rattle.std.proofs.Common.{ℕ, ◌<◌}
use Rattle.xt_map.specs.declared.access.Access.{Access}
use Rattle.xt_core.specs.Runs.{code_of, memory_of}
use Rattle.xt_search.specs.Graphs.{IsAt}
use Rattle.xt_outcomes.specs.KeptWorlds.{spot_of}
use Rattle.xt_outcomes.specs.SpotRaces.{IsSpotRace}
use Rattle.xt_outcomes.specs.declared.world.World.{World}
use Rattle.xt_outcomes.proofs.races.race_of.Given as goal

abbrev pub invariant-loop-number : goal.invariant-loop-number
invariant-loop-number l = (k : ℕ) (w : World) (a b : Access) → k < l.number → IsAt l.search.graph.kept.items k w
    → IsSpotRace (code_of l.image) (spot_of (memory_of l.image l.options) w) a b → ⊥
