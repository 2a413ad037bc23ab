use Rattle.std.proofs.Common.{◌≡◌, ℕ, ◌<◌, true}
use Rattle.std.specs.List.{All}
use Rattle.xt_exec.specs.Chips.{processor}
use Rattle.xt_core.specs.Runs.{code_of, memory_of, opening_of}
use Rattle.xt_search.specs.Graphs.{IsAt}
use Rattle.xt_outcomes.specs.Endings.{has_ended, outcome_at}
use Rattle.xt_outcomes.specs.KeptWorlds.{spot_of}
use Rattle.xt_outcomes.specs.Listing.{IsReal, IsRising, Lists}
use Rattle.xt_outcomes.specs.declared.world.World.{World}
use Rattle.xt_outcomes.proofs.listing.outcomes_of.Given as goal

abbrev pub invariant-loop-number : goal.invariant-loop-number
invariant-loop-number l = record {
  real : All (IsReal (processor (code_of l.image)) l.search.machine.timed (opening_of l.image l.options) l.words) l.list.items;
  rising : IsRising l.list.items;
  listed : (k : ℕ) (w : World) → k < l.number → IsAt l.search.graph.kept.items k w → has_ended (spot_of (memory_of l.image l.options) w) ≡ true
      → Lists l.list.items (outcome_at l.words (spot_of (memory_of l.image l.options) w));
}
