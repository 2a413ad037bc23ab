-- The run of an outcome's order ends in this outcome ('profile').
--
-- Profile: after the order core 0 makes its remaining turns, and then core 1, as in `run --order`.
use Rattle.std.specs.Prelude.{◌≡◌, ℕ, ◌≤◌, true, false, List, length}
use Rattle.xt_trace.specs.Chip.{Chip}
use Rattle.xt_trace.specs.Runs.{Opening, world_at_start}
use Rattle.xt_trace.specs.Worlds.{World, advance, finished_world}
use Rattle.xt_exec.specs.State.{State}
use Rattle.xt_outcomes.specs.Listing.{IsReal}
use Rattle.xt_outcomes.specs.Orders.{with_both}
use Rattle.xt_outcomes.specs.Outcomes.{outcome_in}
use Rattle.xt_outcomes.specs.declared.listing.Found.{Found}

-- the world in which the run of an order ends
abbrev pub world_at_end : Chip State → Opening State → List ℕ → World State
world_at_end P o order = finished_world P (advance P order (world_at_start o))

-- timed, with the turns of the options; without time, if each core has as many turns as the order
-- is long, or more
pub record RunEndsSo (P : Chip State) (o : Opening State) (addresses : List ℕ) (x : Found)
    : Type 0 where
  pub timed : IsReal P true o addresses x
      → outcome_in addresses (world_at_end P o x.order.items) ≡ x.outcome
  pub untimed : (n m : ℕ) → length x.order.items ≤ n → length x.order.items ≤ m
      → IsReal P false o addresses x
      → outcome_in addresses (world_at_end P (with_both o n m) x.order.items) ≡ x.outcome

abbrev pub RunsEndInTheirOutcomes : Type 0
RunsEndInTheirOutcomes =
    (P : Chip State) (o : Opening State) (addresses : List ℕ) (x : Found)
    → RunEndsSo P o addresses x
