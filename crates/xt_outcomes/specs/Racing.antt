-- Races of the next turns of both cores after any order ('profile').
use Rattle.std.specs.Prelude.{ℕ, Bool, List}
use Rattle.xt_map.specs.declared.access.Access.{Access}
use Rattle.xt_trace.specs.Runs.{Opening}
use Rattle.xt_exec.specs.Chips.{processor}
use Rattle.xt_exec.specs.State.{State}
use Rattle.xt_search.specs.Worlds.{IsOrder}
use Rattle.xt_outcomes.specs.NextRaces.{IsNextRace}
use Rattle.xt_outcomes.specs.NextTurns.{AreNextTurns}
use Rattle.xt_outcomes.specs.Orders.{world_after}
use Rattle.xt_outcomes.specs.declared.races.NextRace.{NextRace}

-- after this order these are the next turns, which make these accesses, and they conflict
pub record IsRaceAfter (code : ℕ → ℕ) (timed : Bool) (o : Opening State) (r : NextRace)
    : Type 0 where
  pub order : IsOrder r.order.items
  pub race : IsNextRace code timed (world_after (processor code) timed o r.order.items) r.access0
      r.access1
  pub turns :
      AreNextTurns code (world_after (processor code) timed o r.order.items) r.turn0 r.turn1

-- no order leads to a race
abbrev pub HasNoRace : (ℕ → ℕ) → (timed : Bool) → Opening State → Type 0
HasNoRace code timed o =
    (order : List ℕ) (a b : Access) → IsOrder order
    → IsNextRace code timed (world_after (processor code) timed o order) a b → ⊥
