-- Turns beyond those that an order asks for ('profile').
use Rattle.std.specs.Prelude.{◌≡◌, ℕ, ◌+◌, false, List, length}
use Rattle.xt_trace.specs.Chip.{Chip}
use Rattle.xt_trace.specs.Runs.{Opening, world_at_start}
use Rattle.xt_trace.specs.Worlds.{Core, World, advance}
use Rattle.xt_exec.specs.State.{State}
use Rattle.xt_timeless.specs.TimeLaws.{HaveTurns}
use Rattle.xt_outcomes.specs.Orders.{with_turns, world_after}

-- the same state and the same records
pub record IsSameButForTurns (k l : Core State) : Type 0 where
  pub state : k.state ≡ l.state
  pub records : k.records ≡ l.records

pub record AreSameButForTurns (v w : World State) : Type 0 where
  pub line : v.line ≡ w.line
  pub core0 : IsSameButForTurns v.core0 w.core0
  pub core1 : IsSameButForTurns v.core1 w.core1

-- with more turns than the order asks for, the world after it is the same but for the turns that are
-- left, of which a core that has not stopped has those that were added
abbrev pub TurnsBeyondPlayNoPart : Type 0
TurnsBeyondPlayNoPart =
    (P : Chip State) (o : Opening State) (order : List ℕ) (extra : ℕ)
    → AreSameButForTurns (advance P order (world_at_start (with_turns o (length order + extra))))
    (world_after P false o order)
    × HaveTurns extra (advance P order (world_at_start (with_turns o (length order + extra))))
