-- The state after an order, and that orders lead to many states ('profile').
--
-- Profile: a state is both cores, what memory holds, and what was sent, without records and history.
-- Without `--timed` time is left out of it, and instead of the turns that a core has left it says
-- whether there is one: none after a stop.
use Rattle.std.specs.Prelude.{◌≢◌, ℕ, ◌<◌, Bool, true, false, List, if◌then◌else◌}
use Rattle.xt_map.specs.declared.contents.MemoryContents.{MemoryContents}
use Rattle.xt_trace.specs.Runs.{Opening}
use Rattle.xt_trace.specs.Traces.{has_stopped}
use Rattle.xt_trace.specs.Worlds.{Core, World}
use Rattle.xt_exec.specs.Chips.{processor}
use Rattle.xt_exec.specs.State.{State}
use Rattle.xt_search.specs.Worlds.{IsOrder}
use Rattle.xt_timeless.specs.Time.{without_time}
use Rattle.xt_outcomes.specs.Orders.{world_after}

-- a core: its state, the turns that it has left, and whether it has stopped
pub record Side (S : Type 0) : Type 0 where
  pub state : S
  pub left : ℕ
  pub stopped : Bool

pub record Spot (S : Type 0) : Type 0 where
  pub side0 : Side S
  pub side1 : Side S
  pub memory : MemoryContents

abbrev pub state_kept : (timed : Bool) → State → State
state_kept true s = s
state_kept false s = without_time s

-- the turns that it has left, of a core that has so many and has stopped or not
abbrev pub left_kept : (timed : Bool) → ℕ → Bool → ℕ
left_kept true n stopped = n
left_kept false n stopped = if stopped then 0 else 1

abbrev pub side_in : (timed : Bool) → Core State → Side State
side_in timed k = record {
  state = state_kept timed k.state;
  left = left_kept timed k.left (has_stopped k.records);
  stopped = has_stopped k.records;
}

abbrev pub spot_in : (timed : Bool) → World State → Spot State
spot_in timed w = record {
  side0 = side_in timed w.core0;
  side1 = side_in timed w.core1;
  memory = w.line.memory;
}

-- the state after an order
abbrev pub state_after : (ℕ → ℕ) → (timed : Bool) → Opening State → List ℕ → Spot State
state_after code timed o order = spot_in timed (world_after (processor code) timed o order)

-- so many orders lead to states of which no two are equal
pub record LeadToMany (code : ℕ → ℕ) (timed : Bool) (o : Opening State) (many : ℕ)
    : Type 0 where
  pub order : (k : ℕ) → k < many → List ℕ
  pub is_order : (k : ℕ) (h : k < many) → IsOrder (order k h)
  pub differ : (j k : ℕ) (a : j < many) (b : k < many) → j < k
      → state_after code timed o (order j a) ≢ state_after code timed o (order k b)
