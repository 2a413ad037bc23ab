-- What comes out of an order ('profile').
--
-- Profile: an outcome needs both cores stopped by BREAK. Timed, it needs neither to have a turn
-- left, so one that made all its turns has ended too.
-- Note: `IsStuck` speaks of every longer order, so a core that goes round in a loop for ever is
-- stuck only if no order of the other's turns lets it out.
use Rattle.std.specs.Prelude.{◌≡◌, ℕ, Bool, true, false, ◌==◌, ◌&&◌, List, ◌++◌, map}
use Rattle.xt_map.specs.Serving.{number_at}
use Rattle.xt_trace.specs.declared.trace.Stop.{Stop}
use Rattle.xt_trace.specs.Chip.{Chip}
use Rattle.xt_trace.specs.Runs.{Opening}
use Rattle.xt_trace.specs.Traces.{has_stopped, stop_of}
use Rattle.xt_trace.specs.Worlds.{Core, World}
use Rattle.xt_exec.specs.State.{State}
use Rattle.xt_search.specs.Worlds.{IsOrder}
use Rattle.xt_outcomes.specs.Orders.{world_after}

-- how both cores ended, what was sent, and the values of the chosen words
pub record Outcome : Type 0 where
  pub sent : List ℕ
  pub stop0 : Stop
  pub pc0 : ℕ
  pub stop1 : Stop
  pub pc1 : ℕ
  pub words : List ℕ

-- of a world in which both cores have ended, for the words at these addresses
abbrev pub outcome_in : List ℕ → World State → Outcome
outcome_in addresses w = record {
  sent = w.line.memory.sent;
  stop0 = stop_of w.core0.records;
  pc0 = w.core0.state.control.pc;
  stop1 = stop_of w.core1.records;
  pc1 = w.core1.state.control.pc;
  words = map (λ a. number_at w.line.memory a 4) addresses;
}

-- A core has ended where it has stopped by BREAK. Timed, it has ended where it has no turn left,
-- since it has stopped or has made all of them.
abbrev pub core_ended : {S : Type 0} (timed : Bool) → Core S → Bool
core_ended true k = k.left == 0
core_ended false k = has_stopped k.records

abbrev pub have_ended : {S : Type 0} (timed : Bool) → World S → Bool
have_ended timed w = core_ended timed w.core0 && core_ended timed w.core1

-- no order that begins with this one ends with both cores ended
abbrev pub IsStuck : {S : Type 0} (P : Chip S) (timed : Bool) → Opening S → List ℕ → Type 0
IsStuck P timed o order =
    (more : List ℕ) → have_ended timed (world_after P timed o (order ++ more)) ≡ false

-- each order can be continued until both cores have ended
abbrev pub CanAllEnd : {S : Type 0} (P : Chip S) (timed : Bool) → Opening S → Type 0
CanAllEnd P timed o =
    (order : List ℕ) → IsOrder order
    → (more : List ℕ) × IsOrder more
    × (have_ended timed (world_after P timed o (order ++ more)) ≡ true)
