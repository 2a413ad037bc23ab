-- What comes out of an order with moments ('profile').
--
-- Profile: an outcome needs both cores stopped by BREAK. An order with moments is stuck if no order
-- that begins with it ends so, whatever CCOUNT is at each turn. CCOUNT has 32 bits.
use Rattle.std.specs.Prelude.{◌≡◌, ℕ, Bool, true, false, ◌&&◌, List, ◌++◌, map}
use Rattle.std.specs.List.{All, Contains}
use Rattle.xt_map.specs.Serving.{number_at}
use Rattle.xt_trace.specs.Runs.{Opening}
use Rattle.xt_rows.specs.RowLaws.{IsWord}
use Rattle.xt_exec.specs.State.{State}
use Rattle.xt_moments.specs.Moments.{IsMove, MomentWorld, opening_world, world_past}
use Rattle.xt_moments.specs.declared.moves.Move.{Move}

-- what was sent, the last program counters, and the values of the chosen words
pub record MomentOutcome : Type 0 where
  pub sent : List ℕ
  pub pc0 : ℕ
  pub pc1 : ℕ
  pub words : List ℕ

-- of a world in which both cores have stopped, for the words at these addresses
abbrev pub outcome_in : List ℕ → MomentWorld → MomentOutcome
outcome_in addresses w = record {
  sent = w.memory.sent;
  pc0 = w.core0.state.control.pc;
  pc1 = w.core1.state.control.pc;
  words = map (λ a. number_at w.memory a 4) addresses;
}

abbrev pub have_stopped : MomentWorld → Bool
have_stopped w = w.core0.stopped && w.core1.stopped

-- the world after an order with moments, where `counts` gives CCOUNT at each move
abbrev pub world_after : (ℕ → ℕ) → Opening State → (ℕ → ℕ) → List Move → MomentWorld
world_after code o counts order = world_past code counts order (opening_world o)

-- CCOUNT at each move
abbrev pub AreCounts : (ℕ → ℕ) → Type 0
AreCounts counts = (n : ℕ) → IsWord (counts n)

-- ---- what can be said of an order, and of all

-- both cores have stopped after it, and this is what comes out
pub record EndsIn (code : ℕ → ℕ) (o : Opening State) (addresses : List ℕ) (counts : ℕ → ℕ)
    (order : List Move) (x : MomentOutcome) : Type 0 where
  pub ended : have_stopped (world_after code o counts order) ≡ true
  pub outcome : x ≡ outcome_in addresses (world_after code o counts order)

-- no order with moments that begins with this one ends with both cores stopped
abbrev pub IsStuck : (ℕ → ℕ) → Opening State → List Move → Type 0
IsStuck code o order =
    (counts : ℕ → ℕ) (more : List Move) → AreCounts counts → All IsMove more
    → have_stopped (world_after code o counts (order ++ more)) ≡ false

-- each order with moments can be continued until both cores have stopped
abbrev pub CanAllEnd : (ℕ → ℕ) → Opening State → Type 0
CanAllEnd code o =
    (counts : ℕ → ℕ) (order : List Move) → AreCounts counts → All IsMove order
    → (more : List Move) × All IsMove more
    × (have_stopped (world_after code o counts (order ++ more)) ≡ true)

-- one of these is what comes out of each order with moments, whatever CCOUNT is at each turn
abbrev pub HasAllOutcomes : (ℕ → ℕ) → Opening State → List ℕ → List MomentOutcome → Type 0
HasAllOutcomes code o addresses xs =
    (counts : ℕ → ℕ) (order : List Move) → AreCounts counts → All IsMove order
    → have_stopped (world_after code o counts order) ≡ true
    → Contains xs (outcome_in addresses (world_after code o counts order))
