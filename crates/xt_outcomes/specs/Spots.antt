-- Carries a proof; nothing that a reader must believe.
-- Turns between the states that a search keeps of worlds.
use Rattle.std.specs.Prelude.{◌≡◌, ℕ, zero, suc, Bool, true, false, ◌==◌, ◌&&◌, ◌||◌, not, List, [], ◌∷◌}
use Rattle.xt_map.specs.declared.contents.MemoryContents.{MemoryContents}
use Rattle.xt_trace.specs.Calls.{is_stop}
use Rattle.xt_trace.specs.Chip.{Chip}
use Rattle.xt_trace.specs.Worlds.{answer, left_past, memory_left}
use Rattle.xt_search.specs.Meetings.{after}
use Rattle.xt_exec.specs.Chips.{processor}
use Rattle.xt_exec.specs.State.{State}
use Rattle.xt_timeless.specs.Time.{uses_time}
pub use Rattle.xt_outcomes.specs.States.{Side, Spot, left_kept, side_in, spot_in, state_kept}

-- ---- one turn

-- those that are left after a turn, of so many more
abbrev pub more_kept : (timed : Bool) → ℕ → ℕ
more_kept true n = n
more_kept false n = 1

-- a core after a turn with this reply, with so many turns left after it
abbrev pub side_past : (P : Chip State) (timed : Bool) → Side State → ℕ → ℕ → Side State
side_past P timed s n reply = let t = P.turn s.state reply in record {
  state = state_kept timed t.1;
  left = left_past t.0 (more_kept timed n);
  stopped = s.stopped || is_stop t.0.kind;
}

-- a core that has so many turns left after its next one, or none where it has ended
abbrev pub side_given :
    (P : Chip State) (timed : Bool) → ℕ → Side State → MemoryContents → Side State
side_given P timed zero s m = s
side_given P timed (suc n) s m = side_past P timed s n (answer (P.demand s.state) m)

abbrev pub memory_given : (P : Chip State) → ℕ → State → MemoryContents → MemoryContents
memory_given P zero s m = m
memory_given P (suc n) s m = memory_left (P.demand s) m

-- one turn of a core, or nothing where it has ended
abbrev pub spot_past : (P : Chip State) (timed : Bool) → ℕ → Spot State → Spot State
spot_past P timed zero w = record {
  side0 = side_given P timed w.side0.left w.side0 w.memory;
  side1 = w.side1;
  memory = memory_given P w.side0.left w.side0.state w.memory;
}
spot_past P timed (suc c) w = record {
  side0 = w.side0;
  side1 = side_given P timed w.side1.left w.side1 w.memory;
  memory = memory_given P w.side1.left w.side1.state w.memory;
}

-- ---- turns that use time

abbrev pub side_of : {S : Type 0} → ℕ → Spot S → Side S
side_of zero w = w.side0
side_of (suc c) w = w.side1

-- a turn that is left uses time, which plays no part where the search is timed
abbrev pub side_bars : (code : ℕ → ℕ) (timed : Bool) → Side State → Bool
side_bars code true s = false
side_bars code false s = not (s.left == 0) && uses_time code s.state

abbrev pub spot_after : (P : Chip State) (timed : Bool) → List ℕ → Spot State → Spot State
spot_after P timed order w = after (spot_past P timed) order w

-- no turn of the order uses time
abbrev pub TurnsAreFree : (code : ℕ → ℕ) (timed : Bool) → List ℕ → Spot State → Type 0
TurnsAreFree code timed [] w = Unit {0}
TurnsAreFree code timed (c ∷ cs) w =
    (side_bars code timed (side_of c w) ≡ false)
    × TurnsAreFree code timed cs (spot_past (processor code) timed c w)
