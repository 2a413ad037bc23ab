-- Carries a proof; nothing that a reader must believe.
-- Turns between the states that a search keeps of worlds, without dead registers.
use Rattle.std.specs.Prelude.{◌≡◌, ℕ, zero, suc, Bool, false, ◌==◌, ◌&&◌, ◌||◌, not, List, [], ◌∷◌}
use Rattle.xt_map.specs.declared.contents.MemoryContents.{MemoryContents}
use Rattle.xt_trace.specs.Chip.{Chip}
use Rattle.xt_exec.specs.Chips.{processor}
use Rattle.xt_exec.specs.State.{State}
use Rattle.xt_outcomes.specs.Dead.{fits, side_forgotten}
use Rattle.xt_outcomes.specs.Spots.{Side, Spot, memory_given, side_bars, side_given, side_of}

-- a core that has so many turns left, after its next one, or as it is where it has none
abbrev pub side_next :
    (P : Chip State) (timed : Bool) → List ℕ → ℕ → Side State → MemoryContents → Side State
side_next P timed ms zero s m = s
side_next P timed ms (suc n) s m = side_forgotten ms (side_given P timed (suc n) s m)

-- one turn of a core, or nothing where it has ended
abbrev pub spot_next : (P : Chip State) (timed : Bool) → List ℕ → ℕ → Spot State → Spot State
spot_next P timed ms zero w = record {
  side0 = side_next P timed ms w.side0.left w.side0 w.memory;
  side1 = w.side1;
  memory = memory_given P w.side0.left w.side0.state w.memory;
}
spot_next P timed ms (suc c) w = record {
  side0 = w.side0;
  side1 = side_next P timed ms w.side1.left w.side1 w.memory;
  memory = memory_given P w.side1.left w.side1.state w.memory;
}

-- a turn that is left does not fit what is taken for granted of registers
abbrev pub misfits : (code : ℕ → ℕ) → List ℕ → Side State → Bool
misfits code ms s = not (s.left == 0) && not (fits code ms s.state)

-- a turn that is left uses time, or does not fit
abbrev pub next_bars : (code : ℕ → ℕ) (timed : Bool) → List ℕ → Side State → Bool
next_bars code timed ms s = side_bars code timed s || misfits code ms s

-- no turn of the order uses time, and each fits
abbrev pub TurnsFit : (code : ℕ → ℕ) (timed : Bool) → List ℕ → List ℕ → Spot State → Type 0
TurnsFit code timed ms [] w = Unit {0}
TurnsFit code timed ms (c ∷ cs) w =
    (next_bars code timed ms (side_of c w) ≡ false)
    × TurnsFit code timed ms cs (spot_next (processor code) timed ms c w)
