-- Carries a proof; nothing that a reader must believe.
-- What stands for a world in a search.
use Rattle.std.specs.Prelude.{◌≡◌, ℕ, zero, suc, Bool, false, List}
use Rattle.xt_map.specs.declared.contents.MemoryContents.{MemoryContents}
use Rattle.xt_search.specs.Changed.{IsLean, contents_of}
use Rattle.xt_exec.specs.State.{State}
use Rattle.xt_outcomes.specs.Nexts.{next_bars}
use Rattle.xt_outcomes.specs.Places.{spot_run}
use Rattle.xt_outcomes.specs.Spots.{Side, Spot, side_of}
use Rattle.xt_outcomes.specs.declared.places.Place.{Place}
use Rattle.xt_outcomes.specs.declared.world.World.{World}

-- the world that it stands for where memory opened so
abbrev pub spot_of : MemoryContents → World → Spot State
spot_of m w = record {
  side0 = w.side0.value;
  side1 = w.side1.value;
  memory = contents_of m w.changes.value;
}

-- a world in which this core and memory have become these
abbrev pub moved_spot : ℕ → Side State → MemoryContents → Spot State → Spot State
moved_spot zero s m p = record { side0 = s; side1 = p.side1; memory = m }
moved_spot (suc c) s m p = record { side0 = p.side0; side1 = s; memory = m }

-- the next turn of the core uses time, or does not fit
abbrev pub bars : (code : ℕ → ℕ) (timed : Bool) → List ℕ → MemoryContents → ℕ → World → Bool
bars code timed ms m c w = next_bars code timed ms (side_of c (spot_of m w))

-- a turn of the core, which uses no time and fits, and then its turns that meet nothing, at most so
-- many, lead from the one to the other, and keep only bytes that differ from the opening's
abbrev pub Leads :
    (code : ℕ → ℕ) (timed : Bool) → List ℕ → List Place → ℕ → MemoryContents → ℕ → World → World
    → Type 0
Leads code timed ms ps n m c v w =
    (spot_of m w ≡ spot_run code timed ms ps n c (spot_of m v)) × (bars code timed ms m c v ≡ false)
    × (IsLean m v.changes.value → IsLean m w.changes.value)
