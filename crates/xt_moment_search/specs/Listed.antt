-- Carries a proof; nothing that a reader must believe.
-- Which outcomes of kept worlds are listed.
use Rattle.std.specs.Prelude.{◌≡◌, ℕ, ◌&&◌, true, List}
use Rattle.xt_map.specs.declared.contents.MemoryContents.{MemoryContents}
use Rattle.xt_search.specs.declared.graph.Kept.{Kept}
use Rattle.xt_search.specs.Graphs.{IsAt}
use Rattle.std.specs.List.{Contains}
use Rattle.xt_moments.specs.Outcomes.{outcome_in}
use Rattle.xt_moments.specs.WorldLaws.{AreKnown}
use Rattle.xt_moment_search.specs.Covering.{standing}
use Rattle.xt_moment_search.specs.KnownCores.{known_byte}
use Rattle.xt_moment_search.specs.Told.{outcomes_in}
use Rattle.xt_moment_search.specs.declared.found.Found.{Found}
use Rattle.xt_moment_search.specs.declared.worlds.World.{World}

-- if both cores have stopped in the world, the words at these addresses are known, and its outcome is
-- listed
abbrev pub IsListed :
    MemoryContents → MemoryContents → List ℕ → List Found → World → Type 0
IsListed opening cleared addresses xs v =
    (v.side0.value.stopped && v.side1.value.stopped) ≡ true
    → AreKnown (known_byte cleared v.hidden.value) addresses
    × Contains (outcomes_in xs) (outcome_in addresses (standing opening v))

abbrev pub AreListed :
    MemoryContents → MemoryContents → List ℕ → List Found → List (Kept World) → Type 0
AreListed opening cleared addresses xs ks =
    (at : ℕ) (v : World) → IsAt ks at v → IsListed opening cleared addresses xs v
