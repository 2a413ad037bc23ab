-- Carries a proof; nothing that a reader must believe.
-- A search over the orders of an image's runs.
use Rattle.std.specs.Prelude.{◌≡◌, ℕ, true, List, ◌++◌, IfSome}
use Rattle.xt_map.specs.Memory.{constant_byte}
use Rattle.xt_image.specs.declared.image.Image.{Image}
use Rattle.xt_search.specs.Changed.{IsLean}
use Rattle.xt_search.specs.Chains.{AreDistinct}
use Rattle.xt_search.specs.Graphs.{IsAt, IsBarredAt, IsGraph, IsWhole, OpensWith}
use Rattle.xt_search.specs.Worlds.{IsOrder}
use Rattle.xt_trace.specs.declared.options.Options.{Options}
use Rattle.xt_trace.specs.Runs.{world_at_start}
use Rattle.xt_map.specs.Code.{AreBytes}
use Rattle.xt_exec.specs.Chips.{processor}
use Rattle.xt_exec.specs.State.{State}
use Rattle.xt_core.specs.Runs.{code_of, memory_of, opening_of}
use Rattle.xt_outcomes.specs.Dead.{spot_forgotten}
use Rattle.xt_outcomes.specs.Ended.{IsEnding}
use Rattle.xt_outcomes.specs.KeptWorlds.{Leads, bars, spot_of}
use Rattle.xt_outcomes.specs.Marks.{IsSameWorld}
use Rattle.xt_outcomes.specs.Orders.{world_after}
use Rattle.xt_outcomes.specs.Places.{is_allowed, is_local, is_told}
use Rattle.xt_outcomes.specs.Spots.{Spot, spot_in}
use Rattle.xt_outcomes.specs.declared.answers.Ending.{Ending}
use Rattle.xt_outcomes.specs.declared.answers.Ending.TheVariants.{All}
use Rattle.xt_outcomes.specs.declared.found.Search.{Search}
use Rattle.xt_outcomes.specs.declared.world.World.{World}

-- a search of this image and these options
pub record IsSearch (image : Image) (o : Options) (s : Search) : Type 0 where
  pub bytes : AreBytes (code_of image)
  pub code : s.machine.code ≡ image.segments
  pub opening : s.machine.opening.contents ≡ memory_of image o
  pub graph : IsGraph (Leads (code_of image) s.machine.timed s.machine.dead.masks.items
      s.machine.places.list.items s.machine.most_local (memory_of image o)) s.graph
  pub barred :
      IfSome s.graph.barred (IsBarredAt (bars (code_of image) s.machine.timed
      s.machine.dead.masks.items (memory_of image o)) s.graph.kept.items)
  pub first : (w : World) × OpensWith s.graph w
      × (spot_of (memory_of image o) w
      ≡ spot_forgotten s.machine.dead.masks.items
      (spot_in s.machine.timed (world_at_start (opening_of image o))))
      × IsLean (memory_of image o) w.changes.value
  pub distinct : AreDistinct IsSameWorld s.graph.kept.items

-- the places tell of each next turn of a kept world
abbrev pub AreAllowed : Search → Type 0
AreAllowed s =
    (k : ℕ) (w : World) → IsAt s.graph.kept.items k w
    → (is_told (constant_byte s.machine.code) s.machine.places.list.items 0 w.side0.value ≡ true)
    × (is_told (constant_byte s.machine.code) s.machine.places.list.items 1 w.side1.value ≡ true)

-- the search came to its end, and its places are right
pub record IsComplete (s : Search) : Type 0 where
  pub whole : IsWhole s.graph
  pub allowed : AreAllowed s

-- a search that keeps at most so many worlds ended so
pub record HasEnded (image : Image) (o : Options) (most : ℕ) (s : Search) (e : Ending)
    : Type 0 where
  pub ending : IsEnding (code_of image) s.machine.timed (opening_of image o) most e
  pub complete : e ≡ All → IsComplete s

-- what a search keeps of the world after this order
abbrev pub kept_after : Image → Options → Search → List ℕ → Spot State
kept_after image o s order =
    spot_forgotten s.machine.dead.masks.items
    (spot_in s.machine.timed
    (world_after (processor (code_of image)) s.machine.timed (opening_of image o) order))

-- it stands under this number
abbrev pub IsFoundBy : Image → Options → Search → List ℕ → ℕ → Type 0
IsFoundBy image o s order k =
    (w : World) → IsAt s.graph.kept.items k w
    → spot_of (memory_of image o) w ≡ kept_after image o s order

-- it is kept
abbrev pub IsKeptAfter : Image → Options → Search → List ℕ → Type 0
IsKeptAfter image o s order =
    (k : ℕ) × (w : World) × IsAt s.graph.kept.items k w
    × (spot_of (memory_of image o) w ≡ kept_after image o s order)

-- Of an order: it can be continued to a kept world, both next turns use no time, fit and are ones
-- that the places tell of, and if neither of them meets nothing, the world after it is kept.
pub record IsMet (image : Image) (o : Options) (s : Search) (order : List ℕ) : Type 0 where
  pub more : List ℕ
  pub is_order : IsOrder more
  pub kept : IsKeptAfter image o s (order ++ more)
  pub allowed0 : is_allowed (code_of image) s.machine.timed s.machine.dead.masks.items
      s.machine.places.list.items 0
      (kept_after image o s order).side0 ≡ true
  pub allowed1 : is_allowed (code_of image) s.machine.timed s.machine.dead.masks.items
      s.machine.places.list.items 1
      (kept_after image o s order).side1 ≡ true
  pub exact :
      (is_local (code_of image) s.machine.timed s.machine.dead.masks.items
      s.machine.places.list.items 0
      (kept_after image o s order).side0 ≡ true → ⊥)
      → (is_local (code_of image) s.machine.timed s.machine.dead.masks.items
      s.machine.places.list.items 1
      (kept_after image o s order).side1 ≡ true → ⊥)
      → IsKeptAfter image o s order

abbrev pub MeetsAllOrders : Image → Options → Search → Type 0
MeetsAllOrders image o s = (order : List ℕ) → IsOrder order → IsMet image o s order
