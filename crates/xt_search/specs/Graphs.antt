-- Carries a proof; nothing that a reader must believe.
-- The worlds that a search keeps, and the turns between them.
use Rattle.std.specs.Prelude.{◌≡◌, ℕ, zero, suc, ◌<◌, ◌≤◌, Bool, true, Some, List, map, length}
use Rattle.std.specs.Prelude.{slice_get}
use Rattle.xt_search.specs.declared.graph.Barred.{Barred}
use Rattle.xt_search.specs.declared.graph.Graph.{Graph}
use Rattle.xt_search.specs.declared.graph.Kept.{Kept}
use Rattle.xt_search.specs.declared.graph.Nexts.{Nexts}
use Rattle.xt_search.specs.Worlds.{IsOrder, Reaches}

-- the kept worlds, in the order in which they were found
abbrev pub worlds : {W : Type 0} → List (Kept W) → List W
worlds {W} ks = map (λ (x : Kept W). x.world) ks

-- this world is kept under this number
abbrev pub IsAt : {W : Type 0} → List (Kept W) → ℕ → W → Type 0
IsAt ks k w = slice_get (worlds ks) k ≡ Some w

-- each turn that leads to this world leads to the one that is kept under this number too
abbrev pub IsLike :
    {W : Type 0} (Leads : ℕ → W → W → Type 0) → List (Kept W) → ℕ → W → Type 0
IsLike {W} Leads ks k w = (v : W) × IsAt ks k v × ((c : ℕ) (u : W) → Leads c u w → Leads c u v)

-- A kept world but the first one comes from an earlier one, by a turn of its core.
abbrev pub IsFound :
    {W : Type 0} (Leads : ℕ → W → W → Type 0) → List (Kept W) → ℕ → Kept W → Type 0
IsFound Leads ks zero x = Unit {0}
IsFound {W} Leads ks (suc k) x =
    (w : W) × (x.from ≤ k) × (x.core < 2) × IsAt ks x.from w × Leads x.core w x.world

-- a turn of the core leads from the world to the one under this number
abbrev pub IsNext :
    {W : Type 0} (Leads : ℕ → W → W → Type 0) → List (Kept W) → ℕ → W → ℕ → Type 0
IsNext {W} Leads ks c w k = (v : W) × IsAt ks k v × Leads c w v

-- a turn of core 0 leads from the world to the one, and a turn of core 1 to the other
abbrev pub AreNexts :
    {W : Type 0} (Leads : ℕ → W → W → Type 0) → List (Kept W) → W → Nexts → Type 0
AreNexts Leads ks w n = IsNext Leads ks 0 w n.by0 × IsNext Leads ks 1 w n.by1

-- What a search has found: worlds that turns lead to from the first one, and of so many of them
-- where the next turn of each core leads.
pub record IsGraph {W : Type 0} (Leads : ℕ → W → W → Type 0) (g : Graph W) : Type 0 where
  pub found : (k : ℕ) (x : Kept W) → slice_get g.kept.items k ≡ Some x
      → IsFound Leads g.kept.items k x
  pub nexts : (k : ℕ) (n : Nexts) (w : W) → slice_get g.nexts.items k ≡ Some n
      → IsAt g.kept.items k w → AreNexts Leads g.kept.items w n
  pub within : length g.nexts.items ≤ length g.kept.items

-- the first kept world is this one
abbrev pub OpensWith : {W : Type 0} → Graph W → W → Type 0
OpensWith g w = IsAt g.kept.items 0 w

-- the search had to end before this turn in a kept world
abbrev pub IsBarredAt : {W : Type 0} (bars : ℕ → W → Bool) → List (Kept W) → Barred → Type 0
IsBarredAt {W} bars ks b =
    (w : W) × IsAt ks b.from w × (b.core < 2) × (bars b.core w ≡ true)

-- every world is kept under the same number as before
abbrev pub IsMore : {W : Type 0} → Graph W → Graph W → Type 0
IsMore {W} old new = (k : ℕ) (w : W) → IsAt old.kept.items k w → IsAt new.kept.items k w

-- the next worlds of every kept one are known
abbrev pub IsWhole : {W : Type 0} → Graph W → Type 0
IsWhole g = length g.nexts.items ≡ length g.kept.items

-- Each order leads from the first kept world to a kept one.
abbrev pub HasAll : {W : Type 0} (Leads : ℕ → W → W → Type 0) → Graph W → Type 0
HasAll {W} Leads g =
    (opening : W) → OpensWith g opening → (order : List ℕ) → IsOrder order
    → (k : ℕ) × (w : W) × IsAt g.kept.items k w × Reaches Leads order opening w

-- an order that leads from the first kept world to the one under this number
abbrev pub LeadsTo : {W : Type 0} (Leads : ℕ → W → W → Type 0) → Graph W → List ℕ → ℕ → Type 0
LeadsTo {W} Leads g order k =
    (opening w : W) → OpensWith g opening → IsAt g.kept.items k w → Reaches Leads order opening w
