-- Carries a proof; nothing that a reader must believe.
-- From which worlds an end can be reached.
use Rattle.std.specs.Prelude.{◌≡◌, ℕ, suc, Bool, true, false, Some, List, [], ◌∷◌, length, slice_get}
use Rattle.xt_search.specs.declared.graph.Graph.{Graph}
use Rattle.xt_search.specs.declared.graph.Nexts.{Nexts}
use Rattle.xt_search.specs.Worlds.{IsOrder, Reaches}
use Rattle.xt_search.specs.Graphs.{IsAt}

-- some order leads from the world to an end
abbrev pub CanEnd :
    {W : Type 0} (Leads : ℕ → W → W → Type 0) (ends : W → Bool) → W → Type 0
CanEnd {W} Leads ends w =
    (order : List ℕ) × (v : W) × IsOrder order × Reaches Leads order w v × (ends v ≡ true)

-- each order leads from the world to one that is no end
abbrev pub IsStuck :
    {W : Type 0} (Leads : ℕ → W → W → Type 0) (ends : W → Bool) → W → Type 0
IsStuck {W} Leads ends w =
    (order : List ℕ) → IsOrder order → (v : W) × Reaches Leads order w v × (ends v ≡ false)

-- an unmarked world is no end, and its next worlds are unmarked
pub record IsSettled {W : Type 0} (ends : W → Bool) (g : Graph W) (marks : List Bool) (k : ℕ)
    : Type 0 where
  pub no_end : (w : W) → slice_get marks k ≡ Some false → IsAt g.kept.items k w → ends w ≡ false
  pub nexts : (n : Nexts) → slice_get marks k ≡ Some false → slice_get g.nexts.items k ≡ Some n
      → (slice_get marks n.by0 ≡ Some false) × (slice_get marks n.by1 ≡ Some false)

-- an end can be reached from each marked world
pub record AreSound {W : Type 0} (Leads : ℕ → W → W → Type 0) (ends : W → Bool) (g : Graph W)
    (marks : List Bool) : Type 0 where
  pub as_long : length marks ≡ length g.kept.items
  pub can_end : (k : ℕ) (w : W) → slice_get marks k ≡ Some true → IsAt g.kept.items k w
      → CanEnd Leads ends w

-- The marked worlds are those from which an end can be reached.
pub record AreMarks {W : Type 0} (Leads : ℕ → W → W → Type 0) (ends : W → Bool) (g : Graph W)
    (marks : List Bool) : Type 0 where
  pub as_long : length marks ≡ length g.kept.items
  pub can_end : (k : ℕ) (w : W) → slice_get marks k ≡ Some true → IsAt g.kept.items k w
      → CanEnd Leads ends w
  pub stuck : (k : ℕ) (w : W) → slice_get marks k ≡ Some false → IsAt g.kept.items k w
      → IsStuck Leads ends w

-- how many are not marked
abbrev pub unmarked_count : List Bool → ℕ
unmarked_count [] = 0
unmarked_count (true ∷ bs) = unmarked_count bs
unmarked_count (false ∷ bs) = suc (unmarked_count bs)
