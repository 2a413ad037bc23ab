-- Carries a proof; nothing that a reader must believe.
-- Where to look for a kept world: numbers in chains by their digests.
use Rattle.std.specs.Prelude.{◌≡◌, ℕ, suc, ◌*◌, ◌/◌, ◌%◌, ◌<◌, ◌≤◌, ◌^◌, Some, List, length}
use Rattle.std.specs.Prelude.{slice_get, slice_index}
use Rattle.xt_search.specs.declared.graph.Kept.{Kept}
use Rattle.xt_search.specs.declared.table.Table.{Table}
use Rattle.xt_search.specs.Graphs.{IsAt}

-- the chain of a digest
abbrev pub chain_of : ℕ → ℕ
chain_of d = d * 0x9E3779B97F4A7C15 % 2 ^ 64 / 0x100000000000

-- Each number up to the last is in the chain that is listed of it: `last` leads to the newest one of
-- a chain, and `before` from each to the one before it.
pub record IsChained (last before cs : List ℕ) : Type 0 where
  pub as_long : length before ≡ length cs
  pub leads : (c n : ℕ) → slice_index last c ≡ suc n → slice_get cs n ≡ Some c
  pub newest : (k c : ℕ) → slice_get cs k ≡ Some c → k < slice_index last c
  pub older : (k : ℕ) → k < length cs → slice_index before k ≤ k
  pub stays : (k n c : ℕ) → slice_get cs k ≡ Some c → slice_index before k ≡ suc n
      → slice_get cs n ≡ Some c
  pub next : (j k c : ℕ) → j < k → slice_get cs j ≡ Some c → slice_get cs k ≡ Some c
      → j < slice_index before k

-- each kept world is in the chain of its digest
pub record IsTable {W : Type 0} (IsMark : W → ℕ → Type 0) (t : Table) (ks : List (Kept W))
    : Type 0 where
  pub many : length t.last.items ≡ 1048576
  pub cs : List ℕ
  pub as_long : length cs ≡ length ks
  pub chained : IsChained t.last.items t.before.items cs
  pub marks : (k : ℕ) (w : W) → IsAt ks k w
      → (d : ℕ) × IsMark w d × (slice_get cs k ≡ Some (chain_of d))

-- no two kept worlds are the same
abbrev pub AreDistinct : {W : Type 0} (Same : W → W → Type 0) → List (Kept W) → Type 0
AreDistinct {W} Same ks =
    (j k : ℕ) (v w : W) → j < k → IsAt ks j v → IsAt ks k w → Same v w → ⊥

-- none of them is the same as this one
abbrev pub IsNew : {W : Type 0} (Same : W → W → Type 0) → List (Kept W) → W → Type 0
IsNew {W} Same ks w = (k : ℕ) (v : W) → IsAt ks k v → Same v w → ⊥
