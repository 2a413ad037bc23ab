-- Carries a proof; nothing that a reader must believe.
-- What a search keeps as it goes on, over any kind of world.
use Rattle.std.specs.Prelude.{◌≡◌, ℕ, ◌+◌, ◌≤◌, ◌⊎◌, Bool, true, false, Option, None, IfSome, IfNone}
use Rattle.std.specs.Prelude.{length, max}
use Rattle.xt_search.specs.declared.graph.Graph.{Graph}
use Rattle.xt_search.specs.Chains.{AreDistinct, IsTable}
use Rattle.xt_search.specs.Graphs.{IsAt, IsBarredAt, IsGraph, IsMore, IsNext, IsWhole, OpensWith}

-- what was found is right, and each world is kept once, where the table leads to it
pub record IsKept
    {W : Type 0} (Leads : ℕ → W → W → Type 0) (Same : W → W → Type 0) (IsMark : W → ℕ → Type 0)
    (g : Graph W) : Type 0 where
  pub graph : IsGraph Leads g
  pub table : IsTable IsMark g.table g.kept.items
  pub distinct : AreDistinct Same g.kept.items

-- as a search begins
pub record IsBegun
    {W : Type 0} (Leads : ℕ → W → W → Type 0) (Same : W → W → Type 0) (IsMark : W → ℕ → Type 0)
    (opening : W) (g : Graph W) : Type 0 where
  pub kept : IsKept Leads Same IsMark g
  pub opens : OpensWith g opening
  pub one : length g.kept.items ≡ 1
  pub none : length g.nexts.items ≡ 0
  pub free : g.barred ≡ None

-- the graph has become this one, which has at most so many worlds
pub record IsGrown
    {W : Type 0} (Leads : ℕ → W → W → Type 0) (Same : W → W → Type 0) (IsMark : W → ℕ → Type 0)
    (bars : ℕ → W → Bool) (old new : Graph W) (room : ℕ) : Type 0 where
  pub kept : IsKept Leads Same IsMark new
  pub more : IsMore old new
  pub within : length new.kept.items ≤ max (length old.kept.items) room
  pub barred : IfSome new.barred (IsBarredAt bars new.kept.items)

-- A core's turn in this world leads to the one with the number. None: there is no room for it, or the
-- search has to end before this turn.
pub record IsLed
    {W : Type 0} (Leads : ℕ → W → W → Type 0) (Same : W → W → Type 0) (IsMark : W → ℕ → Type 0)
    (bars : ℕ → W → Bool) (old new : Graph W) (from core room : ℕ) (number : Option ℕ) : Type 0
  where
    pub grown : IsGrown Leads Same IsMark bars old new room
    pub nexts : new.nexts.items ≡ old.nexts.items
    pub free : IfSome number (λ k. new.barred ≡ None)
    pub full : IfNone number (IfNone new.barred (room ≤ length new.kept.items))
    pub leads : IfSome number (λ k. (w : W) → IsAt old.kept.items from w
        → IsNext Leads new.kept.items core w k)

-- The next worlds of one world more are known. False: there is no room for one of them, or the search
-- has to end before a turn.
pub record IsGone
    {W : Type 0} (Leads : ℕ → W → W → Type 0) (Same : W → W → Type 0) (IsMark : W → ℕ → Type 0)
    (bars : ℕ → W → Bool) (old new : Graph W) (room : ℕ) (on : Bool) : Type 0 where
  pub grown : IsGrown Leads Same IsMark bars old new room
  pub free : on ≡ true → new.barred ≡ None
  pub full : on ≡ false → IfNone new.barred (room ≤ length new.kept.items)
  pub one : on ≡ true → length new.nexts.items ≡ length old.nexts.items + 1

-- as a search ends
pub record IsSearched
    {W : Type 0} (Leads : ℕ → W → W → Type 0) (Same : W → W → Type 0) (IsMark : W → ℕ → Type 0)
    (bars : ℕ → W → Bool) (old new : Graph W) (room : ℕ) : Type 0 where
  pub kept : IsKept Leads Same IsMark new
  pub more : IsMore old new
  pub within : length new.kept.items ≤ max 1 room
  pub ended : IfNone new.barred (IsWhole new ⊎ (room ≤ length new.kept.items))
  pub barred : IfSome new.barred (IsBarredAt bars new.kept.items)
