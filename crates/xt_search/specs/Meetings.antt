-- Carries a proof; nothing that a reader must believe.
-- Turns that meet nothing of what the other core does, over any kind of world.
--
-- A world has a side of each core, which decides what the core's next turn touches. `local c s` says
-- that the next turn of core c touches nothing that the other core touches.
use Rattle.std.specs.Prelude.{◌≡◌, ℕ, zero, suc, ◌<◌, Bool, true, if◌then◌else◌, List, [], ◌∷◌, ◌++◌}
use Rattle.xt_search.specs.Worlds.{IsOrder}

-- the world after the turns of an order
abbrev pub after : {V : Type 0} (step : ℕ → V → V) → List ℕ → V → V
after step [] v = v
after step (c ∷ cs) v = after step cs (step c v)

-- the turns while the test holds, at most so many
abbrev pub onward : {V : Type 0} (test : V → Bool) (turn : V → V) → ℕ → V → V
onward test turn zero v = v
onward test turn (suc n) v = if test v then onward test turn n (turn v) else v

-- a turn, and then those that meet nothing, at most so many
abbrev pub run : {V : Type 0} (step : ℕ → V → V) (local : ℕ → V → Bool) → ℕ → ℕ → V → V
run step local n c v = onward (local c) (step c) n (step c v)

-- each turn of the order is one of those that a search allows
abbrev pub AreAllowed :
    {V S : Type 0} (step : ℕ → V → V) (side : ℕ → V → S) (Allowed : ℕ → S → Type 0) → List ℕ → V
    → Type 0
AreAllowed step side Allowed [] v = Unit {0}
AreAllowed step side Allowed (c ∷ cs) v =
    Allowed c (side c v) × AreAllowed step side Allowed cs (step c v)

-- What the kept worlds tell of an order: its turns are allowed, it can be continued to a kept world,
-- and it leads to one where neither core's next turn meets nothing.
pub record IsCovered {V S : Type 0} (step : ℕ → V → V) (side : ℕ → V → S)
    (local : ℕ → S → Bool) (Allowed : ℕ → S → Type 0) (Kept : V → Type 0) (v : V)
    (order : List ℕ) : Type 0 where
  pub allowed : AreAllowed step side Allowed order v
  pub more : List ℕ
  pub is_order : IsOrder more
  pub kept : Kept (after step (order ++ more) v)
  pub exact : ((c : ℕ) → c < 2 → local c (side c (after step order v)) ≡ true → ⊥)
      → Kept (after step order v)
