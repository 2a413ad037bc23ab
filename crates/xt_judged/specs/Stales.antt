-- Carries a proof; nothing that a reader must believe.
-- Lists of bytes, and which bytes stand in them.
use Rattle.std.specs.Prelude.{ℕ, Bool, false, ◌==◌, ◌||◌, Option, Some, None, List, [], ◌∷◌}
use Rattle.xt_map.specs.Touching.{touches}
use Rattle.xt_map.specs.declared.access.Access.{Access}
use Rattle.xt_frames.specs.Breaches.{stores_at}

abbrev pub among : List ℕ → ℕ → Bool
among [] a = false
among (b ∷ bs) a = b == a || among bs a

-- these bytes where there are new ones, else the old ones
abbrev pub renewed : List ℕ → Option (List ℕ) → List ℕ
renewed old None = old
renewed old (Some new) = new

-- a store writes one of the bytes
abbrev pub some_stored : List ℕ → Option Access → Bool
some_stored [] access = false
some_stored (b ∷ bs) access = stores_at access b || some_stored bs access

-- one of the bytes is one of so many, from an address on
abbrev pub some_touched : List ℕ → ℕ → ℕ → Bool
some_touched [] from size = false
some_touched (b ∷ bs) from size = touches from size b || some_touched bs from size
