-- Orders of two cores' turns, over any kind of world ('profile').
use Rattle.std.specs.Prelude.{◌≡◌, ℕ, ◌<◌, List, [], ◌∷◌}

-- Each number of the order is a turn of that core, and they lead from the one world to the other,
-- where `Leads c v w` says that a turn of core c leads from v to w.
abbrev pub Reaches : {W : Type 0} (Leads : ℕ → W → W → Type 0) → List ℕ → W → W → Type 0
Reaches Leads [] v w = v ≡ w
Reaches {W} Leads (c ∷ cs) v w = (u : W) × Leads c v u × Reaches Leads cs u w

-- an order of two cores
abbrev pub IsOrder : List ℕ → Type 0
IsOrder [] = Unit {0}
IsOrder (c ∷ cs) = (c < 2) × IsOrder cs
