-- Carries a proof; nothing that a reader must believe.
-- The live bytes of both cores, or of one, whose judge does not look at the other.
use Rattle.std.specs.Prelude.{◌≡◌, ℕ, Bool, true, false, ◌||◌, Option, Some, None, List}
use Rattle.xt_frames.specs.SaveAreas.{is_live}
use Rattle.xt_frames.specs.Walked.{Walked}
use Rattle.xt_judged.specs.Stales.{among}

-- the byte lies in a live save area of the other core, if the judge looks at it
abbrev pub others_live : Option Walked → ℕ → Bool
others_live None = λ a. false
others_live (Some other) = is_live other.bounds.range other.state

-- the byte lies in a live save area of a core, or of the other
abbrev pub is_live_in : Walked → Option Walked → ℕ → Bool
is_live_in own other a = is_live own.bounds.range own.state a || others_live other a

-- no stale byte lies in a live save area of either core
abbrev pub AreApart : Walked → Option Walked → List ℕ → Type 0
AreApart own other stale = (a : ℕ) → among stale a ≡ true → is_live_in own other a ≡ false
