-- Carries a proof; nothing that a reader must believe.
-- What stands in the save areas of the spilled frames.
use Rattle.std.specs.Prelude.{◌≡◌, ℕ, ◌+◌, ◌-◌, ◌*◌, ◌<◌, ◌≤◌, ◌⊎◌, Option, Some, None, List, []}
use Rattle.std.specs.Prelude.{◌∷◌, slice_index_or}
use Rattle.xt_frames.specs.Stacks.{AreFrames, Chain, IsRange}
use Rattle.xt_frames.specs.Frames.{Frame}
use Rattle.xt_frames.specs.SaveAreas.{sp_of, before}
pub use Rattle.xt_simulation.specs.InHandlers.{sp_under}

-- ---- what stands in the areas of spilled frames
abbrev pub SavedLow : (ℕ → ℕ) → List (Option ℕ) → ℕ → Type 0
SavedLow word kept sp =
    (i v : ℕ) → i < 4 → slice_index_or kept i None ≡ Some v → word (sp - 16 + 4 * i) ≡ v

abbrev pub SavedHigh : (ℕ → ℕ) → List (Option ℕ) → ℕ → ℕ → Type 0
SavedHigh word kept n top =
    (i v : ℕ) → 4 ≤ i → slice_index_or kept i None ≡ Some v → word (top - 16 * n + 4 * (i - 4)) ≡ v

-- sp is the stack pointer of the frame that the first of them called
abbrev pub Saved : (ℕ → ℕ) → ℕ → ℕ → List Frame → Type 0
Saved word hi sp [] = word (hi - 76) ≡ hi
Saved word hi sp (g ∷ rest) =
    SavedLow word g.kept sp × SavedHigh word g.kept g.by (before hi rest)
    × Saved word hi (sp_of g) rest

-- the link word below a stack pointer is the caller's
abbrev pub LinksAreSaved : Type 0
LinksAreSaved =
    (word : ℕ → ℕ) (lo hi sp : ℕ) (frames : List Frame) → IsRange lo hi → Chain lo hi sp frames
    → Saved word hi sp frames → word (sp - 12) ≡ before hi frames

-- an address that lies in no area of the frame that is spilled
abbrev pub IsElsewhere : ℕ → ℕ → ℕ → ℕ → Type 0
IsElsewhere a sp top n = ((a + 4 ≤ sp - 16) ⊎ (sp ≤ a)) × ((a + 4 ≤ top - 16 * n) ⊎ (top - 16 ≤ a))

-- after an overflow's stores one more frame is saved
abbrev pub SpillsAreSaved : Type 0
SpillsAreSaved =
    (old new : ℕ → ℕ) (lo hi sp : ℕ) (g : Frame) (rest : List Frame)
    → IsRange lo hi → AreFrames (g ∷ rest) → Chain lo hi sp (g ∷ rest) → Saved old hi (sp_of g) rest
    → SavedLow new g.kept sp → SavedHigh new g.kept g.by (before hi rest)
    → ((a : ℕ) → IsElsewhere a sp (before hi rest) g.by → new a ≡ old a)
    → Saved new hi sp (g ∷ rest)
