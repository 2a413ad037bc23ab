-- Carries a proof; nothing that a reader must believe.
-- One core outside handler steps, with memory as bytes by address.
use Rattle.std.specs.Prelude.{◌≡◌, ◌≤◌, ◌<◌, ℕ, ◌+◌, ◌*◌, Bool, true, List, [], ◌∷◌, ◌⊎◌}
use Rattle.xt_exec.specs.State.{State}
use Rattle.xt_frames.specs.Frames.{Frame, FrameState, value_or_zero}
use Rattle.xt_frames.specs.SaveAreas.{Range, Area, areas, is_live}
use Rattle.xt_frames.specs.Breaches.{Bounds}
use Rattle.xt_frames.specs.Stacks.{AreFrames}
use Rattle.xt_frames.specs.Stacks.{Stack, IsRange, Chain}
use Rattle.xt_simulation.specs.Stacks.{Saved, sp_under}
use Rattle.xt_simulation.specs.Relation.{Plain}

-- the little-endian word at an address
abbrev pub word : (ℕ → ℕ) → ℕ → ℕ
word m a = m a + 256 * m (a + 1) + 65536 * m (a + 2) + 16777216 * m (a + 3)

pub record Related
    (m : ℕ → ℕ) (b : Bounds) (lost : ℕ → Bool) (s : State) (f : FrameState)
    (ring spilled : List Frame) : Type 0 where
  pub plain : Plain b.vecbase lost s f ring spilled
  pub stack : Stack b.range.lo b.range.hi f.seen f.frames
  pub saved : Saved (word m) b.range.hi (sp_under (value_or_zero f.seen 1) ring) spilled

-- the four bytes of a word lie in one area
abbrev pub Covers : List Area → ℕ → Type 0
Covers [] a = ⊥
Covers (x ∷ xs) a = ((x.from ≤ a) × (a + 4 ≤ x.from + x.size)) ⊎ Covers xs a

abbrev pub SavedInAreas : Type 0
SavedInAreas =
    (old new : ℕ → ℕ) (lo hi sp n : ℕ) (frames : List Frame)
    → IsRange lo hi → AreFrames frames → Chain lo hi sp frames
    → ((a : ℕ) → Covers (areas hi sp n frames) a → new a ≡ old a)
    → Saved old hi sp frames → Saved new hi sp frames

-- a core's live areas lie in its stack range, so those of ranges that are apart are apart
abbrev pub LiveInRange : Type 0
LiveInRange =
    (r : Range) (f : FrameState) (a : ℕ) → Stack r.lo r.hi f.seen f.frames → is_live r f a ≡ true
    → (r.lo ≤ a) × (a < r.hi)
