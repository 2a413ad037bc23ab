-- The chain of stack pointers is kept by calls and returns, and its save areas share no byte.
use Rattle.std.proofs.Common.{◌≡◌, ℕ, ◌+◌, ◌-◌, ◌*◌, ◌≤◌, List, [], ◌∷◌, ◌∙◌, arith, inl, inr}
use Rattle.xt_frames.specs.Stacks.{Chain, IsRange, AreFrames}
use Rattle.xt_frames.specs.Frames.{Frame}
use Rattle.xt_frames.specs.SaveAreas.{sp_of, before}
use Rattle.xt_frames.specs.Stacks.{AreFrames}
use Rattle.xt_frames.specs.Stacks.{Chain, IsRange}
use Rattle.xt_simulation.specs.Stacks.{Saved, LinksAreSaved, IsElsewhere, SpillsAreSaved}

pub links_are_saved : LinksAreSaved
links_are_saved word lo hi sp [] r c s = let e : sp - 12 ≡ hi - 76 = (let a = r.room in omega arith) in rw e s
links_are_saved word lo hi sp (f ∷ fs) r c s =
    let l = c.0.low in
    let e : sp - 16 + 4 * 1 ≡ sp - 12 = omega arith in
    rw e at (s.0 1 (sp_of f) (omega arith) c.0.kept)

-- what is saved stands in words from 16 below the stack pointer on
saved_above : (old new : ℕ → ℕ) (lo hi sp : ℕ) (frames : List Frame) → IsRange lo hi → AreFrames frames → Chain lo hi sp frames → ((a : ℕ) → sp - 16 ≤ a → new a ≡ old a) → Saved old hi sp frames → Saved new hi sp frames
saved_above old new lo hi sp [] r shaped c same s = let a = r.room in same (hi - 76) (omega arith) ∙ s
saved_above old new lo hi sp (g ∷ rest) r shaped c same s =
    let l = c.0 in
    let under = l.under in
    let large = l.large in (
      (λ i v small e. same (sp - 16 + 4 * i) (omega arith) ∙ s.0 i v small e),
      (λ i v big e. same (before hi rest - 16 * g.by + 4 * (i - 4)) (omega arith) ∙ s.1 i v big e),
      saved_above old new lo hi (sp_of g) rest r shaped.1 c.1 (λ a h. same a (omega arith)) s.2,
    )

saved_beside : (old new : ℕ → ℕ) (lo hi sp : ℕ) (g : Frame) (rest : List Frame) → IsRange lo hi → AreFrames (g ∷ rest) → Chain lo hi sp (g ∷ rest) → ((a : ℕ) → IsElsewhere a sp (before hi rest) g.by → new a ≡ old a) → Saved old hi (sp_of g) rest → Saved new hi (sp_of g) rest
saved_beside old new lo hi sp g [] r shaped c same s =
    let a = r.room in
    let b = c.0.under in
    let d = c.1 in
    let n = shaped.0.within in
    same (hi - 76) (inr (omega arith), inl (omega arith)) ∙ s
saved_beside old new lo hi sp g (f ∷ fs) r shaped c same s =
    let under = c.0.under in
    let large = c.0.large in
    let low = c.0.low in
    let under2 = c.1.0.under in
    let large2 = c.1.0.large in
    let low2 = c.1.0.low in (
      (λ i v small e. same (sp_of g - 16 + 4 * i) (inr (omega arith), inl (omega arith)) ∙ s.0 i v small e),
      (λ i v big e. same (before hi fs - 16 * f.by + 4 * (i - 4)) (inr (omega arith), inr (omega arith)) ∙ s.1 i v big e),
      saved_above old new lo hi (sp_of f) fs r shaped.1.1 c.1.1 (λ a h. same a (inr (omega arith), inr (omega arith))) s.2,
    )

pub spills_are_saved : SpillsAreSaved
spills_are_saved old new lo hi sp g rest r shaped c s low high same = (low, high, saved_beside old new lo hi sp g rest r shaped c same s)
