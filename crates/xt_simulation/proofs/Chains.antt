-- The chain of stack pointers below the ring, what stands in live areas, and where these lie.
use Rattle.std.proofs.Common.{◌≡◌, ℕ, ◌+◌, ◌-◌, ◌*◌, ◌<◌, ◌≤◌, Bool, true, leb, ltb, List, [], ◌∷◌, ◌++◌, sym, ◌∙◌, refl, arith, inl, inr, ⊎_elim}
use Rattle.std.proofs.lemmas.Bool.{or_cases, or_right, or_left, and_parts, leb-true, ltb-true, true≢false}
use Rattle.xt_map.proofs.Alike.{touched_at}
use Rattle.xt_exec.specs.State.{State}
use Rattle.xt_frames.specs.Frames.{Frame, FrameState, value_or_zero}
use Rattle.xt_frames.specs.SaveAreas.{Area, areas, sp_of, before, touches, covers_byte, is_live}
use Rattle.xt_frames.specs.Breaches.{Bounds}
use Rattle.xt_frames.specs.Stacks.{IsFrame, AreFrames}
use Rattle.xt_frames.specs.Stacks.{Chain, IsRange, Rise}
use Rattle.xt_simulation.specs.Stacks.{SavedHigh, sp_under}
use Rattle.xt_simulation.specs.Cores.{word, Related, Covers, SavedInAreas, LiveInRange}
use Rattle.xt_simulation.proofs.RingLemmas.{some_within}
use Rattle.xt_frames.proofs.Stacked.{areas_rise, chain_top}

-- ---- the end of the chain
pub chain_end : (lo hi sp : ℕ) (ring spilled : List Frame) → Chain lo hi sp (ring ++ spilled) → Chain lo hi (sp_under sp ring) spilled
chain_end lo hi sp [] spilled c = c
chain_end lo hi sp (f ∷ fs) spilled c = chain_end lo hi (sp_of f) fs spilled c.1

pub frames_after : (ring spilled : List Frame) → AreFrames (ring ++ spilled) → AreFrames spilled
frames_after [] spilled h = h
frames_after (f ∷ fs) spilled h = frames_after fs spilled h.1

pub called_under : ℕ → List Frame → ℕ
called_under n [] = n
called_under n (f ∷ fs) = called_under f.by fs

pub covers_end : (hi sp n : ℕ) (ring spilled : List Frame) (a : ℕ) → Covers (areas hi (sp_under sp ring) (called_under n ring) spilled) a → Covers (areas hi sp n (ring ++ spilled)) a
unfolding called_under
covers_end hi sp n [] spilled a h = h
covers_end hi sp n (f ∷ fs) spilled a h = inr (inr (covers_end hi (sp_of f) f.by fs spilled a h))

pub covered_byte : (list : List Area) (a b : ℕ) → Covers list a → a ≤ b → b < a + 4 → covers_byte list b ≡ true
covered_byte [] a b h lo up = absurd h
covered_byte (x ∷ more) a b h lo up =
    ⊎_elim
    (λ here. let l = here.0 in let u = here.1 in or_left (touches x.from x.size b) (covers_byte more b) (touched_at x.from x.size b (omega arith) (omega arith)))
    (λ there. or_right (touches x.from x.size b) (covers_byte more b) (covered_byte more a b there lo up))
    h

-- the same by bytes
pub live_end : (hi sp n : ℕ) (ring spilled : List Frame) (a : ℕ) → covers_byte (areas hi (sp_under sp ring) (called_under n ring) spilled) a ≡ true → covers_byte (areas hi sp n (ring ++ spilled)) a ≡ true
unfolding called_under
live_end hi sp n [] spilled a h = h
live_end hi sp n (f ∷ fs) spilled a h = or_right _ _ (or_right _ _ (live_end hi (sp_of f) f.by fs spilled a h))

-- ---- what is saved
saved_high : (old new : ℕ → ℕ) (g : Frame) (top : ℕ) → IsFrame g → ((a : ℕ) → top - 16 * g.by ≤ a → a + 4 ≤ top - 16 * g.by + 16 * (g.by - 1) → new a ≡ old a) → SavedHigh old g.kept g.by top → SavedHigh new g.kept g.by top
saved_high old new g top shape same s i v big e =
    let within = some_within g.kept i v e in
    let keeps = shape.keeps in
    same (top - 16 * g.by + 4 * (i - 4)) (omega arith) (omega arith) ∙ s i v big e

high_covered : (hi sp n : ℕ) (frames : List Frame) (a : ℕ) → before hi frames - 16 * n ≤ a → a + 4 ≤ before hi frames - 16 * n + 16 * (n - 1) → Covers (areas hi sp n frames) a
high_covered hi sp n [] a lo up = inr (inl (lo, up))
high_covered hi sp n (f ∷ fs) a lo up = inr (inl (lo, up))

pub saved_in_areas : SavedInAreas
saved_in_areas old new lo hi sp n [] r shaped c same s = same (hi - 76) (inl (omega arith, omega arith)) ∙ s
saved_in_areas old new lo hi sp n (f ∷ fs) r shaped c same s = (
  (λ i v small e. same (sp - 16 + 4 * i) (inl (omega arith, omega arith)) ∙ s.0 i v small e),
  saved_high old new f (before hi fs) shaped.0 (λ a lo2 up. same a (inr (inr (high_covered hi (sp_of f) f.by fs a lo2 up)))) s.1,
  saved_in_areas old new lo hi (sp_of f) f.by fs r shaped.1 c.1 (λ a h. same a (inr (inr h))) s.2,
)

-- every area ends at or before hi
abbrev EndBy : ℕ → List Area → Type 0
EndBy hi [] = Unit {0}
EndBy hi (x ∷ more) = (x.from + x.size ≤ hi) × EndBy hi more

areas_end : (lo hi sp n : ℕ) (frames : List Frame) → IsRange lo hi → AreFrames frames → Chain lo hi sp frames → 0 < n → n ≤ 3 → EndBy hi (areas hi sp n frames)
areas_end lo hi sp n [] r shaped c pos small = let a = r.room in (omega arith, (omega arith, tt))
areas_end lo hi sp n (f ∷ fs) r shaped c pos small =
    let t = chain_top lo hi (sp_of f) fs r c.1 in
    let l = c.0 in
    let low = l.low in
    let under = l.under in
    let low2 = t.1 in
    let s = shaped.0 in
    (omega arith, (omega arith, areas_end lo hi (sp_of f) f.by fs r shaped.1 c.1 s.moves s.within))

covered_within : (x hi a : ℕ) (list : List Area) → Rise x list → EndBy hi list → covers_byte list a ≡ true → (x ≤ a) × (a < hi)
covered_within x hi a [] rise end c = absurd (true≢false (sym c))
covered_within x hi a (y ∷ more) rise end c =
    ⊎_elim
    (λ here.
    let p = and_parts (leb y.from a) (ltb a (y.from + y.size)) here in
    let lo = leb-true _ _ p.0 in
    let up = ltb-true _ _ p.1 in
    let first = rise.0 in
    let last = end.0 in
    (omega arith, omega arith))
    (λ there.
    let rest = covered_within (y.from + y.size) hi a more rise.1 end.1 there in
    let first = rise.0 in
    (omega arith, rest.1))
    (or_cases (touches y.from y.size a) (covers_byte more a) c)

pub live_in_range : LiveInRange
live_in_range r f a k c =
    covered_within r.lo r.hi a (areas r.hi (value_or_zero f.seen 1) 1 f.frames) (areas_rise r.lo r.hi f.seen f.frames k)
    (areas_end r.lo r.hi (value_or_zero f.seen 1) 1 f.frames k.range k.shaped k.chain (omega arith) (omega arith)) c

-- ---- a core whose live bytes stay
same_word : (old new : ℕ → ℕ) (a : ℕ) → ((b : ℕ) → a ≤ b → b < a + 4 → new b ≡ old b) → word new a ≡ word old a
same_word old new a same =
    let e0 = same a (omega arith) (omega arith) in
    let e1 = same (a + 1) (omega arith) (omega arith) in
    let e2 = same (a + 2) (omega arith) (omega arith) in
    let e3 = same (a + 3) (omega arith) (omega arith) in
    rw (e0, e1, e2, e3) refl

pub related_spared : {lost : ℕ → Bool} {s : State} {ring spilled : List Frame} (old new : ℕ → ℕ) (b : Bounds) (f : FrameState) → ((a : ℕ) → is_live b.range f a ≡ true → new a ≡ old a) → Related old b lost s f ring spilled → Related new b lost s f ring spilled
related_spared {ring = ring} {spilled = spilled} old new b f same l =
    let k = l.stack in
    let c : Chain b.range.lo b.range.hi (value_or_zero f.seen 1) (ring ++ spilled) = rw l.plain.frames at k.chain in
    let shape : AreFrames (ring ++ spilled) = rw l.plain.frames at k.shaped in
    record {
      plain = l.plain;
      stack = k;
      saved = saved_in_areas (word old) (word new) b.range.lo b.range.hi (sp_under (value_or_zero f.seen 1) ring) (called_under 1 ring) spilled k.range (frames_after ring spilled shape) (chain_end b.range.lo b.range.hi (value_or_zero f.seen 1) ring spilled c)
          (λ a cover.
          let whole = covers_end b.range.hi (value_or_zero f.seen 1) 1 ring spilled a cover in
          let back : Covers (areas b.range.hi (value_or_zero f.seen 1) 1 f.frames) a = rw l.plain.frames whole in
          same_word old new a (λ x lo up. same x (covered_byte (areas b.range.hi (value_or_zero f.seen 1) 1 f.frames) a x back lo up)))
          l.saved;
    }
