-- The live save areas of a core lie in its stack.
use Rattle.std.proofs.Common.{◌≡◌, ℕ, ◌+◌, ◌-◌, ◌*◌, ◌<◌, ◌≤◌, true, ◌&&◌, nat_le, nat_lt, List, [], ◌∷◌, refl, sym, ⊎_elim, arith}
use Rattle.std.proofs.lemmas.Bool.{and_from, and_parts, le-leb, leb-true, ltb-true, or_cases, true≢false}
use Rattle.xt_frames.specs.Frames.{Frame, FrameState, value_or_zero}
use Rattle.xt_frames.specs.SaveAreas.{Area, Range, areas, before, covers_byte, is_live, live_areas, sp_of, touches}
use Rattle.xt_frames.specs.Stacks.{AreFrames, Chain, IsRange, Stack}
use Rattle.xt_frames.proofs.Stacked.{chain_top}
use Rattle.xt_judged.specs.OwnJudges.{are_within, is_within}

abbrev pub In : Range → ℕ → Type 0
In r a = (r.lo ≤ a) × (a < r.hi)

one_within : (r : Range) (x : Area) (more : List Area) → r.lo ≤ x.from → x.from + x.size ≤ r.hi → are_within r more ≡ true → are_within r (x ∷ more) ≡ true
one_within r x more lo hi rest =
    and_from (nat_le r.lo x.from) (nat_le (x.from + x.size) r.hi && are_within r more) (le-leb r.lo x.from lo)
    (and_from (nat_le (x.from + x.size) r.hi) (are_within r more) (le-leb (x.from + x.size) r.hi hi) rest)

all_within : (r : Range) (sp n : ℕ) (fs : List Frame) → IsRange r.lo r.hi → AreFrames fs → Chain r.lo r.hi sp fs → r.lo + 16 * n ≤ before r.hi fs → n ≤ 3 → are_within r (areas r.hi sp n fs) ≡ true
all_within r sp n [] k shaped c room small =
    let a = k.room in
    one_within r (record { from = r.hi - 76; size = 4 }) (record { from = r.hi - 16 * n; size = 16 * (n - 1) } ∷ []) (omega arith) (omega arith)
    (one_within r (record { from = r.hi - 16 * n; size = 16 * (n - 1) }) [] (omega arith) (omega arith) refl)
all_within r sp n (f ∷ fs) k shaped c room small =
    let t = chain_top r.lo r.hi (sp_of f) fs k c.1 in
    let l = c.0 in
    let low = l.low in
    let under = l.under in
    let large = l.large in
    let top = t.0 in
    let s = shaped.0 in
    let least = s.within in
    one_within r (record { from = sp - 16; size = 16 }) (record { from = sp_of f - 16 * n; size = 16 * (n - 1) } ∷ areas r.hi (sp_of f) f.by fs) (omega arith) (omega arith)
    (one_within r (record { from = sp_of f - 16 * n; size = 16 * (n - 1) }) (areas r.hi (sp_of f) f.by fs) (omega arith) (omega arith)
    (all_within r (sp_of f) f.by fs k shaped.1 c.1 (omega arith) least))

room_of : (r : Range) (sp : ℕ) (fs : List Frame) → IsRange r.lo r.hi → Chain r.lo r.hi sp fs → r.lo + 16 * 1 ≤ before r.hi fs
room_of r sp fs k c = let t = chain_top r.lo r.hi sp fs k c in let a = t.1 in let b = t.2 in omega arith

pub stack_within : (r : Range) (f : FrameState) → Stack r.lo r.hi f.seen f.frames → is_within r f ≡ true
stack_within r f k = all_within r (value_or_zero f.seen 1) 1 f.frames k.range k.shaped k.chain (room_of r (value_or_zero f.seen 1) f.frames k.range k.chain) (omega arith)

covered_in : (r : Range) (list : List Area) (a : ℕ) → are_within r list ≡ true → covers_byte list a ≡ true → In r a
covered_in r [] a w h = absurd (true≢false (sym h))
covered_in r (x ∷ more) a w h =
    let first = and_parts (nat_le r.lo x.from) (nat_le (x.from + x.size) r.hi && are_within r more) w in
    let rest = and_parts (nat_le (x.from + x.size) r.hi) (are_within r more) first.1 in
    ⊎_elim
    (λ (here : touches x.from x.size a ≡ true).
    let p = and_parts (nat_le x.from a) (nat_lt a (x.from + x.size)) here in
    let lo : r.lo ≤ x.from = leb-true r.lo x.from first.0 in
    let hi : x.from + x.size ≤ r.hi = leb-true (x.from + x.size) r.hi rest.0 in
    let low : x.from ≤ a = leb-true x.from a p.0 in
    let up : a < x.from + x.size = ltb-true a (x.from + x.size) p.1 in
    (omega (arith, lo, low), omega (arith, hi, up)))
    (λ (there : covers_byte more a ≡ true). covered_in r more a rest.1 there)
    (or_cases (touches x.from x.size a) (covers_byte more a) h)

pub live_in : (r : Range) (f : FrameState) (a : ℕ) → is_within r f ≡ true → is_live r f a ≡ true → In r a
live_in r f a w h = covered_in r (live_areas r f) a w h
