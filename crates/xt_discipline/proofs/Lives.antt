-- The live bytes of a core whose frames are one more or one less.
use Rattle.std.proofs.Common.{◌≡◌, ℕ, ◌+◌, ◌-◌, ◌*◌, ◌<◌, ◌≤◌, Option, Bool, true, false, ◌||◌, leb, ltb, List, [], ◌∷◌, refl, sym, ◌∙◌, ap, arith, ⊎_elim}
use Rattle.std.proofs.lemmas.Bool.{or_from, or_cases, and_parts, leb-true, ltb-true}
use Rattle.std.proofs.lemmas.Bool.Decides.{nat_tests}
use Rattle.xt_map.specs.Touching.{touches}
use Rattle.xt_frames.specs.Frames.{Frame, value_or_zero}
use Rattle.xt_frames.specs.SaveAreas.{Area, areas, before, covers_byte, sp_of}
use Rattle.xt_frames.specs.Stacks.{AreFrames, Chain, IsRange, Rise, Stack}
use Rattle.xt_frames.proofs.Stacked.{chain_top, rise_more}
use Rattle.xt_discipline.specs.ByteMarks.{opened_at}
use Rattle.xt_discipline.proofs.Marks.{touches_none}

swap : (x y z rest : Bool) → z ≡ false → (x || (y || rest)) ≡ (y || (x || (z || rest)))
swap true true z rest e = refl
swap true false z rest e = refl
swap false true z rest e = refl
swap false false z rest e = ap (λ (b : Bool). b || rest) (sym e)

-- a call by n windows, beside one by 1
pub called : (hi s n : ℕ) (fs : List Frame) (a : ℕ) → covers_byte (areas hi s n fs) a ≡ (touches (before hi fs - 16 * n) (16 * (n - 1)) a || covers_byte (areas hi s 1 fs) a)
called hi s n [] a = swap (touches (hi - 76) 4 a) (touches (hi - 16 * n) (16 * (n - 1)) a) (touches (hi - 16 * 1) (16 * (1 - 1)) a) false (touches_none (hi - 16) a)
called hi s n (g ∷ gs) a = swap (touches (s - 16) 16 a) (touches (sp_of g - 16 * n) (16 * (n - 1)) a) (touches (sp_of g - 16 * 1) (16 * (1 - 1)) a) (covers_byte (areas hi (sp_of g) g.by gs) a) (touches_none (sp_of g - 16) a)

join : (x y z l m : Bool) → z ≡ false → m ≡ (y || l) → (x || (z || m)) ≡ ((x || y) || l)
join true y z l m e f = refl
join false y z l m e f = ap (λ (b : Bool). b || m) e ∙ f

-- the live bytes with one frame more are those without it, and the two areas of its call
pub live_more : (hi sp : ℕ) (f : Frame) (fs : List Frame) (a : ℕ) → covers_byte (areas hi sp 1 (f ∷ fs)) a ≡ (opened_at hi sp f fs a || covers_byte (areas hi (sp_of f) 1 fs) a)
live_more hi sp f fs a =
    join (touches (sp - 16) 16 a) (touches (before hi fs - 16 * f.by) (16 * (f.by - 1)) a) (touches (sp_of f - 16 * 1) (16 * (1 - 1)) a)
    (covers_byte (areas hi (sp_of f) 1 fs) a) (covers_byte (areas hi (sp_of f) f.by fs) a)
    (touches_none (sp_of f - 16) a) (called hi (sp_of f) f.by fs a)

-- ---- where they lie
pub touches_in : (from size a : ℕ) → touches from size a ≡ true → (from ≤ a) × (a < from + size)
touches_in from size a h = let p = and_parts (leb from a) (ltb a (from + size)) h in (leb-true from a p.0, ltb-true a (from + size) p.1)

pub touches_below : (from size a : ℕ) → a < from → touches from size a ≡ false
touches_below from size a h = grind (arith, nat_tests)

touches_above : (from size a : ℕ) → from + size ≤ a → touches from size a ≡ false
touches_above from size a h = grind (arith, nat_tests)

below : (x : ℕ) (more : List Area) (a : ℕ) → Rise x more → a < x → covers_byte more a ≡ false
below x [] a r l = refl
below x (b ∷ more) a r l =
    let up = r.0 in
    or_from _ _ (touches_below b.from b.size a (omega arith)) (below (b.from + b.size) more a r.1 (omega arith))

-- none of them is live without the frame
apart_first : (lo hi sp s n a : ℕ) (fs : List Frame) → IsRange lo hi → AreFrames fs → Chain lo hi s fs → lo + 16 ≤ sp → sp + 16 ≤ s → touches (sp - 16) 16 a ≡ true → covers_byte (areas hi s 1 fs) a ≡ false
apart_first lo hi sp s n a [] r shaped c low under t =
    let i = touches_in (sp - 16) 16 a t in
    let l = i.1 in
    or_from _ _ (touches_below (hi - 76) 4 a (omega (arith, c))) (or_from _ _ (touches_none (hi - 16) a) refl)
apart_first lo hi sp s n a (g ∷ gs) r shaped c low under t =
    let i = touches_in (sp - 16) 16 a t in
    let l = i.1 in
    let k = c.0 in
    let up = k.under in
    let up_low = k.low in
    let shape = shaped.0 in
    or_from _ _ (touches_below (s - 16) 16 a (omega arith))
    (or_from _ _ (touches_none (sp_of g - 16) a)
    (below (sp_of g - 16) (areas hi (sp_of g) g.by gs) a (rise_more lo hi (sp_of g) g.by gs r shaped.1 c.1 shape.moves shape.within k.large) (omega arith)))

apart_second : (lo hi s n a : ℕ) (fs : List Frame) → IsRange lo hi → AreFrames fs → Chain lo hi s fs → lo + 16 ≤ s → 0 < n → n ≤ 3 → s + 16 * n ≤ before hi fs → touches (before hi fs - 16 * n) (16 * (n - 1)) a ≡ true → covers_byte (areas hi s 1 fs) a ≡ false
apart_second lo hi s n a [] r shaped c low pos small large t =
    let i = touches_in (hi - 16 * n) (16 * (n - 1)) a t in
    let l = i.0 in
    or_from _ _ (touches_above (hi - 76) 4 a (omega (arith, c))) (or_from _ _ (touches_none (hi - 16) a) refl)
apart_second lo hi s n a (g ∷ gs) r shaped c low pos small large t =
    let i = touches_in (sp_of g - 16 * n) (16 * (n - 1)) a t in
    let l = i.0 in
    let u = i.1 in
    let k = c.0 in
    let shape = shaped.0 in
    or_from _ _ (touches_above (s - 16) 16 a (omega arith))
    (or_from _ _ (touches_none (sp_of g - 16) a)
    (below (sp_of g - 16) (areas hi (sp_of g) g.by gs) a (rise_more lo hi (sp_of g) g.by gs r shaped.1 c.1 shape.moves shape.within k.large) (omega arith)))

pub opened_apart : (lo hi : ℕ) (seen : List (Option ℕ)) (f : Frame) (fs : List Frame) (a : ℕ) → Stack lo hi seen (f ∷ fs) → opened_at hi (value_or_zero seen 1) f fs a ≡ true → covers_byte (areas hi (sp_of f) 1 fs) a ≡ false
opened_apart lo hi seen f fs a k o =
    let l = k.chain.0 in
    let low = l.low in
    let under = l.under in
    let shape = k.shaped.0 in
    ⊎_elim
    (λ t. apart_first lo hi (value_or_zero seen 1) (sp_of f) f.by a fs k.range k.shaped.1 k.chain.1 low under t)
    (λ t. apart_second lo hi (sp_of f) f.by a fs k.range k.shaped.1 k.chain.1 (omega arith) shape.moves shape.within l.large t)
    (or_cases (touches (value_or_zero seen 1 - 16) 16 a) (touches (before hi fs - 16 * f.by) (16 * (f.by - 1)) a) o)

before_low : (lo hi s : ℕ) (fs : List Frame) → IsRange lo hi → Chain lo hi s fs → before hi fs ≤ hi
before_low lo hi s [] r c = omega arith
before_low lo hi s (g ∷ gs) r c = (chain_top lo hi (sp_of g) gs r c.1).0

-- they lie in the core's stack range
pub opened_inside : (lo hi : ℕ) (seen : List (Option ℕ)) (f : Frame) (fs : List Frame) (a : ℕ) → Stack lo hi seen (f ∷ fs) → opened_at hi (value_or_zero seen 1) f fs a ≡ true → (lo ≤ a) × (a < hi)
opened_inside lo hi seen f fs a k o =
    let l = k.chain.0 in
    let low = l.low in
    let under = l.under in
    let large = l.large in
    let shape = k.shaped.0 in
    let pos = shape.moves in
    let top = chain_top lo hi (sp_of f) fs k.range k.chain.1 in
    let high = top.0 in
    let most = before_low lo hi (sp_of f) fs k.range k.chain.1 in
    ⊎_elim
    (λ t. let i = touches_in (value_or_zero seen 1 - 16) 16 a t in let x = i.0 in let y = i.1 in (omega arith, omega arith))
    (λ t. let i = touches_in (before hi fs - 16 * f.by) (16 * (f.by - 1)) a t in let x = i.0 in let y = i.1 in (omega arith, omega arith))
    (or_cases (touches (value_or_zero seen 1 - 16) 16 a) (touches (before hi fs - 16 * f.by) (16 * (f.by - 1)) a) o)
