-- The newest call of a core, by its frames' numbers.
use Rattle.std.proofs.Common.{◌≡◌, ℕ, ◌+◌, ◌-◌, ◌*◌, ◌<◌, ◌≤◌, Bool, ◌||◌, Option, List, [], ◌∷◌, length, refl, ◌∙◌, ap, arith}
use Rattle.xt_map.specs.Touching.{touches}
use Rattle.xt_frames.specs.Frames.{Frame, value_or_zero}
use Rattle.xt_frames.specs.SaveAreas.{before, sp_of}
use Rattle.xt_frames.specs.Stacks.{Stack}
use Rattle.xt_frames.specs.Walked.{calls_in, sp_in}
use Rattle.xt_frames.proofs.Stacked.{chain_top}
use Rattle.xt_discipline.specs.ByteMarks.{opened_at}

pub sp_newest : (frames : List Frame) (sp : ℕ) → sp_in frames sp 0 ≡ sp
sp_newest [] sp = refl
sp_newest (f ∷ fs) sp = refl

-- the stack pointer of the newest frame
pub sp_last : (frames : List Frame) (sp j : ℕ) → j ≡ length frames → sp_in frames sp (length frames - j) ≡ sp
sp_last frames sp j e = let z : length frames - j ≡ 0 = omega (arith, e) in ap (sp_in frames sp) z ∙ sp_newest frames sp

-- by how many windows the newest caller called
pub calls_last : (f : Frame) (fs : List Frame) (j : ℕ) → j + 1 ≡ length (f ∷ fs) → calls_in (f ∷ fs) (length (f ∷ fs) - 1 - j) ≡ f.by
calls_last f fs j e = let z : length (f ∷ fs) - 1 - j ≡ 0 = omega (arith, e) in ap (calls_in (f ∷ fs)) z

pub calls_within : (lo hi : ℕ) (seen : List (Option ℕ)) (frames : List Frame) (j : ℕ) → Stack lo hi seen frames → j + 1 ≡ length frames → (0 < calls_in frames (length frames - 1 - j)) × (calls_in frames (length frames - 1 - j) ≤ 3)
calls_within lo hi seen [] j k e = (omega (arith, e), omega (arith, e))
calls_within lo hi seen (f ∷ fs) j k e =
    let c = calls_last f fs j e in
    let shape = k.shaped.0 in
    let some = shape.moves in
    let few = shape.within in
    (omega (arith, c, some), omega (arith, c, few))

-- the stack pointer of the caller's caller, or HI
pub under_last : (hi sp : ℕ) (f : Frame) (fs : List Frame) (j top : ℕ) → j + 1 ≡ length (f ∷ fs) → (j ≡ 0 → top ≡ hi) → (0 < j → top ≡ sp_in (f ∷ fs) sp (length (f ∷ fs) - (j - 1))) → top ≡ before hi fs
under_last hi sp f [] j top e first more = first (omega (arith, e))
under_last hi sp f (g ∷ gs) j top e first more =
    let z : length (f ∷ (g ∷ gs)) - (j - 1) ≡ 2 = omega (arith, e) in
    more (omega (arith, e)) ∙ (ap (sp_in (f ∷ (g ∷ gs)) sp) z ∙ sp_newest gs (sp_of g))

-- the area of a call ends above nothing
pub under_room : (lo hi : ℕ) (seen : List (Option ℕ)) (frames : List Frame) (j top : ℕ) → Stack lo hi seen frames → j + 1 ≡ length frames → (j ≡ 0 → top ≡ hi) → (0 < j → top ≡ sp_in frames (value_or_zero seen 1) (length frames - (j - 1))) → 16 * calls_in frames (length frames - 1 - j) ≤ top
under_room lo hi seen [] j top k e first more = omega (arith, e)
under_room lo hi seen (f ∷ fs) j top k e first more =
    let c = calls_last f fs j e in
    let t = under_last hi (value_or_zero seen 1) f fs j top e first more in
    let large = k.chain.0.large in
    omega (arith, c, t, large)

pub sp_room : (lo hi : ℕ) (seen : List (Option ℕ)) (frames : List Frame) → Stack lo hi seen frames → 16 ≤ value_or_zero seen 1
sp_room lo hi seen frames k = let t = (chain_top lo hi (value_or_zero seen 1) frames k.range k.chain).1 in omega (arith, t)

-- the bytes of both areas of the newest call
pub area_bytes : (hi sp : ℕ) (frames : List Frame) (depth n top : ℕ) (low : ℕ) → depth ≡ length frames → 0 < length frames → low ≡ sp → n ≡ calls_in frames (length frames - 1 - (depth - 1)) → (depth - 1 ≡ 0 → top ≡ hi) → (0 < depth - 1 → top ≡ sp_in frames sp (length frames - (depth - 1 - 1)))
    → (f : Frame) (fs : List Frame) → frames ≡ f ∷ fs → (a : ℕ) → (touches (low - 16) 16 a || touches (top - 16 * n) (16 * (n - 1)) a) ≡ opened_at hi sp f fs a
area_bytes hi sp frames depth n top low d some low_is n_is first more f fs is a =
    let j = depth - 1 in
    let e : j + 1 ≡ length (f ∷ fs) = (let e0 : j + 1 ≡ length frames = omega (arith, d, some) in e0 ∙ ap (λ (x : List Frame). length x) is) in
    let t = under_last hi sp f fs j top e first (λ z. more z ∙ ap (λ (x : List Frame). sp_in x sp (length x - (j - 1))) is) in
    let m = n_is ∙ (ap (λ (x : List Frame). calls_in x (length x - 1 - j)) is ∙ calls_last f fs j e) in
    let P : ℕ → ℕ → ℕ → Bool = λ s u v. touches (s - 16) 16 a || touches (u - 16 * v) (16 * (v - 1)) a in
    ap (λ (s : ℕ). P s top n) low_is ∙ (ap (λ (u : ℕ). P sp u n) t ∙ ap (λ (v : ℕ). P sp (before hi fs) v) m)
