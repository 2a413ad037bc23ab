-- The save areas of frames, frame by frame from the newest on.
use Rattle.std.proofs.Common.{◌≡◌, ℕ, zero, suc, ◌+◌, ◌-◌, ◌*◌, ◌<◌, ◌≤◌, Bool, true, false, ltb, ◌&&◌, ◌||◌, List, [], ◌∷◌, length, refl, sym, ap, ◌∙◌, arith}
use Rattle.std.proofs.lemmas.Bool.Decides.{nat_tests}
use Rattle.xt_map.specs.Touching.{touches}
use Rattle.xt_frames.specs.Breaches.{some_byte}
use Rattle.xt_frames.specs.Frames.{Frame}
use Rattle.xt_frames.specs.SaveAreas.{areas, covers_byte, sp_of}
use Rattle.xt_frames.specs.Walked.{calls_in, sp_in}

-- the frames from this place on
abbrev pub from : ℕ → List Frame → List Frame
from zero fs = fs
from (suc n) [] = []
from (suc n) (f ∷ fs) = from n fs

pub from_all : (fs : List Frame) (n : ℕ) → length fs ≤ n → from n fs ≡ []
from_all [] zero h = refl
from_all [] (suc n) h = refl
from_all (f ∷ fs) zero h = absurd (omega (arith, h))
from_all (f ∷ fs) (suc n) h = from_all fs n (omega (arith, h))

-- whether the byte lies in the areas of the frame at this place, which called with n, and of its callers
abbrev pub covered : (hi sp : ℕ) → List Frame → (back n a : ℕ) → Bool
covered hi sp fs back n a = covers_byte (areas hi (sp_in fs sp back) n (from back fs)) a

-- one frame on
pub covered_on : (hi sp : ℕ) (fs : List Frame) (back n a : ℕ) → back < length fs
    → covered hi sp fs back n a
    ≡ (touches (sp_in fs sp back - 16) 16 a || (touches (sp_in fs sp (suc back) - 16 * n) (16 * (n - 1)) a || covered hi sp fs (suc back) (calls_in fs back) a))
covered_on hi sp [] back n a h = absurd (omega (arith, h))
covered_on hi sp (f ∷ []) zero n a h = refl
covered_on hi sp (f ∷ (g ∷ gs)) zero n a h = refl
covered_on hi sp (f ∷ fs) (suc back) n a h = covered_on hi (sp_of f) fs back n a (omega (arith, h))

-- after the last one
pub covered_last : (hi sp : ℕ) (fs : List Frame) (back n a : ℕ) → length fs ≤ back
    → covered hi sp fs back n a ≡ (touches (hi - 76) 4 a || (touches (hi - 16 * n) (16 * (n - 1)) a || false))
covered_last hi sp fs back n a h = ap (λ (gs : List Frame). covers_byte (areas hi (sp_in fs sp back) n gs) a) (from_all fs back h)

-- all areas
pub covered_all : (hi sp : ℕ) (fs : List Frame) (a : ℕ) → covered hi sp fs 0 1 a ≡ covers_byte (areas hi sp 1 fs) a
covered_all hi sp [] a = refl
covered_all hi sp (f ∷ fs) a = refl

by_parts : (w x y : Bool) → (w || (x || y)) ≡ ((w || x) || y)
by_parts true x y = refl
by_parts false x y = refl

-- one frame on, by the numbers of the frames
pub covered_step : (hi top : ℕ) (fs : List Frame) (depth back n a sp above : ℕ) → depth ≡ length fs → back < depth
    → sp ≡ sp_in fs top (length fs - (depth - back)) → above ≡ sp_in fs top (length fs - (depth - back - 1))
    → covered hi top fs back n a ≡ ((touches (sp - 16) 16 a || touches (above - 16 * n) (16 * (n - 1)) a) || covered hi top fs (back + 1) (calls_in fs back) a)
covered_step hi top fs depth back n a sp above d h p q =
    let here : sp ≡ sp_in fs top back = p ∙ ap (sp_in fs top) (omega (arith, d, h)) in
    let next : above ≡ sp_in fs top (back + 1) = q ∙ ap (sp_in fs top) (omega (arith, d, h)) in
    let rest : Bool = covered hi top fs (back + 1) (calls_in fs back) a in
    let one : suc back ≡ back + 1 = omega arith in
    covered_on hi top fs back n a (omega (arith, d, h))
    ∙ (ap (λ (m : ℕ). touches (sp_in fs top back - 16) 16 a || (touches (sp_in fs top m - 16 * n) (16 * (n - 1)) a || covered hi top fs m (calls_in fs back) a)) one
    ∙ (ap (λ (x : ℕ). touches (x - 16) 16 a || (touches (sp_in fs top (back + 1) - 16 * n) (16 * (n - 1)) a || rest)) (sym here)
    ∙ (ap (λ (x : ℕ). touches (sp - 16) 16 a || (touches (x - 16 * n) (16 * (n - 1)) a || rest)) (sym next)
    ∙ by_parts (touches (sp - 16) 16 a) (touches (above - 16 * n) (16 * (n - 1)) a) rest)))

-- by how many windows it called
pub calls_next : (fs : List Frame) (depth back : ℕ) → depth ≡ length fs → back < depth → calls_in fs (length fs - 1 - (depth - back - 1)) ≡ calls_in fs back
calls_next fs depth back d h = ap (calls_in fs) (omega (arith, d, h))

pub found : (x y : Bool) → x ≡ true → (x || y) ≡ true
found x y e = ap (λ (b : Bool). b || y) e

pub not_found : (x y : Bool) → x ≡ false → (x || y) ≡ y
not_found x y e = ap (λ (b : Bool). b || y) e

-- ---- stretches of bytes

-- no byte of one that has none in common with another lies in that
pub none_common : (from size other many a : ℕ) → (ltb from (other + many) && ltb other (from + size)) ≡ false → touches from size a ≡ true → touches other many a ≡ false
none_common from size other many a h t = grind (arith, nat_tests)

first_touched : (addr n : ℕ) → touches addr (suc n) addr ≡ true
first_touched addr n = grind (arith, nat_tests)

rest_touched : (addr n a : ℕ) → touches (addr + 1) n a ≡ true → touches addr (suc n) a ≡ true
rest_touched addr n a h = grind (arith, nat_tests)

-- none of so many bytes passes a test that each of them fails
pub none_byte : (f : ℕ → Bool) (addr size : ℕ) → ((a : ℕ) → touches addr size a ≡ true → f a ≡ false) → some_byte f addr size ≡ false
none_byte f addr zero h = refl
none_byte f addr (suc n) h = λ i. h addr (first_touched addr n) i || none_byte f (addr + 1) n (λ a t. h a (rest_touched addr n a t)) i
