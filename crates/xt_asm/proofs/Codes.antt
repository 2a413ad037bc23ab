-- Values that are no addresses of code.
use Rattle.std.proofs.Common.{◌≤ℤ◌, ⊎_elim, true, List, [], ◌∷◌, Some, if◌then◌else◌, ◌≡◌, ℕ, ℤ, pos, negsuc, ◌≤◌, ◌<◌, ◌-◌, ◌^◌, ◌<ℤ◌, false, Option, None, Bool, ◌&&◌, refl, ap, sym, arith}
use Rattle.std.specs.Prelude.{nat_le}
use Rattle.std.proofs.lemmas.Bool.{cases_lt}
use Rattle.std.proofs.lemmas.Bool.Decides.{nat_tests}
use Rattle.std.proofs.lemmas.Int.{ints}
use Rattle.xt_map.specs.declared.regions.Region.{Region}
use Rattle.xt_map.specs.Regions.{Range, holds, is_executable, ranges, region_in, region_of}
use Rattle.xt_asm.specs.Kinds.{is_code}

and_false : (b c : Bool) → c ≡ false → (b && c) ≡ false
and_false true c e = e
and_false false c e = refl

beyond : (first last a : ℕ) → last < 2 ^ 32 → 2 ^ 32 ≤ a → (nat_le first a && nat_le a last) ≡ false
beyond first last a small large =
    let past : nat_le a last ≡ false = grind (arith, nat_tests) in
    and_false (nat_le first a) (nat_le a last) past

skip : (b : Bool) (x y : Option Region) → b ≡ false → y ≡ None → (if b then x else y) ≡ None
skip true x y e h = cc
skip false x y e h = h

-- the ranges end below an address
abbrev EndBelow : ℕ → List Range → Type 0
EndBelow a [] = Unit {0}
EndBelow a (r ∷ rest) = (r.last < 2 ^ 32) × EndBelow a rest

far_in : (rs : List Range) (a : ℕ) → 2 ^ 32 ≤ a → EndBelow a rs → region_in rs a ≡ None
far_in [] a large ends = refl
far_in (r ∷ rest) a large ends = skip (holds r a) (Some r.region) (region_in rest a) (beyond r.first r.last a ends.0 large) (far_in rest a large ends.1)

ends_below : (a : ℕ) → EndBelow a ranges
ends_below a = (omega arith, (omega arith, (omega arith, (omega arith, (omega arith, (omega arith, (omega arith, (omega arith, (omega arith, tt)))))))))

far_region : (a : ℕ) → 2 ^ 32 ≤ a → region_of a ≡ None
unfolding region_of
far_region a h = far_in ranges a h (ends_below a)

pub past_words : (v : ℤ) → pos (2 ^ 32 - 1) <ℤ v → false ≡ is_code v
past_words (pos a) h = let large : 2 ^ 32 ≤ a = omega (arith, ints) in sym (ap is_executable (far_region a large))
past_words (negsuc n) h = refl

far_is_no_code : (a : ℕ) → 2 ^ 32 ≤ a → is_code (pos a) ≡ true → ⊥
far_is_no_code a large e =
    let none : is_executable (region_of a) ≡ false = ap is_executable (far_region a large) in
    cc

-- an address of code is a word
pub code_is_word : (v : ℤ) → is_code v ≡ true → (pos 0 ≤ℤ v) × (v <ℤ pos (2 ^ 32))
code_is_word (negsuc n) e = absurd (cc)
code_is_word (pos a) e = ⊎_elim
    (λ lt. (omega (arith, ints), omega (arith, ints, lt)))
    (λ large. absurd (far_is_no_code a large e))
    (cases_lt a (2 ^ 32))
