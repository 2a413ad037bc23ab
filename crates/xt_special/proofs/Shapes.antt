-- The opening registers have their shape.
use Rattle.std.proofs.Common.{◌≡◌, ◌≢◌, ℕ, ◌%◌, ◌^◌, ◌<◌, List, length, get_or, refl, arith, ap, ◌∙◌, get_or-set_same, get_or-set_other}
use Rattle.std.proofs.Math.ListN.{length-set, set}
use Rattle.xt_special.specs.Opening.{no_special}
use Rattle.xt_special.specs.Shape.{HasShape}

opening_length : length no_special ≡ 256
unfolding no_special
opening_length = refl

opening_sar : get_or no_special 3 0 ≡ 0
unfolding no_special
opening_sar = refl

sar_after : (file : List ℕ) (i j prid vecbase : ℕ) → i ≢ 3 → j ≢ 3 → get_or (set (set file i prid) j vecbase) 3 0 ≡ get_or file 3 0
sar_after file i j prid vecbase p q =
    let p' : 3 ≢ i = λ e. p (cc) in
    let q' : 3 ≢ j = λ e. q (cc) in
    rw get_or-set_other (rw get_or-set_other)

vecbase_after : (file : List ℕ) (i prid vecbase : ℕ) → 231 < length file → get_or (set (set file i prid) 231 vecbase) 231 0 ≡ vecbase
vecbase_after file i prid vecbase h =
    let n : 231 < length (set file i prid) = rw length-set h in
    rw get_or-set_same

pub opening_shape : (prid vecbase : ℕ) → vecbase % 2 ^ 10 ≡ 0 → HasShape (set (set no_special 235 prid) 231 vecbase)
opening_shape prid vecbase h =
    let sar : get_or (set (set no_special 235 prid) 231 vecbase) 3 0 ≡ 0 = sar_after no_special 235 231 prid vecbase (omega arith) (omega arith) ∙ opening_sar in
    let base : get_or (set (set no_special 235 prid) 231 vecbase) 231 0 ≡ vecbase = vecbase_after no_special 235 prid vecbase (omega (arith, opening_length)) in
    record {
      sar_fits = omega arith;
      vecbase_aligned = ap (λ n. n % 2 ^ 10) base ∙ h;
    }
