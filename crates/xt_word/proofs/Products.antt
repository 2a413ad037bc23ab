-- Products of signed numbers, at a width in which they fit.
use Rattle.std.proofs.Common.{◌≡◌, ◌^◌, ◌≤◌, ℤ, pos, negsuc, ◌*ℤ◌, w32, w64, FitsSigned, to_z, of_z, arith}
use Rattle.std.specs.Int.{w16, int_shr}
use Rattle.std.specs.Int.RustNames.{unsigned_abs}
use Rattle.std.proofs.lemmas.Int.{to_z-of_z, fits_signed_mul}

abs_of_16 : (z : ℤ) → FitsSigned w16 z → unsigned_abs z ≤ 2 ^ 15
abs_of_16 (pos n) f = let h = f.sfits in omega arith
abs_of_16 (negsuc n) f = let h = f.sfits in omega arith

abs_of_32 : (z : ℤ) → FitsSigned w32 z → unsigned_abs z ≤ 2 ^ 31
abs_of_32 (pos n) f = let h = f.sfits in omega arith
abs_of_32 (negsuc n) f = let h = f.sfits in omega arith

wider_16 : (z : ℤ) → FitsSigned w16 z → FitsSigned w32 z
wider_16 z f = let h = f.sfits in record { sfits = omega arith }

wider_32 : (z : ℤ) → FitsSigned w32 z → FitsSigned w64 z
wider_32 z f = let h = f.sfits in record { sfits = omega arith }

product_16 : (x y : ℤ) → FitsSigned w16 x → FitsSigned w16 y → FitsSigned w32 (x *ℤ y)
product_16 x y f g = fits_signed_mul w32 x y (2 ^ 15) (2 ^ 15) (abs_of_16 x f) (abs_of_16 y g) (omega arith)

product_32 : (x y : ℤ) → FitsSigned w32 x → FitsSigned w32 y → FitsSigned w64 (x *ℤ y)
product_32 x y f g = fits_signed_mul w64 x y (2 ^ 31) (2 ^ 31) (abs_of_32 x f) (abs_of_32 y g) (omega arith)

-- the upper half of a product of 64 bits has 32
upper_half : (z : ℤ) → FitsSigned w64 z → FitsSigned w32 (int_shr z 32)
upper_half (pos n) f = let h = f.sfits in record { sfits = omega arith }
upper_half (negsuc n) f = let h = f.sfits in record { sfits = omega arith }

-- what the code computes of two signed halves is the word of their product
pub half_product : (x y : ℤ) → FitsSigned w16 x → FitsSigned w16 y
    → of_z w32 (to_z w32 (of_z w32 (to_z w32 (of_z w32 (to_z w16 (of_z w16 x))) *ℤ to_z w32 (of_z w32 (to_z w16 (of_z w16 y)))))) ≡ of_z w32 (x *ℤ y)
half_product x y f g =
    let f32 : FitsSigned w32 x = wider_16 x f in
    let g32 : FitsSigned w32 y = wider_16 y g in
    let p : FitsSigned w32 (x *ℤ y) = product_16 x y f g in
    simp to_z-of_z

pub high_product : (x y : ℤ) → FitsSigned w32 x → FitsSigned w32 y
    → of_z w32 (to_z w32 (of_z w32 (to_z w64 (of_z w64 (int_shr (to_z w64 (of_z w64 (to_z w64 (of_z w64 (to_z w32 (of_z w32 x))) *ℤ to_z w64 (of_z w64 (to_z w32 (of_z w32 y)))))) 32))))) ≡ of_z w32 (int_shr (x *ℤ y) 32)
high_product x y f g =
    let f64 : FitsSigned w64 x = wider_32 x f in
    let g64 : FitsSigned w64 y = wider_32 y g in
    let p : FitsSigned w64 (x *ℤ y) = product_32 x y f g in
    let u : FitsSigned w32 (int_shr (x *ℤ y) 32) = upper_half (x *ℤ y) p in
    let u64 : FitsSigned w64 (int_shr (x *ℤ y) 32) = wider_32 (int_shr (x *ℤ y) 32) u in
    simp to_z-of_z
