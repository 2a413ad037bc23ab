-- A chain of stack pointers that exists: every premise can be met.
use Rattle.std.proofs.Common.{ℕ, zero, suc, ◌<◌, refl, arith, ◌∷◌, replicate, lit<, lit≤}
use Rattle.xt_handlers.specs.declared.stretch.Side.TheVariants.{Overflow, Underflow}
use Rattle.xt_handlers.specs.Running.{with_word}
use Rattle.xt_handlers.specs.Machines.{Machine, visible, address}
use Rattle.xt_handlers.specs.Frames.{HasFrames}

-- a13 is the callee's stack pointer, a1 the frame's own
abbrev pub full : Machine
full = record {
  ring = 7 ∷ 0x3FFB0100 ∷ 1 ∷ 2 ∷ 3 ∷ 4 ∷ 5 ∷ 6 ∷ 7 ∷ 8 ∷ 9 ∷ 10 ∷ 11 ∷ 0x3FFB0000 ∷ 12 ∷ 13 ∷ replicate 48 0;
  base = 0;
  bytes = with_word (with_word (λ a. 0) 0x3FFAFFF4 0x3FFB0100) 0x3FFB00F4 0x3FFB0200;
}

fits_below : (i : ℕ) → i < 16 → visible full i < 4294967296
fits_below zero h = lit< tt
fits_below (suc zero) h = lit< tt
fits_below (suc (suc zero)) h = lit< tt
fits_below (suc (suc (suc zero))) h = lit< tt
fits_below (suc (suc (suc (suc zero)))) h = lit< tt
fits_below (suc (suc (suc (suc (suc zero))))) h = lit< tt
fits_below (suc (suc (suc (suc (suc (suc zero)))))) h = lit< tt
fits_below (suc (suc (suc (suc (suc (suc (suc zero))))))) h = lit< tt
fits_below (suc (suc (suc (suc (suc (suc (suc (suc zero)))))))) h = lit< tt
fits_below (suc (suc (suc (suc (suc (suc (suc (suc (suc zero))))))))) h = lit< tt
fits_below (suc (suc (suc (suc (suc (suc (suc (suc (suc (suc zero)))))))))) h = lit< tt
fits_below (suc (suc (suc (suc (suc (suc (suc (suc (suc (suc (suc zero))))))))))) h = lit< tt
fits_below (suc (suc (suc (suc (suc (suc (suc (suc (suc (suc (suc (suc zero)))))))))))) h = lit< tt
fits_below (suc (suc (suc (suc (suc (suc (suc (suc (suc (suc (suc (suc (suc zero))))))))))))) h = lit< tt
fits_below (suc (suc (suc (suc (suc (suc (suc (suc (suc (suc (suc (suc (suc (suc zero)))))))))))))) h = lit< tt
fits_below (suc (suc (suc (suc (suc (suc (suc (suc (suc (suc (suc (suc (suc (suc (suc zero))))))))))))))) h = lit< tt
fits_below (suc (suc (suc (suc (suc (suc (suc (suc (suc (suc (suc (suc (suc (suc (suc (suc n)))))))))))))))) h = absurd (omega arith)

pub full_has_frames : HasFrames Overflow 3 full
unfolding address
full_has_frames = record {
  some = lit< tt;
  three = lit< tt;
  registers = refl;
  fits = fits_below;
  callee_low = lit≤ tt;
  callee_high = lit≤ tt;
  callee_aligned = refl;
  own_low = λ h. lit≤ tt;
  own_aligned = λ h. refl;
  caller_low = λ h. lit≤ tt;
  caller_high = λ h. lit≤ tt;
  caller_aligned = λ h. refl;
}

pub full_has_caller : HasFrames Underflow 3 full
unfolding address
full_has_caller = record {
  some = lit< tt;
  three = lit< tt;
  registers = refl;
  fits = fits_below;
  callee_low = lit≤ tt;
  callee_high = lit≤ tt;
  callee_aligned = refl;
  own_low = λ h. lit≤ tt;
  own_aligned = λ h. refl;
  caller_low = λ h. lit≤ tt;
  caller_high = λ h. lit≤ tt;
  caller_aligned = λ h. refl;
}
