-- States a law of the bits of interrupts, which stand in five definitions of xt_special: those of
-- each level, those of software, the bit that a write of a CCOMPARE clears, the bit that a timer
-- sets at the end of a turn, and the bits that INTENABLE keeps.
use Rattle.std.specs.Prelude.{◌≡◌, ℕ, ◌+◌, ◌%◌, ◌^◌, List, slice_index, slice_set, bit_and}
use Rattle.xt_special.specs.Numbers as number
use Rattle.xt_special.specs.Access.{software_bits, timer_bit, value_kept}
use Rattle.xt_special.specs.Interrupts.{level_1_bits, level_3_bits, level_5_bits}
use Rattle.xt_special.specs.Timers.{ticked_special, with_timer}

abbrev pub bits_of_levels : ℕ
bits_of_levels = level_1_bits + level_3_bits + level_5_bits

-- the special registers as the timers find them at the end of a turn
abbrev pub with_next_ccount : List ℕ → List ℕ
with_next_ccount special =
    slice_set special number.ccount ((slice_index special number.ccount + 1) % 2 ^ 32)

pub record BitsAgree : Type 0 where
  -- each bit of a level is software's or a timer's, and level 5 is timer 2's alone
  pub levels : bits_of_levels
      ≡ software_bits
      + timer_bit (number.ccompare 0)
      + timer_bit (number.ccompare 1)
      + timer_bit (number.ccompare 2)
  pub fifth : level_5_bits ≡ timer_bit (number.ccompare 2)
  -- INTENABLE keeps these bits
  pub enabled : (x v : ℕ) → value_kept number.intenable x v ≡ bit_and x bits_of_levels
  -- a timer sets the bit that a write of its CCOMPARE clears
  pub timers : (special : List ℕ)
      → ticked_special special
      ≡ with_timer 2 (timer_bit (number.ccompare 2))
      (with_timer 1 (timer_bit (number.ccompare 1))
      (with_timer 0 (timer_bit (number.ccompare 0)) (with_next_ccount special)))
