-- Carries a proof; nothing that a reader must believe.
-- Lists of special registers that are equal, register by register, but for time, for the bits of timers
-- in INTERRUPT, or for SCOMPARE1.
use Rattle.std.specs.Prelude.{◌≡◌, ℕ, Bool, true, false, ◌==◌, ◌&&◌, ◌||◌, List, length, slice_index}
use Rattle.xt_special.specs.Numbers as number
use Rattle.xt_special.specs.Access.{without_bits}
use Rattle.xt_isa.specs.declared.Insn.{Insn}
use Rattle.xt_isa.specs.Ranges.{in_range}
use Rattle.xt_map.specs.Fetching.{Fetched, Fetches, Fails, SpellsNothing}
use Rattle.xt_timeless.specs.Time.{reads_compare, reads_time, timer_bits}

-- what may differ: the bits of timers in INTERRUPT; these and CCOUNT and CCOMPARE0 to CCOMPARE2; or
-- SCOMPARE1
pub data Difference : Type 0 where
  Timers : Difference
  Clocks : Difference
  Compare : Difference

abbrev pub has_timers : Difference → Bool
has_timers Timers = true
has_timers Clocks = true
has_timers Compare = false

abbrev pub has_clocks : Difference → Bool
has_clocks Timers = false
has_clocks Clocks = true
has_clocks Compare = false

abbrev pub has_compare : Difference → Bool
has_compare Timers = false
has_compare Clocks = false
has_compare Compare = true

abbrev pub may_differ : Difference → ℕ → Bool
may_differ gap n =
    (n == number.interrupt && has_timers gap)
    || (((n == number.ccount
    || (n == number.ccompare 0 || (n == number.ccompare 1 || n == number.ccompare 2))) && has_clocks gap)
    || (n == number.scompare1 && has_compare gap))

pub record AreAlike (gap : Difference) (xs ys : List ℕ) : Type 0 where
  pub long : length xs ≡ length ys
  pub same : (k : ℕ) → may_differ gap k ≡ false → slice_index xs k ≡ slice_index ys k
  pub interrupt : without_bits (slice_index xs number.interrupt) timer_bits
      ≡ without_bits (slice_index ys number.interrupt) timer_bits

-- an instruction that reads what may differ
abbrev pub reads_difference : Difference → Insn → Bool
reads_difference Timers i = reads_time i
reads_difference Clocks i = reads_time i
reads_difference Compare i = reads_compare i

-- its operands are in range, if time may differ
abbrev pub IsRanged : Difference → Insn → Type 0
IsRanged Timers i = in_range i ≡ true
IsRanged Clocks i = in_range i ≡ true
IsRanged Compare i = Unit {0}

abbrev pub fetches_difference : Difference → Fetched → Bool
fetches_difference gap (Fetches i len) = reads_difference gap i
fetches_difference gap (Fails address) = false
fetches_difference gap SpellsNothing = false
