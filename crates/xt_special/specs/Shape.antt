-- Carries a proof; nothing that a reader must believe.
-- Ranges that the special registers keep.
--
-- Note: these ranges stand in conditions of public calls.
use Rattle.std.specs.Prelude.{◌≡◌, ℕ, ◌%◌, ◌<◌, ◌^◌, Option, Some, None, List, slice_index}
use Rattle.xt_special.specs.declared.ps.Ps.{Ps}
use Rattle.xt_special.specs.declared.writes.SpecialWrite.{SpecialWrite}
use Rattle.xt_special.specs.Numbers as number
use Rattle.xt_special.specs.Access.{SpecialWrites}

pub record IsPs (ps : Ps) : Type 0 where
  pub intlevel_fits : ps.intlevel < 16
  pub ring_fits : ps.ring < 4
  pub owb_fits : ps.owb < 16
  pub callinc_fits : ps.callinc < 4

-- SAR has six bits, and the low ten bits of VECBASE are 0
pub record HasShape (file : List ℕ) : Type 0 where
  pub sar_fits : slice_index file number.sar < 2 ^ 6
  pub vecbase_aligned : slice_index file number.vecbase % 2 ^ 10 ≡ 0

-- a value that a register of this number may hold
pub record CanHold (n : ℕ) (x : ℕ) : Type 0 where
  pub as_sar : n ≡ number.sar → x < 2 ^ 6
  pub as_vecbase : n ≡ number.vecbase → x % 2 ^ 10 ≡ 0

-- what is written is a word, and the register can hold it
abbrev pub IsProperSet : Option SpecialWrite → Type 0
IsProperSet None = Unit {0}
IsProperSet (Some w) = CanHold w.number w.value × (w.value < 2 ^ 32)

abbrev pub AreProperSets : SpecialWrites → Type 0
AreProperSets w = IsProperSet w.0 × IsProperSet w.1 × IsProperSet w.2
