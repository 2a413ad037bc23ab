-- Carries a proof; nothing that a reader must believe.
-- What is kept of an address that was looked up.
use Rattle.std.specs.Prelude.{◌≡◌, ◌<◌, ℕ, true, ◌==◌, ◌||◌, Option, Some, None}
use Rattle.xt_isa.specs.declared.Insn.{Insn}
use Rattle.xt_special.specs.Numbers as number
use Rattle.xt_map.specs.Fetching.{fetch_at}
use Rattle.xt_codec.specs.declared.fetch.Fetch.{Fetch}
use Rattle.xt_codec.specs.declared.fetch.Fetch.TheVariants as fetch
use Rattle.xt_codec.specs.Fetches.{IsFetched}
use Rattle.xt_rows.specs.Operands.{reads, special_reads}
use Rattle.xt_rows.specs.RowLaws.{IsRegister}
use Rattle.xt_frames.specs.Quick.{IsCommon}
use Rattle.xt_shadow.specs.declared.lookups.Lookup.{Lookup}
use Rattle.xt_shadow.specs.InStep.{IsNoEpc1}

-- the special register, if there is one, is SAR, BR or SCOMPARE1
abbrev pub IsOperand : Option ℕ → Type 0
IsOperand None = Unit {0}
IsOperand (Some n) =
    (n == number.sar || (n == number.br || n == number.scompare1)) ≡ true

-- the instruction can be made in step, if the registers that it reads agree
pub record IsPlainInsn (i : Insn) : Type 0 where
  pub common : IsCommon i
  pub special : IsNoEpc1 (special_reads i).0
  pub other : IsNoEpc1 (special_reads i).1
  pub operand : IsOperand (special_reads i).0

-- what is tested of an instruction is told by it
pub record IsTested (l : Lookup) (i : Insn) : Type 0 where
  pub first : l.first ≡ (reads i).0
  pub second : l.second ≡ (reads i).1
  pub plain : l.is_plain ≡ true → IsPlainInsn i

abbrev pub AreTested : Lookup → Fetch → Type 0
AreTested l (fetch.Insn i len) = IsTested l i
AreTested l (fetch.Fails address) = Unit {0}
AreTested l fetch.Nothing = Unit {0}

pub record IsLookup (code : ℕ → ℕ) (l : Lookup) : Type 0 where
  pub fetched : IsFetched l.fetch (fetch_at code l.pc)
  pub tested : AreTested l l.fetch
  pub first : IsRegister l.first
  pub second : IsRegister l.second
  pub ahead : l.ahead < 4
