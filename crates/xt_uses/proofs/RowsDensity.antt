-- The rows of the 16-bit instructions agree.
use Rattle.std.proofs.Common.{◌≡◌, ℕ, ◌^◌, ◌<◌, true, false, Some, refl, sym, ap}
use Rattle.xt_isa.specs.declared.Insn.TheVariants as insn
use Rattle.xt_isa.specs.declared.density.Density.{Density}
use Rattle.xt_isa.specs.declared.density.Density.TheVariants as density
use Rattle.xt_isa.specs.declared.density.NarrowName.TheVariants as NarrowName
use Rattle.xt_isa.specs.declared.density.NarrowZeroName.TheVariants as NarrowZeroName
use Rattle.xt_isa.specs.declared.density.BareName.TheVariants as BareName
use Rattle.xt_word.specs.Arithmetic.{addx}
use Rattle.xt_word.specs.Conditions.{holds}
use Rattle.xt_word.specs.declared.conditions.Cond.TheVariants as test
use Rattle.xt_special.specs.declared.ps.Ps.{Ps}
use Rattle.xt_rows.specs.declared.outcome.WindowStep.TheVariants.{Returns}
use Rattle.xt_rows.specs.declared.outcome.Outcome.TheVariants.{Windowed}
use Rattle.xt_rows.specs.Numbers.{plus}
use Rattle.xt_rows.specs.Effects.{no_change}
use Rattle.xt_rows.specs.Kinds.{moved_to}
use Rattle.xt_rows.specs.Operands.{density_reads}
use Rattle.xt_rows.specs.Outcomes.{density_outcome}
use Rattle.xt_uses.specs.declared.discipline.Discipline.{Discipline}
use Rattle.xt_uses.specs.Words.{Word, Fits, all_bits}
use Rattle.xt_uses.specs.Used.{density_used}
use Rattle.xt_uses.specs.Known.{density_mask}
use Rattle.xt_uses.specs.UseLaws.{AgreeIn, RowMasks, OutcomesAgree}
use Rattle.xt_uses.proofs.Wholes.{whole_value, fits_agree}
use Rattle.xt_uses.proofs.Sums.{add_agrees, plus_agrees}
use Rattle.xt_uses.proofs.Agreed.{nothing_agrees, puts_agree, branches_agree, goes_agree, loads_agree, stores_agree}
use Rattle.xt_uses.proofs.RowsMemory.{address}

module _ (by : Discipline) (pc x y : ℕ) (a b : Word) (f : Fits x a) (g : Fits y b) (h : x < 2 ^ 32) (l : y < 2 ^ 32) (ps : Ps) (t k : ℕ) (given pointer : ℕ) (p : AgreeIn pointer t k) where
  abbrev masks : Density → RowMasks
  masks i = record { result = density_mask i a b all_bits; given = given; pointer = pointer; stored = b.mask }

  pub density_agrees : (code : ℕ → ℕ) (i : Density) → a.mask < 2 ^ 32 → density_used i a b ≡ true → ((density_reads i).0 ≡ (density_reads i).1 → (x ≡ y) × (a ≡ b)) → OutcomesAgree by (insn.Density i) (masks i) (density_outcome code i pc x y (no_change ps t)) (density_outcome code i pc a.value b.value (no_change ps k))
  unfolding density_outcome density_mask density_used moved_to
  density_agrees code (density.Word NarrowName.L32i q s offset) m used same = loads_agree by (insn.Density (density.Word NarrowName.L32i q s offset)) (masks (density.Word NarrowName.L32i q s offset)) ps t k p refl code 4 false q (plus x offset) (plus a.value offset) (ap (λ z. plus z offset) (sym (whole_value x a f h used)))
  density_agrees code (density.Word NarrowName.S32i q s offset) m used same = stores_agree by (insn.Density (density.Word NarrowName.S32i q s offset)) (masks (density.Word NarrowName.S32i q s offset)) ps t k p refl 4 y b.value (plus x offset) (plus a.value offset) (ap (λ z. plus z offset) (address by pc x y 0 a b f g h l ps t k given pointer p offset used)) (fits_agree y b g)
  density_agrees code (density.Add r s q) m used same = puts_agree by (insn.Density (density.Add r s q)) (masks (density.Add r s q)) ps t k p refl r (addx x y 0) (addx a.value b.value 0) (add_agrees x y a b f g h l m s q (λ e. same (ap (λ n. Some n) e)))
  density_agrees code (density.Addi r s n) m used same = puts_agree by (insn.Density (density.Addi r s n)) (masks (density.Addi r s n)) ps t k p refl r (plus x n) (plus a.value n) (plus_agrees a.mask m x a.value n (fits_agree x a f))
  density_agrees code (density.Movi s n) m used same = puts_agree by (insn.Density (density.Movi s n)) (masks (density.Movi s n)) ps t k p refl s (plus 0 n) (plus 0 n) refl
  density_agrees code (density.BranchZero NarrowZeroName.Beqz s offset) m used same = branches_agree by (insn.Density (density.BranchZero NarrowZeroName.Beqz s offset)) (masks (density.BranchZero NarrowZeroName.Beqz s offset)) ps t k p refl (holds test.Eq x 0) (holds test.Eq a.value 0) (ap (λ z. holds test.Eq z 0) (sym (whole_value x a f h used))) pc offset
  density_agrees code (density.BranchZero NarrowZeroName.Bnez s offset) m used same = branches_agree by (insn.Density (density.BranchZero NarrowZeroName.Bnez s offset)) (masks (density.BranchZero NarrowZeroName.Bnez s offset)) ps t k p refl (holds test.Ne x 0) (holds test.Ne a.value 0) (ap (λ z. holds test.Ne z 0) (sym (whole_value x a f h used))) pc offset
  density_agrees code (density.Mov q s) m used same = puts_agree by (insn.Density (density.Mov q s)) (masks (density.Mov q s)) ps t k p refl q x a.value (fits_agree x a f)
  density_agrees code (density.Bare BareName.Ret) m used same = goes_agree by (insn.Density (density.Bare BareName.Ret)) (masks (density.Bare BareName.Ret)) ps t k p refl x a.value (sym (whole_value x a f h used))
  density_agrees code (density.Bare BareName.Retw) m used same = ap (λ z. Windowed (Returns z)) (sym (whole_value x a f h used))
  density_agrees code (density.Bare BareName.Nop) m used same = nothing_agrees by (insn.Density (density.Bare BareName.Nop)) (masks (density.Bare BareName.Nop)) ps t k p refl
  density_agrees code (density.Bare BareName.Ill) m used same = refl
  density_agrees code (density.Break n) m used same = refl
