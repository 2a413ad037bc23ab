-- The rows of jumps, calls, branches, ENTRY and loops agree.
use Rattle.std.proofs.Common.{◌≡◌, ℕ, ◌%◌, ◌^◌, ◌<◌, Bool, true, false, not, eqb, refl, sym, ap, ◌∙◌}
use Rattle.std.proofs.lemmas.Bool.{and_parts}
use Rattle.xt_isa.specs.declared.Insn.TheVariants as insn
use Rattle.xt_isa.specs.declared.control.Control.{Control}
use Rattle.xt_isa.specs.declared.control.Control.TheVariants as control
use Rattle.xt_isa.specs.declared.control.ReturnName.TheVariants as ReturnName
use Rattle.xt_isa.specs.declared.control.ZeroName.TheVariants as ZeroName
use Rattle.xt_isa.specs.declared.control.ConstName.TheVariants as ConstName
use Rattle.xt_isa.specs.declared.control.ConstuName.TheVariants as ConstuName
use Rattle.xt_isa.specs.declared.control.BranchName.TheVariants as BranchName
use Rattle.xt_isa.specs.declared.control.OppositeName.TheVariants as OppositeName
use Rattle.xt_isa.specs.declared.control.BitName.TheVariants as BitName
use Rattle.xt_isa.specs.declared.control.LoopName.TheVariants as LoopName
use Rattle.xt_word.specs.Conditions.{holds}
use Rattle.xt_word.specs.declared.conditions.Cond.TheVariants as test
use Rattle.xt_special.specs.declared.ps.Ps.{Ps}
use Rattle.xt_rows.specs.declared.outcome.WindowStep.TheVariants.{Enters, Returns}
use Rattle.xt_rows.specs.declared.outcome.Outcome.TheVariants.{Windowed}
use Rattle.xt_rows.specs.Numbers.{plus, minus, natural, branch_target, call_target}
use Rattle.xt_rows.specs.Operands.{call_size, callx_size}
use Rattle.xt_rows.specs.Effects.{no_change}
use Rattle.xt_rows.specs.Kinds.{moved_to}
use Rattle.xt_rows.specs.Outcomes.{control_outcome}
use Rattle.xt_uses.specs.declared.discipline.Discipline.{Discipline}
use Rattle.xt_uses.specs.Words.{Word, Fits, all_bits, is_whole}
use Rattle.xt_uses.specs.Used.{both_whole, control_used}
use Rattle.xt_uses.specs.UseLaws.{AgreeIn, RowMasks, OutcomesAgree}
use Rattle.xt_uses.proofs.Wholes.{whole_value, value_word}
use Rattle.xt_uses.proofs.Agreed.{branches_agree, goes_agree, calls_agree, loops_agree}
use Rattle.xt_uses.proofs.RowsUsed.{known_bit, tested_bit, and_known, all_known, sign_known, not_sign_known}

module _ (by : Discipline) (pc x y : ℕ) (a b : Word) (f : Fits x a) (g : Fits y b) (h : x < 2 ^ 32) (l : y < 2 ^ 32) (ps : Ps) (t k : ℕ) (given pointer stored : ℕ) (p : AgreeIn pointer t k) where
  abbrev masks : Control → RowMasks
  masks i = record { result = all_bits; given = given; pointer = pointer; stored = stored }

  both_whole_agree : (r : ℕ → ℕ → Bool) → both_whole a b ≡ true → r x y ≡ r a.value b.value
  both_whole_agree r used =
      let both = and_parts (is_whole a) (is_whole b) used in
      ap (λ z. r z y) (sym (whole_value x a f h both.0)) ∙ ap (λ z. r a.value z) (sym (whole_value y b g l both.1))

  pub control_agrees : (i : Control) → control_used i a b ≡ true → OutcomesAgree by (insn.Control i) (masks i) (control_outcome i pc x y (no_change ps t)) (control_outcome i pc a.value b.value (no_change ps k))
  unfolding control_outcome control_used moved_to holds
  control_agrees (control.J offset) used = goes_agree by (insn.Control (control.J offset)) (masks (control.J offset)) ps t k p refl (branch_target pc offset) (branch_target pc offset) refl
  control_agrees (control.Call name offset) used = calls_agree by (insn.Control (control.Call name offset)) (masks (control.Call name offset)) ps t k p refl (call_size name) (call_target pc offset) (call_target pc offset) pc refl
  control_agrees (control.Return ReturnName.Ret) used = goes_agree by (insn.Control (control.Return ReturnName.Ret)) (masks (control.Return ReturnName.Ret)) ps t k p refl x a.value (sym (whole_value x a f h used))
  control_agrees (control.Return ReturnName.Retw) used = ap (λ z. Windowed (Returns z)) (sym (whole_value x a f h used))
  control_agrees (control.Jx s) used = goes_agree by (insn.Control (control.Jx s)) (masks (control.Jx s)) ps t k p refl x a.value (sym (whole_value x a f h used))
  control_agrees (control.Callx name s) used = calls_agree by (insn.Control (control.Callx name s)) (masks (control.Callx name s)) ps t k p refl (callx_size name) x a.value pc (sym (whole_value x a f h used))
  control_agrees (control.BranchZero ZeroName.Beqz s offset) used = branches_agree by (insn.Control (control.BranchZero ZeroName.Beqz s offset)) (masks (control.BranchZero ZeroName.Beqz s offset)) ps t k p refl (holds test.Eq x 0) (holds test.Eq a.value 0) (ap (λ z. holds test.Eq z 0) (sym (whole_value x a f h used))) pc offset
  control_agrees (control.BranchZero ZeroName.Bnez s offset) used = branches_agree by (insn.Control (control.BranchZero ZeroName.Bnez s offset)) (masks (control.BranchZero ZeroName.Bnez s offset)) ps t k p refl (holds test.Ne x 0) (holds test.Ne a.value 0) (ap (λ z. holds test.Ne z 0) (sym (whole_value x a f h used))) pc offset
  control_agrees (control.BranchZero ZeroName.Bltz s offset) used = branches_agree by (insn.Control (control.BranchZero ZeroName.Bltz s offset)) (masks (control.BranchZero ZeroName.Bltz s offset)) ps t k p refl (holds test.Lt x 0) (holds test.Lt a.value 0) (sign_known x a f h (value_word x a f h) used) pc offset
  control_agrees (control.BranchZero ZeroName.Bgez s offset) used = branches_agree by (insn.Control (control.BranchZero ZeroName.Bgez s offset)) (masks (control.BranchZero ZeroName.Bgez s offset)) ps t k p refl (holds test.Ge x 0) (holds test.Ge a.value 0) (not_sign_known x a f h (value_word x a f h) used) pc offset
  control_agrees (control.BranchConst ConstName.Beqi s c offset) used = branches_agree by (insn.Control (control.BranchConst ConstName.Beqi s c offset)) (masks (control.BranchConst ConstName.Beqi s c offset)) ps t k p refl (holds test.Eq x (plus 0 c)) (holds test.Eq a.value (plus 0 c)) (ap (λ z. holds test.Eq z (plus 0 c)) (sym (whole_value x a f h used))) pc offset
  control_agrees (control.BranchConst ConstName.Bnei s c offset) used = branches_agree by (insn.Control (control.BranchConst ConstName.Bnei s c offset)) (masks (control.BranchConst ConstName.Bnei s c offset)) ps t k p refl (holds test.Ne x (plus 0 c)) (holds test.Ne a.value (plus 0 c)) (ap (λ z. holds test.Ne z (plus 0 c)) (sym (whole_value x a f h used))) pc offset
  control_agrees (control.BranchConst ConstName.Blti s c offset) used = branches_agree by (insn.Control (control.BranchConst ConstName.Blti s c offset)) (masks (control.BranchConst ConstName.Blti s c offset)) ps t k p refl (holds test.Lt x (plus 0 c)) (holds test.Lt a.value (plus 0 c)) (ap (λ z. holds test.Lt z (plus 0 c)) (sym (whole_value x a f h used))) pc offset
  control_agrees (control.BranchConst ConstName.Bgei s c offset) used = branches_agree by (insn.Control (control.BranchConst ConstName.Bgei s c offset)) (masks (control.BranchConst ConstName.Bgei s c offset)) ps t k p refl (holds test.Ge x (plus 0 c)) (holds test.Ge a.value (plus 0 c)) (ap (λ z. holds test.Ge z (plus 0 c)) (sym (whole_value x a f h used))) pc offset
  control_agrees (control.BranchConstu ConstuName.Bltui s c offset) used = branches_agree by (insn.Control (control.BranchConstu ConstuName.Bltui s c offset)) (masks (control.BranchConstu ConstuName.Bltui s c offset)) ps t k p refl (holds test.Ltu x (plus 0 c)) (holds test.Ltu a.value (plus 0 c)) (ap (λ z. holds test.Ltu z (plus 0 c)) (sym (whole_value x a f h used))) pc offset
  control_agrees (control.BranchConstu ConstuName.Bgeui s c offset) used = branches_agree by (insn.Control (control.BranchConstu ConstuName.Bgeui s c offset)) (masks (control.BranchConstu ConstuName.Bgeui s c offset)) ps t k p refl (holds test.Geu x (plus 0 c)) (holds test.Geu a.value (plus 0 c)) (ap (λ z. holds test.Geu z (plus 0 c)) (sym (whole_value x a f h used))) pc offset
  control_agrees (control.Branch BranchName.Bnone s q offset) used = branches_agree by (insn.Control (control.Branch BranchName.Bnone s q offset)) (masks (control.Branch BranchName.Bnone s q offset)) ps t k p refl (holds test.NoBits x y) (holds test.NoBits a.value b.value) (ap (λ z. eqb z 0) (and_known x y a b f g h l used)) pc offset
  control_agrees (control.Branch BranchName.Beq s q offset) used = branches_agree by (insn.Control (control.Branch BranchName.Beq s q offset)) (masks (control.Branch BranchName.Beq s q offset)) ps t k p refl (holds test.Eq x y) (holds test.Eq a.value b.value) (both_whole_agree (holds test.Eq) used) pc offset
  control_agrees (control.Branch BranchName.Blt s q offset) used = branches_agree by (insn.Control (control.Branch BranchName.Blt s q offset)) (masks (control.Branch BranchName.Blt s q offset)) ps t k p refl (holds test.Lt x y) (holds test.Lt a.value b.value) (both_whole_agree (holds test.Lt) used) pc offset
  control_agrees (control.Branch BranchName.Bltu s q offset) used = branches_agree by (insn.Control (control.Branch BranchName.Bltu s q offset)) (masks (control.Branch BranchName.Bltu s q offset)) ps t k p refl (holds test.Ltu x y) (holds test.Ltu a.value b.value) (both_whole_agree (holds test.Ltu) used) pc offset
  control_agrees (control.Branch BranchName.Ball s q offset) used = branches_agree by (insn.Control (control.Branch BranchName.Ball s q offset)) (masks (control.Branch BranchName.Ball s q offset)) ps t k p refl (holds test.AllBits x y) (holds test.AllBits a.value b.value) (all_known x y a b f g h l used) pc offset
  control_agrees (control.Branch BranchName.Bbc s q offset) used = branches_agree by (insn.Control (control.Branch BranchName.Bbc s q offset)) (masks (control.Branch BranchName.Bbc s q offset)) ps t k p refl (holds test.BitClear x y) (holds test.BitClear a.value b.value) (ap (λ z. eqb z 0) (tested_bit x y a b f g used)) pc offset
  control_agrees (control.BranchNot OppositeName.Bany s q offset) used = branches_agree by (insn.Control (control.BranchNot OppositeName.Bany s q offset)) (masks (control.BranchNot OppositeName.Bany s q offset)) ps t k p refl (holds test.AnyBits x y) (holds test.AnyBits a.value b.value) (ap (λ z. not (eqb z 0)) (and_known x y a b f g h l used)) pc offset
  control_agrees (control.BranchNot OppositeName.Bne s q offset) used = branches_agree by (insn.Control (control.BranchNot OppositeName.Bne s q offset)) (masks (control.BranchNot OppositeName.Bne s q offset)) ps t k p refl (holds test.Ne x y) (holds test.Ne a.value b.value) (both_whole_agree (holds test.Ne) used) pc offset
  control_agrees (control.BranchNot OppositeName.Bge s q offset) used = branches_agree by (insn.Control (control.BranchNot OppositeName.Bge s q offset)) (masks (control.BranchNot OppositeName.Bge s q offset)) ps t k p refl (holds test.Ge x y) (holds test.Ge a.value b.value) (both_whole_agree (holds test.Ge) used) pc offset
  control_agrees (control.BranchNot OppositeName.Bgeu s q offset) used = branches_agree by (insn.Control (control.BranchNot OppositeName.Bgeu s q offset)) (masks (control.BranchNot OppositeName.Bgeu s q offset)) ps t k p refl (holds test.Geu x y) (holds test.Geu a.value b.value) (both_whole_agree (holds test.Geu) used) pc offset
  control_agrees (control.BranchNot OppositeName.Bnall s q offset) used = branches_agree by (insn.Control (control.BranchNot OppositeName.Bnall s q offset)) (masks (control.BranchNot OppositeName.Bnall s q offset)) ps t k p refl (holds test.NotAllBits x y) (holds test.NotAllBits a.value b.value) (ap not (all_known x y a b f g h l used)) pc offset
  control_agrees (control.BranchNot OppositeName.Bbs s q offset) used = branches_agree by (insn.Control (control.BranchNot OppositeName.Bbs s q offset)) (masks (control.BranchNot OppositeName.Bbs s q offset)) ps t k p refl (holds test.BitSet x y) (holds test.BitSet a.value b.value) (ap (λ z. eqb z 1) (tested_bit x y a b f g used)) pc offset
  control_agrees (control.BranchBit BitName.Bbci s n offset) used = branches_agree by (insn.Control (control.BranchBit BitName.Bbci s n offset)) (masks (control.BranchBit BitName.Bbci s n offset)) ps t k p refl (holds test.BitClear x (natural n)) (holds test.BitClear a.value (natural n)) (ap (λ z. eqb z 0) (known_bit (natural n % 32) x a f used)) pc offset
  control_agrees (control.BranchBit BitName.Bbsi s n offset) used = branches_agree by (insn.Control (control.BranchBit BitName.Bbsi s n offset)) (masks (control.BranchBit BitName.Bbsi s n offset)) ps t k p refl (holds test.BitSet x (natural n)) (holds test.BitSet a.value (natural n)) (ap (λ z. eqb z 1) (known_bit (natural n % 32) x a f used)) pc offset
  control_agrees (control.Entry s n) used = ap (λ z. Windowed (Enters s (minus z (natural n)))) (sym (whole_value x a f h used))
  control_agrees (control.Loop LoopName.Loop s offset) used = loops_agree by (insn.Control (control.Loop LoopName.Loop s offset)) (masks (control.Loop LoopName.Loop s offset)) ps t k p refl (λ z. false) x a.value pc offset (sym (whole_value x a f h used))
  control_agrees (control.Loop LoopName.Loopnez s offset) used = loops_agree by (insn.Control (control.Loop LoopName.Loopnez s offset)) (masks (control.Loop LoopName.Loopnez s offset)) ps t k p refl (λ z. holds test.Eq z 0) x a.value pc offset (sym (whole_value x a f h used))
  control_agrees (control.Loop LoopName.Loopgtz s offset) used = loops_agree by (insn.Control (control.Loop LoopName.Loopgtz s offset)) (masks (control.Loop LoopName.Loopgtz s offset)) ps t k p refl (λ z. holds test.Ge 0 z) x a.value pc offset (sym (whole_value x a f h used))
