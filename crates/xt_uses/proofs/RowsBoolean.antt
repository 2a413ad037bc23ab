-- The rows of Boolean registers agree.
use Rattle.std.proofs.Common.{ℕ, true, false, refl}
use Rattle.xt_isa.specs.declared.Insn.TheVariants as insn
use Rattle.xt_isa.specs.declared.boolean.Boolean.{Boolean}
use Rattle.xt_isa.specs.declared.boolean.Boolean.TheVariants as boolean
use Rattle.xt_isa.specs.declared.boolean.LogicName.TheVariants as LogicName
use Rattle.xt_isa.specs.declared.boolean.FourName.TheVariants as FourName
use Rattle.xt_isa.specs.declared.boolean.EightName.TheVariants as EightName
use Rattle.xt_isa.specs.declared.boolean.TestName.TheVariants as TestName
use Rattle.xt_isa.specs.declared.boolean.ChoiceName.TheVariants as ChoiceName
use Rattle.xt_word.specs.Conditions.{holds}
use Rattle.xt_word.specs.declared.conditions.Cond.TheVariants as test
use Rattle.xt_word.specs.Registers.{logic, group}
use Rattle.xt_word.specs.declared.booleans.BoolOp.TheVariants as op
use Rattle.xt_special.specs.declared.ps.Ps.{Ps}
use Rattle.xt_rows.specs.Effects.{no_change}
use Rattle.xt_rows.specs.Kinds.{moved_to}
use Rattle.xt_rows.specs.Outcomes.{boolean_outcome, booleans}
use Rattle.xt_uses.specs.declared.discipline.Discipline.{Discipline}
use Rattle.xt_uses.specs.Words.{Word, Fits}
use Rattle.xt_uses.specs.Known.{boolean_mask}
use Rattle.xt_uses.specs.UseLaws.{AgreeIn, RowMasks, OutcomesAgree}
use Rattle.xt_uses.proofs.Wholes.{fits_agree}
use Rattle.xt_uses.proofs.Agreed.{moves_agree, branches_agree, sets_agree}

module _ (by : Discipline) (pc x u : ℕ) (a : Word) (f : Fits x a) (ps : Ps) (t k : ℕ) (given pointer stored : ℕ) (p : AgreeIn pointer t k) where
  abbrev masks : Boolean → RowMasks
  masks i = record { result = boolean_mask i a; given = given; pointer = pointer; stored = stored }

  pub boolean_agrees : (i : Boolean) → OutcomesAgree by (insn.Boolean i) (masks i) (boolean_outcome i pc x u (no_change ps t)) (boolean_outcome i pc a.value u (no_change ps k))
  unfolding boolean_outcome boolean_mask moved_to
  boolean_agrees (boolean.Logic LogicName.Andb r s q) = sets_agree by (insn.Boolean (boolean.Logic LogicName.Andb r s q)) (masks (boolean.Logic LogicName.Andb r s q)) ps t k p refl 4 (logic op.And (booleans u) r s q) (logic op.And (booleans u) r s q) refl
  boolean_agrees (boolean.Logic LogicName.Andbc r s q) = sets_agree by (insn.Boolean (boolean.Logic LogicName.Andbc r s q)) (masks (boolean.Logic LogicName.Andbc r s q)) ps t k p refl 4 (logic op.AndNot (booleans u) r s q) (logic op.AndNot (booleans u) r s q) refl
  boolean_agrees (boolean.Logic LogicName.Orb r s q) = sets_agree by (insn.Boolean (boolean.Logic LogicName.Orb r s q)) (masks (boolean.Logic LogicName.Orb r s q)) ps t k p refl 4 (logic op.Or (booleans u) r s q) (logic op.Or (booleans u) r s q) refl
  boolean_agrees (boolean.Logic LogicName.Orbc r s q) = sets_agree by (insn.Boolean (boolean.Logic LogicName.Orbc r s q)) (masks (boolean.Logic LogicName.Orbc r s q)) ps t k p refl 4 (logic op.OrNot (booleans u) r s q) (logic op.OrNot (booleans u) r s q) refl
  boolean_agrees (boolean.Logic LogicName.Xorb r s q) = sets_agree by (insn.Boolean (boolean.Logic LogicName.Xorb r s q)) (masks (boolean.Logic LogicName.Xorb r s q)) ps t k p refl 4 (logic op.Xor (booleans u) r s q) (logic op.Xor (booleans u) r s q) refl
  boolean_agrees (boolean.Four FourName.Any4 q s) = sets_agree by (insn.Boolean (boolean.Four FourName.Any4 q s)) (masks (boolean.Four FourName.Any4 q s)) ps t k p refl 4 (group false 4 (booleans u) q s) (group false 4 (booleans u) q s) refl
  boolean_agrees (boolean.Four FourName.All4 q s) = sets_agree by (insn.Boolean (boolean.Four FourName.All4 q s)) (masks (boolean.Four FourName.All4 q s)) ps t k p refl 4 (group true 4 (booleans u) q s) (group true 4 (booleans u) q s) refl
  boolean_agrees (boolean.Eight EightName.Any8 q s) = sets_agree by (insn.Boolean (boolean.Eight EightName.Any8 q s)) (masks (boolean.Eight EightName.Any8 q s)) ps t k p refl 4 (group false 8 (booleans u) q s) (group false 8 (booleans u) q s) refl
  boolean_agrees (boolean.Eight EightName.All8 q s) = sets_agree by (insn.Boolean (boolean.Eight EightName.All8 q s)) (masks (boolean.Eight EightName.All8 q s)) ps t k p refl 4 (group true 8 (booleans u) q s) (group true 8 (booleans u) q s) refl
  boolean_agrees (boolean.Test TestName.Bf s offset) = branches_agree by (insn.Boolean (boolean.Test TestName.Bf s offset)) (masks (boolean.Test TestName.Bf s offset)) ps t k p refl (holds test.BitClear u s) (holds test.BitClear u s) refl pc offset
  boolean_agrees (boolean.Test TestName.Bt s offset) = branches_agree by (insn.Boolean (boolean.Test TestName.Bt s offset)) (masks (boolean.Test TestName.Bt s offset)) ps t k p refl (holds test.BitSet u s) (holds test.BitSet u s) refl pc offset
  boolean_agrees (boolean.Choice ChoiceName.Movf r s q) = moves_agree by (insn.Boolean (boolean.Choice ChoiceName.Movf r s q)) (masks (boolean.Choice ChoiceName.Movf r s q)) ps t k p refl (holds test.BitClear u q) (holds test.BitClear u q) refl r x a.value (fits_agree x a f)
  boolean_agrees (boolean.Choice ChoiceName.Movt r s q) = moves_agree by (insn.Boolean (boolean.Choice ChoiceName.Movt r s q)) (masks (boolean.Choice ChoiceName.Movt r s q)) ps t k p refl (holds test.BitSet u q) (holds test.BitSet u q) refl r x a.value (fits_agree x a f)
