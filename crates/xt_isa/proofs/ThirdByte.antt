-- A 16-bit word is spelled by its first two bytes alone, and two major opcodes spell nothing.
use Rattle.std.proofs.Common.{◌≡◌, ℕ, zero, suc, ◌+◌, ◌-◌, ◌<◌, inl, inr, None, Some, refl, sym, subst, ◌∙◌, arith}
use Rattle.std.proofs.lemmas.Bool.{cases_lt}
use Rattle.std.proofs.lemmas.Option.{none-some}
use Rattle.xt_isa.specs.declared.Fields.{Fields}
use Rattle.xt_isa.specs.declared.Insn.{Insn}
use Rattle.xt_isa.specs.Spelling.{spelled_insn, all_rows}
use Rattle.xt_isa.specs.Apart.{ThirdByteIsFree}

pub third_byte : (k t s r op1 op2 : ℕ) → k < 6 → ThirdByteIsFree (8 + k) t s r op1 op2
unfolding spelled_insn all_rows
third_byte zero t s r op1 op2 h = refl
third_byte (suc zero) t s r op1 op2 h = refl
third_byte (suc (suc zero)) t s r op1 op2 h = refl
third_byte (suc (suc (suc zero))) t s r op1 op2 h = refl
third_byte (suc (suc (suc (suc zero)))) t s r op1 op2 h = refl
third_byte (suc (suc (suc (suc (suc zero))))) t s r op1 op2 h = refl
third_byte (suc (suc (suc (suc (suc (suc k)))))) t s r op1 op2 h = absurd (omega arith)

unspelled : (k t s r op1 op2 : ℕ) → k < 2 → spelled_insn (record { op0 = 14 + k; t = t; s = s; r = r; op1 = op1; op2 = op2 }) ≡ None
unfolding spelled_insn all_rows
unspelled zero t s r op1 op2 h = refl
unspelled (suc zero) t s r op1 op2 h = refl
unspelled (suc (suc k)) t s r op1 op2 h = absurd (omega arith)

-- major opcodes 14 and 15 spell nothing
pub spelled_below : (w : Fields) (i : Insn) → w.op0 < 16 → spelled_insn w ≡ Some i → w.op0 < 14
spelled_below w i h e =
    elim (cases_lt w.op0 14) [
      | inl p ↦ p
      | inr q ↦
          let here : w.op0 ≡ 14 + (w.op0 - 14) = omega arith in
          absurd (none-some i (sym (unspelled (w.op0 - 14) w.t w.s w.r w.op1 w.op2 (omega arith)) ∙ subst (λ n. spelled_insn (record { op0 = n; t = w.t; s = w.s; r = w.r; op1 = w.op1; op2 = w.op2 }) ≡ Some i) here e))
    ]
