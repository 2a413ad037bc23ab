-- The bytes that fields make have these fields again.
use Rattle.std.proofs.Common.{◌≡◌, ℕ, ◌<◌, ◌≤◌, ◌+◌, ◌*◌, ◌/◌, ◌%◌, arith, ap, ◌∙◌, Some}
use Rattle.std.proofs.lemmas.Bool.Decides.{nat_tests}
use Rattle.xt_isa.specs.declared.Insn.{Insn}
use Rattle.xt_isa.specs.declared.Fields.{Fields}
use Rattle.xt_isa.specs.Spelling.{spelled_insn, fields_at, length_of}
use Rattle.xt_isa.specs.Ranges.{AreNibbles}
use Rattle.xt_isa.proofs.ThirdByte.{spelled_below}
use Rattle.xt_codec.specs.declared.Decoded.TheVariants.{Good}
use Rattle.xt_codec.specs.DecoderAnswers.{answer}

low : (a b : ℕ) → a < 16 → (a + 16 * b) % 16 ≡ a
low a b h = omega arith

high : (a b : ℕ) → a < 16 → (a + 16 * b) / 16 ≡ b
high a b h = omega arith

again : (op0 t s r op1 op2 : ℕ) → op0 < 16 → s < 16 → op1 < 16 → fields_at (op0 + 16 * t) (s + 16 * r) (op1 + 16 * op2) ≡ record { op0 = op0; t = t; s = s; r = r; op1 = op1; op2 = op2 }
again op0 t s r op1 op2 p q x =
    let a = low op0 t p in
    let b = high op0 t p in
    let c = low s r q in
    let d = high s r q in
    let e = low op1 op2 x in
    let f = high op1 op2 x in
    cc

wide_length : (b0 : ℕ) → b0 % 16 < 8 → length_of b0 ≡ 3
wide_length b0 h = grind (arith, nat_tests)

narrow_length : (b0 : ℕ) → 8 ≤ b0 % 16 → b0 % 16 < 14 → length_of b0 ≡ 2
narrow_length b0 h g = grind (arith, nat_tests)

spelled_again : (i : Insn) (w : Fields) → AreNibbles w → spelled_insn w ≡ Some i → spelled_insn (fields_at (w.op0 + 16 * w.t) (w.s + 16 * w.r) (w.op1 + 16 * w.op2)) ≡ Some i
spelled_again i w n e = ap spelled_insn (again w.op0 w.t w.s w.r w.op1 w.op2 n.0 n.2 n.4) ∙ e

pub answered_wide : (i : Insn) (w : Fields) → AreNibbles w → spelled_insn w ≡ Some i → w.op0 < 8 → answer (w.op0 + 16 * w.t) (spelled_insn (fields_at (w.op0 + 16 * w.t) (w.s + 16 * w.r) (w.op1 + 16 * w.op2))) ≡ Good i 3
answered_wide i w n e h =
    ap (answer (w.op0 + 16 * w.t)) (spelled_again i w n e) ∙ ap (Good i) (wide_length (w.op0 + 16 * w.t) (omega arith))

pub answered_narrow : (i : Insn) (w : Fields) → AreNibbles w → spelled_insn w ≡ Some i → 8 ≤ w.op0 → answer (w.op0 + 16 * w.t) (spelled_insn (fields_at (w.op0 + 16 * w.t) (w.s + 16 * w.r) (w.op1 + 16 * w.op2))) ≡ Good i 2
answered_narrow i w n e h =
    let below = spelled_below w i n.0 e in
    ap (answer (w.op0 + 16 * w.t)) (spelled_again i w n e) ∙ ap (Good i) (narrow_length (w.op0 + 16 * w.t) (omega arith) (omega arith))
