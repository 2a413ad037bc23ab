-- The rows of three registers agree.
use Rattle.std.proofs.Common.{◌≡◌, ℕ, ◌^◌, ◌<◌, true, Some, refl, sym, ap}
use Rattle.std.specs.Prelude.{bit_and, bit_or, bit_xor, min, max}
use Rattle.xt_isa.specs.declared.Insn.TheVariants as insn
use Rattle.xt_isa.specs.declared.three.Three.{Three}
use Rattle.xt_isa.specs.declared.three.Three.TheVariants as three
use Rattle.xt_isa.specs.declared.three.BitwiseName.TheVariants as BitwiseName
use Rattle.xt_isa.specs.declared.three.SumName.TheVariants as SumName
use Rattle.xt_isa.specs.declared.three.DifferenceName.TheVariants as DifferenceName
use Rattle.xt_isa.specs.declared.three.Mul16Name.TheVariants as Mul16Name
use Rattle.xt_isa.specs.declared.three.MulHighName.TheVariants as MulHighName
use Rattle.xt_isa.specs.declared.three.DivideName.TheVariants as DivideName
use Rattle.xt_isa.specs.declared.three.MinMaxName.TheVariants as MinMaxName
use Rattle.xt_isa.specs.declared.three.MoveName.TheVariants as MoveName
use Rattle.xt_word.specs.Arithmetic.{addx, subx, mul16u, mul16s, mull, muluh, mulsh, quou, quos, remu, rems, signed_min, signed_max}
use Rattle.xt_word.specs.Shifts.{src}
use Rattle.xt_word.specs.Conditions.{holds}
use Rattle.xt_word.specs.declared.conditions.Cond.TheVariants as cond
use Rattle.xt_special.specs.declared.ps.Ps.{Ps}
use Rattle.xt_rows.specs.Effects.{no_change}
use Rattle.xt_rows.specs.Kinds.{moved_to}
use Rattle.xt_rows.specs.Operands.{three_reads}
use Rattle.xt_rows.specs.Outcomes.{three_outcome}
use Rattle.xt_uses.specs.declared.discipline.Discipline.{Discipline}
use Rattle.xt_uses.specs.Words.{Word, Fits}
use Rattle.xt_uses.specs.Used.{three_used}
use Rattle.xt_uses.specs.Known.{three_mask}
use Rattle.xt_uses.specs.UseLaws.{AgreeIn, RowMasks, OutcomesAgree}
use Rattle.xt_uses.proofs.Agreed.{puts_agree, moves_agree, divides_agree}
use Rattle.xt_uses.proofs.RowsPairs.{src_agrees}
use Rattle.xt_uses.proofs.RowsUsed.{sign_known, not_sign_known}
use Rattle.xt_uses.proofs.Wholes.{whole_value, fits_agree, where_second, and_agrees, or_agrees, xor_agrees}
use Rattle.xt_uses.proofs.Sums.{add_agrees, addx_agrees, sub_agrees, subx_agrees, mull_agrees}
use Rattle.xt_uses.proofs.Halves.{mul16u_agrees, mul16s_agrees}

module _ (by : Discipline) (x y u : ℕ) (a b : Word) (f : Fits x a) (g : Fits y b) (h : x < 2 ^ 32) (l : y < 2 ^ 32) (v : a.value < 2 ^ 32) (w : b.value < 2 ^ 32) (m : a.mask < 2 ^ 32) (n : b.mask < 2 ^ 32) (ps : Ps) (t k : ℕ) (given pointer stored : ℕ) (p : AgreeIn pointer t k) where
  abbrev masks : Three → RowMasks
  masks i = record { result = three_mask i a b u; given = given; pointer = pointer; stored = stored }

  pub three_agrees : (i : Three) → three_used i a b ≡ true → ((three_reads i).0 ≡ (three_reads i).1 → (x ≡ y) × (a ≡ b)) → OutcomesAgree by (insn.Three i) (masks i) (three_outcome i x y u (no_change ps t)) (three_outcome i a.value b.value u (no_change ps k))
  unfolding three_outcome three_mask three_used moved_to
  three_agrees (three.Bitwise BitwiseName.And r s q) used same = puts_agree by (insn.Three (three.Bitwise BitwiseName.And r s q)) (masks (three.Bitwise BitwiseName.And r s q)) ps t k p refl r (bit_and x y) (bit_and a.value b.value) (and_agrees x y a b f g h l)
  three_agrees (three.Bitwise BitwiseName.Or r s q) used same = puts_agree by (insn.Three (three.Bitwise BitwiseName.Or r s q)) (masks (three.Bitwise BitwiseName.Or r s q)) ps t k p refl r (bit_or x y) (bit_or a.value b.value) (or_agrees x y a b f g h l)
  three_agrees (three.Bitwise BitwiseName.Xor r s q) used same = puts_agree by (insn.Three (three.Bitwise BitwiseName.Xor r s q)) (masks (three.Bitwise BitwiseName.Xor r s q)) ps t k p refl r (bit_xor x y) (bit_xor a.value b.value) (xor_agrees x y a b f g h l)
  three_agrees (three.Sum SumName.Add r s q) used same = puts_agree by (insn.Three (three.Sum SumName.Add r s q)) (masks (three.Sum SumName.Add r s q)) ps t k p refl r (addx x y 0) (addx a.value b.value 0) (add_agrees x y a b f g h l m s q (λ e. same (ap (λ n. Some n) e)))
  three_agrees (three.Sum SumName.Addx2 r s q) used same = puts_agree by (insn.Three (three.Sum SumName.Addx2 r s q)) (masks (three.Sum SumName.Addx2 r s q)) ps t k p refl r (addx x y 1) (addx a.value b.value 1) (addx_agrees x y a b f g h l m 1)
  three_agrees (three.Sum SumName.Addx4 r s q) used same = puts_agree by (insn.Three (three.Sum SumName.Addx4 r s q)) (masks (three.Sum SumName.Addx4 r s q)) ps t k p refl r (addx x y 2) (addx a.value b.value 2) (addx_agrees x y a b f g h l m 2)
  three_agrees (three.Sum SumName.Addx8 r s q) used same = puts_agree by (insn.Three (three.Sum SumName.Addx8 r s q)) (masks (three.Sum SumName.Addx8 r s q)) ps t k p refl r (addx x y 3) (addx a.value b.value 3) (addx_agrees x y a b f g h l m 3)
  three_agrees (three.Difference DifferenceName.Sub r s q) used same = puts_agree by (insn.Three (three.Difference DifferenceName.Sub r s q)) (masks (three.Difference DifferenceName.Sub r s q)) ps t k p refl r (subx x y 0) (subx a.value b.value 0) (sub_agrees x y a b f g h l m)
  three_agrees (three.Difference DifferenceName.Subx2 r s q) used same = puts_agree by (insn.Three (three.Difference DifferenceName.Subx2 r s q)) (masks (three.Difference DifferenceName.Subx2 r s q)) ps t k p refl r (subx x y 1) (subx a.value b.value 1) (subx_agrees x y a b f g h l m 1)
  three_agrees (three.Difference DifferenceName.Subx4 r s q) used same = puts_agree by (insn.Three (three.Difference DifferenceName.Subx4 r s q)) (masks (three.Difference DifferenceName.Subx4 r s q)) ps t k p refl r (subx x y 2) (subx a.value b.value 2) (subx_agrees x y a b f g h l m 2)
  three_agrees (three.Difference DifferenceName.Subx8 r s q) used same = puts_agree by (insn.Three (three.Difference DifferenceName.Subx8 r s q)) (masks (three.Difference DifferenceName.Subx8 r s q)) ps t k p refl r (subx x y 3) (subx a.value b.value 3) (subx_agrees x y a b f g h l m 3)
  three_agrees (three.Src r s q) used same = puts_agree by (insn.Three (three.Src r s q)) (masks (three.Src r s q)) ps t k p refl r (src x y u) (src a.value b.value u) (src_agrees x y u a b (fits_agree x a f) (fits_agree y b g) h l v w m n)
  three_agrees (three.Mul16 Mul16Name.Mul16u r s q) used same = puts_agree by (insn.Three (three.Mul16 Mul16Name.Mul16u r s q)) (masks (three.Mul16 Mul16Name.Mul16u r s q)) ps t k p refl r (mul16u x y) (mul16u a.value b.value) (mul16u_agrees x y a b f g m)
  three_agrees (three.Mul16 Mul16Name.Mul16s r s q) used same = puts_agree by (insn.Three (three.Mul16 Mul16Name.Mul16s r s q)) (masks (three.Mul16 Mul16Name.Mul16s r s q)) ps t k p refl r (mul16s x y) (mul16s a.value b.value) (mul16s_agrees x y a b f g m)
  three_agrees (three.Mull r s q) used same = puts_agree by (insn.Three (three.Mull r s q)) (masks (three.Mull r s q)) ps t k p refl r (mull x y) (mull a.value b.value) (mull_agrees x y a b f g h l m)
  three_agrees (three.MulHigh MulHighName.Muluh r s q) used same = puts_agree by (insn.Three (three.MulHigh MulHighName.Muluh r s q)) (masks (three.MulHigh MulHighName.Muluh r s q)) ps t k p refl r (muluh x y) (muluh a.value b.value) (where_second x y a b f g h l (λ m n. muluh m n))
  three_agrees (three.MulHigh MulHighName.Mulsh r s q) used same = puts_agree by (insn.Three (three.MulHigh MulHighName.Mulsh r s q)) (masks (three.MulHigh MulHighName.Mulsh r s q)) ps t k p refl r (mulsh x y) (mulsh a.value b.value) (where_second x y a b f g h l (λ m n. mulsh m n))
  three_agrees (three.Divide DivideName.Quou r s q) used same = divides_agree by (insn.Three (three.Divide DivideName.Quou r s q)) (masks (three.Divide DivideName.Quou r s q)) ps t k p refl y b.value (sym (whole_value y b g l used)) r (quou x y) (quou a.value b.value) (where_second x y a b f g h l (λ m n. quou m n))
  three_agrees (three.Divide DivideName.Quos r s q) used same = divides_agree by (insn.Three (three.Divide DivideName.Quos r s q)) (masks (three.Divide DivideName.Quos r s q)) ps t k p refl y b.value (sym (whole_value y b g l used)) r (quos x y) (quos a.value b.value) (where_second x y a b f g h l (λ m n. quos m n))
  three_agrees (three.Divide DivideName.Remu r s q) used same = divides_agree by (insn.Three (three.Divide DivideName.Remu r s q)) (masks (three.Divide DivideName.Remu r s q)) ps t k p refl y b.value (sym (whole_value y b g l used)) r (remu x y) (remu a.value b.value) (where_second x y a b f g h l (λ m n. remu m n))
  three_agrees (three.Divide DivideName.Rems r s q) used same = divides_agree by (insn.Three (three.Divide DivideName.Rems r s q)) (masks (three.Divide DivideName.Rems r s q)) ps t k p refl y b.value (sym (whole_value y b g l used)) r (rems x y) (rems a.value b.value) (where_second x y a b f g h l (λ m n. rems m n))
  three_agrees (three.MinMax MinMaxName.Min r s q) used same = puts_agree by (insn.Three (three.MinMax MinMaxName.Min r s q)) (masks (three.MinMax MinMaxName.Min r s q)) ps t k p refl r (signed_min x y) (signed_min a.value b.value) (where_second x y a b f g h l (λ m n. signed_min m n))
  three_agrees (three.MinMax MinMaxName.Max r s q) used same = puts_agree by (insn.Three (three.MinMax MinMaxName.Max r s q)) (masks (three.MinMax MinMaxName.Max r s q)) ps t k p refl r (signed_max x y) (signed_max a.value b.value) (where_second x y a b f g h l (λ m n. signed_max m n))
  three_agrees (three.MinMax MinMaxName.Minu r s q) used same = puts_agree by (insn.Three (three.MinMax MinMaxName.Minu r s q)) (masks (three.MinMax MinMaxName.Minu r s q)) ps t k p refl r (min x y) (min a.value b.value) (where_second x y a b f g h l (λ m n. min m n))
  three_agrees (three.MinMax MinMaxName.Maxu r s q) used same = puts_agree by (insn.Three (three.MinMax MinMaxName.Maxu r s q)) (masks (three.MinMax MinMaxName.Maxu r s q)) ps t k p refl r (max x y) (max a.value b.value) (where_second x y a b f g h l (λ m n. max m n))
  three_agrees (three.Move MoveName.Moveqz r s q) used same = moves_agree by (insn.Three (three.Move MoveName.Moveqz r s q)) (masks (three.Move MoveName.Moveqz r s q)) ps t k p refl (holds cond.Eq y 0) (holds cond.Eq b.value 0) (ap (λ z. holds cond.Eq z 0) (sym (whole_value y b g l used))) r x a.value (fits_agree x a f)
  three_agrees (three.Move MoveName.Movnez r s q) used same = moves_agree by (insn.Three (three.Move MoveName.Movnez r s q)) (masks (three.Move MoveName.Movnez r s q)) ps t k p refl (holds cond.Ne y 0) (holds cond.Ne b.value 0) (ap (λ z. holds cond.Ne z 0) (sym (whole_value y b g l used))) r x a.value (fits_agree x a f)
  three_agrees (three.Move MoveName.Movltz r s q) used same = moves_agree by (insn.Three (three.Move MoveName.Movltz r s q)) (masks (three.Move MoveName.Movltz r s q)) ps t k p refl (holds cond.Lt y 0) (holds cond.Lt b.value 0) (sign_known y b g l w used) r x a.value (fits_agree x a f)
  three_agrees (three.Move MoveName.Movgez r s q) used same = moves_agree by (insn.Three (three.Move MoveName.Movgez r s q)) (masks (three.Move MoveName.Movgez r s q)) ps t k p refl (holds cond.Ge y 0) (holds cond.Ge b.value 0) (not_sign_known y b g l w used) r x a.value (fits_agree x a f)
