-- The rows of shifts, and of one source, agree.
use Rattle.std.proofs.Common.{◌≡◌, ℕ, ◌+◌, ◌-◌, ◌*◌, ◌^◌, ◌<◌, ◌≤◌, ℤ, pos, negsuc, true, leb, refl, sym, ap, arith}
use Rattle.std.proofs.lemmas.Bool.{and_parts, leb-true}
use Rattle.xt_isa.specs.declared.Insn.TheVariants as insn
use Rattle.xt_isa.specs.declared.shift.Shift.{Shift}
use Rattle.xt_isa.specs.declared.shift.Shift.TheVariants as shift
use Rattle.xt_isa.specs.declared.shift.SignName.TheVariants as SignName
use Rattle.xt_isa.specs.declared.shift.ShiftRightName.TheVariants as ShiftRightName
use Rattle.xt_isa.specs.declared.shift.SignedName.TheVariants as SignedName
use Rattle.xt_isa.specs.declared.shift.NormalizeName.TheVariants as NormalizeName
use Rattle.xt_isa.specs.declared.shift.AmountName.TheVariants as AmountName
use Rattle.xt_isa.specs.declared.shift.ByteAmountName.TheVariants as ByteAmountName
use Rattle.xt_isa.specs.Ranges.{in_range, two_registers, natural_within}
use Rattle.xt_word.specs.Arithmetic.{neg, abs, sext, clamps, nsa, nsau}
use Rattle.xt_word.specs.Shifts.{srl, sra, sll, slli, srai, srli, extui, ssr, ssl, ssa8l, ssa8b}
use Rattle.xt_special.specs.declared.ps.Ps.{Ps}
use Rattle.xt_rows.specs.declared.outcome.WindowStep.TheVariants.{MovesStack}
use Rattle.xt_rows.specs.declared.outcome.Outcome.TheVariants.{Windowed}
use Rattle.xt_rows.specs.Numbers.{natural}
use Rattle.xt_rows.specs.Effects.{no_change}
use Rattle.xt_rows.specs.Kinds.{moved_to}
use Rattle.xt_rows.specs.Outcomes.{shift_outcome}
use Rattle.xt_uses.specs.declared.discipline.Discipline.{Discipline}
use Rattle.xt_uses.specs.Words.{Word, Fits, moved_mask}
use Rattle.xt_uses.specs.Used.{shift_used}
use Rattle.xt_uses.specs.Known.{shift_mask}
use Rattle.xt_uses.specs.UseLaws.{AgreeIn, RowMasks, OutcomesAgree}
use Rattle.xt_uses.proofs.Agreeing.{IsMove, moved_agrees}
use Rattle.xt_uses.proofs.Moves.{divides, fields, times, extends}
use Rattle.xt_uses.proofs.Wholes.{whole_value, value_word, fits_agree, where_first}
use Rattle.xt_uses.proofs.Agreed.{puts_agree, sets_agree}
use Rattle.xt_uses.proofs.RowsPairs.{srl_moves, sll_moves}
use Rattle.xt_uses.proofs.RowsSigned.{sra_moves, srai_moves}
use Rattle.xt_uses.proofs.RowsUsed.{low_known}
use Rattle.xt_uses.proofs.Sums.{neg_agrees}

-- ---- the other shifts, and the extension, move bits
pub slli_moves : (k : ℕ) → IsMove (λ n. slli n k)
unfolding slli
slli_moves k = times k

pub srli_moves : (k : ℕ) → IsMove (λ n. srli n k)
unfolding srli
srli_moves k = divides k

pub extui_moves : (k w : ℕ) → IsMove (λ n. extui n k w)
unfolding extui
extui_moves k w = fields k w

pub sext_moves : (b : ℕ) → b ≤ 22 → IsMove (λ n. sext n b)
unfolding sext
sext_moves b h = extends (b + 1) (omega arith) (omega arith)

pub sign_number : (b : ℤ) → natural_within 7 22 b ≡ true → natural b ≤ 22
unfolding natural_within natural
sign_number (pos n) h = leb-true n 22 (and_parts (leb 7 n) (leb n 22) h).1
sign_number (negsuc n) h = omega arith

-- ---- rows
module _ (by : Discipline) (x u : ℕ) (a : Word) (f : Fits x a) (h : x < 2 ^ 32) (m : a.mask < 2 ^ 32) (ps : Ps) (t k : ℕ) (given pointer stored : ℕ) (p : AgreeIn pointer t k) where
  abbrev masks : Shift → RowMasks
  masks i = record { result = shift_mask i a u; given = given; pointer = pointer; stored = stored }

  moved : (move : ℕ → ℕ) → IsMove move → AgreeIn (moved_mask move a.mask) (move x) (move a.value)
  moved move is = moved_agrees move a.mask x a.value m h (value_word x a f h) (fits_agree x a f) is

  pub shift_agrees : (i : Shift) → in_range (insn.Shift i) ≡ true → shift_used i a ≡ true → OutcomesAgree by (insn.Shift i) (masks i) (shift_outcome i x u (no_change ps t)) (shift_outcome i a.value u (no_change ps k))
  unfolding shift_outcome shift_mask shift_used moved_to ssr ssl ssa8l ssa8b
  shift_agrees (shift.Sign SignName.Neg r q) range used = puts_agree by (insn.Shift (shift.Sign SignName.Neg r q)) (masks (shift.Sign SignName.Neg r q)) ps t k p refl r (neg x) (neg a.value) (neg_agrees a.mask m x a.value h (value_word x a f h) (fits_agree x a f))
  shift_agrees (shift.Sign SignName.Abs r q) range used = puts_agree by (insn.Shift (shift.Sign SignName.Abs r q)) (masks (shift.Sign SignName.Abs r q)) ps t k p refl r (abs x) (abs a.value) (where_first x a f h (λ z. abs z))
  shift_agrees (shift.ShiftRight ShiftRightName.Srl r q) range used = puts_agree by (insn.Shift (shift.ShiftRight ShiftRightName.Srl r q)) (masks (shift.ShiftRight ShiftRightName.Srl r q)) ps t k p refl r (srl x u) (srl a.value u) (moved (λ z. srl z u) (srl_moves u))
  shift_agrees (shift.ShiftRight ShiftRightName.Sra r q) range used = puts_agree by (insn.Shift (shift.ShiftRight ShiftRightName.Sra r q)) (masks (shift.ShiftRight ShiftRightName.Sra r q)) ps t k p refl r (sra x u) (sra a.value u) (moved (λ z. sra z u) (sra_moves u))
  shift_agrees (shift.Sll r s) range used = puts_agree by (insn.Shift (shift.Sll r s)) (masks (shift.Sll r s)) ps t k p refl r (sll x u) (sll a.value u) (moved (λ z. sll z u) (sll_moves u))
  shift_agrees (shift.Slli r s n) range used = puts_agree by (insn.Shift (shift.Slli r s n)) (masks (shift.Slli r s n)) ps t k p refl r (slli x (natural n)) (slli a.value (natural n)) (moved (λ z. slli z (natural n)) (slli_moves (natural n)))
  shift_agrees (shift.Srai r q n) range used = puts_agree by (insn.Shift (shift.Srai r q n)) (masks (shift.Srai r q n)) ps t k p refl r (srai x (natural n)) (srai a.value (natural n)) (moved (λ z. srai z (natural n)) (srai_moves (natural n)))
  shift_agrees (shift.Srli r q n) range used = puts_agree by (insn.Shift (shift.Srli r q n)) (masks (shift.Srli r q n)) ps t k p refl r (srli x (natural n)) (srli a.value (natural n)) (moved (λ z. srli z (natural n)) (srli_moves (natural n)))
  shift_agrees (shift.Extui r q n width) range used = puts_agree by (insn.Shift (shift.Extui r q n width)) (masks (shift.Extui r q n width)) ps t k p refl r (extui x (natural n) (natural width)) (extui a.value (natural n) (natural width)) (moved (λ z. extui z (natural n) (natural width)) (extui_moves (natural n) (natural width)))
  shift_agrees (shift.Signed SignedName.Sext r s b) range used =
      puts_agree by (insn.Shift (shift.Signed SignedName.Sext r s b)) (masks (shift.Signed SignedName.Sext r s b)) ps t k p refl r (sext x (natural b)) (sext a.value (natural b))
      (moved (λ z. sext z (natural b)) (sext_moves (natural b) (sign_number b (and_parts (two_registers r s) (natural_within 7 22 b) range).1)))
  shift_agrees (shift.Signed SignedName.Clamps r s b) range used = puts_agree by (insn.Shift (shift.Signed SignedName.Clamps r s b)) (masks (shift.Signed SignedName.Clamps r s b)) ps t k p refl r (clamps x (natural b)) (clamps a.value (natural b)) (where_first x a f h (λ z. clamps z (natural b)))
  shift_agrees (shift.Normalize NormalizeName.Nsa q s) range used = puts_agree by (insn.Shift (shift.Normalize NormalizeName.Nsa q s)) (masks (shift.Normalize NormalizeName.Nsa q s)) ps t k p refl q (nsa x) (nsa a.value) (where_first x a f h (λ z. nsa z))
  shift_agrees (shift.Normalize NormalizeName.Nsau q s) range used = puts_agree by (insn.Shift (shift.Normalize NormalizeName.Nsau q s)) (masks (shift.Normalize NormalizeName.Nsau q s)) ps t k p refl q (nsau x) (nsau a.value) (where_first x a f h (λ z. nsau z))
  shift_agrees (shift.Movsp q s) range used = ap (λ n. Windowed (MovesStack q n)) (sym (whole_value x a f h used))
  shift_agrees (shift.Amount AmountName.Ssr s) range used = sets_agree by (insn.Shift (shift.Amount AmountName.Ssr s)) (masks (shift.Amount AmountName.Ssr s)) ps t k p refl 3 (ssr x) (ssr a.value) (low_known 5 x a f used)
  shift_agrees (shift.Amount AmountName.Ssl s) range used = sets_agree by (insn.Shift (shift.Amount AmountName.Ssl s)) (masks (shift.Amount AmountName.Ssl s)) ps t k p refl 3 (ssl x) (ssl a.value) (ap (λ n. 32 - n) (low_known 5 x a f used))
  shift_agrees (shift.ByteAmount ByteAmountName.Ssa8l s) range used = sets_agree by (insn.Shift (shift.ByteAmount ByteAmountName.Ssa8l s)) (masks (shift.ByteAmount ByteAmountName.Ssa8l s)) ps t k p refl 3 (ssa8l x) (ssa8l a.value) (ap (λ n. 8 * n) (low_known 2 x a f used))
  shift_agrees (shift.ByteAmount ByteAmountName.Ssa8b s) range used = sets_agree by (insn.Shift (shift.ByteAmount ByteAmountName.Ssa8b s)) (masks (shift.ByteAmount ByteAmountName.Ssa8b s)) ps t k p refl 3 (ssa8b x) (ssa8b a.value) (ap (λ n. 32 - 8 * n) (low_known 2 x a f used))
  shift_agrees (shift.Ssai n) range used = sets_agree by (insn.Shift (shift.Ssai n)) (masks (shift.Ssai n)) ps t k p refl 3 (natural n) (natural n) refl
