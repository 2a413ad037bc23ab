-- The rows of shifts and of one source, each inverted and of its length.
use Rattle.std.proofs.Common.{◌≡◌, ℕ, ◌+◌, ◌-◌, ◌%◌, ◌<◌, cond, eqb, not, Some, None, pos, refl, arith}
use Rattle.xt_isa.specs.declared.Insn.TheVariants as insn
use Rattle.xt_isa.specs.declared.Fields.{Fields}
use Rattle.xt_isa.specs.declared.shift.Shift.TheVariants as shift
use Rattle.xt_isa.specs.Ranges.{AreNibbles}
use Rattle.xt_isa.specs.Apart.{AllRows}
use Rattle.xt_isa.specs.Spelling.{five, shift_rows}
use Rattle.xt_isa.proofs.RowByRow.{◌▸◌}
use Rattle.xt_names.specs.Encodings.{IsPadded}
use Rattle.xt_names.proofs.EncodingWords.{amount, extracted, rrr, shifted_s, shifted_t}
use Rattle.xt_names.proofs.EncodingParts.{GivesBack, IsEncoded, Matches, digit0, full, guarded, high_three, rest1, word_is, sized}
use Rattle.xt_names.proofs.EncodingFormats.{all_three, in_rs, in_rt, in_s, in_ts, rrr_is}

left : (w : Fields) (k : ℕ) → AreNibbles w → Matches 0xEF000F 0x010000 w → k ≡ five w.t w.op2 → shifted_t 0x010000 w.r w.s k ≡ w
left w k n m e =
    word_is w (full _ _ n.0 m.at0) (digit0 k w.t (w.op2 % 2) n.1 e) refl refl (full _ _ n.4 m.at4) (high_three w.op2 _ _ n.5 m.at5 (rest1 k w.t (w.op2 % 2) n.1 e))

difference_back : (k : ℕ) → k < 32 → 32 - (32 - k) ≡ k
difference_back k h = omega arith

slli : (w : Fields) → AreNibbles w → IsPadded w → Matches 0xEF000F 0x010000 w → GivesBack w (cond (not (eqb (five w.t w.op2) 0)) (Some (insn.Shift (shift.Slli w.r w.s (pos (32 - five w.t w.op2))))) None)
slli w n p m =
    guarded (not (eqb (five w.t w.op2) 0)) (insn.Shift (shift.Slli w.r w.s (pos (32 - five w.t w.op2)))) w
    (λ h. left w (32 - (32 - five w.t w.op2)) n m (difference_back (five w.t w.op2) (omega arith)))

srai : (w : Fields) → AreNibbles w → IsPadded w → Matches 0xEF000F 0x210000 w → shifted_s 0x210000 w.r w.t (five w.s w.op2) ≡ w
srai w n p m =
    word_is w (full _ _ n.0 m.at0) refl (digit0 _ w.s (w.op2 % 2) n.2 refl) refl (full _ _ n.4 m.at4) (high_three w.op2 _ _ n.5 m.at5 (rest1 _ w.s (w.op2 % 2) n.2 refl))

sum_back : (k : ℕ) → (k + 1 - 1 ≡ k) × (k + 7 - 7 ≡ k)
sum_back k = (omega arith, omega arith)

extui : (w : Fields) → AreNibbles w → IsPadded w → Matches 0x0E000F 0x040000 w → extracted 0x040000 w.r w.t (five w.s w.op1) (w.op2 + 1 - 1) ≡ w
extui w n p m =
    word_is w (full _ _ n.0 m.at0) refl (digit0 _ w.s (w.op1 % 2) n.2 refl) refl (high_three w.op1 _ _ n.4 m.at4 (rest1 _ w.s (w.op1 % 2) n.2 refl)) (sum_back w.op2).0

sext : {v : ℕ} (w : Fields) → AreNibbles w → IsPadded w → Matches 0xFF000F v w → rrr v w.r w.s (w.t + 7 - 7) ≡ w
sext w n p m = rrr_is w n m refl refl (sum_back w.t).1

ssai : (w : Fields) → AreNibbles w → IsPadded w → Matches 0xFFF0EF 0x404000 w → amount 0x404000 (five w.s w.t) ≡ w
ssai w n p m =
    word_is w (full _ _ n.0 m.at0) (high_three w.t _ _ n.1 m.at1 (rest1 _ w.s (w.t % 2) n.2 refl)) (digit0 _ w.s (w.t % 2) n.2 refl) (full _ _ n.3 m.at3) (full _ _ n.4 m.at4) (full _ _ n.5 m.at5)

pub shift_encoded : AllRows IsEncoded shift_rows
shift_encoded =
    (in_rt, λ w. refl) ▸  -- NEG
    (in_rt, λ w. refl) ▸  -- ABS
    (in_rt, λ w. refl) ▸  -- SRL
    (in_rt, λ w. refl) ▸  -- SRA
    (in_rs, λ w. refl) ▸  -- SLL
    (slli, λ w. sized (not (eqb (five w.t w.op2) 0)) (insn.Shift (shift.Slli w.r w.s (pos (32 - five w.t w.op2)))) 3 refl) ▸  -- SLLI
    (srai, λ w. refl) ▸  -- SRAI
    (all_three, λ w. refl) ▸  -- SRLI
    (extui, λ w. refl) ▸  -- EXTUI
    (sext, λ w. refl) ▸  -- SEXT
    (sext, λ w. refl) ▸  -- CLAMPS
    (in_ts, λ w. refl) ▸  -- NSA
    (in_ts, λ w. refl) ▸  -- NSAU
    (in_ts, λ w. refl) ▸  -- MOVSP
    (in_s, λ w. refl) ▸  -- SSR
    (in_s, λ w. refl) ▸  -- SSL
    (in_s, λ w. refl) ▸  -- SSA8L
    (in_s, λ w. refl) ▸  -- SSA8B
    (ssai, λ w. refl) ▸  -- SSAI
    tt
