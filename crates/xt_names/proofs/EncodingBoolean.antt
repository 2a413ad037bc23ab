-- The rows of Boolean registers, each inverted and of its length.
use Rattle.std.proofs.Common.{◌≡◌, ℕ, ◌%◌, cond, eqb, Some, None, refl}
use Rattle.xt_isa.specs.declared.Insn.TheVariants as insn
use Rattle.xt_isa.specs.declared.Fields.{Fields}
use Rattle.xt_isa.specs.declared.boolean.Boolean.TheVariants as boolean
use Rattle.xt_isa.specs.declared.boolean.FourName.TheVariants as FourName
use Rattle.xt_isa.specs.declared.boolean.EightName.TheVariants as EightName
use Rattle.xt_isa.specs.Ranges.{AreNibbles}
use Rattle.xt_isa.specs.Apart.{AllRows}
use Rattle.xt_isa.specs.Spelling.{boolean_rows, imm8, signed}
use Rattle.xt_isa.proofs.RowByRow.{◌▸◌}
use Rattle.xt_names.specs.Encodings.{IsPadded}
use Rattle.xt_names.proofs.EncodingWords.{of_s8, unsigned}
use Rattle.xt_names.proofs.EncodingControl.{near}
use Rattle.xt_names.proofs.EncodingParts.{GivesBack, IsEncoded, Matches, digit0, full, guarded, rest1, word_is, sized}
use Rattle.xt_names.proofs.EncodingFormats.{all_three, in_ts}

any4 : (w : Fields) → AreNibbles w → IsPadded w → Matches 0xFFF00F 0x008000 w → GivesBack w (cond (eqb (w.s % 4) 0) (Some (insn.Boolean (boolean.Four FourName.Any4 w.t w.s))) None)
any4 w n p m = guarded (eqb (w.s % 4) 0) (insn.Boolean (boolean.Four FourName.Any4 w.t w.s)) w (λ h. in_ts w n p m)

all4 : (w : Fields) → AreNibbles w → IsPadded w → Matches 0xFFF00F 0x009000 w → GivesBack w (cond (eqb (w.s % 4) 0) (Some (insn.Boolean (boolean.Four FourName.All4 w.t w.s))) None)
all4 w n p m = guarded (eqb (w.s % 4) 0) (insn.Boolean (boolean.Four FourName.All4 w.t w.s)) w (λ h. in_ts w n p m)

any8 : (w : Fields) → AreNibbles w → IsPadded w → Matches 0xFFF00F 0x00A000 w → GivesBack w (cond (eqb (w.s % 8) 0) (Some (insn.Boolean (boolean.Eight EightName.Any8 w.t w.s))) None)
any8 w n p m = guarded (eqb (w.s % 8) 0) (insn.Boolean (boolean.Eight EightName.Any8 w.t w.s)) w (λ h. in_ts w n p m)

all8 : (w : Fields) → AreNibbles w → IsPadded w → Matches 0xFFF00F 0x00B000 w → GivesBack w (cond (eqb (w.s % 8) 0) (Some (insn.Boolean (boolean.Eight EightName.All8 w.t w.s))) None)
all8 w n p m = guarded (eqb (w.s % 8) 0) (insn.Boolean (boolean.Eight EightName.All8 w.t w.s)) w (λ h. in_ts w n p m)

test : {v : ℕ} (w : Fields) → AreNibbles w → IsPadded w → Matches 0x00F0FF v w → of_s8 v w.s (unsigned 128 (signed 128 (imm8 w))) ≡ w
test w n p m =
    word_is w (full _ _ n.0 m.at0) (full _ _ n.1 m.at1) refl (full _ _ n.3 m.at3) (digit0 _ w.op1 w.op2 n.4 (near w n)) (rest1 _ w.op1 w.op2 n.4 (near w n))

pub boolean_encoded : AllRows IsEncoded boolean_rows
boolean_encoded =
    (all_three, λ w. refl) ▸  -- ANDB
    (all_three, λ w. refl) ▸  -- ANDBC
    (all_three, λ w. refl) ▸  -- ORB
    (all_three, λ w. refl) ▸  -- ORBC
    (all_three, λ w. refl) ▸  -- XORB
    (any4, λ w. sized (eqb (w.s % 4) 0) (insn.Boolean (boolean.Four FourName.Any4 w.t w.s)) 3 refl) ▸  -- ANY4
    (all4, λ w. sized (eqb (w.s % 4) 0) (insn.Boolean (boolean.Four FourName.All4 w.t w.s)) 3 refl) ▸  -- ALL4
    (any8, λ w. sized (eqb (w.s % 8) 0) (insn.Boolean (boolean.Eight EightName.Any8 w.t w.s)) 3 refl) ▸  -- ANY8
    (all8, λ w. sized (eqb (w.s % 8) 0) (insn.Boolean (boolean.Eight EightName.All8 w.t w.s)) 3 refl) ▸  -- ALL8
    (test, λ w. refl) ▸  -- BF
    (test, λ w. refl) ▸  -- BT
    (all_three, λ w. refl) ▸  -- MOVF
    (all_three, λ w. refl) ▸  -- MOVT
    tt
