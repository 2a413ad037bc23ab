-- A word that spells an instruction has the instruction's length.
use Rattle.std.proofs.Common.{◌≡◌, ◌<◌, ◌%◌, Bool, true, false, ◌&&◌, eqb, List, [], ◌∷◌, Option, Some, refl, sym, ap, ◌∙◌, arith, bit_and}
use Rattle.std.proofs.lemmas.Bool.{eqb-true, and_parts}
use Rattle.std.proofs.lemmas.Option.{none-some}
use Rattle.std.proofs.lemmas.Grind.{numeral_and}
use Rattle.xt_isa.specs.declared.Insn.{Insn}
use Rattle.xt_isa.specs.declared.Fields.{Fields}
use Rattle.xt_isa.specs.Apart.{AllRows, HasItsLength}
use Rattle.xt_isa.specs.Spelling.{Row, all_rows, fits, length_of, nibble, spell, spelled_insn}
use Rattle.xt_isa.proofs.ApartRows.{agrees_all}
use Rattle.xt_isa.proofs.WholeWord.{rows_have_their_length}
use Rattle.xt_names.specs.Insns.{insn_size}
use Rattle.xt_names.specs.Lengths.{HasLength}
use Rattle.xt_names.proofs.EncodingParts.{IsEncoded, is_sized}
use Rattle.xt_names.proofs.Encoding.{all_encoded}

abbrev have_opcode : List Row → Bool
have_opcode [] = true
have_opcode (row ∷ rows) = eqb (nibble row.mask 0) 15 && have_opcode rows

opcodes : have_opcode all_rows ≡ true
unfolding all_rows
opcodes = refl

-- the major opcode of a word is that of the row which it fits
opcode : (row : Row) (w : Fields) → w.op0 < 16 → nibble row.mask 0 ≡ 15 → fits row w ≡ true → w.op0 ≡ row.value % 16
opcode row w small mask h =
    let agrees : bit_and (nibble row.mask 0) w.op0 ≡ nibble row.value 0 = eqb-true _ _ (agrees_all row w h).at0 in
    let kept : bit_and 15 w.op0 ≡ w.op0 % 16 = numeral_and 14 w.op0 refl in
    let same : bit_and 15 w.op0 ≡ nibble row.value 0 = ap (λ m. bit_and m w.op0) (sym mask) ∙ agrees in
    omega (arith, kept, same)

of_row : (row : Row) (w : Fields) (i : Insn) → w.op0 < 16 → nibble row.mask 0 ≡ 15 → HasItsLength row → IsEncoded row → fits row w ≡ true → row.operands w ≡ Some i → length_of w.op0 ≡ insn_size i
of_row row w i small mask long sized h e =
    ap length_of (opcode row w small mask h) ∙ (sym long ∙ sym (eqb-true (insn_size i) row.len (sym (ap (is_sized row.len) e) ∙ sized.1 w)))

either : {P : Type 0} (b : Bool) (x y : Option Insn) (i : Insn) → (b ≡ true → x ≡ Some i → P) → (y ≡ Some i → P) → elim b [ true ↦ x | false ↦ y ] ≡ Some i → P
either true x y i here later e = here refl e
either false x y i here later e = later e

of_rows : (rows : List Row) → have_opcode rows ≡ true → AllRows HasItsLength rows → AllRows IsEncoded rows → (w : Fields) (i : Insn) → w.op0 < 16 → spell rows w ≡ Some i → length_of w.op0 ≡ insn_size i
of_rows [] masks long sized w i small e = absurd (none-some i e)
of_rows (row ∷ rows) masks long sized w i small e =
    let parts = and_parts (eqb (nibble row.mask 0) 15) (have_opcode rows) masks in
    either (fits row w) (row.operands w) (spell rows w) i
    (λ h x. of_row row w i small (eqb-true _ _ parts.0) long.0 sized.0 h x)
    (λ x. of_rows rows parts.1 long.1 sized.1 w i small x) e

-- every word that spells an instruction has its length
pub words_have_length : (i : Insn) → HasLength i (insn_size i)
unfolding spelled_insn
words_have_length i w n e = of_rows all_rows opcodes rows_have_their_length all_encoded w i n.0 e
