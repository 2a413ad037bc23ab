-- All rows agree.
use Rattle.std.proofs.Common.{◌≡◌, ℕ, true, eqb, refl, ap, subst}
use Rattle.std.specs.Prelude.{bit_and}
use Rattle.xt_isa.specs.declared.Insn.TheVariants as insn
use Rattle.xt_isa.specs.declared.three.Three.{Three}
use Rattle.xt_isa.specs.declared.three.Three.TheVariants as three
use Rattle.xt_isa.specs.declared.shift.Shift.{Shift}
use Rattle.xt_isa.specs.declared.shift.Shift.TheVariants as shift
use Rattle.xt_isa.specs.declared.memory.Memory.{Memory}
use Rattle.xt_isa.specs.declared.memory.Memory.TheVariants as memory
use Rattle.xt_rows.specs.Operands.{reads, special_reads}
use Rattle.xt_rows.specs.Effects.{no_change}
use Rattle.xt_rows.specs.Outcomes.{outcome, three_outcome, shift_outcome, memory_outcome, boolean_outcome}
use Rattle.xt_uses.specs.declared.discipline.Discipline.{Discipline}
use Rattle.xt_uses.specs.Words.{Word, Fits, all_bits, is_whole, masked}
use Rattle.xt_uses.specs.Used.{used_are_known}
use Rattle.xt_uses.specs.Known.{result_mask}
use Rattle.xt_uses.specs.UseLaws.{IsKnownNumber, SpecialFits, OutcomesAgree, RowsAgree, masks_of_row, pointer_mask}
use Rattle.xt_uses.proofs.Agreeing.{cut_agrees}
use Rattle.xt_uses.proofs.Wholes.{whole_value, value_word}
use Rattle.xt_uses.proofs.ThreeRows.{three_agrees}
use Rattle.xt_uses.proofs.RowsShift.{shift_agrees}
use Rattle.xt_uses.proofs.RowsMemory.{memory_agrees}
use Rattle.xt_uses.proofs.RowsControl.{control_agrees}
use Rattle.xt_uses.proofs.RowsSystem.{system_agrees}
use Rattle.xt_uses.proofs.RowsDensity.{density_agrees}
use Rattle.xt_uses.proofs.RowsBoolean.{boolean_agrees}

mask_whole : (c : Word) → c.mask ≡ all_bits → is_whole c ≡ true
mask_whole c e = ap (λ m. eqb (bit_and all_bits m) all_bits) e

-- ---- the special register of the other tables is known
three_special : (by : Discipline) (i : Three) (u : ℕ) (c : Word) → SpecialFits (special_reads (insn.Three i)).0 u c → IsKnownNumber by (special_reads (insn.Three i)).0 c → Fits u c × (is_whole c ≡ true)
unfolding special_reads
three_special by (three.Bitwise name r s q) u c fits known = (fits, known)
three_special by (three.Sum name r s q) u c fits known = (fits, known)
three_special by (three.Difference name r s q) u c fits known = (fits, known)
three_special by (three.Src r s q) u c fits known = (fits.0 refl, mask_whole c (known refl))
three_special by (three.Mul16 name r s q) u c fits known = (fits, known)
three_special by (three.Mull r s q) u c fits known = (fits, known)
three_special by (three.MulHigh name r s q) u c fits known = (fits, known)
three_special by (three.Divide name r s q) u c fits known = (fits, known)
three_special by (three.MinMax name r s q) u c fits known = (fits, known)
three_special by (three.Move name r s q) u c fits known = (fits, known)

shift_special : (by : Discipline) (i : Shift) (u : ℕ) (c : Word) → SpecialFits (special_reads (insn.Shift i)).0 u c → IsKnownNumber by (special_reads (insn.Shift i)).0 c → Fits u c × (is_whole c ≡ true)
unfolding special_reads
shift_special by (shift.Sign name r q) u c fits known = (fits, known)
shift_special by (shift.ShiftRight name r q) u c fits known = (fits.0 refl, mask_whole c (known refl))
shift_special by (shift.Sll r s) u c fits known = (fits.0 refl, mask_whole c (known refl))
shift_special by (shift.Slli r s n) u c fits known = (fits, known)
shift_special by (shift.Srai r q n) u c fits known = (fits, known)
shift_special by (shift.Srli r q n) u c fits known = (fits, known)
shift_special by (shift.Extui r q n width) u c fits known = (fits, known)
shift_special by (shift.Signed name r s b) u c fits known = (fits, known)
shift_special by (shift.Normalize name q s) u c fits known = (fits, known)
shift_special by (shift.Movsp q s) u c fits known = (fits, known)
shift_special by (shift.Amount name s) u c fits known = (fits, known)
shift_special by (shift.ByteAmount name s) u c fits known = (fits, known)
shift_special by (shift.Ssai n) u c fits known = (fits, known)

memory_special : (by : Discipline) (i : Memory) (u : ℕ) (c : Word) → SpecialFits (special_reads (insn.Memory i)).0 u c → IsKnownNumber by (special_reads (insn.Memory i)).0 c → Fits u c × (is_whole c ≡ true)
unfolding special_reads
memory_special by (memory.Byte name q s offset) u c fits known = (fits, known)
memory_special by (memory.Half name q s offset) u c fits known = (fits, known)
memory_special by (memory.Word name q s offset) u c fits known = (fits, known)
memory_special by (memory.S32c1i q s offset) u c fits known = (fits.0 refl, mask_whole c (known refl))
memory_special by (memory.Window name q s offset) u c fits known = (fits, known)
memory_special by (memory.L32r q offset) u c fits known = (fits, known)
memory_special by (memory.Movi q n) u c fits known = (fits, known)
memory_special by (memory.Addi q s n) u c fits known = (fits, known)
memory_special by (memory.Addmi q s n) u c fits known = (fits, known)

pub all_agree : RowsAgree
unfolding outcome result_mask used_are_known pointer_mask special_reads reads
all_agree by code (insn.Three i) pc x y u v w ps t pointer a b c given row =
    subst (λ z. OutcomesAgree by (insn.Three i) (masks_of_row by (insn.Three i) a b c pointer) (three_outcome i x y z (no_change ps t)) (three_outcome i a.value b.value c.value (no_change ps (masked pointer t))))
    (let s = three_special by i u c row.special row.number in whole_value u c s.0 given.u_word s.1)
    (three_agrees by x y c.value a b row.first row.second given.x_word given.y_word (value_word x a row.first given.x_word) (value_word y b row.second given.y_word) row.first_mask row.second_mask
    ps t (masked pointer t) a.mask pointer b.mask (cut_agrees pointer t) i row.used row.same)
all_agree by code (insn.Shift i) pc x y u v w ps t pointer a b c given row =
    subst (λ z. OutcomesAgree by (insn.Shift i) (masks_of_row by (insn.Shift i) a b c pointer) (shift_outcome i x z (no_change ps t)) (shift_outcome i a.value c.value (no_change ps (masked pointer t))))
    (let s = shift_special by i u c row.special row.number in whole_value u c s.0 given.u_word s.1)
    (shift_agrees by x c.value a row.first given.x_word row.first_mask ps t (masked pointer t) a.mask pointer b.mask (cut_agrees pointer t) i given.range row.used)
all_agree by code (insn.Memory i) pc x y u v w ps t pointer a b c given row =
    subst (λ z. OutcomesAgree by (insn.Memory i) (masks_of_row by (insn.Memory i) a b c pointer) (memory_outcome code i pc x y z (no_change ps t)) (memory_outcome code i pc a.value b.value c.value (no_change ps (masked pointer t))))
    (let s = memory_special by i u c row.special row.number in whole_value u c s.0 given.u_word s.1)
    (memory_agrees by pc x y c.value a b row.first row.second given.x_word given.y_word ps t (masked pointer t) a.mask pointer (cut_agrees pointer t) code i row.first_mask row.used)
all_agree by code (insn.Control i) pc x y u v w ps t pointer a b c given row =
    control_agrees by pc x y a b row.first row.second given.x_word given.y_word ps t (masked pointer t) a.mask pointer b.mask (cut_agrees pointer t) i row.used
all_agree by code (insn.System i) pc x y u v w ps t pointer a b c given row =
    system_agrees by x u v w a c row.first given.x_word given.u_word ps t (masked pointer t) pointer b.mask (cut_agrees pointer t) i given.range row.special row.other row.number row.used
all_agree by code (insn.Density i) pc x y u v w ps t pointer a b c given row =
    density_agrees by pc x y a b row.first row.second given.x_word given.y_word ps t (masked pointer t) a.mask pointer (cut_agrees pointer t) code i row.first_mask row.used row.same
all_agree by code (insn.Boolean i) pc x y u v w ps t pointer a b c given row =
    subst (λ z. OutcomesAgree by (insn.Boolean i) (masks_of_row by (insn.Boolean i) a b c pointer) (boolean_outcome i pc x z (no_change ps t)) (boolean_outcome i pc a.value c.value (no_change ps (masked pointer t))))
    (whole_value u c (row.special.0 refl) given.u_word (mask_whole c (row.number refl)))
    (boolean_agrees by pc x c.value a row.first ps t (masked pointer t) a.mask pointer b.mask (cut_agrees pointer t) i)
