-- Rows whose operands are known in each bit: what they use is known, and so is what they write.
use Rattle.std.proofs.Common.{◌≡◌, ℕ, ◌+◌, ◌-◌, ◌*◌, ◌/◌, ◌%◌, ◌^◌, ◌<◌, ◌≤◌, ℤ, Bool, true, false, ◌&&◌, cond, eqb, ltb, subst, ⊎_elim, refl, ap, ◌∙◌, arith}
use Rattle.std.specs.Prelude.{bit_and, bit_or}
use Rattle.std.proofs.lemmas.Bool.{cases_lt, cond-true, eq-eqb, lt-ltb, or_right}
use Rattle.std.proofs.lemmas.Nat.{and_comm, and_le_l, or_lt, pow_pos, shr_le}
use Rattle.std.proofs.lemmas.Nat.Bits.{same_from_bits, bit_at_and, bit_at_or, bit_at-lt, bit_at_above, bit_at_ones}
use Rattle.std.proofs.Math.Nat.{mod-le, pow-le-pow_right}
use Rattle.xt_isa.specs.declared.Insn.{Insn}
use Rattle.xt_isa.specs.declared.Insn.TheVariants as insn
use Rattle.xt_isa.specs.declared.three.Three.{Three}
use Rattle.xt_isa.specs.declared.three.Three.TheVariants as three
use Rattle.xt_isa.specs.declared.three.BitwiseName.TheVariants as BitwiseName
use Rattle.xt_isa.specs.declared.three.SumName.TheVariants as SumName
use Rattle.xt_isa.specs.declared.three.DifferenceName.TheVariants as DifferenceName
use Rattle.xt_isa.specs.declared.shift.Shift.{Shift}
use Rattle.xt_isa.specs.declared.shift.Shift.TheVariants as shift
use Rattle.xt_isa.specs.declared.shift.SignName.TheVariants as SignName
use Rattle.xt_isa.specs.declared.shift.ShiftRightName.TheVariants as ShiftRightName
use Rattle.xt_isa.specs.declared.shift.SignedName.TheVariants as SignedName
use Rattle.xt_isa.specs.declared.memory.Memory.{Memory}
use Rattle.xt_isa.specs.declared.memory.Memory.TheVariants as memory
use Rattle.xt_isa.specs.declared.memory.HalfName.TheVariants as HalfName
use Rattle.xt_isa.specs.declared.system.System.{System}
use Rattle.xt_isa.specs.declared.system.System.TheVariants as system
use Rattle.xt_isa.specs.declared.system.LevelName.TheVariants as LevelName
use Rattle.xt_isa.specs.declared.system.SpecialName.TheVariants as SpecialName
use Rattle.xt_isa.specs.declared.system.UserName.TheVariants as UserName
use Rattle.xt_isa.specs.declared.density.Density.{Density}
use Rattle.xt_isa.specs.declared.density.Density.TheVariants as density
use Rattle.xt_isa.specs.declared.boolean.Boolean.{Boolean}
use Rattle.xt_isa.specs.declared.boolean.Boolean.TheVariants as boolean
use Rattle.xt_isa.specs.declared.three.MoveName.TheVariants as MoveName
use Rattle.xt_isa.specs.declared.memory.ByteName.TheVariants as ByteName
use Rattle.xt_isa.specs.declared.memory.WordName.TheVariants as WordName
use Rattle.xt_isa.specs.declared.memory.WindowName.TheVariants as WindowName
use Rattle.xt_isa.specs.declared.control.Control.{Control}
use Rattle.xt_isa.specs.declared.control.Control.TheVariants as control
use Rattle.xt_isa.specs.declared.control.ZeroName.TheVariants as ZeroName
use Rattle.xt_isa.specs.declared.control.BranchName.TheVariants as BranchName
use Rattle.xt_isa.specs.declared.control.OppositeName.TheVariants as OppositeName
use Rattle.xt_isa.specs.declared.density.NarrowName.TheVariants as NarrowName
use Rattle.xt_map.specs.Regions.{uart_transmit}
use Rattle.xt_frames.specs.Marks.{holds_marks}
use Rattle.xt_word.specs.Arithmetic.{sext}
use Rattle.xt_word.specs.Shifts.{src, srl, sra, sll, slli, srai, srli, extui}
use Rattle.xt_word.specs.Signed.{signed}
use Rattle.xt_rows.specs.Numbers.{natural, loaded_value, plus}
use Rattle.xt_uses.specs.Disciplines.{Lenient, is_strict}
use Rattle.xt_uses.specs.declared.discipline.Discipline.{Discipline}
use Rattle.xt_uses.specs.Words.{all_bits, and_mask, and_word, masked, complement, is_whole, knows, moved_mask, not_word, ones, or_mask, whole_word, zeros}
use Rattle.xt_uses.specs.Used.{bit_number, control_used, counted_bits, density_used, holds_owb, memory_used, shift_used, store_used, system_used, tested_known, three_used, used_are_known}
use Rattle.xt_uses.specs.Known.{add_mask, boolean_mask, density_mask, loaded_mask, memory_mask, result_mask, scaled_mask, scaled_sum, shift_mask, sum_mask, system_mask, three_mask}
use Rattle.xt_uses.proofs.Sums.{below_whole}

-- ---- with all bits
pub and_all : (n : ℕ) → n < 2 ^ 32 → bit_and n all_bits ≡ n
and_all n h = same_from_bits (bit_and n all_bits) n (λ i. ⊎_elim
    (λ low. let o = bit_at_ones 32 i low in let e = bit_at_and n all_bits i in omega (arith, bit_at-lt n i))
    (λ high. let z = bit_at_above n 32 i h high in let e = bit_at_and n all_bits i in omega arith)
    (cases_lt i 32))

or_all : (n : ℕ) → n < 2 ^ 32 → bit_or all_bits n ≡ all_bits
or_all n h = same_from_bits (bit_or all_bits n) all_bits (λ i. ⊎_elim
    (λ low. let o = bit_at_ones 32 i low in let e = bit_at_or all_bits n i in omega (arith, bit_at-lt n i))
    (λ high. let z = bit_at_above n 32 i h high in let e = bit_at_or all_bits n i in omega arith)
    (cases_lt i 32))

below_all : (n : ℕ) → bit_and n all_bits ≤ all_bits
below_all n = subst (λ m. m ≤ all_bits) (and_comm all_bits n) (and_le_l all_bits n)

low_and : (n : ℕ) → bit_and n all_bits < 2 ^ 32
low_and n = omega (arith, below_all n)

zeros_low : (a : ℕ) → zeros (whole_word a) < 2 ^ 32
zeros_low a = low_and (complement a)

pub and_whole : (a b : ℕ) → and_mask (whole_word a) (whole_word b) ≡ all_bits
and_whole a b = or_all (bit_or (zeros (whole_word a)) (zeros (whole_word b))) (or_lt 32 (zeros (whole_word a)) (zeros (whole_word b)) (zeros_low a) (zeros_low b))

or_whole : (a b : ℕ) → or_mask (whole_word a) (whole_word b) ≡ all_bits
or_whole a b = or_all (bit_or (ones (whole_word a)) (ones (whole_word b))) (or_lt 32 (ones (whole_word a)) (ones (whole_word b)) (low_and a) (low_and b))

pub knows_whole : (bits a : ℕ) → bits < 2 ^ 32 → knows bits (whole_word a) ≡ true
knows_whole bits a h = eq-eqb (masked all_bits bits) bits (and_all bits h)

whole_test : (a : ℕ) → is_whole (whole_word a) ≡ true
whole_test a = refl

-- ---- moved bits
moved_all : (move : ℕ → ℕ) → move 0 ≡ 0 → moved_mask move all_bits ≡ all_bits
moved_all move e = ap (λ (n : ℕ). complement n) e

none_over : (n : ℕ) → 0 / 2 ^ n ≡ 0
none_over n = let l = shr_le 0 n in omega (arith, l)

none_left : (n : ℕ) → 0 % 2 ^ n ≡ 0
none_left n = let l = mod-le 0 (2 ^ n) in omega (arith, l)

src_none : (n : ℕ) → src 0 0 n ≡ 0
unfolding src
src_none n = let d = none_over n in let m = mod-le (0 / 2 ^ n) (2 ^ 32) in omega (arith, d, m)

srl_none : (n : ℕ) → srl 0 n ≡ 0
unfolding srl
srl_none n = let d = none_over n in let m = mod-le (0 / 2 ^ n) (2 ^ 32) in omega (arith, d, m)

sra_none : (n : ℕ) → sra 0 n ≡ 0
unfolding sra
sra_none n = none_over n

sll_none : (n : ℕ) → sll 0 n ≡ 0
unfolding sll
sll_none n = let d = none_over n in let m = mod-le (0 / 2 ^ n) (2 ^ 32) in omega (arith, d, m)

slli_none : (n : ℕ) → slli 0 n ≡ 0
unfolding slli
slli_none n = let m = mod-le (0 * 2 ^ n) (2 ^ 32) in omega (arith, m)

srai_none : (n : ℕ) → srai 0 n ≡ 0
unfolding srai
srai_none n = none_over n

srli_none : (n : ℕ) → srli 0 n ≡ 0
unfolding srli
srli_none n = none_over n

extui_none : (n w : ℕ) → extui 0 n w ≡ 0
unfolding extui
extui_none n w = let d = none_over n in let m = mod-le (0 / 2 ^ n) (2 ^ w) in omega (arith, d, m)

sext_none : (b : ℕ) → sext 0 b ≡ 0
unfolding sext
sext_none b = let z = none_left (b + 1) in ap (λ (r : ℕ). cond (ltb r (2 ^ (b + 1 - 1))) r (r + (2 ^ 32 - 2 ^ (b + 1)))) z ∙ cond-true (ltb 0 (2 ^ (b + 1 - 1))) 0 (0 + (2 ^ 32 - 2 ^ (b + 1))) (lt-ltb 0 (2 ^ (b + 1 - 1)) (pow_pos (b + 1 - 1)))

extended_none : (signed : Bool) → loaded_value signed 0 ≡ 0
unfolding loaded_value
extended_none true = refl
extended_none false = refl

-- ---- sums
scaled_whole : (k a b : ℕ) → scaled_sum k (whole_word a) (whole_word b) ≡ all_bits
scaled_whole k a b = ap (λ (n : ℕ). sum_mask (complement n) all_bits) (slli_none k) ∙ below_whole

add_whole : (s t a b : ℕ) → add_mask s t (whole_word a) (whole_word b) ≡ all_bits
add_whole s t a b = by_test (eqb s t)
  where
    by_test : (p : Bool) → cond p (scaled_mask 1 all_bits) (sum_mask all_bits all_bits) ≡ all_bits
    by_test true = ap (λ (n : ℕ). complement n) (slli_none 1)
    by_test false = below_whole

-- ---- masks
three_whole : (i : Three) (a b sar : ℕ) → three_mask i (whole_word a) (whole_word b) sar ≡ all_bits
unfolding three_mask
three_whole (three.Bitwise BitwiseName.And r s t) a b sar = and_whole a b
three_whole (three.Bitwise BitwiseName.Or r s t) a b sar = or_whole a b
three_whole (three.Bitwise BitwiseName.Xor r s t) a b sar = refl
three_whole (three.Sum SumName.Add r s t) a b sar = add_whole s t a b
three_whole (three.Sum SumName.Addx2 r s t) a b sar = scaled_whole 1 a b
three_whole (three.Sum SumName.Addx4 r s t) a b sar = scaled_whole 2 a b
three_whole (three.Sum SumName.Addx8 r s t) a b sar = scaled_whole 3 a b
three_whole (three.Difference DifferenceName.Sub r s t) a b sar = below_whole
three_whole (three.Difference DifferenceName.Subx2 r s t) a b sar = scaled_whole 1 a b
three_whole (three.Difference DifferenceName.Subx4 r s t) a b sar = scaled_whole 2 a b
three_whole (three.Difference DifferenceName.Subx8 r s t) a b sar = scaled_whole 3 a b
three_whole (three.Mul16 name r s t) a b sar = below_whole
three_whole (three.Mull r s t) a b sar = below_whole
three_whole (three.Src r s t) a b sar = ap (λ (n : ℕ). complement n) (src_none sar)
three_whole (three.Move name r s t) a b sar = refl
three_whole _ a b sar = refl

shift_whole : (i : Shift) (a sar : ℕ) → shift_mask i (whole_word a) sar ≡ all_bits
unfolding shift_mask
shift_whole (shift.Sign SignName.Neg r t) a sar = below_whole
shift_whole (shift.ShiftRight ShiftRightName.Srl r t) a sar = ap (λ (n : ℕ). complement n) (srl_none sar)
shift_whole (shift.ShiftRight ShiftRightName.Sra r t) a sar = ap (λ (n : ℕ). complement n) (sra_none sar)
shift_whole (shift.Sll r s) a sar = ap (λ (n : ℕ). complement n) (sll_none sar)
shift_whole (shift.Slli r s n) a sar = ap (λ (n : ℕ). complement n) (slli_none (natural n))
shift_whole (shift.Srai r t n) a sar = ap (λ (n : ℕ). complement n) (srai_none (natural n))
shift_whole (shift.Srli r t n) a sar = ap (λ (n : ℕ). complement n) (srli_none (natural n))
shift_whole (shift.Extui r t n width) a sar = ap (λ (n : ℕ). complement n) (extui_none (natural n) (natural width))
shift_whole (shift.Signed SignedName.Sext r s b) a sar = ap (λ (n : ℕ). complement n) (sext_none (natural b))
shift_whole _ a sar = refl

loaded_whole : (signed : Bool) → loaded_mask signed all_bits ≡ all_bits
loaded_whole signed = ap (λ (n : ℕ). complement n) (extended_none signed)

memory_whole : (i : Memory) (a : ℕ) → memory_mask i (whole_word a) all_bits ≡ all_bits
unfolding memory_mask
memory_whole (memory.Half HalfName.L16si t s offset) a = loaded_whole true
memory_whole (memory.Movi t n) a = refl
memory_whole (memory.Addi t s n) a = below_whole
memory_whole (memory.Addmi t s n) a = below_whole
memory_whole _ a = loaded_whole false

system_whole : (i : System) (c : ℕ) → system_mask Lenient i (whole_word c) all_bits ≡ all_bits
unfolding system_mask
system_whole (system.Level LevelName.Rsil t level) c = refl
system_whole (system.Special SpecialName.Rsr t n) c = refl
system_whole (system.Special SpecialName.Xsr t n) c = refl
system_whole (system.User UserName.Rur r n) c = refl
system_whole _ c = refl

density_whole : (i : Density) (a b : ℕ) → density_mask i (whole_word a) (whole_word b) all_bits ≡ all_bits
unfolding density_mask
density_whole (density.Word name t s offset) a b = loaded_whole false
density_whole (density.Add r s t) a b = add_whole s t a b
density_whole (density.Addi r s n) a b = below_whole
density_whole _ a b = refl

boolean_whole : (i : Boolean) (a : ℕ) → boolean_mask i (whole_word a) ≡ all_bits
unfolding boolean_mask
boolean_whole (boolean.Choice name r s t) a = refl
boolean_whole _ a = refl

pub result_whole : (i : Insn) (a b c : ℕ) → result_mask Lenient i (whole_word a) (whole_word b) (whole_word c) all_bits all_bits ≡ all_bits
unfolding result_mask
result_whole (insn.Three i) a b c = three_whole i a b c
result_whole (insn.Shift i) a b c = shift_whole i a c
result_whole (insn.Memory i) a b c = memory_whole i a
result_whole (insn.Control i) a b c = refl
result_whole (insn.System i) a b c = system_whole i c
result_whole (insn.Density i) a b c = density_whole i a b
result_whole (insn.Boolean i) a b c = boolean_whole i a

-- ---- uses
bit_small : (n : ℕ) → bit_number n < 2 ^ 32
bit_small n =
    let low : n % 32 ≤ 31 = omega arith in
    let h : 2 ^ (n % 32) ≤ 2 ^ 31 = pow-le-pow_right (omega arith) low in
    omega arith

either_true : (b : Bool) → cond b true true ≡ true
either_true true = refl
either_true false = refl

store_whole : (a b : ℕ) (offset : ℤ) → store_used (whole_word a) (whole_word b) offset ≡ true
store_whole a b offset = either_true (eqb (plus a offset) uart_transmit)

test_whole : (a b : ℕ) → tested_known (whole_word a) (whole_word b) ≡ true
test_whole a b = knows_whole (bit_number b) a (bit_small b)

both_test : (a b : ℕ) → is_whole (and_word (whole_word a) (whole_word b)) ≡ true
both_test a b = ap (λ (m : ℕ). eqb (masked m all_bits) all_bits) (and_whole a b)

not_test : (a b : ℕ) → is_whole (and_word (not_word (whole_word a)) (whole_word b)) ≡ true
not_test a b = both_test (zeros (whole_word a)) b

three_used_whole : (i : Three) (a b : ℕ) → three_used i (whole_word a) (whole_word b) ≡ true
unfolding three_used
three_used_whole (three.Divide name r s t) a b = refl
three_used_whole (three.Move MoveName.Moveqz r s t) a b = refl
three_used_whole (three.Move MoveName.Movnez r s t) a b = refl
three_used_whole (three.Move MoveName.Movltz r s t) a b = refl
three_used_whole (three.Move MoveName.Movgez r s t) a b = refl
three_used_whole _ a b = refl

shift_used_whole : (i : Shift) (a : ℕ) → shift_used i (whole_word a) ≡ true
unfolding shift_used
shift_used_whole (shift.Amount name s) a = refl
shift_used_whole (shift.ByteAmount name s) a = refl
shift_used_whole (shift.Movsp t s) a = refl
shift_used_whole _ a = refl

memory_used_whole : (i : Memory) (a b : ℕ) → memory_used i (whole_word a) (whole_word b) ≡ true
unfolding memory_used
memory_used_whole (memory.Byte ByteName.L8ui t s offset) a b = refl
memory_used_whole (memory.Byte ByteName.S8i t s offset) a b = store_whole a b offset
memory_used_whole (memory.Half HalfName.L16ui t s offset) a b = refl
memory_used_whole (memory.Half HalfName.L16si t s offset) a b = refl
memory_used_whole (memory.Half HalfName.S16i t s offset) a b = store_whole a b offset
memory_used_whole (memory.Word WordName.L32i t s offset) a b = refl
memory_used_whole (memory.Word WordName.S32i t s offset) a b = store_whole a b offset
memory_used_whole (memory.Word WordName.L32ai t s offset) a b = refl
memory_used_whole (memory.Word WordName.S32ri t s offset) a b = store_whole a b offset
memory_used_whole (memory.S32c1i t s offset) a b = refl
memory_used_whole (memory.Window WindowName.L32e t s offset) a b = refl
memory_used_whole (memory.Window WindowName.S32e t s offset) a b = store_whole a b offset
memory_used_whole _ a b = refl

control_used_whole : (i : Control) (a b : ℕ) → control_used i (whole_word a) (whole_word b) ≡ true
unfolding control_used
control_used_whole (control.BranchZero ZeroName.Beqz s offset) a b = refl
control_used_whole (control.BranchZero ZeroName.Bnez s offset) a b = refl
control_used_whole (control.BranchZero ZeroName.Bltz s offset) a b = refl
control_used_whole (control.BranchZero ZeroName.Bgez s offset) a b = refl
control_used_whole (control.Branch BranchName.Bnone s t offset) a b = both_test a b
control_used_whole (control.Branch BranchName.Ball s t offset) a b = not_test a b
control_used_whole (control.Branch BranchName.Bbc s t offset) a b = test_whole a b
control_used_whole (control.Branch BranchName.Beq s t offset) a b = refl
control_used_whole (control.Branch BranchName.Blt s t offset) a b = refl
control_used_whole (control.Branch BranchName.Bltu s t offset) a b = refl
control_used_whole (control.BranchNot OppositeName.Bany s t offset) a b = both_test a b
control_used_whole (control.BranchNot OppositeName.Bnall s t offset) a b = not_test a b
control_used_whole (control.BranchNot OppositeName.Bbs s t offset) a b = test_whole a b
control_used_whole (control.BranchNot OppositeName.Bne s t offset) a b = refl
control_used_whole (control.BranchNot OppositeName.Bge s t offset) a b = refl
control_used_whole (control.BranchNot OppositeName.Bgeu s t offset) a b = refl
control_used_whole (control.BranchBit name s k offset) a b = knows_whole (bit_number (natural k)) a (bit_small (natural k))
control_used_whole _ a b = refl

counted_whole : (by : Discipline) (n a : ℕ) → knows (counted_bits by n) (whole_word a) ≡ true
counted_whole by n a = by_test (holds_owb n && is_strict by)
  where
    by_test : (b : Bool) → knows (cond b 0xFFFFF0FF all_bits) (whole_word a) ≡ true
    by_test true = refl
    by_test false = refl

system_used_whole : (by : Discipline) (i : System) (a : ℕ) → system_used by i (whole_word a) ≡ true
unfolding system_used
system_used_whole by (system.Special SpecialName.Wsr t n) a = or_right (holds_marks n) _ (counted_whole by n a)
system_used_whole by (system.Special SpecialName.Xsr t n) a = or_right (holds_marks n) _ (counted_whole by n a)
system_used_whole by _ a = refl

density_used_whole : (i : Density) (a b : ℕ) → density_used i (whole_word a) (whole_word b) ≡ true
unfolding density_used
density_used_whole (density.Word NarrowName.L32i t s offset) a b = refl
density_used_whole (density.Word NarrowName.S32i t s offset) a b = store_whole a b offset
density_used_whole (density.BranchZero name s offset) a b = refl
density_used_whole (density.Bare name) a b = refl
density_used_whole _ a b = refl

pub used_whole : (by : Discipline) (i : Insn) (a b : ℕ) → used_are_known by i (whole_word a) (whole_word b) ≡ true
unfolding used_are_known
used_whole by (insn.Three i) a b = three_used_whole i a b
used_whole by (insn.Shift i) a b = shift_used_whole i a
used_whole by (insn.Memory i) a b = memory_used_whole i a b
used_whole by (insn.Control i) a b = control_used_whole i a b
used_whole by (insn.System i) a b = system_used_whole by i a
used_whole by (insn.Density i) a b = density_used_whole i a b
used_whole by (insn.Boolean i) a b = refl
