-- The fields that the encoder fills spell the instruction, if each operand is in its range.
use Rattle.std.proofs.Common.{◌≡◌, ℕ, zero, suc, ◌+◌, ◌-◌, ◌*◌, ◌/◌, ◌%◌, ◌<◌, Bool, true, ◌&&◌, ◌||◌, cond, ltb, eqb, not, Some, None, refl, ap, ◌∙◌, arith, ℤ, pos, ⊎_elim}
use Rattle.std.proofs.lemmas.Bool.{and_from, and_parts, cond-true, cond_both, eqb-true, lt-ltb, ne_eqb, or_cases}
use Rattle.xt_isa.specs.declared.Insn.{Insn}
use Rattle.xt_isa.specs.declared.Insn.TheVariants as insn
use Rattle.xt_isa.specs.declared.Fields.{Fields}
use Rattle.xt_isa.specs.declared.three.Three.{Three}
use Rattle.xt_isa.specs.declared.three.Three.TheVariants as three
use Rattle.xt_isa.specs.declared.shift.Shift.{Shift}
use Rattle.xt_isa.specs.declared.shift.Shift.TheVariants as shift
use Rattle.xt_isa.specs.declared.memory.Memory.{Memory}
use Rattle.xt_isa.specs.declared.memory.Memory.TheVariants as memory
use Rattle.xt_isa.specs.declared.control.Control.{Control}
use Rattle.xt_isa.specs.declared.control.Control.TheVariants as control
use Rattle.xt_isa.specs.declared.system.System.{System}
use Rattle.xt_isa.specs.declared.system.System.TheVariants as system
use Rattle.xt_isa.specs.declared.density.Density.{Density}
use Rattle.xt_isa.specs.declared.density.Density.TheVariants as density
use Rattle.xt_isa.specs.declared.boolean.Boolean.{Boolean}
use Rattle.xt_isa.specs.declared.boolean.Boolean.TheVariants as boolean
use Rattle.xt_isa.specs.declared.three.BitwiseName.TheVariants as BitwiseName
use Rattle.xt_isa.specs.declared.three.SumName.TheVariants as SumName
use Rattle.xt_isa.specs.declared.three.DifferenceName.TheVariants as DifferenceName
use Rattle.xt_isa.specs.declared.three.Mul16Name.TheVariants as Mul16Name
use Rattle.xt_isa.specs.declared.three.MulHighName.TheVariants as MulHighName
use Rattle.xt_isa.specs.declared.three.DivideName.TheVariants as DivideName
use Rattle.xt_isa.specs.declared.three.MinMaxName.TheVariants as MinMaxName
use Rattle.xt_isa.specs.declared.three.MoveName.TheVariants as MoveName
use Rattle.xt_isa.specs.declared.shift.SignName.TheVariants as SignName
use Rattle.xt_isa.specs.declared.shift.ShiftRightName.TheVariants as ShiftRightName
use Rattle.xt_isa.specs.declared.shift.SignedName.TheVariants as SignedName
use Rattle.xt_isa.specs.declared.shift.NormalizeName.TheVariants as NormalizeName
use Rattle.xt_isa.specs.declared.shift.AmountName.TheVariants as AmountName
use Rattle.xt_isa.specs.declared.shift.ByteAmountName.TheVariants as ByteAmountName
use Rattle.xt_isa.specs.declared.memory.ByteName.TheVariants as ByteName
use Rattle.xt_isa.specs.declared.memory.HalfName.TheVariants as HalfName
use Rattle.xt_isa.specs.declared.memory.WordName.TheVariants as WordName
use Rattle.xt_isa.specs.declared.memory.WindowName.TheVariants as WindowName
use Rattle.xt_isa.specs.declared.control.ReturnName.TheVariants as ReturnName
use Rattle.xt_isa.specs.declared.control.CallxName.TheVariants as CallxName
use Rattle.xt_isa.specs.declared.control.ZeroName.TheVariants as ZeroName
use Rattle.xt_isa.specs.declared.control.ConstName.TheVariants as ConstName
use Rattle.xt_isa.specs.declared.control.ConstuName.TheVariants as ConstuName
use Rattle.xt_isa.specs.declared.control.BranchName.TheVariants as BranchName
use Rattle.xt_isa.specs.declared.control.OppositeName.TheVariants as OppositeName
use Rattle.xt_isa.specs.declared.control.BitName.TheVariants as BitName
use Rattle.xt_isa.specs.declared.control.LoopName.TheVariants as LoopName
use Rattle.xt_isa.specs.declared.system.SyncName.TheVariants as SyncName
use Rattle.xt_isa.specs.declared.system.WaitName.TheVariants as WaitName
use Rattle.xt_isa.specs.declared.system.ExceptionReturnName.TheVariants as ExceptionReturnName
use Rattle.xt_isa.specs.declared.system.TrapName.TheVariants as TrapName
use Rattle.xt_isa.specs.declared.system.LevelName.TheVariants as LevelName
use Rattle.xt_isa.specs.declared.system.UserName.TheVariants as UserName
use Rattle.xt_isa.specs.declared.density.NarrowName.TheVariants as NarrowName
use Rattle.xt_isa.specs.declared.density.NarrowZeroName.TheVariants as NarrowZeroName
use Rattle.xt_isa.specs.declared.density.BareName.TheVariants as BareName
use Rattle.xt_isa.specs.declared.boolean.LogicName.TheVariants as LogicName
use Rattle.xt_isa.specs.declared.boolean.FourName.TheVariants as FourName
use Rattle.xt_isa.specs.declared.boolean.EightName.TheVariants as EightName
use Rattle.xt_isa.specs.declared.boolean.TestName.TheVariants as TestName
use Rattle.xt_isa.specs.declared.boolean.ChoiceName.TheVariants as ChoiceName
use Rattle.xt_isa.specs.declared.control.CallName.{CallName}
use Rattle.xt_isa.specs.declared.system.SpecialName.{SpecialName}
use Rattle.xt_isa.specs.Numbers.{interrupt, intclear, prid, threadptr}
use Rattle.xt_isa.specs.Ranges.{AreNibbles, HasSpelling, in_range, one_register, two_registers, natural_within, signed_within, multiple_within, window_within, literal_within, page_within, call_within, is_b4const, is_b4constu, small_within, narrow_within, three_in_range, shift_in_range, memory_in_range, control_in_range, system_in_range, density_in_range, boolean_in_range}
use Rattle.xt_isa.specs.Spelling.{spelled_insn, all_rows, signed, below, b4const, b4constu, minus_one_or, narrow_constant, can_read, can_write, can_exchange}
use Rattle.xt_isa.proofs.Reached.{exchange_small}
use Rattle.xt_codec.specs.Encoding.{bits, five, small, constant, four_bit_fields, fields, rrr, rri8, call, rrrn, fields_from, uncut_fields, three_fields, shift_fields, memory_fields, control_fields, system_fields, density_fields, boolean_fields}
use Rattle.xt_codec.proofs.Digits.{low8, low12, low16, low18}
use Rattle.xt_codec.proofs.EncodedNumbers.{byte, halves, words, frame, narrow_word, four_bits, level, nothing, five_bits, six_bits, left, wide_by, from_seven, near, far, loaded, jump, rotated, page, called, window, literal, narrow_number, small_number, signed_constant, unsigned_constant, one_is, two_are, of_one, of_two, of_three, of_four, of_number, of_one_and, of_two_and, of_one_and_two}

-- ---- Rows that leave some bits of a nibble to a number.
below_two : (P : ℕ → Type 0) → P 0 → P 1 → (n : ℕ) → n < 2 → P n
below_two P a b zero h = a
below_two P a b (suc zero) h = b
below_two P a b (suc (suc n)) h = absurd (omega (arith, h))

below_four : (P : ℕ → Type 0) → P 0 → P 1 → P 2 → P 3 → (n : ℕ) → n < 4 → P n
below_four P a b c d zero h = a
below_four P a b c d (suc zero) h = b
below_four P a b c d (suc (suc zero)) h = c
below_four P a b c d (suc (suc (suc zero))) h = d
below_four P a b c d (suc (suc (suc (suc n)))) h = absurd (omega (arith, h))

below_eight : (P : ℕ → Type 0) → P 0 → P 1 → P 2 → P 3 → P 4 → P 5 → P 6 → P 7 → (n : ℕ) → n < 8 → P n
below_eight P a b c d e f g i zero h = a
below_eight P a b c d e f g i (suc zero) h = b
below_eight P a b c d e f g i (suc (suc zero)) h = c
below_eight P a b c d e f g i (suc (suc (suc zero))) h = d
below_eight P a b c d e f g i (suc (suc (suc (suc zero)))) h = e
below_eight P a b c d e f g i (suc (suc (suc (suc (suc zero))))) h = f
below_eight P a b c d e f g i (suc (suc (suc (suc (suc (suc zero)))))) h = g
below_eight P a b c d e f g i (suc (suc (suc (suc (suc (suc (suc zero))))))) h = i
below_eight P a b c d e f g i (suc (suc (suc (suc (suc (suc (suc (suc n)))))))) h = absurd (omega (arith, h))

less_than : (n k : ℕ) → 0 < k → n % k < k
less_than n k h = omega (arith, h)

slli_row : (r s a q : ℕ) → q < 2 → spelled_insn (four_bit_fields (rrr 1 q r s a)) ≡ cond (not (eqb (a % 16 + 16 * q) 0)) (Some (insn.Shift (shift.Slli (r % 16) (s % 16) (pos (32 - (a % 16 + 16 * q)))))) None
unfolding spelled_insn all_rows
slli_row r s a q h = below_two (λ q. spelled_insn (four_bit_fields (rrr 1 q r s a)) ≡ cond (not (eqb (a % 16 + 16 * q) 0)) (Some (insn.Shift (shift.Slli (r % 16) (s % 16) (pos (32 - (a % 16 + 16 * q)))))) None) refl refl q h

slli : (r s : ℕ) (n : ℤ) → (two_registers r s && natural_within 1 31 n) ≡ true → spelled_insn (four_bit_fields (rrr 1 ((32 - five n) / 16) r s (32 - five n))) ≡ Some (insn.Shift (shift.Slli r s n))
slli r s n h =
    let is = left n (and_parts (two_registers r s) (natural_within 1 31 n) h).1 in
    let a = 32 - five n in
    slli_row r s (32 - five n) ((32 - five n) / 16) (omega (arith, is.1))
    ∙ (cond-true (not (eqb ((32 - five n) % 16 + 16 * ((32 - five n) / 16)) 0)) (Some (insn.Shift (shift.Slli (r % 16) (s % 16) (pos (32 - ((32 - five n) % 16 + 16 * ((32 - five n) / 16))))))) None (ap not (ne_eqb ((32 - five n) % 16 + 16 * ((32 - five n) / 16)) 0 (λ e. omega (arith, e, is.2))))
    ∙ of_two_and (λ r s n. insn.Shift (shift.Slli r s n)) r s (pos (32 - ((32 - five n) % 16 + 16 * ((32 - five n) / 16)))) n (natural_within 1 31 n) h (λ _. is.0))

srai : (r t : ℕ) (n : ℤ) → (two_registers r t && natural_within 0 31 n) ≡ true → spelled_insn (four_bit_fields (rrr 1 (2 + five n / 16) r (five n) t)) ≡ Some (insn.Shift (shift.Srai r t n))
unfolding spelled_insn all_rows
srai r t n h =
    below_two (λ q. spelled_insn (four_bit_fields (rrr 1 (2 + q) r (five n) t)) ≡ Some (insn.Shift (shift.Srai (r % 16) (t % 16) (pos (five n % 16 + 16 * q))))) refl refl (five n / 16) (omega (arith, less_than (bits n) 32 (omega arith)))
    ∙ of_two_and (λ r t n. insn.Shift (shift.Srai r t n)) r t (pos (five n % 16 + 16 * (five n / 16))) n (natural_within 0 31 n) h (five_bits n)

extui : (r t : ℕ) (n m : ℤ) → (two_registers r t && (natural_within 0 31 n && natural_within 1 16 m)) ≡ true → spelled_insn (four_bit_fields (rrr (4 + five n / 16) (five m + 15) r (five n) t)) ≡ Some (insn.Shift (shift.Extui r t n m))
unfolding spelled_insn all_rows
extui r t n m h =
    let parts = and_parts (two_registers r t) (natural_within 0 31 n && natural_within 1 16 m) h in
    let more = and_parts (natural_within 0 31 n) (natural_within 1 16 m) parts.1 in
    below_two (λ q. spelled_insn (four_bit_fields (rrr (4 + q) (five m + 15) r (five n) t)) ≡ Some (insn.Shift (shift.Extui (r % 16) (t % 16) (pos (five n % 16 + 16 * q)) (pos ((five m + 15) % 16 + 1))))) refl refl (five n / 16) (omega (arith, less_than (bits n) 32 (omega arith)))
    ∙ of_four (λ r t n m. insn.Shift (shift.Extui r t n m)) r t _ n _ m parts.0 (five_bits n more.0) (wide_by m more.1)

ssai : (n : ℤ) → natural_within 0 31 n ≡ true → spelled_insn (four_bit_fields (rrr 0 4 4 (five n) (five n / 16))) ≡ Some (insn.Shift (shift.Ssai n))
unfolding spelled_insn all_rows
ssai n h =
    below_two (λ q. spelled_insn (four_bit_fields (rrr 0 4 4 (five n) q)) ≡ Some (insn.Shift (shift.Ssai (pos (five n % 16 + 16 * q))))) refl refl (five n / 16) (omega (arith, less_than (bits n) 32 (omega arith)))
    ∙ of_number (λ n. insn.Shift (shift.Ssai n)) (pos (five n % 16 + 16 * (five n / 16))) n (five_bits n h)

jump_row : (a b c d q : ℕ) → q < 4 → spelled_insn (four_bit_fields (fields 6 a b c d (0 + 4 * q))) ≡ Some (insn.Control (control.J (signed 131072 (q + 4 * (d % 16 + 16 * (c % 16 + 16 * (a % 16 + 16 * (b % 16))))))))
unfolding spelled_insn all_rows
jump_row a b c d q h = below_four (λ q. spelled_insn (four_bit_fields (fields 6 a b c d (0 + 4 * q))) ≡ Some (insn.Control (control.J (signed 131072 (q + 4 * (d % 16 + 16 * (c % 16 + 16 * (a % 16 + 16 * (b % 16))))))))) refl refl refl refl q h

abbrev call_low : CallName → ℕ
call_low CallName.Call0 = 0
call_low CallName.Call4 = 1
call_low CallName.Call8 = 2
call_low CallName.Call12 = 3

call_row : (name : CallName) (a b c d q : ℕ) → q < 4 → spelled_insn (four_bit_fields (fields 5 a b c d (call_low name + 4 * q))) ≡ Some (insn.Control (control.Call name (signed 524288 (4 * (q + 4 * (d % 16 + 16 * (c % 16 + 16 * (a % 16 + 16 * (b % 16)))))))))
unfolding spelled_insn all_rows
call_row CallName.Call0 a b c d q h = below_four (λ q. spelled_insn (four_bit_fields (fields 5 a b c d (0 + 4 * q))) ≡ Some (insn.Control (control.Call CallName.Call0 (signed 524288 (4 * (q + 4 * (d % 16 + 16 * (c % 16 + 16 * (a % 16 + 16 * (b % 16)))))))))) refl refl refl refl q h
call_row CallName.Call4 a b c d q h = below_four (λ q. spelled_insn (four_bit_fields (fields 5 a b c d (1 + 4 * q))) ≡ Some (insn.Control (control.Call CallName.Call4 (signed 524288 (4 * (q + 4 * (d % 16 + 16 * (c % 16 + 16 * (a % 16 + 16 * (b % 16)))))))))) refl refl refl refl q h
call_row CallName.Call8 a b c d q h = below_four (λ q. spelled_insn (four_bit_fields (fields 5 a b c d (2 + 4 * q))) ≡ Some (insn.Control (control.Call CallName.Call8 (signed 524288 (4 * (q + 4 * (d % 16 + 16 * (c % 16 + 16 * (a % 16 + 16 * (b % 16)))))))))) refl refl refl refl q h
call_row CallName.Call12 a b c d q h = below_four (λ q. spelled_insn (four_bit_fields (fields 5 a b c d (3 + 4 * q))) ≡ Some (insn.Control (control.Call CallName.Call12 (signed 524288 (4 * (q + 4 * (d % 16 + 16 * (c % 16 + 16 * (a % 16 + 16 * (b % 16)))))))))) refl refl refl refl q h

call_code : (name : CallName) (n : ℤ) → call_within n ≡ true → spelled_insn (four_bit_fields (call 5 (call_low name) (bits n / 4))) ≡ Some (insn.Control (control.Call name n))
call_code name n h =
    call_row name (bits n / 4 / 1024 % 16) (bits n / 4 / 16384 % 16) (bits n / 4 / 64 % 16) (bits n / 4 / 4 % 16) (bits n / 4 % 4) (less_than (bits n / 4) 4 (omega arith))
    ∙ of_number (λ n. insn.Control (control.Call name n)) (signed 524288 (4 * low18 (bits n / 4))) n (called n h)

jump_code : (n : ℤ) → signed_within 131072 n ≡ true → spelled_insn (four_bit_fields (call 6 0 (bits n))) ≡ Some (insn.Control (control.J n))
jump_code n h =
    jump_row (bits n / 1024 % 16) (bits n / 16384 % 16) (bits n / 64 % 16) (bits n / 4 % 16) (bits n % 4) (less_than (bits n) 4 (omega arith))
    ∙ of_number (λ n. insn.Control (control.J n)) (signed 131072 (low18 (bits n))) n (jump n h)

bbci : (s : ℕ) (b n : ℤ) → (one_register s && (natural_within 0 31 b && signed_within 128 n)) ≡ true → spelled_insn (four_bit_fields (rri8 7 (6 + five b / 16) s (five b) (bits n))) ≡ Some (insn.Control (control.BranchBit BitName.Bbci s b n))
unfolding spelled_insn all_rows
bbci s b n h =
    below_two (λ q. spelled_insn (four_bit_fields (rri8 7 (6 + q) s (five b) (bits n))) ≡ Some (insn.Control (control.BranchBit BitName.Bbci (s % 16) (pos (five b % 16 + 16 * q)) (signed 128 (low8 (bits n)))))) refl refl (five b / 16) (omega (arith, less_than (bits b) 32 (omega arith)))
    ∙ of_one_and_two (λ s b n. insn.Control (control.BranchBit BitName.Bbci s b n)) s (pos (five b % 16 + 16 * (five b / 16))) b (signed 128 (low8 (bits n))) n (natural_within 0 31 b) (signed_within 128 n) h (five_bits b) (near n)

bbsi : (s : ℕ) (b n : ℤ) → (one_register s && (natural_within 0 31 b && signed_within 128 n)) ≡ true → spelled_insn (four_bit_fields (rri8 7 (14 + five b / 16) s (five b) (bits n))) ≡ Some (insn.Control (control.BranchBit BitName.Bbsi s b n))
unfolding spelled_insn all_rows
bbsi s b n h =
    below_two (λ q. spelled_insn (four_bit_fields (rri8 7 (14 + q) s (five b) (bits n))) ≡ Some (insn.Control (control.BranchBit BitName.Bbsi (s % 16) (pos (five b % 16 + 16 * q)) (signed 128 (low8 (bits n)))))) refl refl (five b / 16) (omega (arith, less_than (bits b) 32 (omega arith)))
    ∙ of_one_and_two (λ s b n. insn.Control (control.BranchBit BitName.Bbsi s b n)) s (pos (five b % 16 + 16 * (five b / 16))) b (signed 128 (low8 (bits n))) n (natural_within 0 31 b) (signed_within 128 n) h (five_bits b) (near n)

narrow_movi : (s : ℕ) (n : ℤ) → (one_register s && narrow_within n) ≡ true → spelled_insn (four_bit_fields (rrrn 12 (five n) s (bits n / 16 % 8))) ≡ Some (insn.Density (density.Movi s n))
unfolding spelled_insn all_rows
narrow_movi s n h =
    below_eight (λ q. spelled_insn (four_bit_fields (rrrn 12 (five n) s q)) ≡ Some (insn.Density (density.Movi (s % 16) (narrow_constant (five n % 16 + 16 * q))))) refl refl refl refl refl refl refl refl (bits n / 16 % 8) (less_than (bits n / 16) 8 (omega arith))
    ∙ of_one_and (λ s n. insn.Density (density.Movi s n)) s (narrow_constant (five n % 16 + 16 * (bits n / 16 % 8))) n (narrow_within n) h (narrow_number n)

narrow_beqz : (s : ℕ) (n : ℤ) → (one_register s && natural_within 0 63 n) ≡ true → spelled_insn (four_bit_fields (rrrn 12 (five n) s (8 + bits n / 16 % 4))) ≡ Some (insn.Density (density.BranchZero NarrowZeroName.Beqz s n))
unfolding spelled_insn all_rows
narrow_beqz s n h =
    below_four (λ q. spelled_insn (four_bit_fields (rrrn 12 (five n) s (8 + q))) ≡ Some (insn.Density (density.BranchZero NarrowZeroName.Beqz (s % 16) (pos (five n % 16 + 16 * q))))) refl refl refl refl (bits n / 16 % 4) (less_than (bits n / 16) 4 (omega arith))
    ∙ of_one_and (λ s n. insn.Density (density.BranchZero NarrowZeroName.Beqz s n)) s (pos (five n % 16 + 16 * (bits n / 16 % 4))) n (natural_within 0 63 n) h (six_bits n)

narrow_bnez : (s : ℕ) (n : ℤ) → (one_register s && natural_within 0 63 n) ≡ true → spelled_insn (four_bit_fields (rrrn 12 (five n) s (12 + bits n / 16 % 4))) ≡ Some (insn.Density (density.BranchZero NarrowZeroName.Bnez s n))
unfolding spelled_insn all_rows
narrow_bnez s n h =
    below_four (λ q. spelled_insn (four_bit_fields (rrrn 12 (five n) s (12 + q))) ≡ Some (insn.Density (density.BranchZero NarrowZeroName.Bnez (s % 16) (pos (five n % 16 + 16 * q))))) refl refl refl refl (bits n / 16 % 4) (less_than (bits n / 16) 4 (omega arith))
    ∙ of_one_and (λ s n. insn.Density (density.BranchZero NarrowZeroName.Bnez s n)) s (pos (five n % 16 + 16 * (bits n / 16 % 4))) n (natural_within 0 63 n) h (six_bits n)

-- ---- Rows with a test.
tested : (b : Bool) (i j : Insn) → b ≡ true → Some i ≡ Some j → cond b (Some i) None ≡ Some j
tested b i j h e = cond-true b (Some i) None h ∙ e

rfi : (n : ℤ) → natural_within 2 7 n ≡ true → spelled_insn (four_bit_fields (rrr 0 0 3 (five n) 1)) ≡ Some (insn.System (system.Rfi n))
unfolding spelled_insn all_rows
rfi n h =
    let is = level n h in
    tested (ltb 1 (five n % 16) && ltb (five n % 16) 8) (insn.System (system.Rfi (pos (five n % 16)))) (insn.System (system.Rfi n)) (and_from (ltb 1 (five n % 16)) (ltb (five n % 16) 8) (lt-ltb 1 (five n % 16) is.1) (lt-ltb (five n % 16) 8 is.2))
    (of_number (λ n. insn.System (system.Rfi n)) (pos (five n % 16)) n is.0)

eight_of : (n : ℕ) → n < 256 → n % 16 + 16 * (n / 16 % 16) ≡ n
eight_of n h = omega (arith, h)

-- an instruction of a special register that its access reaches
special_row : (can : ℕ → Bool) (name : SpecialName) (t n : ℕ) → n < 256 → (one_register t && can n) ≡ true → cond (can (n % 16 + 16 * (n / 16 % 16))) (Some (insn.System (system.Special name (t % 16) (n % 16 + 16 * (n / 16 % 16))))) None ≡ Some (insn.System (system.Special name t n))
special_row can name t n small h =
    let parts = and_parts (one_register t) (can n) h in
    let a = one_is t parts.0 in
    let e = eight_of n small in
    tested (can (n % 16 + 16 * (n / 16 % 16))) (insn.System (system.Special name (t % 16) (n % 16 + 16 * (n / 16 % 16)))) (insn.System (system.Special name t n)) (ap can e ∙ parts.1) cc

read_small : (n : ℕ) → can_read n ≡ true → n < 256
unfolding can_read
read_small n h =
    ⊎_elim (λ a. ⊎_elim (λ b. exchange_small n b) (λ e. omega (arith, eqb-true n interrupt e)) (or_cases (can_exchange n) (eqb n interrupt) a)) (λ e. omega (arith, eqb-true n prid e)) (or_cases (can_exchange n || eqb n interrupt) (eqb n prid) h)

write_small : (n : ℕ) → can_write n ≡ true → n < 256
unfolding can_write
write_small n h =
    ⊎_elim (λ a. ⊎_elim (λ b. exchange_small n b) (λ e. omega (arith, eqb-true n interrupt e)) (or_cases (can_exchange n) (eqb n interrupt) a)) (λ e. omega (arith, eqb-true n intclear e)) (or_cases (can_exchange n || eqb n interrupt) (eqb n intclear) h)

rsr : (t n : ℕ) → (one_register t && can_read n) ≡ true → spelled_insn (four_bit_fields (rrr 3 0 (n / 16) n t)) ≡ Some (insn.System (system.Special SpecialName.Rsr t n))
unfolding spelled_insn all_rows
rsr t n h = special_row can_read SpecialName.Rsr t n (read_small n (and_parts (one_register t) (can_read n) h).1) h

wsr : (t n : ℕ) → (one_register t && can_write n) ≡ true → spelled_insn (four_bit_fields (rrr 3 1 (n / 16) n t)) ≡ Some (insn.System (system.Special SpecialName.Wsr t n))
unfolding spelled_insn all_rows
wsr t n h = special_row can_write SpecialName.Wsr t n (write_small n (and_parts (one_register t) (can_write n) h).1) h

xsr : (t n : ℕ) → (one_register t && can_exchange n) ≡ true → spelled_insn (four_bit_fields (rrr 1 6 (n / 16) n t)) ≡ Some (insn.System (system.Special SpecialName.Xsr t n))
unfolding spelled_insn all_rows
xsr t n h = special_row can_exchange SpecialName.Xsr t n (exchange_small n (and_parts (one_register t) (can_exchange n) h).1) h

user : (f : ℕ → ℕ → Insn) (r n : ℕ) → (one_register r && eqb n threadptr) ≡ true → Some (f (r % 16) threadptr) ≡ Some (f r n)
user f r n h =
    let parts = and_parts (one_register r) (eqb n threadptr) h in
    let a = one_is r parts.0 in
    let e = eqb-true n threadptr parts.1 in
    cc

-- a group of Boolean registers whose first is a multiple of k
group : (f : ℕ → ℕ → Insn) (k t s : ℕ) → (two_registers t s && eqb (s % k) 0) ≡ true → cond (eqb (s % 16 % k) 0) (Some (f (t % 16) (s % 16))) None ≡ Some (f t s)
group f k t s h =
    let parts = and_parts (two_registers t s) (eqb (s % k) 0) h in
    let is = two_are t s parts.0 in
    tested (eqb (s % 16 % k) 0) (f (t % 16) (s % 16)) (f t s) (ap (λ s. eqb (s % k) 0) is.1 ∙ parts.1) (of_two f t s parts.0)

break_code : (m n : ℤ) → (natural_within 0 15 m && natural_within 0 15 n) ≡ true → Some (insn.System (system.Trap TrapName.Break (pos (five m % 16)) (pos (five n % 16)))) ≡ Some (insn.System (system.Trap TrapName.Break m n))
break_code m n h =
    let parts = and_parts (natural_within 0 15 m) (natural_within 0 15 n) h in
    let a = four_bits m parts.0 in
    let b = four_bits n parts.1 in
    cc

syscall_code : (m n : ℤ) → (natural_within 0 0 m && natural_within 0 0 n) ≡ true → Some (insn.System (system.Trap TrapName.Syscall (pos 0) (pos 0))) ≡ Some (insn.System (system.Trap TrapName.Syscall m n))
syscall_code m n h =
    let parts = and_parts (natural_within 0 0 m) (natural_within 0 0 n) h in
    let a = nothing m parts.0 in
    let b = nothing n parts.1 in
    cc

waiti_code : (t : ℕ) (n : ℤ) → (eqb t 0 && natural_within 0 15 n) ≡ true → Some (insn.System (system.Level LevelName.Waiti 0 (pos (five n % 16)))) ≡ Some (insn.System (system.Level LevelName.Waiti t n))
waiti_code t n h =
    let parts = and_parts (eqb t 0) (natural_within 0 15 n) h in
    let a = eqb-true t 0 parts.0 in
    let b = four_bits n parts.1 in
    cc

-- ---- Rows, one for each name.
three_code : (i : Three) → three_in_range i ≡ true → spelled_insn (four_bit_fields (three_fields i)) ≡ Some (insn.Three i)
unfolding spelled_insn all_rows
three_code (three.Bitwise BitwiseName.And r s t) h = of_three (λ r s t. insn.Three (three.Bitwise BitwiseName.And r s t)) r s t h
three_code (three.Bitwise BitwiseName.Or r s t) h = of_three (λ r s t. insn.Three (three.Bitwise BitwiseName.Or r s t)) r s t h
three_code (three.Bitwise BitwiseName.Xor r s t) h = of_three (λ r s t. insn.Three (three.Bitwise BitwiseName.Xor r s t)) r s t h
three_code (three.Sum SumName.Add r s t) h = of_three (λ r s t. insn.Three (three.Sum SumName.Add r s t)) r s t h
three_code (three.Sum SumName.Addx2 r s t) h = of_three (λ r s t. insn.Three (three.Sum SumName.Addx2 r s t)) r s t h
three_code (three.Sum SumName.Addx4 r s t) h = of_three (λ r s t. insn.Three (three.Sum SumName.Addx4 r s t)) r s t h
three_code (three.Sum SumName.Addx8 r s t) h = of_three (λ r s t. insn.Three (three.Sum SumName.Addx8 r s t)) r s t h
three_code (three.Difference DifferenceName.Sub r s t) h = of_three (λ r s t. insn.Three (three.Difference DifferenceName.Sub r s t)) r s t h
three_code (three.Difference DifferenceName.Subx2 r s t) h = of_three (λ r s t. insn.Three (three.Difference DifferenceName.Subx2 r s t)) r s t h
three_code (three.Difference DifferenceName.Subx4 r s t) h = of_three (λ r s t. insn.Three (three.Difference DifferenceName.Subx4 r s t)) r s t h
three_code (three.Difference DifferenceName.Subx8 r s t) h = of_three (λ r s t. insn.Three (three.Difference DifferenceName.Subx8 r s t)) r s t h
three_code (three.Src r s t) h = of_three (λ r s t. insn.Three (three.Src r s t)) r s t h
three_code (three.Mul16 Mul16Name.Mul16u r s t) h = of_three (λ r s t. insn.Three (three.Mul16 Mul16Name.Mul16u r s t)) r s t h
three_code (three.Mul16 Mul16Name.Mul16s r s t) h = of_three (λ r s t. insn.Three (three.Mul16 Mul16Name.Mul16s r s t)) r s t h
three_code (three.Mull r s t) h = of_three (λ r s t. insn.Three (three.Mull r s t)) r s t h
three_code (three.MulHigh MulHighName.Muluh r s t) h = of_three (λ r s t. insn.Three (three.MulHigh MulHighName.Muluh r s t)) r s t h
three_code (three.MulHigh MulHighName.Mulsh r s t) h = of_three (λ r s t. insn.Three (three.MulHigh MulHighName.Mulsh r s t)) r s t h
three_code (three.Divide DivideName.Quou r s t) h = of_three (λ r s t. insn.Three (three.Divide DivideName.Quou r s t)) r s t h
three_code (three.Divide DivideName.Quos r s t) h = of_three (λ r s t. insn.Three (three.Divide DivideName.Quos r s t)) r s t h
three_code (three.Divide DivideName.Remu r s t) h = of_three (λ r s t. insn.Three (three.Divide DivideName.Remu r s t)) r s t h
three_code (three.Divide DivideName.Rems r s t) h = of_three (λ r s t. insn.Three (three.Divide DivideName.Rems r s t)) r s t h
three_code (three.MinMax MinMaxName.Min r s t) h = of_three (λ r s t. insn.Three (three.MinMax MinMaxName.Min r s t)) r s t h
three_code (three.MinMax MinMaxName.Max r s t) h = of_three (λ r s t. insn.Three (three.MinMax MinMaxName.Max r s t)) r s t h
three_code (three.MinMax MinMaxName.Minu r s t) h = of_three (λ r s t. insn.Three (three.MinMax MinMaxName.Minu r s t)) r s t h
three_code (three.MinMax MinMaxName.Maxu r s t) h = of_three (λ r s t. insn.Three (three.MinMax MinMaxName.Maxu r s t)) r s t h
three_code (three.Move MoveName.Moveqz r s t) h = of_three (λ r s t. insn.Three (three.Move MoveName.Moveqz r s t)) r s t h
three_code (three.Move MoveName.Movnez r s t) h = of_three (λ r s t. insn.Three (three.Move MoveName.Movnez r s t)) r s t h
three_code (three.Move MoveName.Movltz r s t) h = of_three (λ r s t. insn.Three (three.Move MoveName.Movltz r s t)) r s t h
three_code (three.Move MoveName.Movgez r s t) h = of_three (λ r s t. insn.Three (three.Move MoveName.Movgez r s t)) r s t h

shift_code : (i : Shift) → shift_in_range i ≡ true → spelled_insn (four_bit_fields (shift_fields i)) ≡ Some (insn.Shift i)
unfolding spelled_insn all_rows
shift_code (shift.Sign SignName.Neg r t) h = of_two (λ r t. insn.Shift (shift.Sign SignName.Neg r t)) r t h
shift_code (shift.Sign SignName.Abs r t) h = of_two (λ r t. insn.Shift (shift.Sign SignName.Abs r t)) r t h
shift_code (shift.ShiftRight ShiftRightName.Srl r t) h = of_two (λ r t. insn.Shift (shift.ShiftRight ShiftRightName.Srl r t)) r t h
shift_code (shift.ShiftRight ShiftRightName.Sra r t) h = of_two (λ r t. insn.Shift (shift.ShiftRight ShiftRightName.Sra r t)) r t h
shift_code (shift.Sll r s) h = of_two (λ r s. insn.Shift (shift.Sll r s)) r s h
shift_code (shift.Slli r s n) h = slli r s n h
shift_code (shift.Srai r t n) h = srai r t n h
shift_code (shift.Srli r t n) h = of_two_and (λ r t n. insn.Shift (shift.Srli r t n)) r t (pos (five n % 16)) n (natural_within 0 15 n) h (four_bits n)
shift_code (shift.Extui r t n m) h = extui r t n m h
shift_code (shift.Signed SignedName.Sext r s n) h = of_two_and (λ r s n. insn.Shift (shift.Signed SignedName.Sext r s n)) r s (pos ((five n + 9) % 16 + 7)) n (natural_within 7 22 n) h (from_seven n)
shift_code (shift.Signed SignedName.Clamps r s n) h = of_two_and (λ r s n. insn.Shift (shift.Signed SignedName.Clamps r s n)) r s (pos ((five n + 9) % 16 + 7)) n (natural_within 7 22 n) h (from_seven n)
shift_code (shift.Normalize NormalizeName.Nsa t s) h = of_two (λ t s. insn.Shift (shift.Normalize NormalizeName.Nsa t s)) t s h
shift_code (shift.Normalize NormalizeName.Nsau t s) h = of_two (λ t s. insn.Shift (shift.Normalize NormalizeName.Nsau t s)) t s h
shift_code (shift.Movsp t s) h = of_two (λ t s. insn.Shift (shift.Movsp t s)) t s h
shift_code (shift.Amount AmountName.Ssr s) h = of_one (λ s. insn.Shift (shift.Amount AmountName.Ssr s)) s h
shift_code (shift.Amount AmountName.Ssl s) h = of_one (λ s. insn.Shift (shift.Amount AmountName.Ssl s)) s h
shift_code (shift.ByteAmount ByteAmountName.Ssa8l s) h = of_one (λ s. insn.Shift (shift.ByteAmount ByteAmountName.Ssa8l s)) s h
shift_code (shift.ByteAmount ByteAmountName.Ssa8b s) h = of_one (λ s. insn.Shift (shift.ByteAmount ByteAmountName.Ssa8b s)) s h
shift_code (shift.Ssai n) h = ssai n h

memory_code : (i : Memory) → memory_in_range i ≡ true → spelled_insn (four_bit_fields (memory_fields i)) ≡ Some (insn.Memory i)
unfolding spelled_insn all_rows
memory_code (memory.Byte ByteName.L8ui t s n) h = of_two_and (λ t s n. insn.Memory (memory.Byte ByteName.L8ui t s n)) t s (pos (low8 (bits n))) n (natural_within 0 255 n) h (byte n)
memory_code (memory.Byte ByteName.S8i t s n) h = of_two_and (λ t s n. insn.Memory (memory.Byte ByteName.S8i t s n)) t s (pos (low8 (bits n))) n (natural_within 0 255 n) h (byte n)
memory_code (memory.Half HalfName.L16ui t s n) h = of_two_and (λ t s n. insn.Memory (memory.Half HalfName.L16ui t s n)) t s (pos (2 * low8 (bits n / 2))) n (multiple_within 2 256 n) h (halves n)
memory_code (memory.Half HalfName.L16si t s n) h = of_two_and (λ t s n. insn.Memory (memory.Half HalfName.L16si t s n)) t s (pos (2 * low8 (bits n / 2))) n (multiple_within 2 256 n) h (halves n)
memory_code (memory.Half HalfName.S16i t s n) h = of_two_and (λ t s n. insn.Memory (memory.Half HalfName.S16i t s n)) t s (pos (2 * low8 (bits n / 2))) n (multiple_within 2 256 n) h (halves n)
memory_code (memory.Word WordName.L32i t s n) h = of_two_and (λ t s n. insn.Memory (memory.Word WordName.L32i t s n)) t s (pos (4 * low8 (bits n / 4))) n (multiple_within 4 256 n) h (words n)
memory_code (memory.Word WordName.S32i t s n) h = of_two_and (λ t s n. insn.Memory (memory.Word WordName.S32i t s n)) t s (pos (4 * low8 (bits n / 4))) n (multiple_within 4 256 n) h (words n)
memory_code (memory.Word WordName.L32ai t s n) h = of_two_and (λ t s n. insn.Memory (memory.Word WordName.L32ai t s n)) t s (pos (4 * low8 (bits n / 4))) n (multiple_within 4 256 n) h (words n)
memory_code (memory.Word WordName.S32ri t s n) h = of_two_and (λ t s n. insn.Memory (memory.Word WordName.S32ri t s n)) t s (pos (4 * low8 (bits n / 4))) n (multiple_within 4 256 n) h (words n)
memory_code (memory.S32c1i t s n) h = of_two_and (λ t s n. insn.Memory (memory.S32c1i t s n)) t s (pos (4 * low8 (bits n / 4))) n (multiple_within 4 256 n) h (words n)
memory_code (memory.Window WindowName.L32e t s n) h = of_two_and (λ t s n. insn.Memory (memory.Window WindowName.L32e t s n)) t s (below (4 * (bits n / 4 % 32 % 16)) 64) n (window_within n) h (window n)
memory_code (memory.Window WindowName.S32e t s n) h = of_two_and (λ t s n. insn.Memory (memory.Window WindowName.S32e t s n)) t s (below (4 * (bits n / 4 % 32 % 16)) 64) n (window_within n) h (window n)
memory_code (memory.L32r t n) h = of_one_and (λ t n. insn.Memory (memory.L32r t n)) t (below (4 * low16 (bits n / 4)) 262144) n (literal_within n) h (literal n)
memory_code (memory.Movi t n) h = of_one_and (λ t n. insn.Memory (memory.Movi t n)) t (signed 2048 (low8 (bits n) + 256 * (bits n / 256 % 32 % 16))) n (signed_within 2048 n) h (loaded n)
memory_code (memory.Addi t s n) h = of_two_and (λ t s n. insn.Memory (memory.Addi t s n)) t s (signed 128 (low8 (bits n))) n (signed_within 128 n) h (near n)
memory_code (memory.Addmi t s n) h = of_two_and (λ t s n. insn.Memory (memory.Addmi t s n)) t s (signed 32768 (256 * low8 (bits n / 256))) n (page_within n) h (page n)

control_code : (i : Control) → control_in_range i ≡ true → spelled_insn (four_bit_fields (control_fields i)) ≡ Some (insn.Control i)
unfolding spelled_insn all_rows
control_code (control.J n) h = jump_code n h
control_code (control.Call CallName.Call0 n) h = call_code CallName.Call0 n h
control_code (control.Call CallName.Call4 n) h = call_code CallName.Call4 n h
control_code (control.Call CallName.Call8 n) h = call_code CallName.Call8 n h
control_code (control.Call CallName.Call12 n) h = call_code CallName.Call12 n h
control_code (control.Return ReturnName.Ret) h = refl
control_code (control.Return ReturnName.Retw) h = refl
control_code (control.Jx s) h = of_one (λ s. insn.Control (control.Jx s)) s h
control_code (control.Callx CallxName.Callx0 s) h = of_one (λ s. insn.Control (control.Callx CallxName.Callx0 s)) s h
control_code (control.Callx CallxName.Callx4 s) h = of_one (λ s. insn.Control (control.Callx CallxName.Callx4 s)) s h
control_code (control.Callx CallxName.Callx8 s) h = of_one (λ s. insn.Control (control.Callx CallxName.Callx8 s)) s h
control_code (control.Callx CallxName.Callx12 s) h = of_one (λ s. insn.Control (control.Callx CallxName.Callx12 s)) s h
control_code (control.BranchZero ZeroName.Beqz s n) h = of_one_and (λ s n. insn.Control (control.BranchZero ZeroName.Beqz s n)) s (signed 2048 (low12 (bits n))) n (signed_within 2048 n) h (far n)
control_code (control.BranchZero ZeroName.Bnez s n) h = of_one_and (λ s n. insn.Control (control.BranchZero ZeroName.Bnez s n)) s (signed 2048 (low12 (bits n))) n (signed_within 2048 n) h (far n)
control_code (control.BranchZero ZeroName.Bltz s n) h = of_one_and (λ s n. insn.Control (control.BranchZero ZeroName.Bltz s n)) s (signed 2048 (low12 (bits n))) n (signed_within 2048 n) h (far n)
control_code (control.BranchZero ZeroName.Bgez s n) h = of_one_and (λ s n. insn.Control (control.BranchZero ZeroName.Bgez s n)) s (signed 2048 (low12 (bits n))) n (signed_within 2048 n) h (far n)
control_code (control.BranchConst ConstName.Beqi s c n) h = of_one_and_two (λ s c n. insn.Control (control.BranchConst ConstName.Beqi s c n)) s (b4const (constant c % 16)) c (signed 128 (low8 (bits n))) n (is_b4const c) (signed_within 128 n) h (signed_constant c) (near n)
control_code (control.BranchConst ConstName.Bnei s c n) h = of_one_and_two (λ s c n. insn.Control (control.BranchConst ConstName.Bnei s c n)) s (b4const (constant c % 16)) c (signed 128 (low8 (bits n))) n (is_b4const c) (signed_within 128 n) h (signed_constant c) (near n)
control_code (control.BranchConst ConstName.Blti s c n) h = of_one_and_two (λ s c n. insn.Control (control.BranchConst ConstName.Blti s c n)) s (b4const (constant c % 16)) c (signed 128 (low8 (bits n))) n (is_b4const c) (signed_within 128 n) h (signed_constant c) (near n)
control_code (control.BranchConst ConstName.Bgei s c n) h = of_one_and_two (λ s c n. insn.Control (control.BranchConst ConstName.Bgei s c n)) s (b4const (constant c % 16)) c (signed 128 (low8 (bits n))) n (is_b4const c) (signed_within 128 n) h (signed_constant c) (near n)
control_code (control.BranchConstu ConstuName.Bltui s c n) h = of_one_and_two (λ s c n. insn.Control (control.BranchConstu ConstuName.Bltui s c n)) s (b4constu (constant c % 16)) c (signed 128 (low8 (bits n))) n (is_b4constu c) (signed_within 128 n) h (unsigned_constant c) (near n)
control_code (control.BranchConstu ConstuName.Bgeui s c n) h = of_one_and_two (λ s c n. insn.Control (control.BranchConstu ConstuName.Bgeui s c n)) s (b4constu (constant c % 16)) c (signed 128 (low8 (bits n))) n (is_b4constu c) (signed_within 128 n) h (unsigned_constant c) (near n)
control_code (control.Branch BranchName.Bnone s t n) h = of_two_and (λ s t n. insn.Control (control.Branch BranchName.Bnone s t n)) s t (signed 128 (low8 (bits n))) n (signed_within 128 n) h (near n)
control_code (control.Branch BranchName.Beq s t n) h = of_two_and (λ s t n. insn.Control (control.Branch BranchName.Beq s t n)) s t (signed 128 (low8 (bits n))) n (signed_within 128 n) h (near n)
control_code (control.Branch BranchName.Blt s t n) h = of_two_and (λ s t n. insn.Control (control.Branch BranchName.Blt s t n)) s t (signed 128 (low8 (bits n))) n (signed_within 128 n) h (near n)
control_code (control.Branch BranchName.Bltu s t n) h = of_two_and (λ s t n. insn.Control (control.Branch BranchName.Bltu s t n)) s t (signed 128 (low8 (bits n))) n (signed_within 128 n) h (near n)
control_code (control.Branch BranchName.Ball s t n) h = of_two_and (λ s t n. insn.Control (control.Branch BranchName.Ball s t n)) s t (signed 128 (low8 (bits n))) n (signed_within 128 n) h (near n)
control_code (control.Branch BranchName.Bbc s t n) h = of_two_and (λ s t n. insn.Control (control.Branch BranchName.Bbc s t n)) s t (signed 128 (low8 (bits n))) n (signed_within 128 n) h (near n)
control_code (control.BranchNot OppositeName.Bany s t n) h = of_two_and (λ s t n. insn.Control (control.BranchNot OppositeName.Bany s t n)) s t (signed 128 (low8 (bits n))) n (signed_within 128 n) h (near n)
control_code (control.BranchNot OppositeName.Bne s t n) h = of_two_and (λ s t n. insn.Control (control.BranchNot OppositeName.Bne s t n)) s t (signed 128 (low8 (bits n))) n (signed_within 128 n) h (near n)
control_code (control.BranchNot OppositeName.Bge s t n) h = of_two_and (λ s t n. insn.Control (control.BranchNot OppositeName.Bge s t n)) s t (signed 128 (low8 (bits n))) n (signed_within 128 n) h (near n)
control_code (control.BranchNot OppositeName.Bgeu s t n) h = of_two_and (λ s t n. insn.Control (control.BranchNot OppositeName.Bgeu s t n)) s t (signed 128 (low8 (bits n))) n (signed_within 128 n) h (near n)
control_code (control.BranchNot OppositeName.Bnall s t n) h = of_two_and (λ s t n. insn.Control (control.BranchNot OppositeName.Bnall s t n)) s t (signed 128 (low8 (bits n))) n (signed_within 128 n) h (near n)
control_code (control.BranchNot OppositeName.Bbs s t n) h = of_two_and (λ s t n. insn.Control (control.BranchNot OppositeName.Bbs s t n)) s t (signed 128 (low8 (bits n))) n (signed_within 128 n) h (near n)
control_code (control.BranchBit BitName.Bbci s b n) h = bbci s b n h
control_code (control.BranchBit BitName.Bbsi s b n) h = bbsi s b n h
control_code (control.Entry s n) h = of_one_and (λ s n. insn.Control (control.Entry s n)) s (pos (8 * low12 (bits n / 8))) n (multiple_within 8 4096 n) h (frame n)
control_code (control.Loop LoopName.Loop s n) h = of_one_and (λ s n. insn.Control (control.Loop LoopName.Loop s n)) s (pos (low8 (bits n))) n (natural_within 0 255 n) h (byte n)
control_code (control.Loop LoopName.Loopnez s n) h = of_one_and (λ s n. insn.Control (control.Loop LoopName.Loopnez s n)) s (pos (low8 (bits n))) n (natural_within 0 255 n) h (byte n)
control_code (control.Loop LoopName.Loopgtz s n) h = of_one_and (λ s n. insn.Control (control.Loop LoopName.Loopgtz s n)) s (pos (low8 (bits n))) n (natural_within 0 255 n) h (byte n)

system_code : (i : System) → system_in_range i ≡ true → spelled_insn (four_bit_fields (system_fields i)) ≡ Some (insn.System i)
unfolding spelled_insn all_rows
system_code (system.Sync SyncName.Ill) h = refl
system_code (system.Sync SyncName.Isync) h = refl
system_code (system.Sync SyncName.Rsync) h = refl
system_code (system.Sync SyncName.Esync) h = refl
system_code (system.Sync SyncName.Dsync) h = refl
system_code (system.Wait WaitName.Excw) h = refl
system_code (system.Wait WaitName.Memw) h = refl
system_code (system.Wait WaitName.Extw) h = refl
system_code (system.Wait WaitName.Nop) h = refl
system_code (system.ExceptionReturn ExceptionReturnName.Rfe) h = refl
system_code (system.ExceptionReturn ExceptionReturnName.Rfde) h = refl
system_code (system.ExceptionReturn ExceptionReturnName.Rfwo) h = refl
system_code (system.ExceptionReturn ExceptionReturnName.Rfwu) h = refl
system_code (system.Rfi n) h = rfi n h
system_code (system.Trap TrapName.Break m n) h = break_code m n h
system_code (system.Trap TrapName.Syscall m n) h = syscall_code m n h
system_code (system.Level LevelName.Rsil t n) h = of_one_and (λ t n. insn.System (system.Level LevelName.Rsil t n)) t (pos (five n % 16)) n (natural_within 0 15 n) h (four_bits n)
system_code (system.Level LevelName.Waiti t n) h = waiti_code t n h
system_code (system.Rotw n) h = of_number (λ n. insn.System (system.Rotw n)) (signed 8 (five n % 16)) n (rotated n h)
system_code (system.Special SpecialName.Rsr t n) h = rsr t n h
system_code (system.Special SpecialName.Wsr t n) h = wsr t n h
system_code (system.Special SpecialName.Xsr t n) h = xsr t n h
system_code (system.User UserName.Rur r n) h = user (λ r n. insn.System (system.User UserName.Rur r n)) r n h
system_code (system.User UserName.Wur t n) h = user (λ t n. insn.System (system.User UserName.Wur t n)) t n h

density_code : (i : Density) → density_in_range i ≡ true → spelled_insn (four_bit_fields (density_fields i)) ≡ Some (insn.Density i)
unfolding spelled_insn all_rows
density_code (density.Word NarrowName.L32i t s n) h = of_two_and (λ t s n. insn.Density (density.Word NarrowName.L32i t s n)) t s (pos (4 * (bits n / 4 % 32 % 16))) n (multiple_within 4 16 n) h (narrow_word n)
density_code (density.Word NarrowName.S32i t s n) h = of_two_and (λ t s n. insn.Density (density.Word NarrowName.S32i t s n)) t s (pos (4 * (bits n / 4 % 32 % 16))) n (multiple_within 4 16 n) h (narrow_word n)
density_code (density.Add r s t) h = of_three (λ r s t. insn.Density (density.Add r s t)) r s t h
density_code (density.Addi r s n) h = of_two_and (λ r s n. insn.Density (density.Addi r s n)) r s (minus_one_or (small n % 16)) n (small_within n) h (small_number n)
density_code (density.Movi s n) h = narrow_movi s n h
density_code (density.BranchZero NarrowZeroName.Beqz s n) h = narrow_beqz s n h
density_code (density.BranchZero NarrowZeroName.Bnez s n) h = narrow_bnez s n h
density_code (density.Mov t s) h = of_two (λ t s. insn.Density (density.Mov t s)) t s h
density_code (density.Bare BareName.Ret) h = refl
density_code (density.Bare BareName.Retw) h = refl
density_code (density.Bare BareName.Nop) h = refl
density_code (density.Bare BareName.Ill) h = refl
density_code (density.Break n) h = of_number (λ n. insn.Density (density.Break n)) (pos (five n % 16)) n (four_bits n h)

boolean_code : (i : Boolean) → boolean_in_range i ≡ true → spelled_insn (four_bit_fields (boolean_fields i)) ≡ Some (insn.Boolean i)
unfolding spelled_insn all_rows
boolean_code (boolean.Logic LogicName.Andb r s t) h = of_three (λ r s t. insn.Boolean (boolean.Logic LogicName.Andb r s t)) r s t h
boolean_code (boolean.Logic LogicName.Andbc r s t) h = of_three (λ r s t. insn.Boolean (boolean.Logic LogicName.Andbc r s t)) r s t h
boolean_code (boolean.Logic LogicName.Orb r s t) h = of_three (λ r s t. insn.Boolean (boolean.Logic LogicName.Orb r s t)) r s t h
boolean_code (boolean.Logic LogicName.Orbc r s t) h = of_three (λ r s t. insn.Boolean (boolean.Logic LogicName.Orbc r s t)) r s t h
boolean_code (boolean.Logic LogicName.Xorb r s t) h = of_three (λ r s t. insn.Boolean (boolean.Logic LogicName.Xorb r s t)) r s t h
boolean_code (boolean.Four FourName.Any4 t s) h = group (λ t s. insn.Boolean (boolean.Four FourName.Any4 t s)) 4 t s h
boolean_code (boolean.Four FourName.All4 t s) h = group (λ t s. insn.Boolean (boolean.Four FourName.All4 t s)) 4 t s h
boolean_code (boolean.Eight EightName.Any8 t s) h = group (λ t s. insn.Boolean (boolean.Eight EightName.Any8 t s)) 8 t s h
boolean_code (boolean.Eight EightName.All8 t s) h = group (λ t s. insn.Boolean (boolean.Eight EightName.All8 t s)) 8 t s h
boolean_code (boolean.Test TestName.Bf s n) h = of_one_and (λ s n. insn.Boolean (boolean.Test TestName.Bf s n)) s (signed 128 (low8 (bits n))) n (signed_within 128 n) h (near n)
boolean_code (boolean.Test TestName.Bt s n) h = of_one_and (λ s n. insn.Boolean (boolean.Test TestName.Bt s n)) s (signed 128 (low8 (bits n))) n (signed_within 128 n) h (near n)
boolean_code (boolean.Choice ChoiceName.Movf r s t) h = of_three (λ r s t. insn.Boolean (boolean.Choice ChoiceName.Movf r s t)) r s t h
boolean_code (boolean.Choice ChoiceName.Movt r s t) h = of_three (λ r s t. insn.Boolean (boolean.Choice ChoiceName.Movt r s t)) r s t h

pub code : (i : Insn) → in_range i ≡ true → spelled_insn (fields_from i) ≡ Some i
code (insn.Three i) h = three_code i h
code (insn.Shift i) h = shift_code i h
code (insn.Memory i) h = memory_code i h
code (insn.Control i) h = control_code i h
code (insn.System i) h = system_code i h
code (insn.Density i) h = density_code i h
code (insn.Boolean i) h = boolean_code i h

nibbles : (w : Fields) → AreNibbles (four_bit_fields w)
nibbles w = (
  omega arith,
  omega arith,
  omega arith,
  omega arith,
  cond_both (ltb w.op0 8) (w.op1 % 16) 0 (λ k. k < 16) (λ _. omega arith) (λ _. omega arith),
  cond_both (ltb w.op0 8) (w.op2 % 16) 0 (λ k. k < 16) (λ _. omega arith) (λ _. omega arith),
)

pub has_spelling : (i : Insn) → in_range i ≡ true → HasSpelling i
has_spelling i h = (fields_from i, (nibbles (uncut_fields i), code i h))
