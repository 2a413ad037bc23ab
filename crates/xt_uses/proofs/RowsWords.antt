-- The mask of what a row writes is a word.
use Rattle.std.proofs.Common.{◌≡◌, ℕ, ◌^◌, ◌<◌, Bool, true, false, ◌&&◌, arith}
use Rattle.std.specs.Prelude.{bit_or}
use Rattle.std.proofs.lemmas.Bool.{and_parts}
use Rattle.std.proofs.lemmas.Nat.{and_le_l, and_le_r, or_lt}
use Rattle.xt_isa.specs.declared.Insn.{Insn}
use Rattle.xt_isa.specs.declared.Insn.TheVariants as insn
use Rattle.xt_isa.specs.declared.three.Three.{Three}
use Rattle.xt_isa.specs.declared.three.Three.TheVariants as three
use Rattle.xt_isa.specs.declared.three.BitwiseName.TheVariants as BitwiseName
use Rattle.xt_isa.specs.declared.three.SumName.TheVariants as SumName
use Rattle.xt_isa.specs.declared.three.DifferenceName.TheVariants as DifferenceName
use Rattle.xt_isa.specs.declared.shift.Shift.{Shift}
use Rattle.xt_isa.specs.declared.shift.Shift.TheVariants as shift
use Rattle.xt_isa.specs.declared.shift.SignName.TheVariants as SignName
use Rattle.xt_isa.specs.declared.shift.ShiftRightName.TheVariants as ShiftRightName
use Rattle.xt_isa.specs.declared.shift.SignedName.TheVariants as SignedName
use Rattle.xt_isa.specs.declared.memory.Memory.{Memory}
use Rattle.xt_isa.specs.declared.memory.Memory.TheVariants as memory
use Rattle.xt_isa.specs.declared.memory.HalfName.TheVariants as HalfName
use Rattle.xt_isa.specs.declared.system.System.{System}
use Rattle.xt_isa.specs.declared.system.System.TheVariants as system
use Rattle.xt_isa.specs.declared.system.LevelName.TheVariants as LevelName
use Rattle.xt_isa.specs.declared.system.SpecialName.TheVariants as SpecialName
use Rattle.xt_isa.specs.declared.system.UserName.TheVariants as UserName
use Rattle.xt_isa.specs.declared.density.Density.{Density}
use Rattle.xt_isa.specs.declared.density.Density.TheVariants as density
use Rattle.xt_isa.specs.declared.boolean.Boolean.{Boolean}
use Rattle.xt_isa.specs.declared.boolean.Boolean.TheVariants as boolean
use Rattle.xt_isa.specs.Ranges.{in_range, two_registers, natural_within}
use Rattle.xt_word.specs.Arithmetic.{sext}
use Rattle.xt_word.specs.Shifts.{src, srl, sra, sll, slli, srai, srli, extui}
use Rattle.xt_rows.specs.Numbers.{natural, loaded_value}
use Rattle.xt_uses.specs.declared.discipline.Discipline.{Discipline}
use Rattle.xt_uses.specs.Words.{Word, all_bits, and_mask, or_mask, both_mask, complement, is_whole, mask_where, moved_mask, ones, zeros}
use Rattle.xt_uses.specs.Known.{loaded_mask, three_mask, shift_mask, memory_mask, system_mask, density_mask, boolean_mask, result_mask}
use Rattle.xt_uses.proofs.Bits.{flipped_word}
use Rattle.xt_uses.proofs.Owb.{counted_word}
use Rattle.xt_uses.proofs.Agreeing.{IsMove}
use Rattle.xt_uses.proofs.Moves.{extended_moves}
use Rattle.xt_uses.proofs.Sums.{add_word, below_word, scaled_sum_word, sum_word}
use Rattle.xt_uses.proofs.Halves.{half_product_word}
use Rattle.xt_uses.proofs.RowsPairs.{src_word, srl_moves, sll_moves}
use Rattle.xt_uses.proofs.RowsSigned.{sra_moves, srai_moves}
use Rattle.xt_uses.proofs.RowsShift.{slli_moves, srli_moves, extui_moves, sext_moves, sign_number}

all_word : all_bits < 2 ^ 32
all_word = omega arith

where_word : (b : Bool) → mask_where b < 2 ^ 32
where_word true = omega arith
where_word false = omega arith

moved_word : (move : ℕ → ℕ) (mask : ℕ) → mask < 2 ^ 32 → IsMove move → moved_mask move mask < 2 ^ 32
moved_word move mask h is = flipped_word (move (complement mask)) (is.word (complement mask) (flipped_word mask h))

loaded_word : (signed : Bool) (reply : ℕ) → reply < 2 ^ 32 → loaded_mask signed reply < 2 ^ 32
loaded_word signed reply h = moved_word (λ z. loaded_value signed z) reply h (extended_moves signed)

memory_word : (i : Memory) (a : Word) (reply : ℕ) → a.mask < 2 ^ 32 → reply < 2 ^ 32 → memory_mask i a reply < 2 ^ 32
unfolding memory_mask
memory_word (memory.Byte name t s offset) a reply m h = loaded_word false reply h
memory_word (memory.Half HalfName.L16ui t s offset) a reply m h = loaded_word false reply h
memory_word (memory.Half HalfName.L16si t s offset) a reply m h = loaded_word true reply h
memory_word (memory.Half HalfName.S16i t s offset) a reply m h = loaded_word false reply h
memory_word (memory.Word name t s offset) a reply m h = loaded_word false reply h
memory_word (memory.S32c1i t s offset) a reply m h = loaded_word false reply h
memory_word (memory.Window name t s offset) a reply m h = loaded_word false reply h
memory_word (memory.L32r t offset) a reply m h = loaded_word false reply h
memory_word (memory.Movi t n) a reply m h = all_word
memory_word (memory.Addi t s n) a reply m h = below_word a.mask m
memory_word (memory.Addmi t s n) a reply m h = below_word a.mask m

system_word : (by : Discipline) (i : System) (c : Word) (pointer : ℕ) → c.mask < 2 ^ 32 → pointer < 2 ^ 32 → system_mask by i c pointer < 2 ^ 32
unfolding system_mask
system_word by (system.Sync name) c pointer h g = all_word
system_word by (system.Wait name) c pointer h g = all_word
system_word by (system.ExceptionReturn name) c pointer h g = all_word
system_word by (system.Rfi level) c pointer h g = all_word
system_word by (system.Trap name level n) c pointer h g = all_word
system_word by (system.Level LevelName.Rsil t level) c pointer h g = counted_word by 230
system_word by (system.Level LevelName.Waiti t level) c pointer h g = all_word
system_word by (system.Rotw n) c pointer h g = all_word
system_word by (system.Special SpecialName.Rsr t n) c pointer h g = h
system_word by (system.Special SpecialName.Wsr t n) c pointer h g = all_word
system_word by (system.Special SpecialName.Xsr t n) c pointer h g = h
system_word by (system.User UserName.Rur r n) c pointer h g = g
system_word by (system.User UserName.Wur r n) c pointer h g = all_word

boolean_word : (i : Boolean) (a : Word) → a.mask < 2 ^ 32 → boolean_mask i a < 2 ^ 32
unfolding boolean_mask
boolean_word (boolean.Logic name r s t) a h = all_word
boolean_word (boolean.Four name t s) a h = all_word
boolean_word (boolean.Eight name t s) a h = all_word
boolean_word (boolean.Test name s offset) a h = all_word
boolean_word (boolean.Choice name r s t) a h = h

module _ (a b : Word) (h : a.mask < 2 ^ 32) (g : b.mask < 2 ^ 32) where
  both_word : both_mask a b < 2 ^ 32
  both_word = omega (arith, and_le_l a.mask b.mask)

  and_word : and_mask a b < 2 ^ 32
  and_word =
      let p : zeros a < 2 ^ 32 = omega (arith, and_le_r (complement a.value) a.mask) in
      let q : zeros b < 2 ^ 32 = omega (arith, and_le_r (complement b.value) b.mask) in
      or_lt 32 (both_mask a b) (bit_or (zeros a) (zeros b)) both_word (or_lt 32 (zeros a) (zeros b) p q)

  or_word : or_mask a b < 2 ^ 32
  or_word =
      let p : ones a < 2 ^ 32 = omega (arith, and_le_r a.value a.mask) in
      let q : ones b < 2 ^ 32 = omega (arith, and_le_r b.value b.mask) in
      or_lt 32 (both_mask a b) (bit_or (ones a) (ones b)) both_word (or_lt 32 (ones a) (ones b) p q)

  three_word : (i : Three) (u : ℕ) → three_mask i a b u < 2 ^ 32
  unfolding three_mask
  three_word (three.Bitwise BitwiseName.And r s t) u = and_word
  three_word (three.Bitwise BitwiseName.Or r s t) u = or_word
  three_word (three.Bitwise BitwiseName.Xor r s t) u = both_word
  three_word (three.Sum SumName.Add r s t) u = add_word s t a b h
  three_word (three.Sum SumName.Addx2 r s t) u = scaled_sum_word 1 a b h
  three_word (three.Sum SumName.Addx4 r s t) u = scaled_sum_word 2 a b h
  three_word (three.Sum SumName.Addx8 r s t) u = scaled_sum_word 3 a b h
  three_word (three.Difference DifferenceName.Sub r s t) u = sum_word a.mask b.mask h
  three_word (three.Difference DifferenceName.Subx2 r s t) u = scaled_sum_word 1 a b h
  three_word (three.Difference DifferenceName.Subx4 r s t) u = scaled_sum_word 2 a b h
  three_word (three.Difference DifferenceName.Subx8 r s t) u = scaled_sum_word 3 a b h
  three_word (three.Mul16 name r s t) u = half_product_word a.mask b.mask h
  three_word (three.Mull r s t) u = sum_word a.mask b.mask h
  three_word (three.MulHigh name r s t) u = where_word (is_whole a && is_whole b)
  three_word (three.Divide name r s t) u = where_word (is_whole a && is_whole b)
  three_word (three.MinMax name r s t) u = where_word (is_whole a && is_whole b)
  three_word (three.Src r s t) u = flipped_word (src (complement a.mask) (complement b.mask) u) (src_word (complement a.mask) (complement b.mask) u)
  three_word (three.Move name r s t) u = h

  shift_word : (i : Shift) → in_range (insn.Shift i) ≡ true → (u : ℕ) → shift_mask i a u < 2 ^ 32
  unfolding shift_mask
  shift_word (shift.Sign SignName.Neg r t) range u = below_word a.mask h
  shift_word (shift.Sign SignName.Abs r t) range u = where_word (is_whole a)
  shift_word (shift.ShiftRight ShiftRightName.Srl r t) range u = moved_word (λ z. srl z u) a.mask h (srl_moves u)
  shift_word (shift.ShiftRight ShiftRightName.Sra r t) range u = moved_word (λ z. sra z u) a.mask h (sra_moves u)
  shift_word (shift.Sll r s) range u = moved_word (λ z. sll z u) a.mask h (sll_moves u)
  shift_word (shift.Slli r s n) range u = moved_word (λ z. slli z (natural n)) a.mask h (slli_moves (natural n))
  shift_word (shift.Srai r t n) range u = moved_word (λ z. srai z (natural n)) a.mask h (srai_moves (natural n))
  shift_word (shift.Srli r t n) range u = moved_word (λ z. srli z (natural n)) a.mask h (srli_moves (natural n))
  shift_word (shift.Extui r t n width) range u = moved_word (λ z. extui z (natural n) (natural width)) a.mask h (extui_moves (natural n) (natural width))
  shift_word (shift.Signed SignedName.Sext r s n) range u = moved_word (λ z. sext z (natural n)) a.mask h (sext_moves (natural n) (sign_number n (and_parts (two_registers r s) (natural_within 7 22 n) range).1))
  shift_word (shift.Signed SignedName.Clamps r s n) range u = where_word (is_whole a)
  shift_word (shift.Normalize name t s) range u = where_word (is_whole a)
  shift_word (shift.Movsp t s) range u = where_word (is_whole a)
  shift_word (shift.Amount name s) range u = where_word (is_whole a)
  shift_word (shift.ByteAmount name s) range u = where_word (is_whole a)
  shift_word (shift.Ssai n) range u = where_word (is_whole a)

  density_word : (i : Density) (reply : ℕ) → reply < 2 ^ 32 → density_mask i a b reply < 2 ^ 32
  unfolding density_mask
  density_word (density.Word name t s offset) reply l = loaded_word false reply l
  density_word (density.Add r s t) reply l = add_word s t a b h
  density_word (density.Addi r s n) reply l = below_word a.mask h
  density_word (density.Movi s n) reply l = all_word
  density_word (density.BranchZero name s offset) reply l = all_word
  density_word (density.Mov t s) reply l = h
  density_word (density.Bare name) reply l = all_word
  density_word (density.Break n) reply l = all_word

  pub result_word : (by : Discipline) (i : Insn) → in_range i ≡ true → (c : Word) (pointer reply : ℕ) → c.mask < 2 ^ 32 → pointer < 2 ^ 32 → reply < 2 ^ 32 → result_mask by i a b c pointer reply < 2 ^ 32
  unfolding result_mask
  result_word by (insn.Three i) range c pointer reply l m n = three_word i c.value
  result_word by (insn.Shift i) range c pointer reply l m n = shift_word i range c.value
  result_word by (insn.Memory i) range c pointer reply l m n = memory_word i a reply h n
  result_word by (insn.Control i) range c pointer reply l m n = all_word
  result_word by (insn.System i) range c pointer reply l m n = system_word by i c pointer l m
  result_word by (insn.Density i) range c pointer reply l m n = density_word i reply n
  result_word by (insn.Boolean i) range c pointer reply l m n = boolean_word i a h
