-- The fields of the word that spells an instruction, from the instruction alone. The opcode is given as the value of the
-- instruction's row.
use Rattle.std.proofs.Common.{ℕ, ◌+◌, ◌-◌, ◌*◌, ◌/◌, ◌%◌, suc, cond, leb, eqb, ℤ, pos, negsuc}
use Rattle.xt_isa.specs.declared.Insn.{Insn}
use Rattle.xt_isa.specs.declared.Insn.TheVariants as insn
use Rattle.xt_isa.specs.declared.Fields.{Fields}
use Rattle.xt_isa.specs.declared.three.Three.{Three}
use Rattle.xt_isa.specs.declared.three.Three.TheVariants as three
use Rattle.xt_isa.specs.declared.shift.Shift.{Shift}
use Rattle.xt_isa.specs.declared.shift.Shift.TheVariants as shift
use Rattle.xt_isa.specs.declared.memory.Memory.{Memory}
use Rattle.xt_isa.specs.declared.memory.Memory.TheVariants as memory
use Rattle.xt_isa.specs.declared.control.Control.{Control}
use Rattle.xt_isa.specs.declared.control.Control.TheVariants as control
use Rattle.xt_isa.specs.declared.system.System.{System}
use Rattle.xt_isa.specs.declared.system.System.TheVariants as system
use Rattle.xt_isa.specs.declared.density.Density.{Density}
use Rattle.xt_isa.specs.declared.density.Density.TheVariants as density
use Rattle.xt_isa.specs.declared.boolean.Boolean.{Boolean}
use Rattle.xt_isa.specs.declared.boolean.Boolean.TheVariants as boolean
use Rattle.xt_isa.specs.declared.three.BitwiseName.TheVariants as BitwiseName
use Rattle.xt_isa.specs.declared.three.SumName.TheVariants as SumName
use Rattle.xt_isa.specs.declared.three.DifferenceName.TheVariants as DifferenceName
use Rattle.xt_isa.specs.declared.three.Mul16Name.TheVariants as Mul16Name
use Rattle.xt_isa.specs.declared.three.MulHighName.TheVariants as MulHighName
use Rattle.xt_isa.specs.declared.three.DivideName.TheVariants as DivideName
use Rattle.xt_isa.specs.declared.three.MinMaxName.TheVariants as MinMaxName
use Rattle.xt_isa.specs.declared.three.MoveName.TheVariants as MoveName
use Rattle.xt_isa.specs.declared.shift.SignName.TheVariants as SignName
use Rattle.xt_isa.specs.declared.shift.ShiftRightName.TheVariants as ShiftRightName
use Rattle.xt_isa.specs.declared.shift.SignedName.TheVariants as SignedName
use Rattle.xt_isa.specs.declared.shift.NormalizeName.TheVariants as NormalizeName
use Rattle.xt_isa.specs.declared.shift.AmountName.TheVariants as AmountName
use Rattle.xt_isa.specs.declared.shift.ByteAmountName.TheVariants as ByteAmountName
use Rattle.xt_isa.specs.declared.memory.ByteName.TheVariants as ByteName
use Rattle.xt_isa.specs.declared.memory.HalfName.TheVariants as HalfName
use Rattle.xt_isa.specs.declared.memory.WordName.TheVariants as WordName
use Rattle.xt_isa.specs.declared.memory.WindowName.TheVariants as WindowName
use Rattle.xt_isa.specs.declared.control.CallName.TheVariants as CallName
use Rattle.xt_isa.specs.declared.control.ReturnName.TheVariants as ReturnName
use Rattle.xt_isa.specs.declared.control.CallxName.TheVariants as CallxName
use Rattle.xt_isa.specs.declared.control.ZeroName.TheVariants as ZeroName
use Rattle.xt_isa.specs.declared.control.ConstName.TheVariants as ConstName
use Rattle.xt_isa.specs.declared.control.ConstuName.TheVariants as ConstuName
use Rattle.xt_isa.specs.declared.control.BranchName.TheVariants as BranchName
use Rattle.xt_isa.specs.declared.control.OppositeName.TheVariants as OppositeName
use Rattle.xt_isa.specs.declared.control.BitName.TheVariants as BitName
use Rattle.xt_isa.specs.declared.control.LoopName.TheVariants as LoopName
use Rattle.xt_isa.specs.declared.system.SyncName.TheVariants as SyncName
use Rattle.xt_isa.specs.declared.system.WaitName.TheVariants as WaitName
use Rattle.xt_isa.specs.declared.system.ExceptionReturnName.TheVariants as ExceptionReturnName
use Rattle.xt_isa.specs.declared.system.TrapName.TheVariants as TrapName
use Rattle.xt_isa.specs.declared.system.LevelName.TheVariants as LevelName
use Rattle.xt_isa.specs.declared.system.SpecialName.TheVariants as SpecialName
use Rattle.xt_isa.specs.declared.system.UserName.TheVariants as UserName
use Rattle.xt_isa.specs.declared.density.NarrowName.TheVariants as NarrowName
use Rattle.xt_isa.specs.declared.density.NarrowZeroName.TheVariants as NarrowZeroName
use Rattle.xt_isa.specs.declared.density.BareName.TheVariants as BareName
use Rattle.xt_isa.specs.declared.boolean.LogicName.TheVariants as LogicName
use Rattle.xt_isa.specs.declared.boolean.FourName.TheVariants as FourName
use Rattle.xt_isa.specs.declared.boolean.EightName.TheVariants as EightName
use Rattle.xt_isa.specs.declared.boolean.TestName.TheVariants as TestName
use Rattle.xt_isa.specs.declared.boolean.ChoiceName.TheVariants as ChoiceName
use Rattle.xt_isa.specs.Spelling.{nibble}

-- ---- Numbers out of integers.
-- a number that is not negative
abbrev pub natural : ℤ → ℕ
natural (pos n) = n
natural (negsuc n) = 0

-- the number below twice half whose two's complement is given
abbrev pub unsigned : ℕ → ℤ → ℕ
unsigned half (pos n) = n
unsigned half (negsuc n) = 2 * half - suc n

-- the place of a branch constant, signed or unsigned: of -1 it is 0
abbrev pub constant : ℤ → ℕ
constant (negsuc n) = 0
constant (pos n) = cond (leb n 8) n (cond (eqb n 10) 9 (cond (eqb n 12) 10 (cond (eqb n 16) 11 (cond (eqb n 32) 12 (cond (eqb n 64) 13 (cond (eqb n 128) 14 (cond (eqb n 256) 15 (cond (eqb n 32768) 0 1))))))))

-- ---- Words by their formats, under the value v of a row.
abbrev pub word : ℕ → ℕ → ℕ → ℕ → ℕ → ℕ → Fields
word v t s r op1 op2 = record { op0 = nibble v 0; t = t; s = s; r = r; op1 = op1; op2 = op2 }

abbrev pub rrr : ℕ → ℕ → ℕ → ℕ → Fields
rrr v r s t = word v t s r (nibble v 4) (nibble v 5)

abbrev pub of_rt : ℕ → ℕ → ℕ → Fields
of_rt v r t = rrr v r (nibble v 2) t

abbrev pub of_rs : ℕ → ℕ → ℕ → Fields
of_rs v r s = rrr v r s (nibble v 1)

abbrev pub of_ts : ℕ → ℕ → ℕ → Fields
of_ts v t s = rrr v (nibble v 3) s t

abbrev pub of_r : ℕ → ℕ → Fields
of_r v r = rrr v r (nibble v 2) (nibble v 1)

abbrev pub of_s : ℕ → ℕ → Fields
of_s v s = rrr v (nibble v 3) s (nibble v 1)

abbrev pub of_t : ℕ → ℕ → Fields
of_t v t = rrr v (nibble v 3) (nibble v 2) t

abbrev pub of_none : ℕ → Fields
of_none v = rrr v (nibble v 3) (nibble v 2) (nibble v 1)

-- a number of five bits, the low four in t or in s, and the high one in op2, in op1 or in t
abbrev pub shifted_t : ℕ → ℕ → ℕ → ℕ → Fields
shifted_t v r s n = word v (n % 16) s r (nibble v 4) (nibble v 5 + n / 16)

abbrev pub shifted_s : ℕ → ℕ → ℕ → ℕ → Fields
shifted_s v r t n = word v t (n % 16) r (nibble v 4) (nibble v 5 + n / 16)

abbrev pub extracted : ℕ → ℕ → ℕ → ℕ → ℕ → Fields
extracted v r t n op2 = word v t (n % 16) r (nibble v 4 + n / 16) op2

abbrev pub amount : ℕ → ℕ → Fields
amount v n = word v (nibble v 1 + n / 16) (n % 16) (nibble v 3) (nibble v 4) (nibble v 5)

-- a number of 8, 12, 16 or 18 bits, up to bit 23
abbrev pub of_ts8 : ℕ → ℕ → ℕ → ℕ → Fields
of_ts8 v t s n = word v t s (nibble v 3) (n % 16) (n / 16)

abbrev pub of_sr8 : ℕ → ℕ → ℕ → ℕ → Fields
of_sr8 v s r n = word v (nibble v 1) s r (n % 16) (n / 16)

-- and a number of five bits, the low four in t, and the high one in r
abbrev pub bit : ℕ → ℕ → ℕ → ℕ → Fields
bit v s b n = word v (b % 16) s (nibble v 3 + b / 16) (n % 16) (n / 16)

abbrev pub of_s12 : ℕ → ℕ → ℕ → Fields
of_s12 v s n = word v (nibble v 1) s (n % 16) (n / 16 % 16) (n / 256)

abbrev pub of_t16 : ℕ → ℕ → ℕ → Fields
of_t16 v t n = word v t (n % 16) (n / 16 % 16) (n / 256 % 16) (n / 4096)

abbrev pub of_18 : ℕ → ℕ → Fields
of_18 v n = of_t16 v (nibble v 1 + 4 * (n % 4)) (n / 4)

abbrev pub of_s8 : ℕ → ℕ → ℕ → Fields
of_s8 v s n = of_sr8 v s (nibble v 3) n

-- 16 bits
abbrev pub narrow : ℕ → ℕ → ℕ → ℕ → Fields
narrow v r s t = word v t s r 0 0

abbrev pub narrow_ts : ℕ → ℕ → ℕ → Fields
narrow_ts v t s = narrow v (nibble v 3) s t

abbrev pub narrow_s : ℕ → ℕ → Fields
narrow_s v s = narrow v (nibble v 3) s (nibble v 1)

abbrev pub narrow_none : ℕ → Fields
narrow_none v = narrow v (nibble v 3) (nibble v 2) (nibble v 1)

-- a number of six or seven bits, the low four in r
abbrev pub narrow_s6 : ℕ → ℕ → ℕ → Fields
narrow_s6 v s n = narrow v (n % 16) s (nibble v 1 + n / 16)

abbrev pub narrow_s7 : ℕ → ℕ → ℕ → Fields
narrow_s7 v s n = narrow v (n % 16) s (n / 16)

-- ---- Words by the tables of instructions.
abbrev three_fields : Three → Fields
three_fields (three.Bitwise BitwiseName.And r s t) = rrr 0x100000 r s t
three_fields (three.Bitwise BitwiseName.Or r s t) = rrr 0x200000 r s t
three_fields (three.Bitwise BitwiseName.Xor r s t) = rrr 0x300000 r s t
three_fields (three.Sum SumName.Add r s t) = rrr 0x800000 r s t
three_fields (three.Sum SumName.Addx2 r s t) = rrr 0x900000 r s t
three_fields (three.Sum SumName.Addx4 r s t) = rrr 0xA00000 r s t
three_fields (three.Sum SumName.Addx8 r s t) = rrr 0xB00000 r s t
three_fields (three.Difference DifferenceName.Sub r s t) = rrr 0xC00000 r s t
three_fields (three.Difference DifferenceName.Subx2 r s t) = rrr 0xD00000 r s t
three_fields (three.Difference DifferenceName.Subx4 r s t) = rrr 0xE00000 r s t
three_fields (three.Difference DifferenceName.Subx8 r s t) = rrr 0xF00000 r s t
three_fields (three.Src r s t) = rrr 0x810000 r s t
three_fields (three.Mul16 Mul16Name.Mul16u r s t) = rrr 0xC10000 r s t
three_fields (three.Mul16 Mul16Name.Mul16s r s t) = rrr 0xD10000 r s t
three_fields (three.Mull r s t) = rrr 0x820000 r s t
three_fields (three.MulHigh MulHighName.Muluh r s t) = rrr 0xA20000 r s t
three_fields (three.MulHigh MulHighName.Mulsh r s t) = rrr 0xB20000 r s t
three_fields (three.Divide DivideName.Quou r s t) = rrr 0xC20000 r s t
three_fields (three.Divide DivideName.Quos r s t) = rrr 0xD20000 r s t
three_fields (three.Divide DivideName.Remu r s t) = rrr 0xE20000 r s t
three_fields (three.Divide DivideName.Rems r s t) = rrr 0xF20000 r s t
three_fields (three.MinMax MinMaxName.Min r s t) = rrr 0x430000 r s t
three_fields (three.MinMax MinMaxName.Max r s t) = rrr 0x530000 r s t
three_fields (three.MinMax MinMaxName.Minu r s t) = rrr 0x630000 r s t
three_fields (three.MinMax MinMaxName.Maxu r s t) = rrr 0x730000 r s t
three_fields (three.Move MoveName.Moveqz r s t) = rrr 0x830000 r s t
three_fields (three.Move MoveName.Movnez r s t) = rrr 0x930000 r s t
three_fields (three.Move MoveName.Movltz r s t) = rrr 0xA30000 r s t
three_fields (three.Move MoveName.Movgez r s t) = rrr 0xB30000 r s t

abbrev shift_fields : Shift → Fields
shift_fields (shift.Sign SignName.Neg r t) = of_rt 0x600000 r t
shift_fields (shift.Sign SignName.Abs r t) = of_rt 0x600100 r t
shift_fields (shift.ShiftRight ShiftRightName.Srl r t) = of_rt 0x910000 r t
shift_fields (shift.ShiftRight ShiftRightName.Sra r t) = of_rt 0xB10000 r t
shift_fields (shift.Sll r s) = of_rs 0xA10000 r s
shift_fields (shift.Slli r s n) = shifted_t 0x010000 r s (32 - natural n)
shift_fields (shift.Srai r t n) = shifted_s 0x210000 r t (natural n)
shift_fields (shift.Srli r t n) = rrr 0x410000 r (natural n) t
shift_fields (shift.Extui r t n m) = extracted 0x040000 r t (natural n) (natural m - 1)
shift_fields (shift.Signed SignedName.Sext r s n) = rrr 0x230000 r s (natural n - 7)
shift_fields (shift.Signed SignedName.Clamps r s n) = rrr 0x330000 r s (natural n - 7)
shift_fields (shift.Normalize NormalizeName.Nsa t s) = of_ts 0x40E000 t s
shift_fields (shift.Normalize NormalizeName.Nsau t s) = of_ts 0x40F000 t s
shift_fields (shift.Movsp t s) = of_ts 0x001000 t s
shift_fields (shift.Amount AmountName.Ssr s) = of_s 0x400000 s
shift_fields (shift.Amount AmountName.Ssl s) = of_s 0x401000 s
shift_fields (shift.ByteAmount ByteAmountName.Ssa8l s) = of_s 0x402000 s
shift_fields (shift.ByteAmount ByteAmountName.Ssa8b s) = of_s 0x403000 s
shift_fields (shift.Ssai n) = amount 0x404000 (natural n)

abbrev memory_fields : Memory → Fields
memory_fields (memory.Byte ByteName.L8ui t s n) = of_ts8 0x000002 t s (natural n)
memory_fields (memory.Byte ByteName.S8i t s n) = of_ts8 0x004002 t s (natural n)
memory_fields (memory.Half HalfName.L16ui t s n) = of_ts8 0x001002 t s (natural n / 2)
memory_fields (memory.Half HalfName.L16si t s n) = of_ts8 0x009002 t s (natural n / 2)
memory_fields (memory.Half HalfName.S16i t s n) = of_ts8 0x005002 t s (natural n / 2)
memory_fields (memory.Word WordName.L32i t s n) = of_ts8 0x002002 t s (natural n / 4)
memory_fields (memory.Word WordName.S32i t s n) = of_ts8 0x006002 t s (natural n / 4)
memory_fields (memory.Word WordName.L32ai t s n) = of_ts8 0x00B002 t s (natural n / 4)
memory_fields (memory.Word WordName.S32ri t s n) = of_ts8 0x00F002 t s (natural n / 4)
memory_fields (memory.S32c1i t s n) = of_ts8 0x00E002 t s (natural n / 4)
memory_fields (memory.Window WindowName.L32e t s n) = rrr 0x090000 (unsigned 32 n / 4) s t
memory_fields (memory.Window WindowName.S32e t s n) = rrr 0x490000 (unsigned 32 n / 4) s t
memory_fields (memory.L32r t n) = of_t16 0x000001 t (unsigned 131072 n / 4)
memory_fields (memory.Movi t n) = of_ts8 0x00A002 t (unsigned 2048 n / 256) (unsigned 2048 n % 256)
memory_fields (memory.Addi t s n) = of_ts8 0x00C002 t s (unsigned 128 n)
memory_fields (memory.Addmi t s n) = of_ts8 0x00D002 t s (unsigned 32768 n / 256)

abbrev control_fields : Control → Fields
control_fields (control.J n) = of_18 0x000006 (unsigned 131072 n)
control_fields (control.Call CallName.Call0 n) = of_18 0x000005 (unsigned 524288 n / 4)
control_fields (control.Call CallName.Call4 n) = of_18 0x000015 (unsigned 524288 n / 4)
control_fields (control.Call CallName.Call8 n) = of_18 0x000025 (unsigned 524288 n / 4)
control_fields (control.Call CallName.Call12 n) = of_18 0x000035 (unsigned 524288 n / 4)
control_fields (control.Return ReturnName.Ret) = of_none 0x000080
control_fields (control.Return ReturnName.Retw) = of_none 0x000090
control_fields (control.Jx s) = of_s 0x0000A0 s
control_fields (control.Callx CallxName.Callx0 s) = of_s 0x0000C0 s
control_fields (control.Callx CallxName.Callx4 s) = of_s 0x0000D0 s
control_fields (control.Callx CallxName.Callx8 s) = of_s 0x0000E0 s
control_fields (control.Callx CallxName.Callx12 s) = of_s 0x0000F0 s
control_fields (control.BranchZero ZeroName.Beqz s n) = of_s12 0x000016 s (unsigned 2048 n)
control_fields (control.BranchZero ZeroName.Bnez s n) = of_s12 0x000056 s (unsigned 2048 n)
control_fields (control.BranchZero ZeroName.Bltz s n) = of_s12 0x000096 s (unsigned 2048 n)
control_fields (control.BranchZero ZeroName.Bgez s n) = of_s12 0x0000D6 s (unsigned 2048 n)
control_fields (control.BranchConst ConstName.Beqi s c n) = of_sr8 0x000026 s (constant c) (unsigned 128 n)
control_fields (control.BranchConst ConstName.Bnei s c n) = of_sr8 0x000066 s (constant c) (unsigned 128 n)
control_fields (control.BranchConst ConstName.Blti s c n) = of_sr8 0x0000A6 s (constant c) (unsigned 128 n)
control_fields (control.BranchConst ConstName.Bgei s c n) = of_sr8 0x0000E6 s (constant c) (unsigned 128 n)
control_fields (control.BranchConstu ConstuName.Bltui s c n) = of_sr8 0x0000B6 s (constant c) (unsigned 128 n)
control_fields (control.BranchConstu ConstuName.Bgeui s c n) = of_sr8 0x0000F6 s (constant c) (unsigned 128 n)
control_fields (control.Branch BranchName.Bnone s t n) = of_ts8 0x000007 t s (unsigned 128 n)
control_fields (control.Branch BranchName.Beq s t n) = of_ts8 0x001007 t s (unsigned 128 n)
control_fields (control.Branch BranchName.Blt s t n) = of_ts8 0x002007 t s (unsigned 128 n)
control_fields (control.Branch BranchName.Bltu s t n) = of_ts8 0x003007 t s (unsigned 128 n)
control_fields (control.Branch BranchName.Ball s t n) = of_ts8 0x004007 t s (unsigned 128 n)
control_fields (control.Branch BranchName.Bbc s t n) = of_ts8 0x005007 t s (unsigned 128 n)
control_fields (control.BranchNot OppositeName.Bany s t n) = of_ts8 0x008007 t s (unsigned 128 n)
control_fields (control.BranchNot OppositeName.Bne s t n) = of_ts8 0x009007 t s (unsigned 128 n)
control_fields (control.BranchNot OppositeName.Bge s t n) = of_ts8 0x00A007 t s (unsigned 128 n)
control_fields (control.BranchNot OppositeName.Bgeu s t n) = of_ts8 0x00B007 t s (unsigned 128 n)
control_fields (control.BranchNot OppositeName.Bnall s t n) = of_ts8 0x00C007 t s (unsigned 128 n)
control_fields (control.BranchNot OppositeName.Bbs s t n) = of_ts8 0x00D007 t s (unsigned 128 n)
control_fields (control.BranchBit BitName.Bbci s b n) = bit 0x006007 s (natural b) (unsigned 128 n)
control_fields (control.BranchBit BitName.Bbsi s b n) = bit 0x00E007 s (natural b) (unsigned 128 n)
control_fields (control.Entry s n) = of_s12 0x000036 s (natural n / 8)
control_fields (control.Loop LoopName.Loop s n) = of_s8 0x008076 s (natural n)
control_fields (control.Loop LoopName.Loopnez s n) = of_s8 0x009076 s (natural n)
control_fields (control.Loop LoopName.Loopgtz s n) = of_s8 0x00A076 s (natural n)

abbrev system_fields : System → Fields
system_fields (system.Sync SyncName.Ill) = of_none 0x000000
system_fields (system.Sync SyncName.Isync) = of_none 0x002000
system_fields (system.Sync SyncName.Rsync) = of_none 0x002010
system_fields (system.Sync SyncName.Esync) = of_none 0x002020
system_fields (system.Sync SyncName.Dsync) = of_none 0x002030
system_fields (system.Wait WaitName.Excw) = of_none 0x002080
system_fields (system.Wait WaitName.Memw) = of_none 0x0020C0
system_fields (system.Wait WaitName.Extw) = of_none 0x0020D0
system_fields (system.Wait WaitName.Nop) = of_none 0x0020F0
system_fields (system.ExceptionReturn ExceptionReturnName.Rfe) = of_none 0x003000
system_fields (system.ExceptionReturn ExceptionReturnName.Rfde) = of_none 0x003200
system_fields (system.ExceptionReturn ExceptionReturnName.Rfwo) = of_none 0x003400
system_fields (system.ExceptionReturn ExceptionReturnName.Rfwu) = of_none 0x003500
system_fields (system.Rfi n) = of_s 0x003010 (natural n)
system_fields (system.Trap TrapName.Break m n) = of_ts 0x004000 (natural n) (natural m)
system_fields (system.Trap TrapName.Syscall m n) = of_none 0x005000
system_fields (system.Level LevelName.Rsil t n) = of_ts 0x006000 t (natural n)
system_fields (system.Level LevelName.Waiti t n) = of_s 0x007000 (natural n)
system_fields (system.Rotw n) = of_t 0x408000 (unsigned 8 n)
system_fields (system.Special SpecialName.Rsr t n) = rrr 0x030000 (n / 16) (n % 16) t
system_fields (system.Special SpecialName.Wsr t n) = rrr 0x130000 (n / 16) (n % 16) t
system_fields (system.Special SpecialName.Xsr t n) = rrr 0x610000 (n / 16) (n % 16) t
system_fields (system.User UserName.Rur r n) = of_r 0xE30E70 r
system_fields (system.User UserName.Wur t n) = of_t 0xF3E700 t

abbrev density_fields : Density → Fields
density_fields (density.Word NarrowName.L32i t s n) = narrow 0x000008 (natural n / 4) s t
density_fields (density.Word NarrowName.S32i t s n) = narrow 0x000009 (natural n / 4) s t
density_fields (density.Add r s t) = narrow 0x00000A r s t
density_fields (density.Addi r s n) = narrow 0x00000B r s (natural n)
density_fields (density.Movi s n) = narrow_s7 0x00000C s (unsigned 64 n)
density_fields (density.BranchZero NarrowZeroName.Beqz s n) = narrow_s6 0x00008C s (natural n)
density_fields (density.BranchZero NarrowZeroName.Bnez s n) = narrow_s6 0x0000CC s (natural n)
density_fields (density.Mov t s) = narrow_ts 0x00000D t s
density_fields (density.Bare BareName.Ret) = narrow_none 0x00F00D
density_fields (density.Bare BareName.Retw) = narrow_none 0x00F01D
density_fields (density.Bare BareName.Nop) = narrow_none 0x00F03D
density_fields (density.Bare BareName.Ill) = narrow_none 0x00F06D
density_fields (density.Break n) = narrow_s 0x00F02D (natural n)

abbrev boolean_fields : Boolean → Fields
boolean_fields (boolean.Logic LogicName.Andb r s t) = rrr 0x020000 r s t
boolean_fields (boolean.Logic LogicName.Andbc r s t) = rrr 0x120000 r s t
boolean_fields (boolean.Logic LogicName.Orb r s t) = rrr 0x220000 r s t
boolean_fields (boolean.Logic LogicName.Orbc r s t) = rrr 0x320000 r s t
boolean_fields (boolean.Logic LogicName.Xorb r s t) = rrr 0x420000 r s t
boolean_fields (boolean.Four FourName.Any4 t s) = of_ts 0x008000 t s
boolean_fields (boolean.Four FourName.All4 t s) = of_ts 0x009000 t s
boolean_fields (boolean.Eight EightName.Any8 t s) = of_ts 0x00A000 t s
boolean_fields (boolean.Eight EightName.All8 t s) = of_ts 0x00B000 t s
boolean_fields (boolean.Test TestName.Bf s n) = of_s8 0x000076 s (unsigned 128 n)
boolean_fields (boolean.Test TestName.Bt s n) = of_s8 0x001076 s (unsigned 128 n)
boolean_fields (boolean.Choice ChoiceName.Movf r s t) = rrr 0xC30000 r s t
boolean_fields (boolean.Choice ChoiceName.Movt r s t) = rrr 0xD30000 r s t

abbrev pub fields_from : Insn → Fields
fields_from (insn.Three i) = three_fields i
fields_from (insn.Shift i) = shift_fields i
fields_from (insn.Memory i) = memory_fields i
fields_from (insn.Control i) = control_fields i
fields_from (insn.System i) = system_fields i
fields_from (insn.Density i) = density_fields i
fields_from (insn.Boolean i) = boolean_fields i
