-- Carries a proof; nothing that a reader must believe.
-- The fields that the encoder fills, from the instruction alone. Where an operand is outside its
-- range they spell another instruction, or none.
use Rattle.std.specs.Prelude.{ℕ, ◌+◌, ◌-◌, ◌*◌, ◌/◌, ◌%◌, if◌then◌else◌, nat_le, nat_lt}
use Rattle.std.specs.Prelude.{◌==◌, ℤ, pos, negsuc}
use Rattle.xt_isa.specs.declared.Insn.{Insn}
use Rattle.xt_isa.specs.declared.Insn.TheVariants as insn
use Rattle.xt_isa.specs.declared.Fields.{Fields}
use Rattle.xt_isa.specs.declared.three.Three.{Three}
use Rattle.xt_isa.specs.declared.three.Three.TheVariants as three
use Rattle.xt_isa.specs.declared.shift.Shift.{Shift}
use Rattle.xt_isa.specs.declared.shift.Shift.TheVariants as shift
use Rattle.xt_isa.specs.declared.memory.Memory.{Memory}
use Rattle.xt_isa.specs.declared.memory.Memory.TheVariants as memory
use Rattle.xt_isa.specs.declared.control.Control.{Control}
use Rattle.xt_isa.specs.declared.control.Control.TheVariants as control
use Rattle.xt_isa.specs.declared.system.System.{System}
use Rattle.xt_isa.specs.declared.system.System.TheVariants as system
use Rattle.xt_isa.specs.declared.density.Density.{Density}
use Rattle.xt_isa.specs.declared.density.Density.TheVariants as density
use Rattle.xt_isa.specs.declared.boolean.Boolean.{Boolean}
use Rattle.xt_isa.specs.declared.boolean.Boolean.TheVariants as boolean
use Rattle.xt_isa.specs.declared.three.BitwiseName.TheVariants as BitwiseName
use Rattle.xt_isa.specs.declared.three.SumName.TheVariants as SumName
use Rattle.xt_isa.specs.declared.three.DifferenceName.TheVariants as DifferenceName
use Rattle.xt_isa.specs.declared.three.Mul16Name.TheVariants as Mul16Name
use Rattle.xt_isa.specs.declared.three.MulHighName.TheVariants as MulHighName
use Rattle.xt_isa.specs.declared.three.DivideName.TheVariants as DivideName
use Rattle.xt_isa.specs.declared.three.MinMaxName.TheVariants as MinMaxName
use Rattle.xt_isa.specs.declared.three.MoveName.TheVariants as MoveName
use Rattle.xt_isa.specs.declared.shift.SignName.TheVariants as SignName
use Rattle.xt_isa.specs.declared.shift.ShiftRightName.TheVariants as ShiftRightName
use Rattle.xt_isa.specs.declared.shift.SignedName.TheVariants as SignedName
use Rattle.xt_isa.specs.declared.shift.NormalizeName.TheVariants as NormalizeName
use Rattle.xt_isa.specs.declared.shift.AmountName.TheVariants as AmountName
use Rattle.xt_isa.specs.declared.shift.ByteAmountName.TheVariants as ByteAmountName
use Rattle.xt_isa.specs.declared.memory.ByteName.TheVariants as ByteName
use Rattle.xt_isa.specs.declared.memory.HalfName.TheVariants as HalfName
use Rattle.xt_isa.specs.declared.memory.WordName.TheVariants as WordName
use Rattle.xt_isa.specs.declared.memory.WindowName.TheVariants as WindowName
use Rattle.xt_isa.specs.declared.control.CallName.TheVariants as CallName
use Rattle.xt_isa.specs.declared.control.ReturnName.TheVariants as ReturnName
use Rattle.xt_isa.specs.declared.control.CallxName.TheVariants as CallxName
use Rattle.xt_isa.specs.declared.control.ZeroName.TheVariants as ZeroName
use Rattle.xt_isa.specs.declared.control.ConstName.TheVariants as ConstName
use Rattle.xt_isa.specs.declared.control.ConstuName.TheVariants as ConstuName
use Rattle.xt_isa.specs.declared.control.BranchName.TheVariants as BranchName
use Rattle.xt_isa.specs.declared.control.OppositeName.TheVariants as OppositeName
use Rattle.xt_isa.specs.declared.control.BitName.TheVariants as BitName
use Rattle.xt_isa.specs.declared.control.LoopName.TheVariants as LoopName
use Rattle.xt_isa.specs.declared.system.SyncName.TheVariants as SyncName
use Rattle.xt_isa.specs.declared.system.WaitName.TheVariants as WaitName
use Rattle.xt_isa.specs.declared.system.ExceptionReturnName.TheVariants as ExceptionReturnName
use Rattle.xt_isa.specs.declared.system.TrapName.TheVariants as TrapName
use Rattle.xt_isa.specs.declared.system.LevelName.TheVariants as LevelName
use Rattle.xt_isa.specs.declared.system.SpecialName.TheVariants as SpecialName
use Rattle.xt_isa.specs.declared.system.UserName.TheVariants as UserName
use Rattle.xt_isa.specs.declared.density.NarrowName.TheVariants as NarrowName
use Rattle.xt_isa.specs.declared.density.NarrowZeroName.TheVariants as NarrowZeroName
use Rattle.xt_isa.specs.declared.density.BareName.TheVariants as BareName
use Rattle.xt_isa.specs.declared.boolean.LogicName.TheVariants as LogicName
use Rattle.xt_isa.specs.declared.boolean.FourName.TheVariants as FourName
use Rattle.xt_isa.specs.declared.boolean.EightName.TheVariants as EightName
use Rattle.xt_isa.specs.declared.boolean.TestName.TheVariants as TestName
use Rattle.xt_isa.specs.declared.boolean.ChoiceName.TheVariants as ChoiceName

-- ---- Numbers.
-- the two's complement of 32 bits
abbrev pub bits : ℤ → ℕ
bits (pos n) = n
bits (negsuc n) = 4294967295 - n

-- its low five bits
abbrev pub five : ℤ → ℕ
five n = bits n % 32

-- 0 for a negative number, and else the low five bits
abbrev pub small : ℤ → ℕ
small (pos n) = n % 32
small (negsuc n) = 0

-- the place of a branch constant, signed or unsigned: of -1 it is 0
abbrev pub constant : ℤ → ℕ
constant (negsuc n) = 0
constant (pos n) =
    if nat_le n 8 then n else if n == 10 then 9 else if n == 12 then 10 else if n == 16 then 11
    else if n == 32 then 12 else if n == 64 then 13 else if n == 128 then 14
    else if n == 256 then 15 else if n == 65536 then 1 else 0

-- ---- Words by the manual's formats, the opcodes first. A register need not be cut to its field.
abbrev pub fields : ℕ → ℕ → ℕ → ℕ → ℕ → ℕ → Fields
fields op0 op1 op2 r s t = record { op0 = op0; t = t; s = s; r = r; op1 = op1; op2 = op2 }

abbrev pub rrr : ℕ → ℕ → ℕ → ℕ → ℕ → Fields
rrr op1 op2 r s t = fields 0 op1 op2 r s t

-- a number of 8, 12 or 16 bits, up to bit 23
abbrev pub rri8 : ℕ → ℕ → ℕ → ℕ → ℕ → Fields
rri8 op0 r s t n = fields op0 (n % 16) (n / 16 % 16) r s t

abbrev pub bri12 : ℕ → ℕ → ℕ → Fields
bri12 t s n = fields 6 (n / 16 % 16) (n / 256 % 16) (n % 16) s t

abbrev pub ri16 : ℕ → ℕ → Fields
ri16 t n = fields 1 (n / 256 % 16) (n / 4096 % 16) (n / 16 % 16) (n % 16) t

-- a number of 18 bits, the low two in t above the low two bits of the opcode
abbrev pub call : ℕ → ℕ → ℕ → Fields
call op0 low n =
    fields op0 (n / 1024 % 16) (n / 16384 % 16) (n / 64 % 16) (n / 4 % 16) (low + 4 * (n % 4))

-- 16 bits
abbrev pub rrrn : ℕ → ℕ → ℕ → ℕ → Fields
rrrn op0 r s t = fields op0 0 0 r s t

-- ---- Words by the tables of instructions.
abbrev pub three_fields : Three → Fields
three_fields (three.Bitwise BitwiseName.And r s t) = rrr 0 1 r s t
three_fields (three.Bitwise BitwiseName.Or r s t) = rrr 0 2 r s t
three_fields (three.Bitwise BitwiseName.Xor r s t) = rrr 0 3 r s t
three_fields (three.Sum SumName.Add r s t) = rrr 0 8 r s t
three_fields (three.Sum SumName.Addx2 r s t) = rrr 0 9 r s t
three_fields (three.Sum SumName.Addx4 r s t) = rrr 0 10 r s t
three_fields (three.Sum SumName.Addx8 r s t) = rrr 0 11 r s t
three_fields (three.Difference DifferenceName.Sub r s t) = rrr 0 12 r s t
three_fields (three.Difference DifferenceName.Subx2 r s t) = rrr 0 13 r s t
three_fields (three.Difference DifferenceName.Subx4 r s t) = rrr 0 14 r s t
three_fields (three.Difference DifferenceName.Subx8 r s t) = rrr 0 15 r s t
three_fields (three.Src r s t) = rrr 1 8 r s t
three_fields (three.Mul16 Mul16Name.Mul16u r s t) = rrr 1 12 r s t
three_fields (three.Mul16 Mul16Name.Mul16s r s t) = rrr 1 13 r s t
three_fields (three.Mull r s t) = rrr 2 8 r s t
three_fields (three.MulHigh MulHighName.Muluh r s t) = rrr 2 10 r s t
three_fields (three.MulHigh MulHighName.Mulsh r s t) = rrr 2 11 r s t
three_fields (three.Divide DivideName.Quou r s t) = rrr 2 12 r s t
three_fields (three.Divide DivideName.Quos r s t) = rrr 2 13 r s t
three_fields (three.Divide DivideName.Remu r s t) = rrr 2 14 r s t
three_fields (three.Divide DivideName.Rems r s t) = rrr 2 15 r s t
three_fields (three.MinMax MinMaxName.Min r s t) = rrr 3 4 r s t
three_fields (three.MinMax MinMaxName.Max r s t) = rrr 3 5 r s t
three_fields (three.MinMax MinMaxName.Minu r s t) = rrr 3 6 r s t
three_fields (three.MinMax MinMaxName.Maxu r s t) = rrr 3 7 r s t
three_fields (three.Move MoveName.Moveqz r s t) = rrr 3 8 r s t
three_fields (three.Move MoveName.Movnez r s t) = rrr 3 9 r s t
three_fields (three.Move MoveName.Movltz r s t) = rrr 3 10 r s t
three_fields (three.Move MoveName.Movgez r s t) = rrr 3 11 r s t

abbrev pub shift_fields : Shift → Fields
shift_fields (shift.Sign SignName.Neg r t) = rrr 0 6 r 0 t
shift_fields (shift.Sign SignName.Abs r t) = rrr 0 6 r 1 t
shift_fields (shift.ShiftRight ShiftRightName.Srl r t) = rrr 1 9 r 0 t
shift_fields (shift.ShiftRight ShiftRightName.Sra r t) = rrr 1 11 r 0 t
shift_fields (shift.Sll r s) = rrr 1 10 r s 0
shift_fields (shift.Slli r s n) = rrr 1 ((32 - five n) / 16) r s (32 - five n)
shift_fields (shift.Srai r t n) = rrr 1 (2 + five n / 16) r (five n) t
shift_fields (shift.Srli r t n) = rrr 1 4 r (five n) t
shift_fields (shift.Extui r t n m) = rrr (4 + five n / 16) (five m + 15) r (five n) t
shift_fields (shift.Signed SignedName.Sext r s n) = rrr 3 2 r s (five n + 9)
shift_fields (shift.Signed SignedName.Clamps r s n) = rrr 3 3 r s (five n + 9)
shift_fields (shift.Normalize NormalizeName.Nsa t s) = rrr 0 4 14 s t
shift_fields (shift.Normalize NormalizeName.Nsau t s) = rrr 0 4 15 s t
shift_fields (shift.Movsp t s) = rrr 0 0 1 s t
shift_fields (shift.Amount AmountName.Ssr s) = rrr 0 4 0 s 0
shift_fields (shift.Amount AmountName.Ssl s) = rrr 0 4 1 s 0
shift_fields (shift.ByteAmount ByteAmountName.Ssa8l s) = rrr 0 4 2 s 0
shift_fields (shift.ByteAmount ByteAmountName.Ssa8b s) = rrr 0 4 3 s 0
shift_fields (shift.Ssai n) = rrr 0 4 4 (five n) (five n / 16)

abbrev pub memory_fields : Memory → Fields
memory_fields (memory.Byte ByteName.L8ui t s n) = rri8 2 0 s t (bits n)
memory_fields (memory.Byte ByteName.S8i t s n) = rri8 2 4 s t (bits n)
memory_fields (memory.Half HalfName.L16ui t s n) = rri8 2 1 s t (bits n / 2)
memory_fields (memory.Half HalfName.L16si t s n) = rri8 2 9 s t (bits n / 2)
memory_fields (memory.Half HalfName.S16i t s n) = rri8 2 5 s t (bits n / 2)
memory_fields (memory.Word WordName.L32i t s n) = rri8 2 2 s t (bits n / 4)
memory_fields (memory.Word WordName.S32i t s n) = rri8 2 6 s t (bits n / 4)
memory_fields (memory.Word WordName.L32ai t s n) = rri8 2 11 s t (bits n / 4)
memory_fields (memory.Word WordName.S32ri t s n) = rri8 2 15 s t (bits n / 4)
memory_fields (memory.S32c1i t s n) = rri8 2 14 s t (bits n / 4)
memory_fields (memory.Window WindowName.L32e t s n) = rrr 9 0 (bits n / 4 % 32) s t
memory_fields (memory.Window WindowName.S32e t s n) = rrr 9 4 (bits n / 4 % 32) s t
memory_fields (memory.L32r t n) = ri16 t (bits n / 4)
memory_fields (memory.Movi t n) = rri8 2 10 (bits n / 256 % 32) t (bits n)
memory_fields (memory.Addi t s n) = rri8 2 12 s t (bits n)
memory_fields (memory.Addmi t s n) = rri8 2 13 s t (bits n / 256)

abbrev pub control_fields : Control → Fields
control_fields (control.J n) = call 6 0 (bits n)
control_fields (control.Call CallName.Call0 n) = call 5 0 (bits n / 4)
control_fields (control.Call CallName.Call4 n) = call 5 1 (bits n / 4)
control_fields (control.Call CallName.Call8 n) = call 5 2 (bits n / 4)
control_fields (control.Call CallName.Call12 n) = call 5 3 (bits n / 4)
control_fields (control.Return ReturnName.Ret) = rrr 0 0 0 0 8
control_fields (control.Return ReturnName.Retw) = rrr 0 0 0 0 9
control_fields (control.Jx s) = rrr 0 0 0 s 10
control_fields (control.Callx CallxName.Callx0 s) = rrr 0 0 0 s 12
control_fields (control.Callx CallxName.Callx4 s) = rrr 0 0 0 s 13
control_fields (control.Callx CallxName.Callx8 s) = rrr 0 0 0 s 14
control_fields (control.Callx CallxName.Callx12 s) = rrr 0 0 0 s 15
control_fields (control.BranchZero ZeroName.Beqz s n) = bri12 1 s (bits n)
control_fields (control.BranchZero ZeroName.Bnez s n) = bri12 5 s (bits n)
control_fields (control.BranchZero ZeroName.Bltz s n) = bri12 9 s (bits n)
control_fields (control.BranchZero ZeroName.Bgez s n) = bri12 13 s (bits n)
control_fields (control.BranchConst ConstName.Beqi s c n) = rri8 6 (constant c) s 2 (bits n)
control_fields (control.BranchConst ConstName.Bnei s c n) = rri8 6 (constant c) s 6 (bits n)
control_fields (control.BranchConst ConstName.Blti s c n) = rri8 6 (constant c) s 10 (bits n)
control_fields (control.BranchConst ConstName.Bgei s c n) = rri8 6 (constant c) s 14 (bits n)
control_fields (control.BranchConstu ConstuName.Bltui s c n) = rri8 6 (constant c) s 11 (bits n)
control_fields (control.BranchConstu ConstuName.Bgeui s c n) = rri8 6 (constant c) s 15 (bits n)
control_fields (control.Branch BranchName.Bnone s t n) = rri8 7 0 s t (bits n)
control_fields (control.Branch BranchName.Beq s t n) = rri8 7 1 s t (bits n)
control_fields (control.Branch BranchName.Blt s t n) = rri8 7 2 s t (bits n)
control_fields (control.Branch BranchName.Bltu s t n) = rri8 7 3 s t (bits n)
control_fields (control.Branch BranchName.Ball s t n) = rri8 7 4 s t (bits n)
control_fields (control.Branch BranchName.Bbc s t n) = rri8 7 5 s t (bits n)
control_fields (control.BranchNot OppositeName.Bany s t n) = rri8 7 8 s t (bits n)
control_fields (control.BranchNot OppositeName.Bne s t n) = rri8 7 9 s t (bits n)
control_fields (control.BranchNot OppositeName.Bge s t n) = rri8 7 10 s t (bits n)
control_fields (control.BranchNot OppositeName.Bgeu s t n) = rri8 7 11 s t (bits n)
control_fields (control.BranchNot OppositeName.Bnall s t n) = rri8 7 12 s t (bits n)
control_fields (control.BranchNot OppositeName.Bbs s t n) = rri8 7 13 s t (bits n)
control_fields (control.BranchBit BitName.Bbci s b n) = rri8 7 (6 + five b / 16) s (five b) (bits n)
control_fields (control.BranchBit BitName.Bbsi s b n) =
    rri8 7 (14 + five b / 16) s (five b) (bits n)
control_fields (control.Entry s n) = bri12 3 s (bits n / 8)
control_fields (control.Loop LoopName.Loop s n) = rri8 6 8 s 7 (bits n)
control_fields (control.Loop LoopName.Loopnez s n) = rri8 6 9 s 7 (bits n)
control_fields (control.Loop LoopName.Loopgtz s n) = rri8 6 10 s 7 (bits n)

abbrev pub system_fields : System → Fields
system_fields (system.Sync SyncName.Ill) = rrr 0 0 0 0 0
system_fields (system.Sync SyncName.Isync) = rrr 0 0 2 0 0
system_fields (system.Sync SyncName.Rsync) = rrr 0 0 2 0 1
system_fields (system.Sync SyncName.Esync) = rrr 0 0 2 0 2
system_fields (system.Sync SyncName.Dsync) = rrr 0 0 2 0 3
system_fields (system.Wait WaitName.Excw) = rrr 0 0 2 0 8
system_fields (system.Wait WaitName.Memw) = rrr 0 0 2 0 12
system_fields (system.Wait WaitName.Extw) = rrr 0 0 2 0 13
system_fields (system.Wait WaitName.Nop) = rrr 0 0 2 0 15
system_fields (system.ExceptionReturn ExceptionReturnName.Rfe) = rrr 0 0 3 0 0
system_fields (system.ExceptionReturn ExceptionReturnName.Rfde) = rrr 0 0 3 2 0
system_fields (system.ExceptionReturn ExceptionReturnName.Rfwo) = rrr 0 0 3 4 0
system_fields (system.ExceptionReturn ExceptionReturnName.Rfwu) = rrr 0 0 3 5 0
system_fields (system.Rfi n) = rrr 0 0 3 (five n) 1
system_fields (system.Trap TrapName.Break m n) = rrr 0 0 4 (five m) (five n)
system_fields (system.Trap TrapName.Syscall m n) = rrr 0 0 5 0 0
system_fields (system.Level LevelName.Rsil t n) = rrr 0 0 6 (five n) t
system_fields (system.Level LevelName.Waiti t n) = rrr 0 0 7 (five n) 0
system_fields (system.Rotw n) = rrr 0 4 8 0 (five n)
system_fields (system.Special SpecialName.Rsr t n) = rrr 3 0 (n / 16) n t
system_fields (system.Special SpecialName.Wsr t n) = rrr 3 1 (n / 16) n t
system_fields (system.Special SpecialName.Xsr t n) = rrr 1 6 (n / 16) n t
system_fields (system.User UserName.Rur r n) = rrr 3 14 r 14 7
system_fields (system.User UserName.Wur t n) = rrr 3 15 14 7 t

abbrev pub density_fields : Density → Fields
density_fields (density.Word NarrowName.L32i t s n) = rrrn 8 (bits n / 4 % 32) s t
density_fields (density.Word NarrowName.S32i t s n) = rrrn 9 (bits n / 4 % 32) s t
density_fields (density.Add r s t) = rrrn 10 r s t
density_fields (density.Addi r s n) = rrrn 11 r s (small n)
density_fields (density.Movi s n) = rrrn 12 (five n) s (bits n / 16 % 8)
density_fields (density.BranchZero NarrowZeroName.Beqz s n) =
    rrrn 12 (five n) s (8 + bits n / 16 % 4)
density_fields (density.BranchZero NarrowZeroName.Bnez s n) =
    rrrn 12 (five n) s (12 + bits n / 16 % 4)
density_fields (density.Mov t s) = rrrn 13 0 s t
density_fields (density.Bare BareName.Ret) = rrrn 13 15 0 0
density_fields (density.Bare BareName.Retw) = rrrn 13 15 0 1
density_fields (density.Bare BareName.Nop) = rrrn 13 15 0 3
density_fields (density.Bare BareName.Ill) = rrrn 13 15 0 6
density_fields (density.Break n) = rrrn 13 15 (five n) 2

abbrev pub boolean_fields : Boolean → Fields
boolean_fields (boolean.Logic LogicName.Andb r s t) = rrr 2 0 r s t
boolean_fields (boolean.Logic LogicName.Andbc r s t) = rrr 2 1 r s t
boolean_fields (boolean.Logic LogicName.Orb r s t) = rrr 2 2 r s t
boolean_fields (boolean.Logic LogicName.Orbc r s t) = rrr 2 3 r s t
boolean_fields (boolean.Logic LogicName.Xorb r s t) = rrr 2 4 r s t
boolean_fields (boolean.Four FourName.Any4 t s) = rrr 0 0 8 s t
boolean_fields (boolean.Four FourName.All4 t s) = rrr 0 0 9 s t
boolean_fields (boolean.Eight EightName.Any8 t s) = rrr 0 0 10 s t
boolean_fields (boolean.Eight EightName.All8 t s) = rrr 0 0 11 s t
boolean_fields (boolean.Test TestName.Bf s n) = rri8 6 0 s 7 (bits n)
boolean_fields (boolean.Test TestName.Bt s n) = rri8 6 1 s 7 (bits n)
boolean_fields (boolean.Choice ChoiceName.Movf r s t) = rrr 3 12 r s t
boolean_fields (boolean.Choice ChoiceName.Movt r s t) = rrr 3 13 r s t

abbrev pub uncut_fields : Insn → Fields
uncut_fields (insn.Three i) = three_fields i
uncut_fields (insn.Shift i) = shift_fields i
uncut_fields (insn.Memory i) = memory_fields i
uncut_fields (insn.Control i) = control_fields i
uncut_fields (insn.System i) = system_fields i
uncut_fields (insn.Density i) = density_fields i
uncut_fields (insn.Boolean i) = boolean_fields i

-- each field cut to four bits; of a 16-bit word those of the third byte are 0
abbrev pub four_bit_fields : Fields → Fields
four_bit_fields w =
    record {
      op0 = w.op0 % 16;
      t = w.t % 16;
      s = w.s % 16;
      r = w.r % 16;
      op1 = if nat_lt w.op0 8 then w.op1 % 16 else 0;
      op2 = if nat_lt w.op0 8 then w.op2 % 16 else 0;
    }

abbrev pub fields_from : Insn → Fields
fields_from i = four_bit_fields (uncut_fields i)
