-- What an instruction reads is at most what it names, and the registers that it names exist where its operands are in
-- their ranges; so those that it reads exist too.
use Rattle.std.proofs.Common.{◌≡◌, ℕ, ◌*◌, ◌<◌, true, Option, None, Some, max, refl, arith, ltb-true}
use Rattle.std.proofs.lemmas.Bool.{and_parts}
use Rattle.xt_isa.specs.declared.Insn.{Insn}
use Rattle.xt_isa.specs.declared.Insn.TheVariants as insn
use Rattle.xt_isa.specs.declared.three.Three.{Three}
use Rattle.xt_isa.specs.declared.three.Three.TheVariants as three
use Rattle.xt_isa.specs.declared.shift.Shift.{Shift}
use Rattle.xt_isa.specs.declared.shift.Shift.TheVariants as shift
use Rattle.xt_isa.specs.declared.memory.Memory.{Memory}
use Rattle.xt_isa.specs.declared.memory.Memory.TheVariants as memory
use Rattle.xt_isa.specs.declared.memory.ByteName.TheVariants as ByteName
use Rattle.xt_isa.specs.declared.memory.HalfName.TheVariants as HalfName
use Rattle.xt_isa.specs.declared.memory.WordName.TheVariants as WordName
use Rattle.xt_isa.specs.declared.memory.WindowName.TheVariants as WindowName
use Rattle.xt_isa.specs.declared.control.Control.{Control}
use Rattle.xt_isa.specs.declared.control.Control.TheVariants as control
use Rattle.xt_isa.specs.declared.control.CallName.{CallName}
use Rattle.xt_isa.specs.declared.control.CallxName.{CallxName}
use Rattle.xt_isa.specs.declared.system.System.{System}
use Rattle.xt_isa.specs.declared.system.System.TheVariants as system
use Rattle.xt_isa.specs.declared.system.LevelName.TheVariants as LevelName
use Rattle.xt_isa.specs.declared.system.SpecialName.TheVariants as SpecialName
use Rattle.xt_isa.specs.declared.system.UserName.TheVariants as UserName
use Rattle.xt_isa.specs.declared.density.Density.{Density}
use Rattle.xt_isa.specs.declared.density.Density.TheVariants as density
use Rattle.xt_isa.specs.declared.density.NarrowName.TheVariants as NarrowName
use Rattle.xt_isa.specs.declared.density.BareName.TheVariants as BareName
use Rattle.xt_isa.specs.declared.boolean.Boolean.{Boolean}
use Rattle.xt_isa.specs.declared.boolean.Boolean.TheVariants as boolean
use Rattle.xt_isa.specs.Ranges.{one_register, two_registers, three_registers, in_range, three_in_range, shift_in_range, memory_in_range, control_in_range, system_in_range, density_in_range, boolean_in_range}
use Rattle.xt_rows.specs.Operands.{call_size, callx_size, three_reads, shift_reads, memory_reads, control_reads, system_reads, density_reads, boolean_reads, reads, special_reads, three_named, shift_named, memory_named, control_named, system_named, density_named, boolean_named, highest_register}
use Rattle.xt_rows.specs.RowLaws.{IsHeld, IsRegister, IsShiftAmount}
use Rattle.xt_rows.specs.Kinds.{IsAtMost, ReadsAreNamed}

abbrev AreAtMost : ℕ → Option ℕ × Option ℕ → Type 0
AreAtMost n numbers = IsAtMost n numbers.0 × IsAtMost n numbers.1

three_reads_named : (i : Three) → AreAtMost (three_named i) (three_reads i)
three_reads_named (three.Bitwise name r s t) = (omega arith, omega arith)
three_reads_named (three.Sum name r s t) = (omega arith, omega arith)
three_reads_named (three.Difference name r s t) = (omega arith, omega arith)
three_reads_named (three.Src r s t) = (omega arith, omega arith)
three_reads_named (three.Mul16 name r s t) = (omega arith, omega arith)
three_reads_named (three.Mull r s t) = (omega arith, omega arith)
three_reads_named (three.MulHigh name r s t) = (omega arith, omega arith)
three_reads_named (three.Divide name r s t) = (omega arith, omega arith)
three_reads_named (three.MinMax name r s t) = (omega arith, omega arith)
three_reads_named (three.Move name r s t) = (omega arith, omega arith)

shift_reads_named : (i : Shift) → AreAtMost (shift_named i) (shift_reads i)
shift_reads_named (shift.Sign name r t) = (omega arith, tt)
shift_reads_named (shift.ShiftRight name r t) = (omega arith, tt)
shift_reads_named (shift.Sll r s) = (omega arith, tt)
shift_reads_named (shift.Slli r s n) = (omega arith, tt)
shift_reads_named (shift.Srai r t n) = (omega arith, tt)
shift_reads_named (shift.Srli r t n) = (omega arith, tt)
shift_reads_named (shift.Extui r t n width) = (omega arith, tt)
shift_reads_named (shift.Signed name r s b) = (omega arith, tt)
shift_reads_named (shift.Normalize name t s) = (omega arith, tt)
shift_reads_named (shift.Movsp t s) = (omega arith, tt)
shift_reads_named (shift.Amount name s) = (omega arith, tt)
shift_reads_named (shift.ByteAmount name s) = (omega arith, tt)
shift_reads_named (shift.Ssai n) = (tt, tt)

memory_reads_named : (i : Memory) → AreAtMost (memory_named i) (memory_reads i)
memory_reads_named (memory.Byte ByteName.L8ui t s offset) = (omega arith, tt)
memory_reads_named (memory.Byte ByteName.S8i t s offset) = (omega arith, omega arith)
memory_reads_named (memory.Half HalfName.L16ui t s offset) = (omega arith, tt)
memory_reads_named (memory.Half HalfName.L16si t s offset) = (omega arith, tt)
memory_reads_named (memory.Half HalfName.S16i t s offset) = (omega arith, omega arith)
memory_reads_named (memory.Word WordName.L32i t s offset) = (omega arith, tt)
memory_reads_named (memory.Word WordName.S32i t s offset) = (omega arith, omega arith)
memory_reads_named (memory.Word WordName.L32ai t s offset) = (omega arith, tt)
memory_reads_named (memory.Word WordName.S32ri t s offset) = (omega arith, omega arith)
memory_reads_named (memory.S32c1i t s offset) = (omega arith, omega arith)
memory_reads_named (memory.Window WindowName.L32e t s offset) = (omega arith, tt)
memory_reads_named (memory.Window WindowName.S32e t s offset) = (omega arith, omega arith)
memory_reads_named (memory.L32r t offset) = (tt, tt)
memory_reads_named (memory.Movi t n) = (tt, tt)
memory_reads_named (memory.Addi t s n) = (omega arith, tt)
memory_reads_named (memory.Addmi t s n) = (omega arith, tt)

control_reads_named : (i : Control) → AreAtMost (control_named i) (control_reads i)
control_reads_named (control.J offset) = (tt, tt)
control_reads_named (control.Call name offset) = (tt, tt)
control_reads_named (control.Return name) = (omega arith, tt)
control_reads_named (control.Jx s) = (omega arith, tt)
control_reads_named (control.Callx name s) = (omega arith, tt)
control_reads_named (control.BranchZero name s offset) = (omega arith, tt)
control_reads_named (control.BranchConst name s c offset) = (omega arith, tt)
control_reads_named (control.BranchConstu name s c offset) = (omega arith, tt)
control_reads_named (control.Branch name s t offset) = (omega arith, omega arith)
control_reads_named (control.BranchNot name s t offset) = (omega arith, omega arith)
control_reads_named (control.BranchBit name s b offset) = (omega arith, tt)
control_reads_named (control.Entry s n) = (omega arith, tt)
control_reads_named (control.Loop name s offset) = (omega arith, tt)

system_reads_named : (i : System) → AreAtMost (system_named i) (system_reads i)
system_reads_named (system.Special SpecialName.Wsr t n) = (omega arith, tt)
system_reads_named (system.Special SpecialName.Xsr t n) = (omega arith, tt)
system_reads_named (system.User UserName.Wur t n) = (omega arith, tt)
system_reads_named _ = (tt, tt)

density_reads_named : (i : Density) → AreAtMost (density_named i) (density_reads i)
density_reads_named (density.Word NarrowName.L32i t s offset) = (omega arith, tt)
density_reads_named (density.Word NarrowName.S32i t s offset) = (omega arith, omega arith)
density_reads_named (density.Add r s t) = (omega arith, omega arith)
density_reads_named (density.Addi r s n) = (omega arith, tt)
density_reads_named (density.Movi s n) = (tt, tt)
density_reads_named (density.BranchZero name s offset) = (omega arith, tt)
density_reads_named (density.Mov t s) = (omega arith, tt)
density_reads_named (density.Bare BareName.Ret) = (omega arith, tt)
density_reads_named (density.Bare BareName.Retw) = (omega arith, tt)
density_reads_named (density.Bare BareName.Nop) = (tt, tt)
density_reads_named (density.Bare BareName.Ill) = (tt, tt)
density_reads_named (density.Break n) = (tt, tt)

boolean_reads_named : (i : Boolean) → AreAtMost (boolean_named i) (boolean_reads i)
boolean_reads_named (boolean.Logic name r s t) = (tt, tt)
boolean_reads_named (boolean.Four name t s) = (tt, tt)
boolean_reads_named (boolean.Eight name t s) = (tt, tt)
boolean_reads_named (boolean.Test name s offset) = (tt, tt)
boolean_reads_named (boolean.Choice name r s t) = (omega arith, tt)

pub reads_named : ReadsAreNamed
unfolding reads highest_register
reads_named (insn.Three i) = (three_reads_named i)
reads_named (insn.Shift i) = (shift_reads_named i)
reads_named (insn.Memory i) = (memory_reads_named i)
reads_named (insn.Control i) = (control_reads_named i)
reads_named (insn.System i) = (system_reads_named i)
reads_named (insn.Density i) = (density_reads_named i)
reads_named (insn.Boolean i) = (boolean_reads_named i)

below : (a : ℕ) → one_register a ≡ true → a < 16
unfolding one_register
below a h = ltb-true a 16 h

both : (a b : ℕ) → two_registers a b ≡ true → (a < 16) × (b < 16)
unfolding two_registers
both a b h = let p = and_parts _ _ h in (ltb-true a 16 p.0, ltb-true b 16 p.1)

all : (a b c : ℕ) → three_registers a b c ≡ true → (a < 16) × (b < 16) × (c < 16)
unfolding three_registers
all a b c h =
    let p = and_parts _ _ h in
    let q = and_parts _ _ p.1 in
    (ltb-true a 16 p.0, ltb-true b 16 q.0, ltb-true c 16 q.1)

max_2 : (a b : ℕ) → a < 16 → b < 16 → max a b < 16
max_2 a b p q = omega arith

max_3 : (a b c : ℕ) → a < 16 → b < 16 → c < 16 → max a (max b c) < 16
max_3 a b c p q r = omega arith

named_2 : (a b : ℕ) → two_registers a b ≡ true → max a b < 16
named_2 a b h = let p = both a b h in max_2 a b p.0 p.1

named_3 : (a b c : ℕ) → three_registers a b c ≡ true → max a (max b c) < 16
named_3 a b c h = let p = all a b c h in max_3 a b c p.0 p.1 p.2

three_names : (i : Three) → three_in_range i ≡ true → three_named i < 16
three_names (three.Bitwise name r s t) ok = named_3 r s t ok
three_names (three.Sum name r s t) ok = named_3 r s t ok
three_names (three.Difference name r s t) ok = named_3 r s t ok
three_names (three.Src r s t) ok = named_3 r s t ok
three_names (three.Mul16 name r s t) ok = named_3 r s t ok
three_names (three.Mull r s t) ok = named_3 r s t ok
three_names (three.MulHigh name r s t) ok = named_3 r s t ok
three_names (three.Divide name r s t) ok = named_3 r s t ok
three_names (three.MinMax name r s t) ok = named_3 r s t ok
three_names (three.Move name r s t) ok = named_3 r s t ok

shift_names : (i : Shift) → shift_in_range i ≡ true → shift_named i < 16
shift_names (shift.Sign name r t) ok = named_2 r t ok
shift_names (shift.ShiftRight name r t) ok = named_2 r t ok
shift_names (shift.Sll r s) ok = named_2 r s ok
shift_names (shift.Slli r s n) ok = named_2 r s (and_parts _ _ ok).0
shift_names (shift.Srai r t n) ok = named_2 r t (and_parts _ _ ok).0
shift_names (shift.Srli r t n) ok = named_2 r t (and_parts _ _ ok).0
shift_names (shift.Extui r t n width) ok = named_2 r t (and_parts _ _ ok).0
shift_names (shift.Signed name r s b) ok = named_2 r s (and_parts _ _ ok).0
shift_names (shift.Normalize name t s) ok = named_2 t s ok
shift_names (shift.Movsp t s) ok = named_2 t s ok
shift_names (shift.Amount name s) ok = below s ok
shift_names (shift.ByteAmount name s) ok = below s ok
shift_names (shift.Ssai n) ok = omega arith

memory_names : (i : Memory) → memory_in_range i ≡ true → memory_named i < 16
memory_names (memory.Byte name t s offset) ok = named_2 t s (and_parts _ _ ok).0
memory_names (memory.Half name t s offset) ok = named_2 t s (and_parts _ _ ok).0
memory_names (memory.Word name t s offset) ok = named_2 t s (and_parts _ _ ok).0
memory_names (memory.S32c1i t s offset) ok = named_2 t s (and_parts _ _ ok).0
memory_names (memory.Window name t s offset) ok = named_2 t s (and_parts _ _ ok).0
memory_names (memory.Addi t s n) ok = named_2 t s (and_parts _ _ ok).0
memory_names (memory.Addmi t s n) ok = named_2 t s (and_parts _ _ ok).0
memory_names (memory.L32r t offset) ok = below t (and_parts _ _ ok).0
memory_names (memory.Movi t n) ok = below t (and_parts _ _ ok).0

call_names : (name : CallName) → 4 * call_size name < 16
call_names CallName.Call0 = omega arith
call_names CallName.Call4 = omega arith
call_names CallName.Call8 = omega arith
call_names CallName.Call12 = omega arith

callx_names : (name : CallxName) → 4 * callx_size name < 16
callx_names CallxName.Callx0 = omega arith
callx_names CallxName.Callx4 = omega arith
callx_names CallxName.Callx8 = omega arith
callx_names CallxName.Callx12 = omega arith

control_names : (i : Control) → control_in_range i ≡ true → control_named i < 16
control_names (control.J offset) ok = omega arith
control_names (control.Call name offset) ok = call_names name
control_names (control.Return name) ok = omega arith
control_names (control.Jx s) ok = below s ok
control_names (control.Callx name s) ok = max_2 (4 * callx_size name) s (callx_names name) (below s ok)
control_names (control.BranchZero name s offset) ok = below s (and_parts _ _ ok).0
control_names (control.BranchConst name s c offset) ok = below s (and_parts _ _ ok).0
control_names (control.BranchConstu name s c offset) ok = below s (and_parts _ _ ok).0
control_names (control.Branch name s t offset) ok = named_2 s t (and_parts _ _ ok).0
control_names (control.BranchNot name s t offset) ok = named_2 s t (and_parts _ _ ok).0
control_names (control.BranchBit name s b offset) ok = below s (and_parts _ _ ok).0
control_names (control.Entry s n) ok = below s (and_parts _ _ ok).0
control_names (control.Loop name s offset) ok = below s (and_parts _ _ ok).0

system_names : (i : System) → system_in_range i ≡ true → system_named i < 16
system_names (system.Sync name) ok = omega arith
system_names (system.Wait name) ok = omega arith
system_names (system.ExceptionReturn name) ok = omega arith
system_names (system.Rfi level) ok = omega arith
system_names (system.Trap name level number) ok = omega arith
system_names (system.Level LevelName.Rsil t level) ok = below t (and_parts _ _ ok).0
system_names (system.Level LevelName.Waiti t level) ok = omega arith
system_names (system.Rotw n) ok = omega arith
system_names (system.Special SpecialName.Rsr t n) ok = below t (and_parts _ _ ok).0
system_names (system.Special SpecialName.Wsr t n) ok = below t (and_parts _ _ ok).0
system_names (system.Special SpecialName.Xsr t n) ok = below t (and_parts _ _ ok).0
system_names (system.User UserName.Rur r n) ok = below r (and_parts _ _ ok).0
system_names (system.User UserName.Wur t n) ok = below t (and_parts _ _ ok).0

density_names : (i : Density) → density_in_range i ≡ true → density_named i < 16
density_names (density.Word NarrowName.L32i t s offset) ok = named_2 t s (and_parts _ _ ok).0
density_names (density.Word NarrowName.S32i t s offset) ok = named_2 t s (and_parts _ _ ok).0
density_names (density.Add r s t) ok = named_3 r s t ok
density_names (density.Addi r s n) ok = named_2 r s (and_parts _ _ ok).0
density_names (density.Movi s n) ok = below s (and_parts _ _ ok).0
density_names (density.BranchZero name s offset) ok = below s (and_parts _ _ ok).0
density_names (density.Mov t s) ok = named_2 t s ok
density_names (density.Bare BareName.Ret) ok = omega arith
density_names (density.Bare BareName.Retw) ok = omega arith
density_names (density.Bare BareName.Nop) ok = omega arith
density_names (density.Bare BareName.Ill) ok = omega arith
density_names (density.Break n) ok = omega arith

boolean_names : (i : Boolean) → boolean_in_range i ≡ true → boolean_named i < 16
boolean_names (boolean.Logic name r s t) ok = omega arith
boolean_names (boolean.Four name t s) ok = omega arith
boolean_names (boolean.Eight name t s) ok = omega arith
boolean_names (boolean.Test name s offset) ok = omega arith
boolean_names (boolean.Choice name r s t) ok = let p = all r s t ok in max_2 r s p.0 p.1

pub names_registers : (i : Insn) → in_range i ≡ true → highest_register i < 16
unfolding highest_register
names_registers (insn.Three i) ok = three_names i ok
names_registers (insn.Shift i) ok = shift_names i ok
names_registers (insn.Memory i) ok = memory_names i ok
names_registers (insn.Control i) ok = control_names i ok
names_registers (insn.System i) ok = system_names i ok
names_registers (insn.Density i) ok = density_names i ok
names_registers (insn.Boolean i) ok = boolean_names i ok

abbrev AreRegisters : Option ℕ × Option ℕ → Type 0
AreRegisters r = IsRegister r.0 × IsRegister r.1

at_most : (n : ℕ) (number : Option ℕ) → n < 16 → IsAtMost n number → IsRegister number
at_most n None small least = tt
at_most n (Some number) small least = omega (arith, small, least)

-- what an instruction reads is at most what it names
pub reads_registers : (i : Insn) → in_range i ≡ true → AreRegisters (reads i)
reads_registers i ok =
    let each = reads_named i in
    let small = names_registers i ok in
    (at_most (highest_register i) (reads i).0 small each.0, at_most (highest_register i) (reads i).1 small each.1)

-- a row that shifts by SAR has what SAR can hold
pub shift_amount : (i : Insn) (u : ℕ) → IsHeld (special_reads i).0 u → IsShiftAmount i u
unfolding special_reads
shift_amount (insn.Three (three.Src r s t)) u held = held refl
shift_amount (insn.Three _) u held = omega (arith, held)
shift_amount (insn.Shift (shift.ShiftRight name r t)) u held = held refl
shift_amount (insn.Shift (shift.Sll r s)) u held = held refl
shift_amount (insn.Shift _) u held = omega (arith, held)
shift_amount (insn.Memory i) u held = tt
shift_amount (insn.Control i) u held = tt
shift_amount (insn.System i) u held = tt
shift_amount (insn.Density i) u held = tt
shift_amount (insn.Boolean i) u held = tt
