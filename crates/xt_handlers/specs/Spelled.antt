-- The instructions of a vector's 64 bytes, as the processor's fetch reads them ('profile': bytes
-- that spell nothing take the length that their first byte gives).
use Rattle.std.specs.Prelude.{ℕ, zero, suc, ◌+◌, ◌-◌, ◌<◌, nat_lt, if◌then◌else◌, ℤ, unsigned_abs}
use Rattle.std.specs.Prelude.{Option, Some, None, List, [], ◌∷◌, length, slice_index}
use Rattle.xt_isa.specs.declared.Insn.{Insn}
use Rattle.xt_isa.specs.declared.Insn.TheVariants as insn
use Rattle.xt_isa.specs.declared.memory.WindowName.{WindowName}
use Rattle.xt_isa.specs.declared.memory.WindowName.TheVariants as window
use Rattle.xt_isa.specs.declared.memory.Memory.TheVariants as memory
use Rattle.xt_isa.specs.declared.system.System.TheVariants as system
use Rattle.xt_isa.specs.declared.system.WaitName.TheVariants as wait
use Rattle.xt_isa.specs.declared.system.ExceptionReturnName.TheVariants as return
use Rattle.xt_isa.specs.declared.density.Density.TheVariants as density
use Rattle.xt_isa.specs.declared.density.BareName.TheVariants as narrow
use Rattle.xt_isa.specs.Spelling.{spelled_insn, fields_at, length_of}
use Rattle.xt_handlers.specs.Handling.{Line}
use Rattle.xt_handlers.specs.declared.stretch.HandlerInsn.{HandlerInsn}
use Rattle.xt_handlers.specs.declared.stretch.HandlerInsn.TheVariants.{L32e, S32e, Nop, Rfwo, Rfwu, Foreign}

abbrev pub window_step_of : WindowName → ℕ → ℕ → ℤ → HandlerInsn
window_step_of window.L32e t s offset = L32e t s (unsigned_abs offset)
window_step_of window.S32e t s offset = S32e t s (unsigned_abs offset)

-- what an instruction is to a handler
unfoldable pub step_of_insn : Insn → HandlerInsn
step_of_insn (insn.Memory (memory.Window name t s offset)) = window_step_of name t s offset
step_of_insn (insn.System (system.Wait wait.Nop)) = Nop
step_of_insn (insn.Density (density.Bare narrow.Nop)) = Nop
step_of_insn (insn.System (system.ExceptionReturn return.Rfwo)) = Rfwo
step_of_insn (insn.System (system.ExceptionReturn return.Rfwu)) = Rfwu
step_of_insn _ = Foreign

abbrev pub step_of_spelled : Option Insn → HandlerInsn
step_of_spelled None = Foreign
step_of_spelled (Some i) = step_of_insn i

-- what three bytes spell; of a two-byte instruction the third plays no part
unfoldable pub step_of : ℕ → ℕ → ℕ → HandlerInsn
step_of a b c = step_of_spelled (spelled_insn (fields_at a b c))

-- the instructions that lie whole in the bytes; `inside` bytes more belong to the one before
abbrev pub lines_in : ℕ → ℕ → List ℕ → List Line
lines_in inside offset [] = []
lines_in (suc inside) offset (a ∷ rest) = lines_in inside (offset + 1) rest
lines_in zero offset (a ∷ rest) = if nat_lt (length rest + 1) (length_of a)
    then []
    else record {
      offset = offset;
      step = step_of a (slice_index rest 0) (slice_index rest 1);
    } ∷ lines_in (length_of a - 1) (offset + 1) rest

unfoldable pub lines_of : List ℕ → List Line
lines_of bytes = lines_in 0 0 bytes

-- the register numbers of a step, and how far below its base a word lies
abbrev pub HasRegisters : HandlerInsn → Type 0
HasRegisters (L32e t s back) = (t < 16) × (s < 16)
HasRegisters (S32e t s back) = (t < 16) × (s < 16)
HasRegisters Nop = Unit {0}
HasRegisters Rfwo = Unit {0}
HasRegisters Rfwu = Unit {0}
HasRegisters Foreign = Unit {0}
