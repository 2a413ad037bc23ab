-- States laws that are proved; nothing that a reader must believe.
-- The text of an instruction is read back.
--
-- Note: `IsReadBack` takes each printed operand as the kind that the assembler reads there: a
-- Boolean register is none in place of an address register. It holds at addresses at least 2^20
-- bytes from both ends of the address space, where no target wraps.
use Rattle.std.specs.Prelude.{◌≡◌, ℕ, ◌+◌, ◌^◌, ◌≤◌, true, pos, List, [], ◌∷◌, Option, Some, None}
use Rattle.std.specs.Prelude.{Result, Ok}
use Rattle.std.specs.Option.{option_and_then, option_map}
use Rattle.xt_isa.specs.declared.Insn.{Insn}
use Rattle.xt_isa.specs.Ranges.{in_range}
use Rattle.xt_names.specs.declared.forms.Shape.{Shape}
use Rattle.xt_names.specs.declared.forms.Shape.TheVariants as shape
use Rattle.xt_names.specs.Forms.{shapes_of}
use Rattle.xt_names.specs.Names.{mnemonic_of, name_of}
use Rattle.xt_names.specs.InsnParts.{mnemonic_in, parts_of}
use Rattle.xt_names.specs.Specials.{special_number}
use Rattle.xt_names.specs.declared.argument.Argument.{Argument}
use Rattle.xt_names.specs.declared.argument.Argument.TheVariants as argument
use Rattle.xt_names.specs.declared.argument.OperandFault.{OperandFault}
use Rattle.xt_names.specs.Making.{instruction_of}
use Rattle.xt_names.specs.Operands.{all_known}
use Rattle.xt_disasm.specs.declared.operand.Operand.{Operand}
use Rattle.xt_disasm.specs.declared.operand.Operand.TheVariants.{Register, Boolean, Number, Target}
use Rattle.xt_disasm.specs.declared.operand.Operand.TheVariants.{Special}
use Rattle.xt_disasm.specs.Operands.{operand_text, operands}

-- what a printed operand stands for where one of this shape is read: a special register is found by
-- its name
abbrev pub argument_of : Shape → Operand → Option Argument
argument_of shape.Register (Register n) = Some (argument.Register n)
argument_of shape.Boolean (Boolean n) = Some (argument.Register n)
argument_of shape.Value (Number n) = Some (argument.Value n)
argument_of shape.Value (Target address) = Some (argument.Value (pos address))
argument_of shape.Literal (Target address) = Some (argument.Value (pos address))
argument_of shape.Special (Special access n) =
    option_map argument.Special (special_number access (operand_text (Special access n)))
argument_of shape.User (Special access n) =
    option_map argument.Special (special_number access (operand_text (Special access n)))
argument_of _ _ = None

-- what printed operands stand for where operands of these shapes are read, each or none
abbrev pub arguments_of : List Shape → List Operand → List (Option Argument)
arguments_of [] [] = []
arguments_of (s ∷ shapes) (o ∷ printed) = argument_of s o ∷ arguments_of shapes printed
arguments_of _ _ = None ∷ []

-- the instruction that a name and printed operands make at an address, where each of them is found
abbrev pub printed_instruction : List ℕ → List Operand → ℕ → Option (Result Insn OperandFault)
printed_instruction name printed pc =
    option_and_then (λ m. option_map (λ arguments. instruction_of m arguments (pos pc))
    (all_known (arguments_of (shapes_of m) printed))) (mnemonic_of name)

-- The instruction, if it is in range, is read back of the mnemonic and the operands that
-- are printed of it, at the same address. At least 2^20 bytes from both ends of the
-- address space no target wraps.
abbrev pub IsReadBack : Insn → Type 0
IsReadBack i = in_range i ≡ true → (pc : ℕ) → 2 ^ 20 ≤ pc → pc + 2 ^ 20 ≤ 2 ^ 32
    → printed_instruction (name_of (mnemonic_in (parts_of i))) (operands (parts_of i) pc) pc
    ≡ Some (Ok i)
