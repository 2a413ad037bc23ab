-- Carries a proof; nothing that a reader must believe.
-- What the code knows of a statement, as the definitions see it.
use Rattle.std.specs.Prelude.{length, ◌||◌, [], ◌∷◌, ◌≡◌, true, List, Option, Some, Result, Ok, Vec}
use Rattle.std.specs.Prelude.{option_map}
use Rattle.std.specs.declared.alloc.Global.{Global}
use Rattle.xt_isa.specs.declared.Insn.{Insn}
use Rattle.xt_isa.specs.Ranges.{in_range}
use Rattle.xt_names.specs.declared.argument.Argument.{Argument}
use Rattle.xt_names.specs.declared.argument.OperandFault.{OperandFault}
use Rattle.xt_names.specs.declared.mnemonic.Mnemonic.{Mnemonic}
use Rattle.xt_names.specs.Forms.{size_of}
use Rattle.xt_names.specs.Lengths.{HasLength}
use Rattle.xt_asm.specs.declared.operands.Context.{Context}
use Rattle.xt_parse.specs.declared.line.Line.{Line}
use Rattle.xt_parse.specs.declared.statement.Statement.{Statement}
use Rattle.xt_parse.specs.declared.statement.Statement.TheVariants as statement
use Rattle.xt_parse.specs.Small.{IsShort}
use Rattle.xt_layout.specs.declared.word.PoolWord.{PoolWord}
use Rattle.xt_lex.specs.declared.fault.AsmFault.{AsmFault}
use Rattle.xt_lex.specs.declared.fault.AsmFault.TheVariants as fault
use Rattle.xt_asm.specs.Pieces.{Source}
use Rattle.xt_layout.specs.Findings.{Finding, at_statement, fails, first}
use Rattle.xt_asm.specs.Kinds.{has_misfit, has_no_word, has_unknown, is_misaligned_target}
use Rattle.xt_asm.specs.Kinds.{is_out_of_reach, is_range, is_stray_entry}
use Rattle.xt_asm.specs.Operands.{Site}

abbrev pub site_of : Context → Site
site_of c = record { labels = c.labels.now; target = c.target; at = c.at }

abbrev pub known_items : Option (Vec Argument Global) → Option (List Argument)
known_items known = option_map (λ v. v.items) known

-- an instruction has its operands in range, and as many bytes as its mnemonic says
abbrev pub IsMade : Mnemonic → Option (Result Insn OperandFault) → Type 0
IsMade m (Some (Ok i)) = (in_range i ≡ true) × HasLength i (size_of m)
IsMade m _ = Unit {0}

-- an instruction is that of a statement
abbrev pub IsMadeOf : Statement → Option (Result Insn OperandFault) → Type 0
IsMadeOf (statement.Insn m operands) made = IsMade m made
IsMadeOf _ made = Unit {0}

-- where the statement is an instruction, one was made
abbrev pub IsWhole : Statement → Option (Result Insn OperandFault) → Type 0
IsWhole (statement.Insn name operands) (Some (Ok i)) = Unit {0}
IsWhole (statement.Insn name operands) _ = ⊥
IsWhole _ made = Unit {0}

-- the expression of a pool word is short
abbrev pub IsShortWord : PoolWord → Type 0
IsShortWord w = IsShort w.value

-- a statement with the words of its pool
abbrev pub piece_source : Context → List PoolWord → Statement → Source
piece_source c pool s =
    record { site = site_of c; pool = pool; pool_size = length pool; statement = s }

-- the answer is this fault, unless memory ran out
abbrev pub LineFault : AsmFault → Finding → Type 0
LineFault (fault.Place place) finding = finding ≡ Some place
LineFault fault.Memory finding = Unit {0}

-- the first fault of a line that no earlier pass finds, where its instruction is made
abbrev pub own_fault : Site → Line → Option (Result Insn OperandFault) → Finding
own_fault site l made = first (fails (has_unknown site.labels l.statement) (at_statement l 1)
    ∷ fails (has_misfit site l.statement || is_range made) (at_statement l 2)
    ∷ fails (is_misaligned_target made) (at_statement l 5)
    ∷ fails (is_stray_entry site.labels l.statement) (at_statement l 6)
    ∷ fails (has_no_word site l.statement || is_out_of_reach made) (at_statement l 3)
    ∷ [])
