-- The faults of an assembly text, and which of them is the first ('profile').
use Rattle.std.specs.Prelude.{ℕ, ◌-◌, ◌^◌, Bool, true, false, not, ◌&&◌, ◌||◌, ℤ, pos, negsuc, ◌-ℤ◌}
use Rattle.std.specs.Prelude.{int_le, is_none, List, [], ◌∷◌, length, Option, Some, None, Result}
use Rattle.std.specs.Prelude.{Ok, Err}
use Rattle.std.specs.Option.{option_map_or}
use Rattle.std.specs.List.{list_any}
use Rattle.xt_isa.specs.declared.Insn.{Insn}
use Rattle.xt_names.specs.declared.forms.Access.{Access}
use Rattle.xt_names.specs.Forms.{access_of}
use Rattle.xt_names.specs.declared.argument.OperandFault.{OperandFault}
use Rattle.xt_names.specs.declared.argument.OperandFault.TheVariants as operand_fault
use Rattle.xt_lex.specs.declared.fault.AsmPlace.{AsmPlace}
use Rattle.xt_lex.specs.Tokens.{tokens_of}
use Rattle.xt_map.specs.Regions.{is_executable, region_of}
use Rattle.xt_lex.specs.declared.expr.Expr.{Expr}
use Rattle.xt_lex.specs.declared.labels.Label.{Label}
use Rattle.xt_lex.specs.Values.{value_of}
use Rattle.xt_parse.specs.declared.line.Line.{Line}
use Rattle.xt_parse.specs.declared.statement.Operand.{Operand}
use Rattle.xt_parse.specs.declared.statement.Operand.TheVariants as operand
use Rattle.xt_parse.specs.declared.statement.Statement.{Statement}
use Rattle.xt_parse.specs.declared.statement.Statement.TheVariants as statement
use Rattle.xt_parse.specs.Lines.{parsed_lines}
use Rattle.xt_layout.specs.Around.{each}
use Rattle.xt_layout.specs.Findings.{Finding, at_statement, fails, first, or_else}
use Rattle.xt_layout.specs.Pools.{has_no_pool, is_segment, words_of}
use Rattle.xt_layout.specs.Faults.{defines, has_entry, is_last, is_misaligned, is_outside}
use Rattle.xt_layout.specs.Faults.{is_too_many, overlaps, segments_in, twice}
use Rattle.xt_layout.specs.Sizes.{is_alignment, is_space, pool_size}
use Rattle.xt_layout.specs.Spans.{spans_of}
use Rattle.xt_layout.specs.Spots.{spot_at}
use Rattle.xt_asm.specs.Operands.{Site, insn_at, site_at, special_in}

-- ---- 1, Unknown: a label that no line defines, or a special register that is
-- not there with this access

abbrev pub is_unknown : List Label → Expr → Bool
is_unknown labels e = is_none (value_of labels e)

abbrev pub is_unknown_operand : List Label → Option Access → Operand → Bool
is_unknown_operand labels access (operand.Reg n) = false
is_unknown_operand labels (Some access) (operand.Value e) = is_none (special_in access e)
is_unknown_operand labels None (operand.Value e) = is_unknown labels e
is_unknown_operand labels access (operand.Pool e) = is_unknown labels e

abbrev pub has_unknown : List Label → Statement → Bool
has_unknown labels (statement.Entry e) = is_unknown labels e
has_unknown labels (statement.Literal name e) = is_unknown labels e
has_unknown labels (statement.Words values) = list_any (is_unknown labels) values
has_unknown labels (statement.Shorts values) = list_any (is_unknown labels) values
has_unknown labels (statement.Bytes values) = list_any (is_unknown labels) values
has_unknown labels (statement.Insn m operands) =
    list_any (is_unknown_operand labels (access_of m)) operands
has_unknown labels _ = false

-- ---- 2, Range: a value that its bytes cannot hold, an alignment that is none, zeros past
-- FFFFFFFF, or an operand outside its row's range

-- -2^31 to 2^32 - 1
abbrev pub fits_word : ℤ → Bool
fits_word v = int_le (pos 0 -ℤ pos (2 ^ 31)) v && int_le v (pos (2 ^ 32 - 1))

-- -32768 to 65535
abbrev pub fits_short : ℤ → Bool
fits_short v = int_le (pos 0 -ℤ pos 32768) v && int_le v (pos 65535)

-- -128 to 255
abbrev pub fits_byte : ℤ → Bool
fits_byte v = int_le (pos 0 -ℤ pos 128) v && int_le v (pos 255)

-- the value of an expression is known, and does not fit
abbrev pub misfits : (ℤ → Bool) → List Label → Expr → Bool
misfits fits labels e = option_map_or (λ v. not (fits v)) (value_of labels e) false

-- the word of a use
abbrev pub misfits_pool : List Label → Operand → Bool
misfits_pool labels (operand.Pool e) = misfits fits_word labels e
misfits_pool labels _ = false

abbrev pub has_misfit : Site → Statement → Bool
has_misfit site (statement.Literal name e) = misfits fits_word site.labels e
has_misfit site (statement.Words values) = list_any (misfits fits_word site.labels) values
has_misfit site (statement.Shorts values) = list_any (misfits fits_short site.labels) values
has_misfit site (statement.Bytes values) = list_any (misfits fits_byte site.labels) values
has_misfit site (statement.Align n) = not (is_alignment n)
has_misfit site (statement.Space n) = not (is_space n site.at)
has_misfit site (statement.Insn name operands) = list_any (misfits_pool site.labels) operands
has_misfit site _ = false

abbrev pub is_range : Option (Result Insn OperandFault) → Bool
is_range (Some (Err operand_fault.Range)) = true
is_range _ = false

-- ---- 5, Misaligned: the target of a call or L32R

abbrev pub is_misaligned_target : Option (Result Insn OperandFault) → Bool
is_misaligned_target (Some (Err operand_fault.Misaligned)) = true
is_misaligned_target _ = false

-- ---- 6, OutOfMap: an entry outside the executable regions

abbrev pub is_code : ℤ → Bool
is_code (pos a) = is_executable (region_of a)
is_code (negsuc n) = false

abbrev pub is_stray_entry : List Label → Statement → Bool
is_stray_entry labels (statement.Entry e) = misfits is_code labels e
is_stray_entry labels _ = false

-- ---- 3, PoolReach: a use without a word, or an L32R that does not reach its target

abbrev pub lacks_word : Site → Operand → Bool
lacks_word site (operand.Pool e) = is_none site.target
lacks_word site _ = false

abbrev pub has_no_word : Site → Statement → Bool
has_no_word site (statement.Insn name operands) = list_any (lacks_word site) operands
has_no_word site _ = false

abbrev pub is_out_of_reach : Option (Result Insn OperandFault) → Bool
is_out_of_reach (Some (Err operand_fault.OutOfReach)) = true
is_out_of_reach _ = false

-- ---- the first fault of a line

-- The kinds of a line in their order. All but the first stand at the statement's first token.
abbrev pub kinds_at : List Line → List Line → Line → List Line → Finding
kinds_at lines before l rest =
    let here = spot_at (words_of lines) before l in
    let site = site_at lines before l in
    let made = insn_at site l.statement in
    first (twice (defines before) (has_entry before) l
    ∷ fails (has_unknown site.labels l.statement) (at_statement l 1)
    ∷ or_else (is_too_many (segments_in before) l)
    (fails (has_misfit site l.statement || is_range made) (at_statement l 2))
    ∷ or_else (is_misaligned here l) (fails (is_misaligned_target made) (at_statement l 5))
    ∷ or_else (is_outside (pool_size (words_of lines) (length before)) here l (is_last rest))
    (fails (is_stray_entry site.labels l.statement) (at_statement l 6))
    ∷ overlaps (spans_of lines) (segments_in before) l
    ∷ or_else (has_no_pool before l rest)
    (fails (has_no_word site l.statement || is_out_of_reach made) (at_statement l 3))
    ∷ [])

-- ---- the first fault of a text

abbrev pub has_segment : List Line → Bool
has_segment lines = list_any (λ l. is_segment l.statement) lines

-- 9, NoEntry: no line is an `.entry`, or none is a `.seg`
abbrev pub no_entry : List Line → Finding
no_entry lines =
    fails (not (has_entry lines && has_segment lines)) (record { line = 0; column = 0; kind = 9 })

-- the first line that has a fault, and the first of its kinds; else the kind of the whole text
unfoldable pub lines_fault : List Line → Finding
lines_fault lines = or_else (first (each (kinds_at lines) lines)) (no_entry lines)

-- the first line that breaks the grammar comes before all others
abbrev pub fault_of : Result (List Line) AsmPlace → Finding
fault_of (Err place) = Some place
fault_of (Ok lines) = lines_fault lines

-- the first fault of a text
unfoldable pub text_fault : List ℕ → Finding
text_fault text = fault_of (parsed_lines (tokens_of text))
