-- The statements of the assembly language, and the lines ('profile').
use Rattle.std.specs.Prelude.{ℕ, ◌+◌, ◌-◌, ◌==◌, Bool, true, false, ◌&&◌, not, if◌then◌else◌, List}
use Rattle.std.specs.Prelude.{[], ◌∷◌, ◌++◌, length, slice_get, Option, Some, None, Result, Ok, Err}
use Rattle.std.specs.Option.{option_map, option_map_or, is_some, is_none}
use Rattle.xt_lex.specs.declared.token.Token.{Token}
use Rattle.xt_lex.specs.declared.token.TokenKind.{TokenKind}
use Rattle.xt_lex.specs.declared.token.TokenKind.TheVariants as kind
use Rattle.xt_lex.specs.declared.fault.AsmPlace.{AsmPlace}
use Rattle.xt_parse.specs.declared.form.Form.{Form}
use Rattle.xt_parse.specs.declared.form.Form.TheVariants as form
use Rattle.xt_parse.specs.declared.line.Line.{Line}
use Rattle.xt_parse.specs.declared.line.Placed.{Placed}
use Rattle.xt_parse.specs.declared.statement.Statement.{Statement}
use Rattle.xt_parse.specs.declared.statement.Statement.TheVariants as statement
use Rattle.xt_names.specs.Forms.{shapes_of}
use Rattle.xt_parse.specs.Words.{form_of}
use Rattle.xt_parse.specs.Reading.{◌>>=◌, Reading, first_as, as_number, as_string, as_label}
use Rattle.xt_parse.specs.Reading.{as_comma, as_colon, expr_at, exprs_at, operands_at}

-- a label's word where it stands
unfoldable pub placed_at : List Token → Reading Placed
placed_at [] = Err 0
placed_at (t ∷ ts) =
    option_map_or (λ name. Ok (record { column = t.column; name = name }, ts)) (as_label t.what)
    (Err (length (t ∷ ts)))

-- `.literal NAME, EXPR` after its first word
abbrev pub literal_body_at : List Token → Reading Statement
literal_body_at tokens =
    placed_at tokens >>= λ p. first_as as_comma p.1 >>= λ c. expr_at c.1
    >>= λ x. Ok (statement.Literal p.0 x.0, x.1)

-- the statement after its first word, which begins this form
unfoldable pub body_at : Form → List Token → Reading Statement
body_at form.Seg tokens = first_as as_number tokens >>= λ x. Ok (statement.Seg x.0, x.1)
body_at form.Entry tokens = expr_at tokens >>= λ x. Ok (statement.Entry x.0, x.1)
body_at form.Position tokens = Ok (statement.Position, tokens)
body_at form.Literal tokens = literal_body_at tokens
body_at form.Word tokens = exprs_at tokens >>= λ x. Ok (statement.Words x.0, x.1)
body_at form.Short tokens = exprs_at tokens >>= λ x. Ok (statement.Shorts x.0, x.1)
body_at form.Byte tokens = exprs_at tokens >>= λ x. Ok (statement.Bytes x.0, x.1)
body_at form.Ascii tokens = first_as as_string tokens >>= λ x. Ok (statement.Ascii x.0, x.1)
body_at form.Asciz tokens =
    first_as as_string tokens >>= λ x. Ok (statement.Ascii (x.0 ++ 0 ∷ []), x.1)
body_at form.Align tokens = first_as as_number tokens >>= λ x. Ok (statement.Align x.0, x.1)
body_at form.Space tokens = first_as as_number tokens >>= λ x. Ok (statement.Space x.0, x.1)
body_at (form.Insn m) tokens =
    operands_at (shapes_of m) tokens >>= λ x. Ok (statement.Insn m x.0, x.1)

-- ---- the first token of a statement

-- what a word begins that begins a statement
abbrev pub as_statement : TokenKind → Option Form
as_statement (kind.Word name) = form_of name
as_statement _ = None

-- a statement, with the column of its first token
unfoldable pub statement_at : List Token → Reading (ℕ × Statement)
statement_at [] = Err 0
statement_at (t ∷ ts) =
    option_map_or (λ form. body_at form ts >>= λ x. Ok ((t.column, x.0), x.1)) (as_statement t.what)
    (Err (length (t ∷ ts)))

-- ---- lines

-- a label and its colon
unfoldable pub label_at : List Token → Option (Placed × List Token)
label_at (t ∷ c ∷ ts) =
    option_map_or
    (λ name. option_map (λ _. (record { column = t.column; name = name }, ts)) (as_colon c.what))
    (as_label t.what) None
label_at _ = None

-- a first word that begins no statement and may be a label: only a colon continues the line
unfoldable pub awaits_colon : List Token → Bool
awaits_colon [] = false
awaits_colon (t ∷ ts) = is_some (as_label t.what) && is_none (as_statement t.what)

abbrev pub is_opening : Option Form → Bool
is_opening (Some form.Seg) = true
is_opening (Some form.Entry) = true
is_opening _ = false

-- the words that may begin a line before the first segment: `.seg` and `.entry`
unfoldable pub opens : List Token → Bool
opens [] = false
opens (t ∷ ts) = is_opening (as_statement t.what)

-- a line's label, the column of its statement, and the statement
abbrev pub Parts : Type 0
Parts = Option Placed × ℕ × Statement

abbrev pub behind_label : Placed → List Token → Reading Parts
behind_label p [] = Ok ((Some p, 0, statement.Empty), [])
behind_label p (t ∷ ts) = statement_at (t ∷ ts) >>= λ x. Ok ((Some p, x.0.0, x.0.1), x.1)

abbrev pub without_label : List Token → Reading Parts
without_label tokens =
    if awaits_colon tokens then Err (length tokens - 1)
    else statement_at tokens >>= λ x. Ok ((None, x.0.0, x.0.1), x.1)

-- the parts of a line, which has the line of the first segment before it or not
unfoldable pub parts_at : Bool → List Token → Reading Parts
parts_at begun tokens = if not begun && not (opens tokens) then Err (length tokens)
    else option_map_or (λ l. behind_label l.0 l.1) (label_at tokens) (without_label tokens)

-- all tokens were read
abbrev pub to_the_end : {A : Type 0} → A × List Token → Result A ℕ
to_the_end x = if length x.1 == 0 then Ok x.0 else Err (length x.1)

-- the parts of a line of these tokens
abbrev pub whole_parts_at : Bool → List Token → Result Parts ℕ
whole_parts_at begun tokens = parts_at begun tokens >>= to_the_end

-- the column after the last token
abbrev pub column_behind : List Token → ℕ
column_behind tokens =
    option_map_or (λ t. t.column + t.width) (slice_get tokens (length tokens - 1)) 1

-- the column of the fault, where so many tokens are left: that of the first of them, or after
-- the last token of the line
abbrev pub fault_column : List Token → ℕ → ℕ
fault_column tokens left =
    option_map_or (λ t. t.column) (slice_get tokens (length tokens - left)) (column_behind tokens)

abbrev pub number_of : List Token → ℕ
number_of tokens = option_map_or (λ t. t.line) (slice_get tokens 0) 0

abbrev pub as_line : List Token → Result Parts ℕ → Result Line AsmPlace
as_line tokens (Ok parts) =
    Ok
    (record { number = number_of tokens; label = parts.0; column = parts.1; statement = parts.2 })
as_line tokens (Err left) =
    Err (record { line = number_of tokens; column = fault_column tokens left; kind = 8 })

-- a line of these tokens, or its fault of the kind Syntax
unfoldable pub line_of : Bool → List Token → Result Line AsmPlace
line_of begun tokens = as_line tokens (whole_parts_at begun tokens)
