-- The lines of an assembly text, or the first fault of the kind Syntax ('profile').
use Rattle.std.specs.Prelude.{◌≡◌, ◌+◌, ◌≤◌, ◌==◌, Bool, true, false, ◌||◌, if◌then◌else◌, List, []}
use Rattle.std.specs.Prelude.{◌∷◌, Result, Ok, Err, All}
use Rattle.xt_lex.specs.declared.token.Token.{Token}
use Rattle.xt_lex.specs.declared.fault.AsmPlace.{AsmPlace}
use Rattle.xt_lex.specs.declared.fault.AsmFault.{AsmFault}
use Rattle.xt_lex.specs.declared.fault.AsmFault.TheVariants as fault
use Rattle.xt_parse.specs.declared.line.Line.{Line}
use Rattle.xt_parse.specs.declared.statement.Statement.{Statement}
use Rattle.xt_parse.specs.declared.statement.Statement.TheVariants as statement
use Rattle.xt_parse.specs.Reading.{◌>>=◌}
use Rattle.xt_parse.specs.Statements.{line_of}

-- ---- the tokens of each line

-- a token goes to the line that is next, where it has its number, and else to a line of its own
abbrev pub with_token : Token → List (List Token) → List (List Token)
with_token t [] = (t ∷ []) ∷ []
with_token t ([] ∷ groups) = (t ∷ []) ∷ groups
with_token t ((u ∷ us) ∷ groups) =
    if t.line == u.line then (t ∷ u ∷ us) ∷ groups else (t ∷ []) ∷ (u ∷ us) ∷ groups

-- the tokens line by line
abbrev pub token_lines : List Token → List (List Token)
token_lines [] = []
token_lines (t ∷ ts) = with_token t (token_lines ts)

-- ---- the lines

abbrev pub is_segment : Statement → Bool
is_segment (statement.Seg n) = true
is_segment _ = false

-- the lines of these tokens, where a segment was begun before or not
unfoldable pub lines_from : Bool → List (List Token) → Result (List Line) AsmPlace
lines_from begun [] = Ok []
lines_from begun (g ∷ gs) =
    line_of begun g >>= λ line. lines_from (begun || is_segment line.statement) gs
    >>= λ lines. Ok (line ∷ lines)

-- the lines of the tokens of a text, or the first line that has a fault of the kind Syntax
unfoldable pub parsed_lines : List Token → Result (List Line) AsmPlace
parsed_lines tokens = lines_from false (token_lines tokens)

-- what was answered is this, unless memory ran out
abbrev pub Parses : Result (List Line) AsmFault → Result (List Line) AsmPlace → Type 0
Parses (Ok lines) read = read ≡ Ok lines
Parses (Err (fault.Place place)) read = read ≡ Err place
Parses (Err fault.Memory) read = Unit {0}

abbrev pub ParsesLine : Result Line AsmFault → Result Line AsmPlace → Type 0
ParsesLine (Ok line) read = read ≡ Ok line
ParsesLine (Err (fault.Place place)) read = read ≡ Err place
ParsesLine (Err fault.Memory) read = Unit {0}

-- each token lies on a line of at most 1,048,576 bytes
abbrev pub ArePlaced : List Token → Type 0
ArePlaced tokens = All (λ (t : Token). t.column + t.width ≤ 1048577) tokens
