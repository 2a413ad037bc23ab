-- What holds of the lines of a text of at most 1,048,576 bytes ('profile'): their numbers rise, and
-- they hold no more than the text has bytes.
--
-- Profile: `IsLexed`, `IsParsed` and `IsSmall` say what the limit of a text's bytes means for
-- tokens and lines, so that later passes cannot overflow.
use Rattle.std.specs.Prelude.{ℕ, ◌+◌, ◌<◌, ◌≤◌, max, List, [], ◌∷◌, length, All, sum_by}
use Rattle.xt_lex.specs.declared.expr.Expr.{Expr}
use Rattle.xt_parse.specs.declared.line.Line.{Line}
use Rattle.xt_parse.specs.declared.statement.Operand.{Operand}
use Rattle.xt_parse.specs.declared.statement.Operand.TheVariants.{Reg, Value, Pool}
use Rattle.xt_parse.specs.declared.statement.Statement.{Statement}
use Rattle.xt_parse.specs.declared.statement.Statement.TheVariants.{Entry, Literal, Words, Bytes}
use Rattle.xt_parse.specs.declared.statement.Statement.TheVariants.{Shorts, Ascii, Insn}

-- the numbers of the lines rise, and are above n
abbrev pub AreAbove : ℕ → List Line → Type 0
AreAbove n [] = Unit {0}
AreAbove n (l ∷ rest) = (n < l.number) × AreAbove l.number rest

-- ---- how much a line holds

-- an expression counts its terms, and at least 1
abbrev pub expr_weight : Expr → ℕ
expr_weight e = max 1 (length e)

-- a register counts nothing
abbrev pub operand_weight : Operand → ℕ
operand_weight (Reg n) = 0
operand_weight (Value e) = expr_weight e
operand_weight (Pool e) = expr_weight e

-- a statement counts its expressions, or the bytes of its string
abbrev pub statement_weight : Statement → ℕ
statement_weight (Entry e) = expr_weight e
statement_weight (Literal name e) = expr_weight e
statement_weight (Words es) = sum_by expr_weight es
statement_weight (Shorts es) = sum_by expr_weight es
statement_weight (Bytes es) = sum_by expr_weight es
statement_weight (Ascii bytes) = length bytes
statement_weight (Insn name operands) = sum_by operand_weight operands
statement_weight _ = 0

-- a line counts 1, and its statement
abbrev pub line_weight : Line → ℕ
line_weight l = 1 + statement_weight l.statement

-- ---- how long an expression is

-- an expression of at most 1,048,576 terms
abbrev pub IsShort : Expr → Type 0
IsShort e = length e ≤ 1048576

abbrev pub IsShortOperand : Operand → Type 0
IsShortOperand (Reg n) = Unit {0}
IsShortOperand (Value e) = IsShort e
IsShortOperand (Pool e) = IsShort e

-- each expression of a statement is short
abbrev pub HasShortExprs : Statement → Type 0
HasShortExprs (Entry e) = IsShort e
HasShortExprs (Literal name e) = IsShort e
HasShortExprs (Words es) = All IsShort es
HasShortExprs (Shorts es) = All IsShort es
HasShortExprs (Bytes es) = All IsShort es
HasShortExprs (Insn name operands) = All IsShortOperand operands
HasShortExprs _ = Unit {0}

-- ---- the lines of a text

pub record IsParsed (lines : List Line) : Type 0 where
  -- the numbers of the lines rise, from 1 on
  pub numbered : AreAbove 0 lines
  -- the lines are no more than the bytes of the text
  pub few : length lines ≤ 1048576
  -- nor are the lines, the terms of their expressions and the bytes of their strings together
  pub total : sum_by line_weight lines ≤ 1048576
  -- nor are the terms of any one expression
  pub short : All (λ (l : Line). HasShortExprs l.statement) lines
