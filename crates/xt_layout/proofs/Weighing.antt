-- A line takes no more for the layout than it weighs for the parser.
use Rattle.std.proofs.Common.{◌≤◌, List, [], ◌∷◌, length, arith, sum_by}
use Rattle.std.proofs.lemmas.List.Sums.{sum_by-cons}
use Rattle.xt_lex.specs.declared.expr.Expr.{Expr}
use Rattle.xt_parse.specs.declared.line.Line.{Line}
use Rattle.xt_parse.specs.declared.statement.Statement.{Statement}
use Rattle.xt_parse.specs.declared.statement.Statement.TheVariants.{Empty, Seg, Entry, Position, Literal, Words, Shorts, Bytes, Ascii, Align, Space, Insn}
use Rattle.xt_parse.specs.Small.{expr_weight, statement_weight, line_weight, IsParsed}
use Rattle.xt_layout.specs.Sizes.{items, weight, IsSmall}

-- each value counts at least 1
values_weigh : (es : List Expr) → length es ≤ sum_by expr_weight es
values_weigh [] = omega arith
values_weigh (e ∷ es) = omega (arith, values_weigh es, sum_by-cons expr_weight e es)

items_weigh : (s : Statement) → items s ≤ statement_weight s
items_weigh Empty = omega arith
items_weigh (Seg n) = omega arith
items_weigh (Entry e) = omega arith
items_weigh Position = omega arith
items_weigh (Literal name e) = omega arith
items_weigh (Words es) = values_weigh es
items_weigh (Shorts es) = values_weigh es
items_weigh (Bytes es) = values_weigh es
items_weigh (Ascii bytes) = omega arith
items_weigh (Align n) = omega arith
items_weigh (Space n) = omega arith
items_weigh (Insn name os) = omega arith

lines_weigh : (lines : List Line) → sum_by weight lines ≤ sum_by line_weight lines
lines_weigh [] = omega arith
lines_weigh (l ∷ rest) = omega (arith, lines_weigh rest, items_weigh l.statement, sum_by-cons weight l rest, sum_by-cons line_weight l rest)

pub parsed_is_small : (lines : List Line) → IsParsed lines → IsSmall lines
parsed_is_small lines parsed = omega (arith, lines_weigh lines, parsed.total)
