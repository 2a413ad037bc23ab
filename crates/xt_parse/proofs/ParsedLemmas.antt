-- What holds of the lines of a text of at most 1,048,576 bytes.
use Rattle.std.proofs.Common.{◌≡◌, ◌+◌, ◌≤◌, ◌==◌, ℕ, suc, Bool, true, false, ◌||◌, if◌then◌else◌, List, [], ◌∷◌, length, Result, Ok, Err, IfOk, All, refl, sym, subst, arith, sum_by}
use Rattle.std.proofs.lemmas.Bool.Decides.{nat_tests}
use Rattle.std.proofs.lemmas.List.Elements.{All-nil, All-cons}
use Rattle.std.proofs.lemmas.List.Sums.{sum_by-cons}
use Rattle.xt_lex.specs.Tokens.{weight, AreInOrder, IsLexed}
use Rattle.xt_lex.specs.declared.fault.AsmPlace.{AsmPlace}
use Rattle.xt_lex.specs.declared.token.Token.{Token}
use Rattle.xt_lex.specs.declared.expr.Expr.{Expr}
use Rattle.xt_parse.specs.declared.line.Line.{Line}
use Rattle.xt_parse.specs.declared.statement.Operand.{Operand}
use Rattle.xt_parse.specs.declared.statement.Operand.TheVariants as operand
use Rattle.xt_parse.specs.declared.statement.Statement.{Statement}
use Rattle.xt_parse.specs.declared.statement.Statement.TheVariants as statement
use Rattle.xt_parse.specs.Reading.{◌>>=◌}
use Rattle.xt_parse.specs.Statements.{number_of, line_of}
use Rattle.xt_parse.specs.Lines.{with_token, token_lines, is_segment, lines_from, parsed_lines}
use Rattle.xt_parse.specs.Small.{AreAbove, expr_weight, operand_weight, statement_weight, line_weight, IsShort, IsShortOperand, HasShortExprs, IsParsed}
use Rattle.xt_parse.proofs.ReadWeights.{tokens_weight, cons_weight}
use Rattle.xt_parse.proofs.LineWeights.{IsLineOf, line_fits}

-- ---- the tokens line by line

-- the numbers of the lines rise, from n on
abbrev AreFrom : ℕ → List (List Token) → Type 0
AreFrom n [] = Unit {0}
AreFrom n (g ∷ gs) = (n ≤ number_of g) × AreFrom (suc (number_of g)) gs

earlier : (n m : ℕ) (groups : List (List Token)) → m ≤ n → AreFrom n groups → AreFrom m groups
earlier n m [] h from = tt
earlier n m (g ∷ gs) h from = (omega (arith, from.0), from.1)

is_same : (n m : ℕ) → (n == m) ≡ true → n ≡ m
is_same n m e = grind (arith, nat_tests)

is_later : (n m : ℕ) → n ≤ m → (n == m) ≡ false → suc n ≤ m
is_later n m h e = grind (arith, nat_tests)

joined_rises : (n : ℕ) (t : Token) (groups : List (List Token)) → n ≤ t.line → AreFrom t.line groups → AreFrom n (with_token t groups)
joined_rises n t [] h from = (h, tt)
joined_rises n t ([] ∷ groups) h from = (h, earlier 1 (suc t.line) groups (omega (arith, from.0)) from.1)
joined_rises n t ((u ∷ us) ∷ groups) h from = by_number (t.line == u.line) refl
  where
    by_number : (b : Bool) → (t.line == u.line) ≡ b → AreFrom n (if b then (t ∷ u ∷ us) ∷ groups else (t ∷ []) ∷ (u ∷ us) ∷ groups)
    by_number true e = (h, earlier (suc u.line) (suc t.line) groups (omega (arith, is_same t.line u.line e)) from.1)
    by_number false e = (h, (is_later t.line u.line from.0 e, from.1))

groups_rise : (n : ℕ) (tokens : List Token) → AreInOrder n tokens → AreFrom n (token_lines tokens)
groups_rise n [] order = tt
groups_rise n (t ∷ ts) order = joined_rises n t (token_lines ts) order.0 (groups_rise t.line ts order.1)

abbrev groups_weight : List (List Token) → ℕ
groups_weight groups = sum_by tokens_weight groups

more_groups : (g : List Token) (gs : List (List Token)) → groups_weight (g ∷ gs) ≡ tokens_weight g + groups_weight gs
more_groups g gs = sum_by-cons tokens_weight g gs

joined_weighs : (t : Token) (groups : List (List Token)) → groups_weight (with_token t groups) ≡ weight t + groups_weight groups
joined_weighs t [] = omega (arith, more_groups (t ∷ []) [], cons_weight t [])
joined_weighs t ([] ∷ groups) = omega (arith, more_groups (t ∷ []) groups, more_groups [] groups, cons_weight t [])
joined_weighs t ((u ∷ us) ∷ groups) = by_number (t.line == u.line)
  where
    by_number : (b : Bool) → groups_weight (if b then (t ∷ u ∷ us) ∷ groups else (t ∷ []) ∷ (u ∷ us) ∷ groups) ≡ weight t + groups_weight ((u ∷ us) ∷ groups)
    by_number true = omega (arith, more_groups (t ∷ u ∷ us) groups, more_groups (u ∷ us) groups, cons_weight t (u ∷ us))
    by_number false = omega (arith, more_groups (t ∷ []) ((u ∷ us) ∷ groups), cons_weight t [])

groups_weigh : (tokens : List Token) → groups_weight (token_lines tokens) ≡ tokens_weight tokens
groups_weigh [] = refl
groups_weigh (t ∷ ts) = omega (arith, joined_weighs t (token_lines ts), groups_weigh ts, cons_weight t ts)

-- ---- the lines

abbrev lines_weight : List Line → ℕ
lines_weight lines = sum_by line_weight lines

-- the numbers of the lines are above n, and the lines weigh no more than this
abbrev AreLinesOf : ℕ → ℕ → List Line → Type 0
AreLinesOf n total lines = AreAbove n lines × (lines_weight lines ≤ total)

abbrev Lines : Type 0
Lines = Result (List Line) AsmPlace

lines_fit : (n : ℕ) (begun : Bool) (groups : List (List Token)) → AreFrom (suc n) groups → IfOk (lines_from begun groups) (AreLinesOf n (groups_weight groups))
unfolding lines_from
lines_fit n begun [] from = (tt, omega arith)
lines_fit n begun (g ∷ gs) from = by_line (line_of begun g) (line_fits begun g) (λ b. lines_fit (number_of g) b gs from.1)
  where
    number_is : (line : Line) (lines : List Line) → line.number ≡ number_of g → AreAbove (number_of g) lines → AreAbove line.number lines
    number_is line lines e above = subst (λ (k : ℕ). AreAbove k lines) (sym e) above

    by_lines : (line : Line) → IsLineOf g line → (read : Lines) → IfOk read (AreLinesOf (number_of g) (groups_weight gs)) → IfOk (read >>= λ lines. Ok (line ∷ lines)) (AreLinesOf n (groups_weight (g ∷ gs)))
    by_lines line is (Ok lines) h = ((omega (arith, is.0, from.0), number_is line lines is.0 h.0), omega (arith, is.1, h.1, more_groups g gs, sum_by-cons line_weight line lines))
    by_lines line is (Err place) h = tt

    by_line : (read : Result Line AsmPlace) → IfOk read (IsLineOf g) → ((b : Bool) → IfOk (lines_from b gs) (AreLinesOf (number_of g) (groups_weight gs)))
        → IfOk (read >>= λ line. lines_from (begun || is_segment line.statement) gs >>= λ lines. Ok (line ∷ lines)) (AreLinesOf n (groups_weight (g ∷ gs)))
    by_line (Ok line) is more = by_lines line is (lines_from (begun || is_segment line.statement) gs) (more (begun || is_segment line.statement))
    by_line (Err place) is more = tt

-- ---- short expressions

-- what holds of each item that weighs at most n holds of all items that weigh at most n together
each_is : {A : Type 0} (f : A → ℕ) (P : A → Type 0) (n : ℕ) → ((x : A) → f x ≤ n → P x) → (xs : List A) → sum_by f xs ≤ n → All P xs
each_is f P n is [] h = All-nil P
each_is f P n is (x ∷ xs) h = let more = sum_by-cons f x xs in All-cons P x xs (is x (omega arith)) (each_is f P n is xs (omega arith))

expr_is_short : (e : Expr) → expr_weight e ≤ 1048576 → IsShort e
expr_is_short e h = omega arith

operand_is_short : (o : Operand) → operand_weight o ≤ 1048576 → IsShortOperand o
operand_is_short (operand.Reg n) h = tt
operand_is_short (operand.Value e) h = expr_is_short e h
operand_is_short (operand.Pool e) h = expr_is_short e h

statement_is_short : (s : Statement) → statement_weight s ≤ 1048576 → HasShortExprs s
statement_is_short statement.Empty h = tt
statement_is_short (statement.Seg n) h = tt
statement_is_short (statement.Entry e) h = expr_is_short e h
statement_is_short statement.Position h = tt
statement_is_short (statement.Literal name e) h = expr_is_short e h
statement_is_short (statement.Words es) h = each_is expr_weight IsShort 1048576 expr_is_short es h
statement_is_short (statement.Shorts es) h = each_is expr_weight IsShort 1048576 expr_is_short es h
statement_is_short (statement.Bytes es) h = each_is expr_weight IsShort 1048576 expr_is_short es h
statement_is_short (statement.Ascii bytes) h = tt
statement_is_short (statement.Align n) h = tt
statement_is_short (statement.Space n) h = tt
statement_is_short (statement.Insn name os) h = each_is operand_weight IsShortOperand 1048576 operand_is_short os h

lines_are_short : (lines : List Line) → lines_weight lines ≤ 1048576 → All (λ (l : Line). HasShortExprs l.statement) lines
lines_are_short lines h = each_is line_weight (λ (l : Line). HasShortExprs l.statement) 1048576 (λ l w. statement_is_short l.statement (omega arith)) lines h

-- each line counts at least 1
lines_are_few : (lines : List Line) → length lines ≤ lines_weight lines
lines_are_few [] = omega arith
lines_are_few (l ∷ rest) = omega (arith, lines_are_few rest, sum_by-cons line_weight l rest)

-- ---- the text

pub lines_are_parsed : (tokens : List Token) → IsLexed tokens → IfOk (parsed_lines tokens) IsParsed
unfolding parsed_lines
lines_are_parsed tokens lexed = by_lines (lines_from false (token_lines tokens)) (lines_fit 0 false (token_lines tokens) (groups_rise 1 tokens lexed.in_order))
  where
    few : groups_weight (token_lines tokens) ≤ 1048576
    few = omega (arith, groups_weigh tokens, lexed.few)

    by_lines : (read : Lines) → IfOk read (AreLinesOf 0 (groups_weight (token_lines tokens))) → IfOk read IsParsed
    by_lines (Ok lines) h = record { numbered = h.0; few = omega (arith, few, h.1, lines_are_few lines); total = omega (arith, few, h.1); short = lines_are_short lines (omega (arith, few, h.1)) }
    by_lines (Err place) h = tt

-- what was returned is this
pub answer_is_parsed : (tokens : List Token) (lines : List Line) → IsLexed tokens → parsed_lines tokens ≡ Ok lines → IsParsed lines
answer_is_parsed tokens lines lexed e = let P : Lines → Type 0 = λ read. IfOk read IsParsed in subst P e (lines_are_parsed tokens lexed)
