-- Literal pools: the words that the lines of a segment need, at the position that stands
-- before them ('profile').
use Rattle.std.specs.Prelude.{ℕ, ◌+◌, ◌<◌, ◌==◌, Bool, true, false, not, ◌&&◌, ◌||◌, List, [], ◌∷◌}
use Rattle.std.specs.Prelude.{◌++◌, length, reverse, filter, find, option_to_list, Option, Some}
use Rattle.std.specs.Prelude.{None, is_some, is_none, if◌then◌else◌}
use Rattle.std.specs.Option.{option_map, option_map_or}
use Rattle.std.specs.List.{flat_map}
use lib.Pointwise.{pointwise}
use Rattle.xt_lex.specs.declared.expr.Term.{Term}
use Rattle.xt_lex.specs.declared.expr.TermValue.{TermValue}
use Rattle.xt_lex.specs.declared.expr.TermValue.TheVariants.{Number, Label}
use Rattle.xt_lex.specs.declared.expr.Expr.{Expr}
use Rattle.xt_parse.specs.declared.line.Line.{Line}
use Rattle.xt_parse.specs.declared.line.Placed.{Placed}
use Rattle.xt_parse.specs.declared.statement.Statement.{Statement}
use Rattle.xt_parse.specs.declared.statement.Statement.TheVariants.{Seg, Position, Literal, Insn}
use Rattle.xt_parse.specs.declared.statement.Operand.{Operand}
use Rattle.xt_parse.specs.declared.statement.Operand.TheVariants.{Pool}
use Rattle.xt_layout.specs.declared.word.PoolWord.{PoolWord}
use Rattle.xt_layout.specs.Around.{each}
use Rattle.xt_layout.specs.Findings.{Finding, at_statement, fails, first}

-- ---- what a statement needs

-- the expression of the first operand that is a use of the pool
abbrev pub pool_use : List Operand → Option Expr
pool_use [] = None
pool_use (Pool e ∷ rest) = Some e
pool_use (_ ∷ rest) = pool_use rest

-- What a statement needs of the pool: a `.literal` a word with its name, a use of the
-- pool a word without one.
abbrev pub need : Statement → Option (Option Placed × Expr)
need (Literal name e) = Some (Some name, e)
need (Insn name operands) = option_map (λ e. (None, e)) (pool_use operands)
need _ = None

abbrev pub is_position : Statement → Bool
is_position Position = true
is_position _ = false

abbrev pub is_segment : Statement → Bool
is_segment (Seg start) = true
is_segment _ = false

-- a `.literal_position` or a `.seg`
abbrev pub ends_pool : Line → Bool
ends_pool l = is_position l.statement || is_segment l.statement

-- ---- pools

-- the lines before the first that ends a pool
abbrev pub up_to_end : List Line → List Line
up_to_end [] = []
up_to_end (l ∷ rest) = if ends_pool l then [] else l ∷ up_to_end rest

-- The words that lines need, each by itself, in the order of the lines; the
-- first line has the place k.
abbrev pub needed_words : ℕ → ℕ → List Line → List PoolWord
needed_words position k [] = []
needed_words position k (l ∷ rest) =
    option_to_list (option_map
    (λ n. record { position = position; line = k; name = n.0; value = n.1 }) (need l.statement))
    ++ needed_words position (k + 1) rest

abbrev pub same_value : TermValue → TermValue → Bool
same_value (Number m) (Number n) = m == n
same_value (Label x) (Label y) = pointwise ◌==◌ x y
same_value _ _ = false

abbrev pub same_term : Term → Term → Bool
same_term x y = (if x.minus then y.minus else not y.minus) && same_value x.value y.value

-- the expressions are the same list of terms
abbrev pub same_terms : Expr → Expr → Bool
same_terms x y = pointwise same_term x y

-- two words are one word: neither has a name, and their expressions are the same list of terms
abbrev pub shares : PoolWord → PoolWord → Bool
shares x y = is_none x.name && (is_none y.name && same_terms x.value y.value)

-- of the words that share, the first
abbrev pub distinct : List PoolWord → List PoolWord
distinct [] = []
distinct (x ∷ rest) = x ∷ filter (λ y. not (shares x y)) (distinct rest)

-- The pool at the place k, which these lines follow: it holds what the lines need up to the
-- next position or segment.
abbrev pub pool : ℕ → List Line → List PoolWord
pool k rest = distinct (needed_words k (k + 1) (up_to_end rest))

-- the pool of a line: only a `.literal_position` has one
abbrev pub pool_at : List Line → Line → List Line → List PoolWord
pool_at before l rest = if is_position l.statement then pool (length before) rest else []

-- the words of all pools of a text
unfoldable pub words_of : List Line → List PoolWord
words_of lines = flat_map (λ words. words) (each pool_at lines)

-- a word's position and its line are places among n lines
abbrev pub IsAmong : ℕ → PoolWord → Type 0
IsAmong n w = (w.position < n) × (w.line < n)

-- ---- a literal without a position

-- after these lines a pool takes literals: the last position or segment is a position
abbrev pub is_open : List Line → Bool
is_open before =
    option_map_or (λ l. is_position l.statement) (find ends_pool (reverse before)) false

-- the fault of a line, where a pool is open before it or is not
abbrev pub missing_pool : Bool → Line → Finding
missing_pool is_open l = fails (is_some (need l.statement) && not is_open) (at_statement l 3)

abbrev pub has_no_pool : List Line → Line → List Line → Finding
has_no_pool before l rest = missing_pool (is_open before) l

-- the first literal without a position before it in its segment (kind 3)
unfoldable pub pool_fault : List Line → Finding
pool_fault lines = first (each has_no_pool lines)
