-- Carries a proof; nothing that a reader must believe.
-- The set of expressions that the uses of one pool have needed so far.
use Rattle.std.specs.Prelude.{ℕ, Bool, true, false, ◌&&◌, ◌||◌, List, [], ◌∷◌, Option, Some, None}
use Rattle.std.specs.Prelude.{is_none, if◌then◌else◌, ◌≡◌}
use Rattle.std.specs.List.{list_any}
use Rattle.std.specs.Option.{option_map_or, option_copied}
use Rattle.std.specs.BTreeSet.{BTreeSet}
use denote.Ref.{Bor}
use Rattle.xt_lex.specs.declared.expr.Expr.{Expr}
use Rattle.xt_lex.specs.declared.expr.Term.{Term}
use Rattle.xt_parse.specs.declared.line.Placed.{Placed}
use Rattle.xt_layout.specs.declared.need.Need.{Need}
use Rattle.xt_layout.specs.declared.word.PoolWord.{PoolWord}
use Rattle.xt_parse.specs.declared.line.Line.{Line}
use Rattle.xt_layout.specs.Pools.{same_terms, need, is_position, is_segment}

-- the set has this list of terms
abbrev pub has : BTreeSet (Bor (List Term)) → Expr → Bool
has seen e = list_any (λ k. same_terms e k.now) seen.keys

-- what a statement needs, as the definitions say it
abbrev pub need_of : Need → Option Placed × Expr
need_of n = (option_copied n.name, n.value.now)

-- the word that a need makes
abbrev pub word : ℕ → ℕ → Option Placed × Expr → PoolWord
word position line n = record { position = position; line = line; name = n.0; value = n.1 }

-- the word is a use that the set has
abbrev pub is_there : (Expr → Bool) → PoolWord → Bool
is_there has w = is_none w.name && has w.value

-- The set after a word: a use's expression is in it too.
abbrev pub Notes : BTreeSet (Bor (List Term)) → PoolWord → BTreeSet (Bor (List Term)) → Type 0
Notes old w new = (q : Expr) → has new q ≡ (has old q || (is_none w.name && same_terms w.value q))

-- ---- one line more, at the place k

-- the words that the line adds, where the pool at this position is open
abbrev pub words_of_line : Option ℕ → (Expr → Bool) → ℕ → Line → List PoolWord
words_of_line None h k l = []
words_of_line (Some p) h k l =
    option_map_or (λ n. if is_there h (word p k n) then [] else word p k n ∷ []) (need l.statement)
    []

-- the position of the pool that is open after the line
abbrev pub pool_after_line : Option ℕ → ℕ → Line → Option ℕ
pool_after_line current k l =
    if is_position l.statement then Some k else (if is_segment l.statement then None else current)

-- the line is a use of this expression, in a pool that is open
abbrev pub uses : Option ℕ → Line → Expr → Bool
uses None l e = false
uses (Some p) l e = option_map_or (λ n. is_none n.0 && same_terms n.1 e) (need l.statement) false

-- the uses of the open pool after the line
abbrev pub seen_after : Option ℕ → (Expr → Bool) → Line → Expr → Bool
seen_after current h l e = if is_position l.statement then false else (h e || uses current l e)

-- whether a pool is open after the line
abbrev pub is_open_behind : Bool → Line → Bool
is_open_behind before l =
    if is_position l.statement then true else (if is_segment l.statement then false else before)
