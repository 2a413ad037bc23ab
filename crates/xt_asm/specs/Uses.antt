-- Carries a proof; nothing that a reader must believe.
-- How the words that uses of pools refer to are found.
use Rattle.std.specs.Prelude.{◌≡◌, ℕ, ℤ, List, Option, Some, None, option_and_then, slice_get}
use Rattle.std.specs.BTreeMap.{BTreeMap, get}
use Rattle.std.specs.Cmp.Lexicographic.{slice_cmp}
use Rattle.std.specs.Ordering.{nat_cmp, ordering_then}
use Rattle.std.specs.declared.cmp.Ordering.{Ordering}
use denote.Ref.{Bor}
use Rattle.xt_lex.specs.declared.expr.Term.{Term}
use Rattle.xt_lex.specs.contracts.expr.TermOrd.TheImpl.{ghosts}
use Rattle.xt_parse.specs.declared.line.Line.{Line}
use Rattle.xt_parse.specs.declared.statement.Statement.{Statement}
use Rattle.xt_parse.specs.declared.statement.Statement.TheVariants as statement
use Rattle.xt_layout.specs.declared.word.PoolWord.{PoolWord}
use Rattle.xt_asm.specs.Operands.{open_position, target_of, word_for}

-- the place of a pool, and the terms of a word in it
abbrev pub Key : Type 0
Key = ℕ × Bor (List Term)

abbrev pub key_cmp : Key → Key → Ordering
key_cmp x y = ordering_then (nat_cmp x.0 y.0) (slice_cmp ghosts.cmp x.1.now y.1.now)

-- the map has the number of the word of each use
abbrev pub Indexes : BTreeMap Key ℕ → List PoolWord → List ℤ → Type 0
Indexes index words addresses =
    (q : Key) → option_and_then (λ i. slice_get addresses i) (get key_cmp index q)
    ≡ word_for q.0 q.1.now words addresses

-- the place of the pool that is open after a statement at a place
abbrev pub pool_after : Option ℕ → ℕ → Statement → Option ℕ
pool_after position place statement.Position = Some place
pool_after position place (statement.Seg start) = None
pool_after position place _ = position

-- the address of the word that a line's use of a pool refers to
abbrev pub target_at : List PoolWord → List ℤ → List Line → Line → List Line → Option ℤ
target_at words addresses before l rest =
    target_of words addresses (open_position before) l.statement
