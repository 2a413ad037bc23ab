-- The place of the pool that is open after one line more.
use Rattle.std.proofs.Common.{◌≡◌, ℕ, ◌+◌, ◌<◌, List, [], ◌∷◌, ◌++◌, Option, Some, None, length, take, get_or, refl, sym, ap, ◌∙◌, arith, ◌||◌, if◌then◌else◌}
use Rattle.std.specs.Prelude.{reverse}
use Rattle.std.proofs.lemmas.List.{reverse-append, length-reverse, length-take-le}
use Rattle.xt_parse.specs.declared.line.Line.{Line}
use Rattle.xt_parse.specs.declared.statement.Statement.{Statement}
use Rattle.xt_parse.specs.declared.statement.Statement.TheVariants as statement
use Rattle.xt_layout.specs.Pools.{is_position, is_segment}
use Rattle.xt_layout.proofs.Each.{next}
use Rattle.xt_asm.specs.Operands.{last_position, open_position}
use Rattle.xt_asm.specs.Uses.{pool_after}

opened_by : (earlier : Option ℕ) (n k : ℕ) (s : Statement) → n ≡ k → (if (is_position s || is_segment s) then (if is_position s then Some n else None) else earlier) ≡ pool_after earlier k s
opened_by earlier n k statement.Position e = ap Some e
opened_by earlier n k (statement.Seg start) e = refl
opened_by earlier n k _ e = refl

pub open_more : (before : List Line) (l : Line) → open_position (before ++ l ∷ []) ≡ pool_after (open_position before) (length before) l.statement
open_more before l = ap last_position (reverse-append before (l ∷ [])) ∙ opened_by (open_position before) (length (reverse before)) (length before) l.statement (length-reverse before)

pub open_next : (lines : List Line) (k : ℕ) (l : Line) (position : Option ℕ) → k < length lines → l ≡ get_or lines k l → position ≡ open_position (take k lines) →
    pool_after position k l.statement ≡ open_position (take (k + 1) lines)
open_next lines k l position lt is e =
    ap (λ p. pool_after p k l.statement) e ∙ ap (λ n. pool_after (open_position (take k lines)) n l.statement) (sym (length-take-le k lines (omega arith)))
    ∙ sym (open_more (take k lines) l) ∙ ap open_position (sym (next lines k l lt is))
