-- The order of terms says that two are equal exactly where they are the same term.
use Rattle.std.proofs.Common.{◌≡◌, Bool, true, false, not, ◌&&◌, ◌||◌, List, [], ◌∷◌, refl, ap, ◌∙◌, arith, cond, eqb, ℕ, if◌then◌else◌, Ordering, Less, Equal, Greater}
use Rattle.std.specs.Ordering.{is_eq, nat_cmp, ordering_then, bool_cmp}
use Rattle.std.specs.Cmp.Lexicographic.{slice_cmp}
use Rattle.std.specs.List.{list_any}
use denote.Ref.{Bor}
use Rattle.std.proofs.lemmas.Map.Text.{is_eq-slice_cmp}
use Rattle.std.proofs.lemmas.Bool.Decides.{nat_tests}
use Rattle.xt_lex.specs.declared.expr.Expr.{Expr}
use Rattle.xt_lex.specs.declared.expr.Term.{Term}
use Rattle.xt_lex.specs.declared.expr.TermValue.{TermValue}
use Rattle.xt_lex.specs.declared.expr.TermValue.TheVariants.{Number, Label}
use Rattle.xt_lex.specs.contracts.expr.TermOrd.TheImpl.{ghosts}
use Rattle.xt_lex.specs.contracts.expr.TermValueOrd.TheImpl as value
use Rattle.xt_layout.specs.Pools.{same_term, same_value, same_terms}

then_alike : (a b : Bool) (o : Ordering) → is_eq (ordering_then (bool_cmp a b) o) ≡ ((if a then b else not b) && is_eq o)
then_alike true true o = refl
then_alike true false o = refl
then_alike false true o = refl
then_alike false false o = refl

pub and_alike : (a b : Ordering) → is_eq (ordering_then a b) ≡ (is_eq a && is_eq b)
and_alike Less b = refl
and_alike Equal b = refl
and_alike Greater b = refl

pub number_alike : (m n : ℕ) → is_eq (nat_cmp m n) ≡ eqb m n
number_alike m n = grind (arith, nat_tests)

value_alike : (x y : TermValue) → is_eq (value.ghosts.cmp x y) ≡ same_value x y
value_alike (Number m) (Number n) = number_alike m n
value_alike (Label x) (Label y) = is_eq-slice_cmp x y
value_alike (Number m) (Label y) = refl
value_alike (Label x) (Number n) = refl

pub term_alike : (x y : Term) → is_eq (ghosts.cmp x y) ≡ same_term x y
term_alike x y = then_alike x.minus y.minus (value.ghosts.cmp x.value y.value) ∙ ap (λ b. (if x.minus then y.minus else not y.minus) && b) (value_alike x.value y.value)

-- so are lists of terms
pub terms_alike : (x y : Expr) → is_eq (slice_cmp ghosts.cmp x y) ≡ same_terms x y
terms_alike [] [] = refl
terms_alike [] (y ∷ ys) = refl
terms_alike (x ∷ xs) [] = refl
terms_alike (x ∷ xs) (y ∷ ys) = and_alike (ghosts.cmp x y) (slice_cmp ghosts.cmp xs ys)
    ∙ ap (λ b. b && is_eq (slice_cmp ghosts.cmp xs ys)) (term_alike x y) ∙ ap (λ b. same_term x y && b) (terms_alike xs ys)

-- what the set says of a list of terms
pub has_by_order : (keys : List (Bor Expr)) (e : Expr) → list_any (λ k. is_eq (slice_cmp ghosts.cmp e k.now)) keys ≡ list_any (λ k. same_terms e k.now) keys
has_by_order [] e = refl
has_by_order (k ∷ keys) e = ap (λ b. b || list_any (λ k. is_eq (slice_cmp ghosts.cmp e k.now)) keys) (terms_alike e k.now)
    ∙ ap (λ b. same_terms e k.now || b) (has_by_order keys e)

-- one more key
pub noted : (n t old same had : Bool) → n ≡ cond t true old → t ≡ same → old ≡ had → n ≡ (had || same)
noted n t old same had e p q = e ∙ (elim t as (λ t. cond t true old ≡ (old || t)) [
  | true ↦ (elim old as (λ o. true ≡ (o || true)) [ true ↦ refl | false ↦ refl ])
  | false ↦ (elim old as (λ o. o ≡ (o || false)) [ true ↦ refl | false ↦ refl ])
]) ∙ ap (λ o. o || t) q ∙ ap (λ b. had || b) p
