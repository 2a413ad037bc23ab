-- Reading lists item by item.
use Rattle.std.proofs.Common.{◌≡◌, ◌<◌, ◌≤◌, ℕ, zero, suc, Bool, List, [], ◌∷◌, ◌++◌, length, Option, Some, None, Result, Ok, Err, refl, sym, ◌∙◌, ap, subst, arith, append_assoc, append-nil}
use Rattle.std.specs.Option.{option_map, option_map_or}
use Rattle.xt_lex.specs.declared.token.Token.{Token}
use Rattle.xt_lex.specs.declared.expr.Term.{Term}
use Rattle.xt_lex.specs.declared.expr.TermValue.{TermValue}
use Rattle.xt_parse.specs.declared.stop.Stop.{Stop}
use Rattle.xt_parse.specs.declared.stop.Stop.TheVariants as stop
use Rattle.xt_parse.specs.Gives.{Stops}
use Rattle.xt_parse.specs.Reading.{◌>>=◌, Reading, minus_at, exprs_at, behind, with_front, as_term, as_sign, as_comma, term_at, terms_behind, next_term, expr_at, next_expr, exprs_behind, next_operand, operands_behind}
use Rattle.xt_names.specs.declared.forms.Shape.{Shape}
use Rattle.xt_parse.specs.declared.statement.Operand.{Operand}

-- a stop is carried on
pub carries : {A B : Type 0} (e : Stop) (inner : Result A ℕ) (outer : Result B ℕ) → Stops e inner → ((n : ℕ) → inner ≡ Err n → outer ≡ Err n) → Stops e outer
carries (stop.At n) inner outer h f = f n h
carries stop.Memory inner outer h f = tt

pub front_more : {A : Type 0} (front : List A) (x : A) (read : Reading (List A)) → with_front front (with_front (x ∷ []) read) ≡ with_front (front ++ x ∷ []) read
front_more front x (Ok r) = ap (λ l. Ok (l, r.1)) (sym (append_assoc front (x ∷ []) r.0))
front_more front x (Err n) = refl

-- ---- terms

abbrev Terms : Type 0
Terms = Reading (List Term)

-- what the next term says of the terms that follow
abbrev pub NextTerm : Result (Option (Term × List Token)) ℕ → List Token → Terms → Type 0
NextTerm (Ok None) rest read = read ≡ Ok ([], rest)
NextTerm (Ok (Some x)) rest read = read ≡ with_front (x.0 ∷ []) (terms_behind x.1)
NextTerm (Err n) rest read = read ≡ Err n

abbrev first_of : Option TermValue → Token → List Token → Reading TermValue
first_of v t ts = option_map_or (λ (a : TermValue). Ok (a, ts)) v (Err (length (t ∷ ts)))

abbrev signed : Bool → TermValue × List Token → Reading Term
signed minus w = Ok (record { minus = minus; value = w.0 }, w.1)

abbrev as_next : Term × List Token → Result (Option (Term × List Token)) ℕ
as_next x = Ok (Some x)

abbrev no_next : Result (Option (Term × List Token)) ℕ
no_next = Ok None

abbrev in_front : List Token → Term × List Token → Terms
in_front ts x = with_front (x.0 ∷ []) (terms_behind ts)

abbrev done : List Token → Terms
done ts = Ok ([], ts)

abbrev at_end : Bool → Terms
at_end minus = Err 0

abbrev with_rest : List Token → Bool → Bool × List Token
with_rest ts minus = (minus, ts)

by_term : (minus : Bool) (v : Option TermValue) (s t : Token) (ts : List Token)
    → NextTerm ((first_of v t ts >>= signed minus) >>= as_next) (s ∷ t ∷ ts) ((first_of v t ts >>= signed minus) >>= in_front ts)
by_term minus None s t ts = refl
by_term minus (Some v) s t ts = refl

by_sign : (o : Option Bool) (s t : Token) (ts : List Token)
    → NextTerm (option_map_or (λ (p : Bool × List Token). term_at p.0 p.1 >>= as_next) (option_map (with_rest (t ∷ ts)) o) no_next) (s ∷ t ∷ ts)
    (option_map_or (λ (minus : Bool). term_at minus (t ∷ ts) >>= in_front ts) o (done (s ∷ t ∷ ts)))
by_sign None s t ts = refl
by_sign (Some minus) s t ts = by_term minus (as_term t.what) s t ts

last_sign : (o : Option Bool) (s : Token)
    → NextTerm (option_map_or (λ (p : Bool × List Token). term_at p.0 p.1 >>= as_next) (option_map (with_rest []) o) no_next) (s ∷ []) (option_map_or at_end o (done (s ∷ [])))
last_sign None s = refl
last_sign (Some minus) s = refl

pub next_term_is : (rest : List Token) → NextTerm (next_term rest) rest (terms_behind rest)
unfolding terms_behind
next_term_is [] = refl
next_term_is (s ∷ []) = last_sign (as_sign s.what) s
next_term_is (s ∷ t ∷ ts) = by_sign (as_sign s.what) s t ts

pub term_follows : (rest : List Token) (x : Term × List Token) → next_term rest ≡ Ok (Some x) → terms_behind rest ≡ with_front (x.0 ∷ []) (terms_behind x.1)
term_follows rest x e = let P : Result (Option (Term × List Token)) ℕ → Type 0 = λ r. NextTerm r rest (terms_behind rest) in subst P e (next_term_is rest)

pub no_term_follows : (rest : List Token) → next_term rest ≡ Ok None → terms_behind rest ≡ Ok ([], rest)
no_term_follows rest e = let P : Result (Option (Term × List Token)) ℕ → Type 0 = λ r. NextTerm r rest (terms_behind rest) in subst P e (next_term_is rest)

pub term_stops : (rest : List Token) (n : ℕ) → next_term rest ≡ Err n → terms_behind rest ≡ Err n
term_stops rest n e = let P : Result (Option (Term × List Token)) ℕ → Type 0 = λ r. NextTerm r rest (terms_behind rest) in subst P e (next_term_is rest)

-- the first term, and those that follow
pub expr_begins : (tokens : List Token) (x : Term × List Token) → term_at (minus_at tokens).0 (minus_at tokens).1 ≡ Ok x → expr_at tokens ≡ with_front (x.0 ∷ []) (terms_behind x.1)
unfolding expr_at
expr_begins tokens x e = ap (λ r. r >>= λ y. with_front (y.0 ∷ []) (terms_behind y.1)) e

pub expr_stops : (tokens : List Token) (n : ℕ) → term_at (minus_at tokens).0 (minus_at tokens).1 ≡ Err n → expr_at tokens ≡ Err n
unfolding expr_at
expr_stops tokens n e = ap (λ r. r >>= λ y. with_front (y.0 ∷ []) (terms_behind y.1)) e

-- ---- expressions

abbrev Exprs : Type 0
Exprs = Reading (List (List Term))

abbrev NextExpr : ℕ → Result (Option (List Term × List Token)) ℕ → List Token → Exprs → Type 0
NextExpr n (Ok None) rest read = read ≡ Ok ([], rest)
NextExpr n (Ok (Some x)) rest read = read ≡ with_front (x.0 ∷ []) (exprs_behind n x.1)
NextExpr n (Err k) rest read = read ≡ Err k

by_expr : (n : ℕ) (r : Reading (List Term)) (rest : List Token) → NextExpr n (r >>= λ x. Ok (Some x)) rest (r >>= λ x. with_front (x.0 ∷ []) (exprs_behind n x.1))
by_expr n (Ok x) rest = refl
by_expr n (Err k) rest = refl

by_comma : (n : ℕ) (o : Option (Unit {0} × List Token)) (rest : List Token)
    → NextExpr n (option_map_or (λ c. expr_at c.1 >>= λ x. Ok (Some x)) o (Ok None)) rest (option_map_or (λ c. expr_at c.1 >>= λ x. with_front (x.0 ∷ []) (exprs_behind n x.1)) o (Ok ([], rest)))
by_comma n None rest = refl
by_comma n (Some c) rest = by_expr n (expr_at c.1) rest

next_expr_is : (n : ℕ) (rest : List Token) → NextExpr n (next_expr rest) rest (exprs_behind (suc n) rest)
unfolding exprs_behind
next_expr_is n rest = by_comma n (behind as_comma rest) rest

pub expr_follows : (n : ℕ) (rest : List Token) (x : List Term × List Token) → next_expr rest ≡ Ok (Some x) → exprs_behind (suc n) rest ≡ with_front (x.0 ∷ []) (exprs_behind n x.1)
expr_follows n rest x e = let P : Result (Option (List Term × List Token)) ℕ → Type 0 = λ r. NextExpr n r rest (exprs_behind (suc n) rest) in subst P e (next_expr_is n rest)

pub no_expr_follows : (n : ℕ) (rest : List Token) → next_expr rest ≡ Ok None → exprs_behind (suc n) rest ≡ Ok ([], rest)
no_expr_follows n rest e = let P : Result (Option (List Term × List Token)) ℕ → Type 0 = λ r. NextExpr n r rest (exprs_behind (suc n) rest) in subst P e (next_expr_is n rest)

pub next_expr_stops : (n : ℕ) (rest : List Token) (k : ℕ) → next_expr rest ≡ Err k → exprs_behind (suc n) rest ≡ Err k
next_expr_stops n rest k e = let P : Result (Option (List Term × List Token)) ℕ → Type 0 = λ r. NextExpr n r rest (exprs_behind (suc n) rest) in subst P e (next_expr_is n rest)

pub exprs_begin : (tokens : List Token) (x : List Term × List Token) → expr_at tokens ≡ Ok x → exprs_at tokens ≡ with_front (x.0 ∷ []) (exprs_behind (length x.1) x.1)
unfolding exprs_at
exprs_begin tokens x e = ap (λ r. r >>= λ y. with_front (y.0 ∷ []) (exprs_behind (length y.1) y.1)) e

pub exprs_stop : (tokens : List Token) (n : ℕ) → expr_at tokens ≡ Err n → exprs_at tokens ≡ Err n
unfolding exprs_at
exprs_stop tokens n e = ap (λ r. r >>= λ y. with_front (y.0 ∷ []) (exprs_behind (length y.1) y.1)) e

-- steps enough: no more tokens than steps
pub exprs_end : (n : ℕ) (rest : List Token) → length rest ≤ n → next_expr rest ≡ Ok None → exprs_behind n rest ≡ Ok ([], rest)
unfolding exprs_behind
exprs_end zero rest h e = refl
exprs_end (suc n) rest h e = no_expr_follows n rest e

pub exprs_stop_within : (n : ℕ) (rest : List Token) (k : ℕ) → length rest ≤ n → next_expr rest ≡ Err k → exprs_behind n rest ≡ Err k
exprs_stop_within zero [] k h e = cc
exprs_stop_within zero (t ∷ ts) k h e = absurd (omega arith)
exprs_stop_within (suc n) rest k h e = next_expr_stops n rest k e

pub expr_step : (n : ℕ) (rest : List Token) (x : List Term × List Token) (front more : List (List Term)) (whole : Exprs) → length rest ≤ n → length x.1 < length rest → next_expr rest ≡ Ok (Some x)
    → more ≡ front ++ x.0 ∷ [] → with_front front (exprs_behind n rest) ≡ whole → (m : ℕ) × (length x.1 ≤ m) × (with_front more (exprs_behind m x.1) ≡ whole)
expr_step zero rest x front more whole h s e i w = absurd (omega arith)
expr_step (suc m) rest x front more whole h s e i w =
    (m, omega arith, ap (λ l. with_front l (exprs_behind m x.1)) i ∙ sym (front_more front x.0 (exprs_behind m x.1)) ∙ ap (with_front front) (sym (expr_follows m rest x e)) ∙ w)

-- ---- operands

pub operand_follows : (s : Shape) (ss : List Shape) (tokens : List Token) (x : Operand × List Token) → next_operand s tokens ≡ Ok x → operands_behind (s ∷ ss) tokens ≡ with_front (x.0 ∷ []) (operands_behind ss x.1)
unfolding operands_behind
operand_follows s ss tokens x e = ap (λ r. r >>= λ y. with_front (y.0 ∷ []) (operands_behind ss y.1)) e

pub operand_stops : (s : Shape) (ss : List Shape) (tokens : List Token) (n : ℕ) → next_operand s tokens ≡ Err n → operands_behind (s ∷ ss) tokens ≡ Err n
unfolding operands_behind
operand_stops s ss tokens n e = ap (λ r. r >>= λ y. with_front (y.0 ∷ []) (operands_behind ss y.1)) e

pub no_shape_is_left : (front : List Operand) (tokens : List Token) → with_front front (operands_behind [] tokens) ≡ Ok (front, tokens)
unfolding operands_behind
no_shape_is_left front tokens = ap (λ l. Ok (l, tokens)) (append-nil front)
