-- What is read weighs no more than the tokens that it takes.
use Rattle.std.proofs.Common.{◌≡◌, ◌+◌, ◌≤◌, ℕ, zero, suc, Bool, true, false, List, [], ◌∷◌, length, Option, Some, None, Ok, Err, IfSome, arith, sum_by}
use Rattle.std.proofs.lemmas.List.Sums.{sum_by-cons}
use Rattle.std.specs.Option.{option_map, option_map_or}
use Rattle.xt_lex.specs.Tokens.{kind_weight, weight}
use Rattle.xt_lex.specs.declared.token.Token.{Token}
use Rattle.xt_lex.specs.declared.token.TokenKind.{TokenKind}
use Rattle.xt_lex.specs.declared.token.TokenKind.TheVariants.{Word, Number, Character, Str, Comma, Colon, Equals, Plus, Minus, Bad}
use Rattle.xt_lex.specs.declared.expr.Expr.{Expr}
use Rattle.xt_lex.specs.declared.expr.Term.{Term}
use Rattle.xt_names.specs.declared.forms.Shape.{Shape}
use Rattle.xt_names.specs.declared.forms.Shape.TheVariants as shape
use Rattle.xt_parse.specs.declared.statement.Operand.{Operand}
use Rattle.xt_parse.specs.declared.statement.Operand.TheVariants as operand
use Rattle.xt_parse.specs.Reading.{◌>>=◌, Reading, first_as, with_front, as_string, as_address, as_boolean, as_label, as_term, as_sign, as_comma, as_equals, as_minus, as_user, behind, term_at, terms_behind, minus_at, expr_at, exprs_behind, exprs_at, one_label, literal_at, operand_at, next_operand, operands_behind, operands_at}
use Rattle.xt_parse.specs.Small.{expr_weight, operand_weight}

-- how much tokens weigh
abbrev pub tokens_weight : List Token → ℕ
tokens_weight tokens = sum_by weight tokens

-- what was read and the tokens after it weigh at most n
abbrev pub Fits : {A : Type 0} → (A → ℕ) → ℕ → Reading A → Type 0
Fits f n (Ok x) = f x.0 + tokens_weight x.1 ≤ n
Fits f n (Err k) = Unit {0}

pub cons_weight : (t : Token) (ts : List Token) → tokens_weight (t ∷ ts) ≡ weight t + tokens_weight ts
cons_weight t ts = sum_by-cons weight t ts

kind_counts : (k : TokenKind) → 1 ≤ kind_weight k
kind_counts (Word name) = omega arith
kind_counts (Number n) = omega arith
kind_counts (Character c) = omega arith
kind_counts (Str bytes) = omega arith
kind_counts Comma = omega arith
kind_counts Colon = omega arith
kind_counts Equals = omega arith
kind_counts Plus = omega arith
kind_counts Minus = omega arith
kind_counts Bad = omega arith

-- a token counts at least 1
pub one_more : (t : Token) (ts : List Token) → 1 + tokens_weight ts ≤ tokens_weight (t ∷ ts)
one_more t ts = omega (arith, cons_weight t ts, kind_counts t.what)

-- ---- one reading and then another

pub fits_wider : {A : Type 0} (f : A → ℕ) (m n : ℕ) (read : Reading A) → m ≤ n → Fits f m read → Fits f n read
fits_wider f m n (Ok x) h fits = omega arith
fits_wider f m n (Err k) h fits = tt

pub fits_then : {A B : Type 0} (f : A → ℕ) (g : B → ℕ) (n : ℕ) (read : Reading A) (next : A × List Token → Reading B)
    → Fits f n read → ((x : A × List Token) → Fits g (f x.0 + tokens_weight x.1) (next x)) → Fits g n (read >>= next)
fits_then f g n (Ok x) next h more = fits_wider g (f x.0 + tokens_weight x.1) n (next x) h (more x)
fits_then f g n (Err k) next h more = tt

-- one item more in front
fits_front : {A : Type 0} (f : List A → ℕ) (x : A) (c n : ℕ) (read : Reading (List A)) → ((xs : List A) → f (x ∷ xs) ≡ c + f xs) → Fits f n read → Fits f (c + n) (with_front (x ∷ []) read)
fits_front f x c n (Ok r) counts h = omega (arith, counts r.0)
fits_front f x c n (Err k) counts h = tt

-- ---- the first token

-- the first token counts as the wanted kind does
pub first_fits : {A : Type 0} (f : TokenKind → Option A) (c : A → ℕ) (tokens : List Token) → ((k : TokenKind) → IfSome (f k) (λ a. c a ≤ kind_weight k)) → Fits c (tokens_weight tokens) (first_as f tokens)
first_fits f c [] h = tt
first_fits {A} f c (t ∷ ts) h = by_kind (f t.what) (h t.what)
  where
    by_kind : (o : Option A) → IfSome o (λ a. c a ≤ kind_weight t.what) → Fits c (tokens_weight (t ∷ ts)) (option_map_or (λ a. Ok (a, ts)) o (Err (length (t ∷ ts))))
    by_kind None i = tt
    by_kind (Some a) i = omega (arith, cons_weight t ts)

abbrev pub one : {A : Type 0} → A → ℕ
one a = 1

-- whatever the wanted kind, the first token counts at least 1
pub first_counts : {A : Type 0} (f : TokenKind → Option A) (tokens : List Token) → Fits one (tokens_weight tokens) (first_as f tokens)
first_counts {A} f tokens = first_fits f one tokens (λ k. counts k (f k))
  where
    counts : (k : TokenKind) (o : Option A) → IfSome o (λ a. 1 ≤ kind_weight k)
    counts k None = tt
    counts k (Some a) = kind_counts k

-- a string counts its bytes besides
string_counts : (k : TokenKind) → IfSome (as_string k) (λ bytes. 1 + length bytes ≤ kind_weight k)
string_counts (Word name) = tt
string_counts (Number n) = tt
string_counts (Character c) = tt
string_counts (Str bytes) = omega arith
string_counts Comma = tt
string_counts Colon = tt
string_counts Equals = tt
string_counts Plus = tt
string_counts Minus = tt
string_counts Bad = tt

abbrev pub string_weight : List ℕ → ℕ
string_weight bytes = 1 + length bytes

pub string_fits : (tokens : List Token) → Fits string_weight (tokens_weight tokens) (first_as as_string tokens)
string_fits tokens = first_fits as_string string_weight tokens string_counts

abbrev with_rest : {A : Type 0} → List Token → A → A × List Token
with_rest ts a = (a, ts)

-- the tokens after the first
behind_fits : {A : Type 0} (f : TokenKind → Option A) (tokens : List Token) → IfSome (behind f tokens) (λ x. 1 + tokens_weight x.1 ≤ tokens_weight tokens)
behind_fits f [] = tt
behind_fits {A} f (t ∷ ts) = by_kind (f t.what)
  where
    by_kind : (o : Option A) → IfSome (option_map (with_rest ts) o) (λ x. 1 + tokens_weight x.1 ≤ tokens_weight (t ∷ ts))
    by_kind None = tt
    by_kind (Some a) = one_more t ts

-- ---- expressions

term_fits : (minus : Bool) (tokens : List Token) → Fits one (tokens_weight tokens) (term_at minus tokens)
term_fits minus tokens = fits_then one one (tokens_weight tokens) (first_as as_term tokens) (λ v. Ok (record { minus = minus; value = v.0 }, v.1)) (first_counts as_term tokens) (λ v. omega arith)

abbrev terms_weight : List Term → ℕ
terms_weight terms = length terms

more_terms : (x : Term) (n : ℕ) (read : Reading (List Term)) → Fits terms_weight n read → Fits terms_weight (1 + n) (with_front (x ∷ []) read)
more_terms x n read h = fits_front terms_weight x 1 n read (λ xs. omega arith) h

terms_fit : (tokens : List Token) → Fits terms_weight (tokens_weight tokens) (terms_behind tokens)
unfolding terms_behind
terms_fit [] = omega arith
terms_fit (s ∷ []) = by_sign (as_sign s.what)
  where
    by_sign : (o : Option Bool) → Fits terms_weight (tokens_weight (s ∷ [])) (option_map_or (λ minus. Err 0) o (Ok ([], s ∷ [])))
    by_sign None = omega arith
    by_sign (Some minus) = tt
terms_fit (s ∷ t ∷ ts) = by_sign (as_sign s.what) (terms_fit ts)
  where
    by_term : (read : Reading Term) → Fits terms_weight (tokens_weight ts) (terms_behind ts) → Fits terms_weight (tokens_weight (s ∷ t ∷ ts)) (read >>= λ x. with_front (x.0 ∷ []) (terms_behind ts))
    by_term (Ok x) h = fits_wider terms_weight (1 + tokens_weight ts) (tokens_weight (s ∷ t ∷ ts)) (with_front (x.0 ∷ []) (terms_behind ts)) (omega (arith, one_more s (t ∷ ts), one_more t ts)) (more_terms x.0 (tokens_weight ts) (terms_behind ts) h)
    by_term (Err k) h = tt

    by_sign : (o : Option Bool) → Fits terms_weight (tokens_weight ts) (terms_behind ts)
        → Fits terms_weight (tokens_weight (s ∷ t ∷ ts)) (option_map_or (λ minus. term_at minus (t ∷ ts) >>= λ x. with_front (x.0 ∷ []) (terms_behind ts)) o (Ok ([], s ∷ t ∷ ts)))
    by_sign None h = omega arith
    by_sign (Some minus) h = by_term (term_at minus (t ∷ ts)) h

abbrev behind_minus : List Token → Option (Unit {0} × List Token) → Bool × List Token
behind_minus tokens o = option_map_or (λ x. (true, x.1)) o (false, tokens)

minus_fits : (tokens : List Token) → tokens_weight (minus_at tokens).1 ≤ tokens_weight tokens
minus_fits tokens = by_minus (behind as_minus tokens) (behind_fits as_minus tokens)
  where
    by_minus : (o : Option (Unit {0} × List Token)) → IfSome o (λ x. 1 + tokens_weight x.1 ≤ tokens_weight tokens) → tokens_weight (behind_minus tokens o).1 ≤ tokens_weight tokens
    by_minus None h = omega arith
    by_minus (Some x) h = omega arith

-- an expression has a term
some_term : (x : Term) (n : ℕ) (read : Reading (List Term)) → Fits terms_weight n (with_front (x ∷ []) read) → Fits expr_weight n (with_front (x ∷ []) read)
some_term x n (Ok r) h = omega arith
some_term x n (Err k) h = tt

pub expr_fits : (tokens : List Token) → Fits expr_weight (tokens_weight tokens) (expr_at tokens)
unfolding expr_at
expr_fits tokens =
    let minus = (minus_at tokens).0 in
    let rest = (minus_at tokens).1 in
    fits_wider expr_weight (tokens_weight rest) (tokens_weight tokens) (expr_at tokens) (minus_fits tokens)
    (fits_then one expr_weight (tokens_weight rest) (term_at minus rest) (λ x. with_front (x.0 ∷ []) (terms_behind x.1)) (term_fits minus rest)
    (λ x. some_term x.0 (1 + tokens_weight x.1) (terms_behind x.1) (more_terms x.0 (tokens_weight x.1) (terms_behind x.1) (terms_fit x.1))))

abbrev pub exprs_weight : List Expr → ℕ
exprs_weight es = sum_by expr_weight es

more_exprs : (e : Expr) (n : ℕ) (read : Reading (List Expr)) → Fits exprs_weight n read → Fits exprs_weight (expr_weight e + n) (with_front (e ∷ []) read)
more_exprs e n read h = fits_front exprs_weight e (expr_weight e) n read (λ es. sum_by-cons expr_weight e es) h

exprs_behind_fit : (n : ℕ) (tokens : List Token) → Fits exprs_weight (tokens_weight tokens) (exprs_behind n tokens)
unfolding exprs_behind
exprs_behind_fit zero tokens = omega arith
exprs_behind_fit (suc n) tokens = by_comma (behind as_comma tokens) (behind_fits as_comma tokens) (λ rest. exprs_behind_fit n rest)
  where
    by_comma : (o : Option (Unit {0} × List Token)) → IfSome o (λ x. 1 + tokens_weight x.1 ≤ tokens_weight tokens) → ((rest : List Token) → Fits exprs_weight (tokens_weight rest) (exprs_behind n rest))
        → Fits exprs_weight (tokens_weight tokens) (option_map_or (λ c. expr_at c.1 >>= λ x. with_front (x.0 ∷ []) (exprs_behind n x.1)) o (Ok ([], tokens)))
    by_comma None h more = omega arith
    by_comma (Some c) h more =
        fits_wider exprs_weight (tokens_weight c.1) (tokens_weight tokens) (expr_at c.1 >>= λ x. with_front (x.0 ∷ []) (exprs_behind n x.1)) (omega arith)
        (fits_then expr_weight exprs_weight (tokens_weight c.1) (expr_at c.1) (λ x. with_front (x.0 ∷ []) (exprs_behind n x.1)) (expr_fits c.1)
        (λ x. more_exprs x.0 (tokens_weight x.1) (exprs_behind n x.1) (more x.1)))

pub exprs_fit : (tokens : List Token) → Fits exprs_weight (tokens_weight tokens) (exprs_at tokens)
unfolding exprs_at
exprs_fit tokens =
    fits_then expr_weight exprs_weight (tokens_weight tokens) (expr_at tokens) (λ x. with_front (x.0 ∷ []) (exprs_behind (length x.1) x.1)) (expr_fits tokens)
    (λ x. more_exprs x.0 (tokens_weight x.1) (exprs_behind (length x.1) x.1) (exprs_behind_fit (length x.1) x.1))

-- ---- operands

-- a register weighs nothing
register_fits : (f : TokenKind → Option ℕ) (tokens : List Token) → Fits operand_weight (tokens_weight tokens) (first_as f tokens >>= λ x. Ok (operand.Reg x.0, x.1))
register_fits f tokens = fits_then one operand_weight (tokens_weight tokens) (first_as f tokens) (λ x. Ok (operand.Reg x.0, x.1)) (first_counts f tokens) (λ x. omega arith)

-- a word is an expression of one label
word_fits : (f : TokenKind → Option (List ℕ)) (tokens : List Token) → Fits operand_weight (tokens_weight tokens) (first_as f tokens >>= λ x. Ok (one_label x.0, x.1))
word_fits f tokens = fits_then one operand_weight (tokens_weight tokens) (first_as f tokens) (λ x. Ok (one_label x.0, x.1)) (first_counts f tokens) (λ x. omega arith)

value_fits : (tokens : List Token) → Fits operand_weight (tokens_weight tokens) (expr_at tokens >>= λ x. Ok (operand.Value x.0, x.1))
value_fits tokens = fits_then expr_weight operand_weight (tokens_weight tokens) (expr_at tokens) (λ x. Ok (operand.Value x.0, x.1)) (expr_fits tokens) (λ x. omega arith)

pool_fits : (tokens : List Token) → Fits operand_weight (tokens_weight tokens) (expr_at tokens >>= λ x. Ok (operand.Pool x.0, x.1))
pool_fits tokens = fits_then expr_weight operand_weight (tokens_weight tokens) (expr_at tokens) (λ x. Ok (operand.Pool x.0, x.1)) (expr_fits tokens) (λ x. omega arith)

literal_fits : (tokens : List Token) → Fits operand_weight (tokens_weight tokens) (literal_at tokens)
literal_fits tokens = by_equals (behind as_equals tokens) (behind_fits as_equals tokens)
  where
    by_equals : (o : Option (Unit {0} × List Token)) → IfSome o (λ x. 1 + tokens_weight x.1 ≤ tokens_weight tokens)
        → Fits operand_weight (tokens_weight tokens) (option_map_or (λ e. expr_at e.1 >>= λ x. Ok (operand.Pool x.0, x.1)) o (expr_at tokens >>= λ x. Ok (operand.Value x.0, x.1)))
    by_equals None h = value_fits tokens
    by_equals (Some e) h = fits_wider operand_weight (tokens_weight e.1) (tokens_weight tokens) (expr_at e.1 >>= λ x. Ok (operand.Pool x.0, x.1)) (omega arith) (pool_fits e.1)

operand_fits : (s : Shape) (tokens : List Token) → Fits operand_weight (tokens_weight tokens) (operand_at s tokens)
unfolding operand_at
operand_fits shape.Register tokens = register_fits as_address tokens
operand_fits shape.Boolean tokens = register_fits as_boolean tokens
operand_fits shape.Value tokens = value_fits tokens
operand_fits shape.Literal tokens = literal_fits tokens
operand_fits shape.Special tokens = word_fits as_label tokens
operand_fits shape.User tokens = word_fits as_user tokens

next_operand_fits : (s : Shape) (tokens : List Token) → Fits operand_weight (tokens_weight tokens) (next_operand s tokens)
next_operand_fits s tokens =
    fits_then one operand_weight (tokens_weight tokens) (first_as as_comma tokens) (λ c. operand_at s c.1) (first_counts as_comma tokens)
    (λ c. fits_wider operand_weight (tokens_weight c.1) (1 + tokens_weight c.1) (operand_at s c.1) (omega arith) (operand_fits s c.1))

abbrev pub operands_weight : List Operand → ℕ
operands_weight os = sum_by operand_weight os

more_operands : (o : Operand) (n : ℕ) (read : Reading (List Operand)) → Fits operands_weight n read → Fits operands_weight (operand_weight o + n) (with_front (o ∷ []) read)
more_operands o n read h = fits_front operands_weight o (operand_weight o) n read (λ os. sum_by-cons operand_weight o os) h

operands_behind_fit : (ss : List Shape) (tokens : List Token) → Fits operands_weight (tokens_weight tokens) (operands_behind ss tokens)
unfolding operands_behind
operands_behind_fit [] tokens = omega arith
operands_behind_fit (s ∷ ss) tokens =
    fits_then operand_weight operands_weight (tokens_weight tokens) (next_operand s tokens) (λ x. with_front (x.0 ∷ []) (operands_behind ss x.1)) (next_operand_fits s tokens)
    (λ x. more_operands x.0 (tokens_weight x.1) (operands_behind ss x.1) (operands_behind_fit ss x.1))

pub operands_fit : (ss : List Shape) (tokens : List Token) → Fits operands_weight (tokens_weight tokens) (operands_at ss tokens)
unfolding operands_at
operands_fit [] tokens = omega arith
operands_fit (s ∷ ss) tokens =
    fits_then operand_weight operands_weight (tokens_weight tokens) (operand_at s tokens) (λ x. with_front (x.0 ∷ []) (operands_behind ss x.1)) (operand_fits s tokens)
    (λ x. more_operands x.0 (tokens_weight x.1) (operands_behind ss x.1) (operands_behind_fit ss x.1))
