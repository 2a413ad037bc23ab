-- Reading the tokens of a line from the front ('profile'): what is read, and the tokens after it;
-- or how many of the line's tokens are left where the first of these cannot continue the line, or
-- none is left and the line is not complete.
use Rattle.std.specs.Prelude.{ℕ, zero, suc, Bool, true, false, if◌then◌else◌, List, [], ◌∷◌, ◌++◌}
use Rattle.std.specs.Prelude.{length, Option, Some, None, Result, Ok, Err, codes}
use Rattle.std.specs.Option.{option_and_then, option_map, option_map_or}
use Rattle.std.specs.Str.{bytes_eq}
use Rattle.xt_lex.specs.declared.token.Token.{Token}
use Rattle.xt_lex.specs.declared.token.TokenKind.{TokenKind}
use Rattle.xt_lex.specs.declared.token.TokenKind.TheVariants as kind
use Rattle.xt_lex.specs.declared.expr.Term.{Term}
use Rattle.xt_lex.specs.declared.expr.TermValue.{TermValue}
use Rattle.xt_lex.specs.declared.expr.TermValue.TheVariants as value
use Rattle.xt_parse.specs.declared.statement.Operand.{Operand}
use Rattle.xt_parse.specs.declared.statement.Operand.TheVariants as operand
use Rattle.xt_names.specs.declared.forms.Shape.{Shape}
use Rattle.xt_names.specs.declared.forms.Shape.TheVariants as shape
use Rattle.xt_parse.specs.Words.{address_number, boolean_number, is_label_word, register_of}

infixl 10 ◌>>=◌
abbrev pub ◌>>=◌ : {A B E : Type 0} → Result A E → (A → Result B E) → Result B E
(Ok x) >>= f = f x
(Err e) >>= f = Err e

abbrev pub Reading : Type 0 → Type 0
Reading A = Result (A × List Token) ℕ

-- the first token, where it is of the wanted kind
abbrev pub first_as : {A : Type 0} → (TokenKind → Option A) → List Token → Reading A
first_as f [] = Err 0
first_as f (t ∷ ts) = option_map_or (λ a. Ok (a, ts)) (f t.what) (Err (length (t ∷ ts)))

-- what stands in front of what is read
abbrev pub with_front : {A : Type 0} → List A → Reading (List A) → Reading (List A)
with_front front read = read >>= λ x. Ok (front ++ x.0, x.1)

-- ---- kinds of tokens

abbrev pub as_number : TokenKind → Option ℕ
as_number (kind.Number n) = Some n
as_number _ = None

abbrev pub as_string : TokenKind → Option (List ℕ)
as_string (kind.Str bytes) = Some bytes
as_string _ = None

-- the name of an address register, by its number
abbrev pub as_address : TokenKind → Option ℕ
as_address (kind.Word name) = option_and_then address_number (register_of name)
as_address _ = None

-- the name of a Boolean register, by its number
abbrev pub as_boolean : TokenKind → Option ℕ
as_boolean (kind.Word name) = option_and_then boolean_number (register_of name)
as_boolean _ = None

-- a word that may be a label
abbrev pub as_label : TokenKind → Option (List ℕ)
as_label (kind.Word name) = if is_label_word name then Some name else None
as_label _ = None

-- a number, a character or a label
abbrev pub as_term : TokenKind → Option TermValue
as_term (kind.Number n) = Some (value.Number n)
as_term (kind.Character c) = Some (value.Number c)
as_term (kind.Word name) = if is_label_word name then Some (value.Label name) else None
as_term _ = None

-- whether a sign takes away the term after it
abbrev pub as_sign : TokenKind → Option Bool
as_sign kind.Plus = Some false
as_sign kind.Minus = Some true
as_sign _ = None

abbrev pub as_comma : TokenKind → Option (Unit {0})
as_comma kind.Comma = Some tt
as_comma _ = None

abbrev pub as_equals : TokenKind → Option (Unit {0})
as_equals kind.Equals = Some tt
as_equals _ = None

abbrev pub as_colon : TokenKind → Option (Unit {0})
as_colon kind.Colon = Some tt
as_colon _ = None

-- the tokens after the first, where it is of the wanted kind
abbrev pub behind : {A : Type 0} → (TokenKind → Option A) → List Token → Option (A × List Token)
behind f [] = None
behind f (t ∷ ts) = option_map (λ a. (a, ts)) (f t.what)

-- ---- expressions

-- a term after its sign
abbrev pub term_at : Bool → List Token → Reading Term
term_at minus tokens =
    first_as as_term tokens >>= λ v. Ok (record { minus = minus; value = v.0 }, v.1)

-- the terms that follow, each after a sign
unfoldable pub terms_behind : List Token → Reading (List Term)
terms_behind [] = Ok ([], [])
terms_behind (s ∷ []) = option_map_or (λ minus. Err 0) (as_sign s.what) (Ok ([], s ∷ []))
terms_behind (s ∷ t ∷ ts) =
    option_map_or (λ minus. term_at minus (t ∷ ts) >>= λ x. with_front (x.0 ∷ []) (terms_behind ts))
    (as_sign s.what) (Ok ([], s ∷ t ∷ ts))

-- a sign and a term, where a sign stands
abbrev pub next_term : List Token → Result (Option (Term × List Token)) ℕ
next_term tokens =
    option_map_or (λ s. term_at s.0 s.1 >>= λ x. Ok (Some x)) (behind as_sign tokens) (Ok None)

abbrev pub as_minus : TokenKind → Option (Unit {0})
as_minus kind.Minus = Some tt
as_minus _ = None

-- an optional minus
abbrev pub minus_at : List Token → Bool × List Token
minus_at tokens = option_map_or (λ x. (true, x.1)) (behind as_minus tokens) (false, tokens)

-- an optional minus, and terms that are joined by signs
unfoldable pub expr_at : List Token → Reading (List Term)
expr_at tokens =
    term_at (minus_at tokens).0 (minus_at tokens).1
    >>= λ x. with_front (x.0 ∷ []) (terms_behind x.1)

-- a comma and an expression, where a comma stands
abbrev pub next_expr : List Token → Result (Option (List Term × List Token)) ℕ
next_expr tokens =
    option_map_or (λ c. expr_at c.1 >>= λ x. Ok (Some x)) (behind as_comma tokens) (Ok None)

-- the expressions that follow, each after a comma, at most n
unfoldable pub exprs_behind : ℕ → List Token → Reading (List (List Term))
exprs_behind zero tokens = Ok ([], tokens)
exprs_behind (suc n) tokens =
    option_map_or (λ c. expr_at c.1 >>= λ x. with_front (x.0 ∷ []) (exprs_behind n x.1))
    (behind as_comma tokens) (Ok ([], tokens))

-- expressions with commas between them
unfoldable pub exprs_at : List Token → Reading (List (List Term))
exprs_at tokens = expr_at tokens >>= λ x. with_front (x.0 ∷ []) (exprs_behind (length x.1) x.1)

-- ---- operands

-- a word as an expression of one label
abbrev pub one_label : List ℕ → Operand
one_label name = operand.Value (record { minus = false; value = value.Label name } ∷ [])

abbrev pub as_user : TokenKind → Option (List ℕ)
as_user (kind.Word name) = if bytes_eq name (codes "threadptr") then Some name else None
as_user _ = None

-- an expression after `=`, or an expression
abbrev pub literal_at : List Token → Reading Operand
literal_at tokens =
    option_map_or (λ e. expr_at e.1 >>= λ x. Ok (operand.Pool x.0, x.1)) (behind as_equals tokens)
    (expr_at tokens >>= λ x. Ok (operand.Value x.0, x.1))

unfoldable pub operand_at : Shape → List Token → Reading Operand
operand_at shape.Register tokens = first_as as_address tokens >>= λ x. Ok (operand.Reg x.0, x.1)
operand_at shape.Boolean tokens = first_as as_boolean tokens >>= λ x. Ok (operand.Reg x.0, x.1)
operand_at shape.Value tokens = expr_at tokens >>= λ x. Ok (operand.Value x.0, x.1)
operand_at shape.Literal tokens = literal_at tokens
operand_at shape.Special tokens = first_as as_label tokens >>= λ x. Ok (one_label x.0, x.1)
operand_at shape.User tokens = first_as as_user tokens >>= λ x. Ok (one_label x.0, x.1)

-- a comma and an operand of this shape
abbrev pub next_operand : Shape → List Token → Reading Operand
next_operand s tokens = first_as as_comma tokens >>= λ c. operand_at s c.1

-- operands of these shapes, each after a comma
unfoldable pub operands_behind : List Shape → List Token → Reading (List Operand)
operands_behind [] tokens = Ok ([], tokens)
operands_behind (s ∷ ss) tokens =
    next_operand s tokens >>= λ x. with_front (x.0 ∷ []) (operands_behind ss x.1)

-- operands of these shapes with commas between them
unfoldable pub operands_at : List Shape → List Token → Reading (List Operand)
operands_at [] tokens = Ok ([], tokens)
operands_at (s ∷ ss) tokens =
    operand_at s tokens >>= λ x. with_front (x.0 ∷ []) (operands_behind ss x.1)
