-- A line weighs no more than its tokens.
use Rattle.std.proofs.Common.{◌≡◌, ◌+◌, ◌-◌, ◌≤◌, ◌==◌, ℕ, Bool, true, false, not, ◌&&◌, if◌then◌else◌, List, [], ◌∷◌, ◌++◌, length, Option, Some, None, Ok, Err, IfOk, IfSome, refl, arith}
use Rattle.std.specs.Option.{option_map, option_map_or}
use Rattle.std.proofs.lemmas.List.{length-append}
use Rattle.xt_lex.specs.declared.token.Token.{Token}
use Rattle.xt_parse.specs.declared.form.Form.{Form}
use Rattle.xt_parse.specs.declared.form.Form.TheVariants as form
use Rattle.xt_parse.specs.declared.line.Line.{Line}
use Rattle.xt_parse.specs.declared.line.Placed.{Placed}
use Rattle.xt_parse.specs.declared.statement.Statement.{Statement}
use Rattle.xt_parse.specs.declared.statement.Statement.TheVariants as statement
use Rattle.xt_names.specs.Forms.{shapes_of}
use Rattle.xt_parse.specs.Reading.{◌>>=◌, Reading, first_as, as_number, as_string, as_label, as_comma, as_colon, expr_at, exprs_at, operands_at}
use Rattle.xt_parse.specs.Statements.{placed_at, literal_body_at, body_at, as_statement, statement_at, label_at, awaits_colon, opens, Parts, behind_label, without_label, parts_at, to_the_end, number_of, as_line, line_of}
use Rattle.xt_parse.specs.Small.{expr_weight, statement_weight, line_weight}
use Rattle.xt_parse.proofs.ReadWeights.{tokens_weight, Fits, fits_wider, fits_then, one, one_more, first_counts, string_weight, string_fits, expr_fits, exprs_weight, exprs_fit, operands_weight, operands_fit}

-- ---- statements

abbrev placed : Token → List Token → List ℕ → Placed × List Token
placed t ts name = (record { column = t.column; name = name }, ts)

abbrev read_name : Token → List Token → List ℕ → Reading Placed
read_name t ts name = Ok (placed t ts name)

placed_fits : (tokens : List Token) → Fits one (tokens_weight tokens) (placed_at tokens)
unfolding placed_at
placed_fits [] = tt
placed_fits (t ∷ ts) = by_name (as_label t.what)
  where
    by_name : (o : Option (List ℕ)) → Fits one (tokens_weight (t ∷ ts)) (option_map_or (read_name t ts) o (Err (length (t ∷ ts))))
    by_name None = tt
    by_name (Some name) = one_more t ts

literal_fits : (tokens : List Token) → Fits statement_weight (tokens_weight tokens) (literal_body_at tokens)
literal_fits tokens =
    fits_then one statement_weight (tokens_weight tokens) (placed_at tokens) (λ p. first_as as_comma p.1 >>= λ c. expr_at c.1 >>= λ x. Ok (statement.Literal p.0 x.0, x.1)) (placed_fits tokens)
    (λ p. fits_wider statement_weight (tokens_weight p.1) (1 + tokens_weight p.1) (first_as as_comma p.1 >>= λ c. expr_at c.1 >>= λ x. Ok (statement.Literal p.0 x.0, x.1)) (omega arith)
    (fits_then one statement_weight (tokens_weight p.1) (first_as as_comma p.1) (λ c. expr_at c.1 >>= λ x. Ok (statement.Literal p.0 x.0, x.1)) (first_counts as_comma p.1)
    (λ c. fits_wider statement_weight (tokens_weight c.1) (1 + tokens_weight c.1) (expr_at c.1 >>= λ x. Ok (statement.Literal p.0 x.0, x.1)) (omega arith)
    (fits_then expr_weight statement_weight (tokens_weight c.1) (expr_at c.1) (λ x. Ok (statement.Literal p.0 x.0, x.1)) (expr_fits c.1) (λ x. omega arith)))))

body_fits : (f : Form) (tokens : List Token) → Fits statement_weight (tokens_weight tokens) (body_at f tokens)
unfolding body_at
body_fits form.Seg tokens = fits_then one statement_weight (tokens_weight tokens) (first_as as_number tokens) (λ x. Ok (statement.Seg x.0, x.1)) (first_counts as_number tokens) (λ x. omega arith)
body_fits form.Entry tokens = fits_then expr_weight statement_weight (tokens_weight tokens) (expr_at tokens) (λ x. Ok (statement.Entry x.0, x.1)) (expr_fits tokens) (λ x. omega arith)
body_fits form.Position tokens = omega arith
body_fits form.Literal tokens = literal_fits tokens
body_fits form.Word tokens = fits_then exprs_weight statement_weight (tokens_weight tokens) (exprs_at tokens) (λ x. Ok (statement.Words x.0, x.1)) (exprs_fit tokens) (λ x. omega arith)
body_fits form.Short tokens = fits_then exprs_weight statement_weight (tokens_weight tokens) (exprs_at tokens) (λ x. Ok (statement.Shorts x.0, x.1)) (exprs_fit tokens) (λ x. omega arith)
body_fits form.Byte tokens = fits_then exprs_weight statement_weight (tokens_weight tokens) (exprs_at tokens) (λ x. Ok (statement.Bytes x.0, x.1)) (exprs_fit tokens) (λ x. omega arith)
body_fits form.Ascii tokens = fits_then string_weight statement_weight (tokens_weight tokens) (first_as as_string tokens) (λ x. Ok (statement.Ascii x.0, x.1)) (string_fits tokens) (λ x. omega arith)
body_fits form.Asciz tokens =
    fits_then string_weight statement_weight (tokens_weight tokens) (first_as as_string tokens) (λ x. Ok (statement.Ascii (x.0 ++ 0 ∷ []), x.1)) (string_fits tokens) (λ x. omega (arith, length-append x.0 (0 ∷ [])))
body_fits form.Align tokens = fits_then one statement_weight (tokens_weight tokens) (first_as as_number tokens) (λ x. Ok (statement.Align x.0, x.1)) (first_counts as_number tokens) (λ x. omega arith)
body_fits form.Space tokens = fits_then one statement_weight (tokens_weight tokens) (first_as as_number tokens) (λ x. Ok (statement.Space x.0, x.1)) (first_counts as_number tokens) (λ x. omega arith)
body_fits (form.Insn m) tokens =
    fits_then operands_weight statement_weight (tokens_weight tokens) (operands_at (shapes_of m) tokens) (λ x. Ok (statement.Insn m x.0, x.1)) (operands_fit (shapes_of m) tokens) (λ x. omega arith)

-- a statement with its column counts 1 more, for its word
abbrev placed_weight : ℕ × Statement → ℕ
placed_weight x = 1 + statement_weight x.1

statement_fits : (tokens : List Token) → Fits placed_weight (tokens_weight tokens) (statement_at tokens)
unfolding statement_at
statement_fits [] = tt
statement_fits (t ∷ ts) = by_word (as_statement t.what)
  where
    by_body : (read : Reading Statement) → Fits statement_weight (tokens_weight ts) read → Fits placed_weight (tokens_weight (t ∷ ts)) (read >>= λ x. Ok ((t.column, x.0), x.1))
    by_body (Ok x) h = omega (arith, one_more t ts)
    by_body (Err k) h = tt

    by_word : (o : Option Form) → Fits placed_weight (tokens_weight (t ∷ ts)) (option_map_or (λ w. body_at w ts >>= λ x. Ok ((t.column, x.0), x.1)) o (Err (length (t ∷ ts))))
    by_word None = tt
    by_word (Some w) = by_body (body_at w ts) (body_fits w ts)

-- ---- the parts of a line

abbrev IsBehind : List Token → Option (Placed × List Token) → Type 0
IsBehind tokens o = IfSome o (λ x. 1 + tokens_weight x.1 ≤ tokens_weight tokens)

label_fits : (tokens : List Token) → IsBehind tokens (label_at tokens)
unfolding label_at
label_fits [] = tt
label_fits (t ∷ []) = tt
label_fits (t ∷ c ∷ ts) = by_name (as_label t.what) (as_colon c.what)
  where
    by_name : (o : Option (List ℕ)) (q : Option (Unit {0})) → IsBehind (t ∷ c ∷ ts) (option_map_or (λ name. option_map (λ _. placed t ts name) q) o None)
    by_name None q = tt
    by_name (Some name) None = tt
    by_name (Some name) (Some colon) = omega (arith, one_more t (c ∷ ts), one_more c ts)

abbrev parts_weight : Parts → ℕ
parts_weight parts = 1 + statement_weight parts.2

abbrev with_label : Option Placed → (ℕ × Statement) × List Token → Reading Parts
with_label label x = Ok ((label, x.0.0, x.0.1), x.1)

with_label_fits : (label : Option Placed) (tokens : List Token) → Fits parts_weight (tokens_weight tokens) (statement_at tokens >>= with_label label)
with_label_fits label tokens = fits_then placed_weight parts_weight (tokens_weight tokens) (statement_at tokens) (with_label label) (statement_fits tokens) (λ x. omega arith)

behind_label_fits : (p : Placed) (tokens : List Token) → Fits parts_weight (1 + tokens_weight tokens) (behind_label p tokens)
behind_label_fits p [] = omega arith
behind_label_fits p (t ∷ ts) = fits_wider parts_weight (tokens_weight (t ∷ ts)) (1 + tokens_weight (t ∷ ts)) (statement_at (t ∷ ts) >>= with_label (Some p)) (omega arith) (with_label_fits (Some p) (t ∷ ts))

without_label_fits : (tokens : List Token) → Fits parts_weight (tokens_weight tokens) (without_label tokens)
without_label_fits tokens = by_colon (awaits_colon tokens)
  where
    by_colon : (b : Bool) → Fits parts_weight (tokens_weight tokens) (if b then Err (length tokens - 1) else statement_at tokens >>= with_label None)
    by_colon true = tt
    by_colon false = with_label_fits None tokens

parts_fit : (begun : Bool) (tokens : List Token) → Fits parts_weight (tokens_weight tokens) (parts_at begun tokens)
unfolding parts_at
parts_fit begun tokens = by_opening (not begun && not (opens tokens))
  where
    by_label : (o : Option (Placed × List Token)) → IsBehind tokens o → Fits parts_weight (tokens_weight tokens) (option_map_or (λ l. behind_label l.0 l.1) o (without_label tokens))
    by_label None h = without_label_fits tokens
    by_label (Some l) h = fits_wider parts_weight (1 + tokens_weight l.1) (tokens_weight tokens) (behind_label l.0 l.1) h (behind_label_fits l.0 l.1)

    by_opening : (b : Bool) → Fits parts_weight (tokens_weight tokens) (if b then Err (length tokens) else option_map_or (λ l. behind_label l.0 l.1) (label_at tokens) (without_label tokens))
    by_opening true = tt
    by_opening false = by_label (label_at tokens) (label_fits tokens)

-- ---- lines

-- a line has the number of its tokens, and weighs no more than they do
abbrev pub IsLineOf : List Token → Line → Type 0
IsLineOf tokens line = (line.number ≡ number_of tokens) × (line_weight line ≤ tokens_weight tokens)

pub line_fits : (begun : Bool) (tokens : List Token) → IfOk (line_of begun tokens) (IsLineOf tokens)
unfolding line_of
line_fits begun tokens = by_parts (parts_at begun tokens) (parts_fit begun tokens)
  where
    by_end : (x : Parts × List Token) (b : Bool) → parts_weight x.0 + tokens_weight x.1 ≤ tokens_weight tokens → IfOk (as_line tokens (if b then Ok x.0 else Err (length x.1))) (IsLineOf tokens)
    by_end x true h = (refl, omega arith)
    by_end x false h = tt

    by_parts : (read : Reading Parts) → Fits parts_weight (tokens_weight tokens) read → IfOk (as_line tokens (read >>= to_the_end)) (IsLineOf tokens)
    by_parts (Ok x) h = by_end x (length x.1 == 0) h
    by_parts (Err k) h = tt
