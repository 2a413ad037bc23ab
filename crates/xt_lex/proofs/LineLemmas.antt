-- The tokens of a line step by step, however many steps are left.
use Rattle.std.proofs.Common.{◌≡◌, ◌+◌, ◌≤◌, ℕ, zero, suc, Bool, true, false, cond, List, [], ◌∷◌, ◌++◌, length, drop, length-drop, Some, None, refl, sym, ◌∙◌, ap, arith, append-nil, ◌==◌}
use Rattle.std.specs.Option.{option_map_or}
use Rattle.xt_lex.specs.declared.token.Token.{Token}
use Rattle.xt_lex.specs.declared.token.TokenKind.{TokenKind}
use Rattle.xt_lex.specs.Fronts.{Front, token_at}
use Rattle.std.proofs.lemmas.Bool.Decides.{nat_tests}
use Rattle.xt_lex.specs.Tokens.{tokens_from, line_tokens, lines_of, tokens_of_lines, starts_blank, starts_comment, valid, token, bad}
use Rattle.xt_lex.proofs.WidthLemmas.{valid_is_within}

-- what stands after the first byte of a line
abbrev step : (ℕ → ℕ → List ℕ → List Token) → Bool → Bool → Front → ℕ → ℕ → List ℕ → List ℕ → List Token
step next comment blank front line column bytes rest =
    cond comment [] (cond blank (next line (column + 1) rest) (option_map_or (λ x. token line column x.1 x.0 ∷ next line (column + x.1) (drop x.1 bytes)) front (bad line column)))

-- a step depends on shorter rests alone
step_same : (f g : ℕ → ℕ → List ℕ → List Token) (comment blank : Bool) (front : Front) (line column : ℕ) (bytes rest : List ℕ)
    → ((c : ℕ) → f line c rest ≡ g line c rest) → ((x : TokenKind × ℕ) (c : ℕ) → front ≡ Some x → f line c (drop x.1 bytes) ≡ g line c (drop x.1 bytes))
    → step f comment blank front line column bytes rest ≡ step g comment blank front line column bytes rest
step_same f g true blank front line column bytes rest one more = refl
step_same f g false true front line column bytes rest one more = one (column + 1)
step_same f g false false None line column bytes rest one more = refl
step_same f g false false (Some x) line column bytes rest one more = ap (λ ts. token line column x.1 x.0 ∷ ts) (more x (column + x.1) refl)

shorter : (b : ℕ) (rest : List ℕ) (x : TokenKind × ℕ) (n : ℕ) → suc (length rest) ≤ suc n → valid (token_at (b ∷ rest)) ≡ Some x → length (drop x.1 (b ∷ rest)) ≤ n
shorter b rest x n h e = let w = valid_is_within (b ∷ rest) x e in omega (arith, length-drop x.1 (b ∷ rest), w.some, w.most)

-- more steps than bytes change nothing
pub enough : (n m line column : ℕ) (bytes : List ℕ) → length bytes ≤ n → length bytes ≤ m → tokens_from n line column bytes ≡ tokens_from m line column bytes
unfolding tokens_from
enough zero zero line column bytes h k = refl
enough zero (suc m) line column [] h k = refl
enough (suc n) zero line column [] h k = refl
enough zero (suc m) line column (b ∷ rest) h k = absurd (omega arith)
enough (suc n) zero line column (b ∷ rest) h k = absurd (omega arith)
enough (suc n) (suc m) line column [] h k = refl
enough (suc n) (suc m) line column (b ∷ rest) h k =
    step_same (tokens_from n) (tokens_from m) (starts_comment (b ∷ rest)) (starts_blank (b ∷ rest)) (valid (token_at (b ∷ rest))) line column (b ∷ rest) rest
    (λ c. enough n m line c rest (omega arith) (omega arith))
    (λ x c e. enough n m line c (drop x.1 (b ∷ rest)) (shorter b rest x n h e) (shorter b rest x m k e))

abbrev pub from_here : ℕ → ℕ → List ℕ → List Token
from_here line column bytes = tokens_from (length bytes) line column bytes

pub comment_ends : (line column b : ℕ) (rest : List ℕ) → starts_comment (b ∷ rest) ≡ true → from_here line column (b ∷ rest) ≡ []
unfolding tokens_from
comment_ends line column b rest e = ap (λ t. step (tokens_from (length rest)) t (starts_blank (b ∷ rest)) (valid (token_at (b ∷ rest))) line column (b ∷ rest) rest) e

pub blank_goes_on : (line column b : ℕ) (rest : List ℕ) → starts_comment (b ∷ rest) ≡ false → starts_blank (b ∷ rest) ≡ true → from_here line column (b ∷ rest) ≡ from_here line (column + 1) rest
unfolding tokens_from
blank_goes_on line column b rest c e =
    ap (λ t. step (tokens_from (length rest)) t (starts_blank (b ∷ rest)) (valid (token_at (b ∷ rest))) line column (b ∷ rest) rest) c
    ∙ ap (λ t. step (tokens_from (length rest)) false t (valid (token_at (b ∷ rest))) line column (b ∷ rest) rest) e

-- what a line gives at a byte that begins no comment and is no blank
opened : (line column b : ℕ) (rest : List ℕ) → starts_comment (b ∷ rest) ≡ false → starts_blank (b ∷ rest) ≡ false
    → from_here line column (b ∷ rest) ≡ step (tokens_from (length rest)) false false (valid (token_at (b ∷ rest))) line column (b ∷ rest) rest
unfolding tokens_from
opened line column b rest c e =
    ap (λ t. step (tokens_from (length rest)) t (starts_blank (b ∷ rest)) (valid (token_at (b ∷ rest))) line column (b ∷ rest) rest) c
    ∙ ap (λ t. step (tokens_from (length rest)) false t (valid (token_at (b ∷ rest))) line column (b ∷ rest) rest) e

pub bad_ends : (line column b : ℕ) (rest : List ℕ) → starts_comment (b ∷ rest) ≡ false → starts_blank (b ∷ rest) ≡ false → valid (token_at (b ∷ rest)) ≡ None → from_here line column (b ∷ rest) ≡ bad line column
bad_ends line column b rest c e v = opened line column b rest c e ∙ ap (λ f. step (tokens_from (length rest)) false false f line column (b ∷ rest) rest) v

pub token_goes_on : (line column b : ℕ) (rest : List ℕ) (kind : TokenKind) (width : ℕ) → starts_comment (b ∷ rest) ≡ false → starts_blank (b ∷ rest) ≡ false → valid (token_at (b ∷ rest)) ≡ Some (kind, width)
    → from_here line column (b ∷ rest) ≡ token line column width kind ∷ from_here line (column + width) (drop width (b ∷ rest))
token_goes_on line column b rest kind width c e v =
    opened line column b rest c e ∙ ap (λ f. step (tokens_from (length rest)) false false f line column (b ∷ rest) rest) v
    ∙ ap (λ ts. token line column width kind ∷ ts) (enough (length rest) (length (drop width (b ∷ rest))) line (column + width) (drop width (b ∷ rest)) (shorter b rest (kind, width) (length rest) (omega arith) v) (omega arith))

-- ---- the lines of a text

pub next_line : (line : ℕ) (bytes : List ℕ) (lines : List (List ℕ)) → line_tokens line bytes ++ tokens_of_lines (line + 1) lines ≡ tokens_of_lines line (bytes ∷ lines)
unfolding tokens_of_lines
next_line line bytes lines = refl

some_line : (b : ℕ) (rest : List ℕ) → (length (b ∷ rest) == 0) ≡ true → ⊥
some_line b rest e = grind (arith, nat_tests)

-- no line is left
pub no_line_is_left : (tokens whole : List Token) (line : ℕ) (rest : List ℕ) → (length rest == 0) ≡ true → tokens ++ tokens_of_lines line (lines_of rest) ≡ whole → tokens ≡ whole
unfolding tokens_of_lines
no_line_is_left tokens whole line [] e h = sym (append-nil tokens) ∙ h
no_line_is_left tokens whole line (b ∷ rest) e h = absurd (some_line b rest e)

-- ---- the same of bytes of which there are some

some_byte : (b : ℕ) (rest : List ℕ) → (length (b ∷ rest) == 0) ≡ true → ⊥
some_byte b rest e = grind (arith, nat_tests)

pub comment_is_end : (line column : ℕ) (bytes : List ℕ) → (length bytes == 0) ≡ false → starts_comment bytes ≡ true → from_here line column bytes ≡ []
comment_is_end line column [] some c = cc
comment_is_end line column (b ∷ rest) some c = comment_ends line column b rest c

pub blank_is_passed : (line column : ℕ) (bytes : List ℕ) → (length bytes == 0) ≡ false → starts_comment bytes ≡ false → starts_blank bytes ≡ true → from_here line column bytes ≡ from_here line (column + 1) (drop 1 bytes)
blank_is_passed line column [] some c e = cc
blank_is_passed line column (b ∷ rest) some c e = blank_goes_on line column b rest c e

pub bad_is_end : (line column : ℕ) (bytes : List ℕ) → (length bytes == 0) ≡ false → starts_comment bytes ≡ false → starts_blank bytes ≡ false → valid (token_at bytes) ≡ None → from_here line column bytes ≡ bad line column
bad_is_end line column [] some c e v = cc
bad_is_end line column (b ∷ rest) some c e v = bad_ends line column b rest c e v

pub token_is_passed : (line column : ℕ) (bytes : List ℕ) (kind : TokenKind) (width : ℕ) → (length bytes == 0) ≡ false → starts_comment bytes ≡ false → starts_blank bytes ≡ false → valid (token_at bytes) ≡ Some (kind, width)
    → from_here line column bytes ≡ token line column width kind ∷ from_here line (column + width) (drop width bytes)
token_is_passed line column [] kind width some c e v = cc
token_is_passed line column (b ∷ rest) kind width some c e v = token_goes_on line column b rest kind width c e v

pub nothing_is_left : (line column : ℕ) (bytes : List ℕ) → (length bytes == 0) ≡ true → from_here line column bytes ≡ []
unfolding tokens_from
nothing_is_left line column [] e = refl
nothing_is_left line column (b ∷ rest) e = absurd (some_byte b rest e)
