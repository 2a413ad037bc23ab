-- The tokens of an assembly text ('profile').
use Rattle.std.specs.Prelude.{ℕ, zero, suc, ◌+◌, ◌≤◌, Bool, false, ◌==◌, ◌&&◌, ◌||◌, if◌then◌else◌}
use Rattle.std.specs.Prelude.{List, [], ◌∷◌, ◌++◌, length, drop, Some, None, All, sum_by}
use Rattle.std.specs.Option.{option_map_or}
use Rattle.xt_lex.specs.Fronts.{Front, token_at}
use Rattle.xt_lex.specs.declared.token.Token.{Token}
use Rattle.xt_lex.specs.declared.token.TokenKind.{TokenKind}
use Rattle.xt_lex.specs.declared.token.TokenKind.TheVariants.{Str, Bad}

-- ---- lines

abbrev pub with_first : ℕ → List (List ℕ) → List (List ℕ)
with_first b [] = (b ∷ []) ∷ []
with_first b (line ∷ lines) = (b ∷ line) ∷ lines

-- the lines of a text: a line is its bytes with the 0A that ends it, and the last one may have none
abbrev pub lines_of : List ℕ → List (List ℕ)
lines_of [] = []
lines_of (b ∷ rest) = if b == 10 then (10 ∷ []) ∷ lines_of rest else with_first b (lines_of rest)

-- ---- the tokens of a line

-- a space, a tab, the 0A that ends the line, or a 0D before it
unfoldable pub starts_blank : List ℕ → Bool
starts_blank [] = false
starts_blank (b ∷ []) = b == 32 || b == 9 || b == 10
starts_blank (b ∷ c ∷ _) = b == 32 || b == 9 || b == 10 || (b == 13 && c == 10)

-- `#` or `//`
unfoldable pub starts_comment : List ℕ → Bool
starts_comment [] = false
starts_comment (b ∷ []) = b == 35
starts_comment (b ∷ c ∷ _) = b == 35 || (b == 47 && c == 47)

abbrev pub token : ℕ → ℕ → ℕ → TokenKind → Token
token line column width kind = record { line = line; column = column; width = width; what = kind }

-- no token: it ends the tokens of its line
abbrev pub bad : ℕ → ℕ → List Token
bad line column = token line column 0 Bad ∷ []

-- a number that is too large is no token
abbrev pub valid : Front → Front
valid None = None
valid (Some (Bad, width)) = None
valid (Some (kind, width)) = Some (kind, width)

-- The tokens of the bytes from a column on, of at most n steps. A step goes over one blank, or over
-- the longest token. A comment ends the line, and so does a byte at which no token stands.
unfoldable pub tokens_from : ℕ → ℕ → ℕ → List ℕ → List Token
tokens_from zero line column bytes = []
tokens_from (suc n) line column [] = []
tokens_from (suc n) line column (b ∷ rest) =
    if starts_comment (b ∷ rest) then [] else
    if starts_blank (b ∷ rest) then tokens_from n line (column + 1) rest else
    option_map_or
    (λ x. token line column x.1 x.0 ∷ tokens_from n line (column + x.1) (drop x.1 (b ∷ rest)))
    (valid (token_at (b ∷ rest))) (bad line column)

-- the tokens of a line: each step takes a byte, so there are no more steps than bytes
abbrev pub line_tokens : ℕ → List ℕ → List Token
line_tokens line bytes = tokens_from (length bytes) line 1 bytes

-- ---- the tokens of a text

-- the tokens of these lines, numbered from here on
unfoldable pub tokens_of_lines : ℕ → List (List ℕ) → List Token
tokens_of_lines line [] = []
tokens_of_lines line (bytes ∷ lines) = line_tokens line bytes ++ tokens_of_lines (line + 1) lines

-- the tokens of every line of a text
unfoldable pub tokens_of : List ℕ → List Token
tokens_of text = tokens_of_lines 1 (lines_of text)

-- ---- what holds of the tokens of a text of at most 1,048,576 bytes

-- a token counts for one, and a string for its bytes besides
abbrev pub kind_weight : TokenKind → ℕ
kind_weight (Str bytes) = 1 + length bytes
kind_weight _ = 1

abbrev pub weight : Token → ℕ
weight t = kind_weight t.what

-- the number of a line is never below that of the token before
abbrev pub AreInOrder : ℕ → List Token → Type 0
AreInOrder line [] = Unit {0}
AreInOrder line (t ∷ ts) = (line ≤ t.line) × AreInOrder t.line ts

pub record IsLexed (tokens : List Token) : Type 0 where
  -- a token lies on a line of the text
  pub placed : All (λ (t : Token). t.column + t.width ≤ 1048577) tokens
  -- the tokens and the bytes of the strings are no more than the bytes of the text
  pub few : sum_by weight tokens ≤ 1048576
  -- the lines are in order, from 1 on
  pub in_order : AreInOrder 1 tokens
