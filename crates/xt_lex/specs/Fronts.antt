-- The token that stands at the front of some bytes ('profile'): each form of token by itself, and
-- then the longest of them.
use Rattle.std.specs.Prelude.{ℕ, ◌+◌, ◌^◌, Bool, false, ◌==◌, ◌&&◌, nat_lt, if◌then◌else◌, List, []}
use Rattle.std.specs.Prelude.{◌∷◌, Option, Some, None}
use Rattle.std.specs.List.{prefix_len, take_while}
use Rattle.std.specs.Char.{is_ascii_digit, is_ascii_hexdigit}
use Rattle.std.specs.Option.{option_map}
use Rattle.xt_lex.specs.TextBytes.{is_word_start, is_word_byte, is_plain, escaped_byte, number_of}
use Rattle.xt_lex.specs.declared.token.TokenKind.{TokenKind}
use Rattle.xt_lex.specs.declared.token.TokenKind.TheVariants.{Word, Number, Character, Str, Comma}
use Rattle.xt_lex.specs.declared.token.TokenKind.TheVariants.{Colon, Equals, Plus, Minus, Bad}

-- a token, and how many bytes it takes
abbrev pub Front : Type 0
Front = Option (TokenKind × ℕ)

-- a word
unfoldable pub word_front : List ℕ → Front
word_front [] = None
word_front (b ∷ rest) =
    if is_word_start b
    then Some (Word (take_while is_word_byte (b ∷ rest)), prefix_len is_word_byte (b ∷ rest))
    else None

-- a number below 2^32; a larger one is no token
abbrev pub number_kind_of : Option ℕ → TokenKind
number_kind_of (Some n) = Number n
number_kind_of None = Bad

abbrev pub number_kind : ℕ → TokenKind
number_kind n = number_kind_of (if nat_lt n (2 ^ 32) then Some n else None)

-- decimal digits
unfoldable pub decimal_front : List ℕ → Front
decimal_front bytes = if prefix_len is_ascii_digit bytes == 0 then None
    else Some
    (number_kind (number_of 10 (take_while is_ascii_digit bytes)), prefix_len is_ascii_digit bytes)

-- `0x` and hexadecimal digits
abbrev pub hex_digits_front : List ℕ → Front
hex_digits_front digits = if prefix_len is_ascii_hexdigit digits == 0 then None
    else Some (
      number_kind (number_of 16 (take_while is_ascii_hexdigit digits)),
      2 + prefix_len is_ascii_hexdigit digits,
    )

unfoldable pub hex_front : List ℕ → Front
hex_front (b ∷ x ∷ digits) = if b == 48 && x == 120 then hex_digits_front digits else None
hex_front _ = None

-- a character between single quotes
unfoldable pub character_front : List ℕ → Front
character_front (b ∷ c ∷ d ∷ _) =
    if b == 39 && d == 39 && is_plain 39 c then Some (Character c, 3) else None
character_front _ = None

-- The bytes that a string stands for, and how many bytes it takes after its first quote. One byte
-- stands for itself, and two, of which the first is a backslash, for one.
abbrev pub and_then : ℕ → ℕ → Option (List ℕ × ℕ) → Option (List ℕ × ℕ)
and_then byte width body = option_map (λ r. (byte ∷ r.0, width + r.1)) body

abbrev pub after_escape : Option ℕ → Option (List ℕ × ℕ) → Option (List ℕ × ℕ)
after_escape (Some byte) body = and_then byte 2 body
after_escape None body = None

abbrev pub begins_with_quote : List ℕ → Bool
begins_with_quote [] = false
begins_with_quote (b ∷ _) = b == 34

-- the byte at the front of a string's rest, and how many bytes spell it; none at the quote that
-- ends the string, and where no string goes on
unfoldable pub string_piece : List ℕ → Option (ℕ × ℕ)
string_piece (b ∷ c ∷ _) =
    if b == 34 then None else
    if b == 92 then option_map (λ byte. (byte, 2)) (escaped_byte c) else
    if is_plain 34 b then Some (b, 1) else None
string_piece _ = None

unfoldable pub string_body : List ℕ → Option (List ℕ × ℕ)
string_body [] = None
string_body (b ∷ []) = if b == 34 then Some ([], 1) else None
string_body (b ∷ c ∷ rest) =
    if b == 34 then Some ([], 1) else
    if b == 92 then after_escape (escaped_byte c) (string_body rest) else
    if is_plain 34 b then and_then b 1 (string_body (c ∷ rest)) else None

-- a string between double quotes
unfoldable pub string_front : List ℕ → Front
string_front [] = None
string_front (b ∷ rest) =
    if b == 34 then option_map (λ r. (Str r.0, 1 + r.1)) (string_body rest) else None

-- `,` `:` `=` `+` `-`
unfoldable pub mark_front : List ℕ → Front
mark_front [] = None
mark_front (b ∷ _) =
    if b == 44 then Some (Comma, 1) else
    if b == 58 then Some (Colon, 1) else
    if b == 61 then Some (Equals, 1) else
    if b == 43 then Some (Plus, 1) else
    if b == 45 then Some (Minus, 1) else None

-- the longer of two
abbrev pub longer : Front → Front → Front
longer None b = b
longer a None = a
longer (Some a) (Some b) = if nat_lt a.1 b.1 then Some b else Some a

-- the longest token at the front of the bytes
unfoldable pub token_at : List ℕ → Front
token_at bytes =
    longer (word_front bytes) (longer (decimal_front bytes)
    (longer (hex_front bytes)
    (longer (character_front bytes) (longer (string_front bytes) (mark_front bytes)))))
