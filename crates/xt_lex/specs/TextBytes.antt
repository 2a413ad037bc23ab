-- The bytes of an assembly text ('profile'), and the numbers and strings that they stand for.
use Rattle.std.specs.Prelude.{ℕ, ◌+◌, ◌-◌, ◌*◌, Bool, ◌==◌, ◌&&◌, ◌||◌, not, nat_le, if◌then◌else◌}
use Rattle.std.specs.Prelude.{List, fold, Option, Some, None}
use Rattle.std.specs.Char.{is_ascii_digit, is_ascii_alphabetic}

-- a word begins with a letter, `_`, `.` or `$`
abbrev pub is_word_start : ℕ → Bool
is_word_start b = is_ascii_alphabetic b || b == 95 || b == 46 || b == 36

-- and goes on with these and digits
abbrev pub is_word_byte : ℕ → Bool
is_word_byte b = is_word_start b || is_ascii_digit b

-- printable ASCII, 20 to 7E
abbrev pub is_printable : ℕ → Bool
is_printable b = nat_le 32 b && nat_le b 126

-- printable ASCII that stands for itself between these quotes: neither the quote nor a backslash
abbrev pub is_plain : ℕ → ℕ → Bool
is_plain quote b = is_printable b && not (b == quote) && not (b == 92)

-- what stands after a backslash in a string, and the byte that the two stand for
unfoldable pub escaped_byte : ℕ → Option ℕ
escaped_byte c =
    if c == 110 then Some 10 else
    if c == 116 then Some 9 else
    if c == 48 then Some 0 else
    if c == 92 then Some 92 else
    if c == 34 then Some 34 else None

-- the value of a digit, `0` to `9`, `A` to `F` or `a` to `f`
unfoldable pub digit_of : ℕ → ℕ
digit_of b = if nat_le b 57 then b - 48 else if nat_le b 70 then b - 55 else b - 87

-- the number of these digits in this base
abbrev pub number_of : ℕ → List ℕ → ℕ
number_of base digits = fold (λ n b. n * base + digit_of b) 0 digits
