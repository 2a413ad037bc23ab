-- The numbers that words write ('profile'). A word is the list of its bytes.
--
-- Profile: a number has at most eight hexadecimal digits and is below 2^32, so that it is read in
-- one way. Leading zeros are allowed.
use Rattle.std.specs.Prelude.{ℕ, ◌+◌, ◌-◌, ◌*◌, ◌^◌, Bool, ◌&&◌, nat_lt, nat_le, nat_eq}
use Rattle.std.specs.Prelude.{if◌then◌else◌, Option, Some, None, List, length, drop, fold, codes}
use Rattle.std.specs.List.{list_all, starts_with}
use Rattle.std.specs.Char.{is_ascii_digit, is_ascii_hexdigit}
use Rattle.std.specs.Str.Parse.{digits_value}

-- ---- decimal digits

-- the number that decimal digits write, the highest digit first; the digit `0` is the byte 48
abbrev pub decimal_value : List ℕ → ℕ
decimal_value digits = fold (λ value digit. 10 * value + (digit - 48)) 0 digits

-- one decimal digit or more, and nothing else
abbrev pub is_number : List ℕ → Bool
is_number word = nat_lt 0 (length word) && list_all is_ascii_digit word

-- the number that a word writes, where it is a number of at most `most`
abbrev pub number_up_to : ℕ → List ℕ → Option ℕ
number_up_to most word =
    if is_number word && nat_le (decimal_value word) most then Some (decimal_value word) else None

-- ---- decimal and hexadecimal

-- one to eight hexadecimal digits of either case, and nothing else
abbrev pub is_hexadecimal : List ℕ → Bool
is_hexadecimal word =
    (nat_lt 0 (length word) && nat_le (length word) 8) && list_all is_ascii_hexdigit word

-- the number that hexadecimal digits write, which is below 2 ^ 32
abbrev pub hexadecimal_of : List ℕ → Option ℕ
hexadecimal_of word =
    if is_hexadecimal word && nat_lt (digits_value 16 word) (2 ^ 32)
    then Some (digits_value 16 word) else None

-- the number that a text says, below 2 ^ 32: `0x` and hexadecimal digits, or decimal digits
unfoldable pub number_of : List ℕ → Option ℕ
number_of text =
    if starts_with nat_eq text (codes "0x")
    then hexadecimal_of (drop 2 text) else number_up_to (2 ^ 32 - 1) text
