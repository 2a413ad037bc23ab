-- Hexadecimal numbers in upper case, with leading zeros ('profile').
--
-- Profile: bytes, words and addresses are printed in upper case with all leading zeros.
use Rattle.std.specs.Prelude.{ℕ, zero, suc, ◌/◌, ◌%◌, true, List, [], ◌∷◌, ◌++◌}
use Rattle.std.specs.Fmt.{digit_glyph}

-- the k lowest digits of a number, the highest first
abbrev pub hex_digits : ℕ → ℕ → List ℕ
hex_digits zero n = []
hex_digits (suc k) n = hex_digits k (n / 16) ++ digit_glyph true (n % 16) ∷ []

-- a byte
unfoldable pub hex2 : ℕ → List ℕ
hex2 n = hex_digits 2 n

-- an address or a word
unfoldable pub hex8 : ℕ → List ℕ
hex8 n = hex_digits 8 n
