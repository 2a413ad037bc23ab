-- What is printed of bytes and words of memory ('profile').
--
-- Note: `words` shows a word by its four bytes, so one at the edge of a region has `--` for those
-- that are not there.
use Rattle.std.specs.Prelude.{ℕ, zero, suc, ◌+◌, ◌%◌, ◌^◌, Option, Some, None, List, [], ◌++◌, codes}
use Rattle.xt_word.specs.Hexadecimal.{hex2, hex8}

-- ---- `mem ADDR N`

-- two hexadecimal digits, or `--` where there is no byte
abbrev pub digits : Option ℕ → List ℕ
digits None = codes "--"
digits (Some byte) = hex2 byte

abbrev pub byte_text : Option ℕ → List ℕ
byte_text byte = codes " " ++ digits byte

-- so many bytes from an address on; after the last address comes the first
abbrev pub bytes_text : (ℕ → Option ℕ) → ℕ → ℕ → List ℕ
bytes_text byte addr zero = []
bytes_text byte addr (suc n) = byte_text (byte addr) ++ bytes_text byte ((addr + 1) % 2 ^ 32) n

unfoldable pub mem_text : (ℕ → Option ℕ) → ℕ → ℕ → List ℕ
mem_text byte addr n = codes "mem " ++ hex8 addr ++ bytes_text byte addr n ++ codes "\n"

-- ---- `words ADDR N`

-- the word at an address, whose lowest byte is the first
unfoldable pub word_text : (ℕ → Option ℕ) → ℕ → List ℕ
word_text byte addr =
    codes " " ++ digits (byte ((addr + 3) % 2 ^ 32)) ++ digits (byte ((addr + 2) % 2 ^ 32))
    ++ digits (byte ((addr + 1) % 2 ^ 32)) ++ digits (byte addr)

-- so many words
abbrev pub words_from : (ℕ → Option ℕ) → ℕ → ℕ → List ℕ
words_from byte addr zero = []
words_from byte addr (suc n) = word_text byte addr ++ words_from byte ((addr + 4) % 2 ^ 32) n

unfoldable pub words_text : (ℕ → Option ℕ) → ℕ → ℕ → List ℕ
words_text byte addr n = codes "words " ++ hex8 addr ++ words_from byte addr n ++ codes "\n"
