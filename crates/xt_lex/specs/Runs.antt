-- The bytes of which a run in an assembly text is made ('profile').
use Rattle.std.specs.Prelude.{ℕ, Bool, ◌==◌, not}
use Rattle.std.specs.Char.{is_ascii_digit, is_ascii_hexdigit}
use Rattle.xt_lex.specs.TextBytes.{is_word_byte}
use Rattle.xt_lex.specs.declared.bytes.ByteRun.{ByteRun}
use Rattle.xt_lex.specs.declared.bytes.ByteRun.TheVariants.{Word, Decimal, Hexadecimal, Line}

abbrev pub is_of : ByteRun → ℕ → Bool
is_of Word = is_word_byte
is_of Decimal = is_ascii_digit
is_of Hexadecimal = is_ascii_hexdigit
is_of Line = λ b. not (b == 10)
