-- The bytes and words of a line, one after another.
use Rattle.std.proofs.Common.{◌≡◌, ℕ, suc, ◌+◌, ◌%◌, ◌^◌, Option, ◌++◌, ap}
use Rattle.xt_replay.specs.Printed.{byte_text, bytes_text, word_text, words_from}

pub one_byte : (byte : ℕ → Option ℕ) (addr n m : ℕ) → n ≡ suc m → bytes_text byte addr n ≡ byte_text (byte addr) ++ bytes_text byte ((addr + 1) % 2 ^ 32) m
one_byte byte addr n m e = ap (bytes_text byte addr) e

pub one_word : (byte : ℕ → Option ℕ) (addr n m : ℕ) → n ≡ suc m → words_from byte addr n ≡ word_text byte addr ++ words_from byte ((addr + 4) % 2 ^ 32) m
one_word byte addr n m e = ap (words_from byte addr) e
