-- A number only grows with its digits.
use Rattle.std.proofs.Common.{◌≤◌, ◌<◌, ◌+◌, ◌*◌, ℕ, List, [], ◌∷◌, fold, arith}
use Rattle.xt_lex.specs.TextBytes.{digit_of}

abbrev pub next_number : ℕ → ℕ → ℕ → ℕ
next_number base n b = n * base + digit_of b

one_step : (base n b : ℕ) → 0 < base → n ≤ next_number base n b
one_step base n b h = grind arith

pub number_grows : (base n : ℕ) (digits : List ℕ) → 0 < base → n ≤ fold (next_number base) n digits
number_grows base n [] h = omega arith
number_grows base n (b ∷ digits) h = omega (arith, one_step base n b h, number_grows base (next_number base n b) digits h)
