-- Four hexadecimal digits, two at a time.
use Rattle.std.proofs.Common.{◌≡◌, ℕ, ◌/◌, ◌%◌, List, ◌++◌, refl, ap, ◌∙◌, arith}
use mathlib.Core.List.{append_assoc}
use Rattle.xt_word.specs.Hexadecimal.{hex2}
use Rattle.xt_events.specs.Lines.{hex4}

halves : (n : ℕ) → hex2 (n / 256) ++ hex2 (n % 256) ≡ hex4 n
unfolding hex2 hex4
halves n =
    let a : n / 256 / 16 % 16 ≡ n / 16 / 16 / 16 % 16 = omega arith in
    let b : n / 256 % 16 ≡ n / 16 / 16 % 16 = omega arith in
    let c : n % 256 / 16 % 16 ≡ n / 16 % 16 = omega arith in
    let d : n % 256 % 16 ≡ n % 16 = omega arith in
    rw (a, b, c, d) refl

pub two_halves : (text : List ℕ) (n : ℕ) → (text ++ hex2 (n / 256)) ++ hex2 (n % 256) ≡ text ++ hex4 n
two_halves text n = append_assoc text (hex2 (n / 256)) (hex2 (n % 256)) ∙ ap (λ digits. text ++ digits) (halves n)
