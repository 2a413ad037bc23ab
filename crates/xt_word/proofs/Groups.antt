-- Whether some and whether each of several registers are 1, by the number that they are.
use Rattle.std.proofs.Common.{◌≡◌, ℕ, zero, suc, ◌+◌, ◌-◌, ◌*◌, ◌/◌, ◌%◌, ◌^◌, ◌<◌, eqb, not, ap, ◌∙◌, arith}
use Rattle.std.specs.Prelude.{◌&&◌, ◌||◌}
use Rattle.std.specs.Int.{bit_at}
use Rattle.std.specs.List.{list_any, list_all, range_with_len}
use Rattle.std.proofs.Math.Nat.{pow-succ'}
use Rattle.std.proofs.lemmas.Nat.{shr-shr, mod-pow-add, mod_below, pow_pos}
use Rattle.std.proofs.lemmas.Nat.Bits.{bit_at-lt}
use Rattle.std.proofs.lemmas.Bool.Decides.{nat_tests}
use Rattle.xt_word.specs.Registers.{is_set}

-- so many registers from s on
abbrev part : ℕ → ℕ → ℕ → ℕ
part b s n = b / 2 ^ s % 2 ^ n

-- the first, and the others
first : (b s n : ℕ) → part b s (suc n) ≡ bit_at b s + 2 * part b (s + 1) n
first b s n =
    let one_more : suc n ≡ n + 1 = omega arith in
    ap (λ k. b / 2 ^ s % 2 ^ k) one_more ∙ mod-pow-add (b / 2 ^ s) n 1
    ∙ ap (λ m. (m % 2 ^ n) * 2 + b / 2 ^ s % 2) (shr-shr b s 1) ∙ omega arith

one_or_more : (x q : ℕ) → x < 2 → not (eqb (x + 2 * q) 0) ≡ (eqb x 1 || not (eqb q 0))
one_or_more x q small = grind (arith, nat_tests)

one_and_more : (x q m : ℕ) → x < 2 → q < m → eqb (x + 2 * q) (2 * m - 1) ≡ (eqb x 1 && eqb q (m - 1))
one_and_more x q m small below = grind (arith, nat_tests)

pub some_set : (b s n : ℕ) → not (eqb (part b s n) 0) ≡ list_any (is_set b) (range_with_len s n)
unfolding is_set
some_set b s zero = grind (arith, nat_tests)
some_set b s (suc n) =
    ap (λ k. not (eqb k 0)) (first b s n) ∙ one_or_more (bit_at b s) (part b (s + 1) n) (bit_at-lt b s)
    ∙ ap (λ r. eqb (bit_at b s) 1 || r) (some_set b (s + 1) n)

pub each_set : (b s n : ℕ) → eqb (part b s n) (2 ^ n - 1) ≡ list_all (is_set b) (range_with_len s n)
unfolding is_set
each_set b s zero = grind (arith, nat_tests)
each_set b s (suc n) =
    ap (λ k. eqb k (2 ^ suc n - 1)) (first b s n) ∙ ap (λ k. eqb (bit_at b s + 2 * part b (s + 1) n) (k - 1)) (pow-succ' 2 n)
    ∙ one_and_more (bit_at b s) (part b (s + 1) n) (2 ^ n) (bit_at-lt b s) (mod_below (b / 2 ^ (s + 1)) (2 ^ n) (pow_pos n))
    ∙ ap (λ r. eqb (bit_at b s) 1 && r) (each_set b (s + 1) n)
