-- Digits of a number, each cut once more, joined again.
use Rattle.std.proofs.Common.{◌≡◌, ℕ, ◌+◌, ◌*◌, ◌/◌, ◌%◌, refl, ap, ◌∙◌, arith}

abbrev pub low8 : ℕ → ℕ
low8 n = n % 16 % 16 + 16 * (n / 16 % 16 % 16)

abbrev pub low12 : ℕ → ℕ
low12 n = n % 16 % 16 + 16 * (n / 16 % 16 % 16 + 16 * (n / 256 % 16 % 16))

abbrev pub low16 : ℕ → ℕ
low16 n = n % 16 % 16 + 16 * (n / 16 % 16 % 16 + 16 * (n / 256 % 16 % 16 + 16 * (n / 4096 % 16 % 16)))

abbrev pub low18 : ℕ → ℕ
low18 n = n % 4 + 4 * (n / 4 % 16 % 16 + 16 * (n / 64 % 16 % 16 + 16 * (n / 1024 % 16 % 16 + 16 * (n / 16384 % 16 % 16))))

twice : (n : ℕ) → n % 16 % 16 ≡ n % 16
twice n = omega arith

joined8 : (n : ℕ) → n % 16 + 16 * (n / 16 % 16) ≡ n % 256
joined8 n = omega arith

joined12 : (n : ℕ) → n % 16 + 16 * (n / 16 % 256) ≡ n % 4096
joined12 n = omega arith

joined16 : (n : ℕ) → n % 16 + 16 * (n / 16 % 4096) ≡ n % 65536
joined16 n = omega arith

joined18 : (n : ℕ) → n % 4 + 4 * (n / 4 % 65536) ≡ n % 262144
joined18 n = omega arith

by16 : (n : ℕ) → n / 256 ≡ n / 16 / 16
by16 n = omega arith

by256 : (n : ℕ) → n / 4096 ≡ n / 16 / 256
by256 n = omega arith

four16 : (n : ℕ) → n / 64 ≡ n / 4 / 16
four16 n = omega arith

four256 : (n : ℕ) → n / 1024 ≡ n / 4 / 256
four256 n = omega arith

four4096 : (n : ℕ) → n / 16384 ≡ n / 4 / 4096
four4096 n = omega arith

sum : {a b c d : ℕ} → a ≡ b → c ≡ d → a + 16 * c ≡ b + 16 * d
sum p q = cc

cut : {a b : ℕ} → a ≡ b → a % 16 % 16 ≡ b % 16 % 16
cut e = ap (λ k. k % 16 % 16) e

pub low8_is : (n : ℕ) → low8 n ≡ n % 256
low8_is n = sum (twice n) (twice (n / 16)) ∙ joined8 n

pub low12_is : (n : ℕ) → low12 n ≡ n % 4096
low12_is n = sum (twice n) (sum refl (cut (by16 n)) ∙ low8_is (n / 16)) ∙ joined12 n

pub low16_is : (n : ℕ) → low16 n ≡ n % 65536
low16_is n = sum (twice n) (sum refl (sum (cut (by16 n)) (cut (by256 n))) ∙ low12_is (n / 16)) ∙ joined16 n

pub low18_is : (n : ℕ) → low18 n ≡ n % 262144
low18_is n = ap (λ k. n % 4 + 4 * k) (sum refl (sum (cut (four16 n)) (sum (cut (four256 n)) (cut (four4096 n)))) ∙ low16_is (n / 4)) ∙ joined18 n

pub joined_loaded : (n : ℕ) → n % 256 + 256 * (n / 256 % 32 % 16) ≡ n % 4096
joined_loaded n = omega arith

pub joined7 : (n : ℕ) → n % 32 % 16 + 16 * (n / 16 % 8) ≡ n % 128
joined7 n = omega arith

pub joined6 : (n : ℕ) → n % 32 % 16 + 16 * (n / 16 % 4) ≡ n % 64
joined6 n = omega arith

pub digits : (n : ℕ) → n % 16 + 16 * (n / 16) ≡ n
digits n = omega arith
