-- What the operations give is a word, where they are given words.
use Rattle.std.proofs.Common.{eqb, ℕ, zero, suc, ◌+◌, ◌-◌, ◌*◌, ◌/◌, ◌%◌, ◌^◌, ◌<◌, ◌≤◌, ℤ, pos, negsuc, ◌*ℤ◌, Bool, true, false, cond, nat_lt, if◌then◌else◌, arith, w32, w64, FitsSigned, bit_and, bit_or, bit_xor, min, max}
use Rattle.std.specs.Int.{int_shr, saturate_to_bits}
use Rattle.std.specs.Int.RustNames.{unsigned_abs, int_div, int_rem}
use Rattle.std.proofs.lemmas.Int.{fits_signed_mul}
use Rattle.std.proofs.lemmas.Nat.{and_le_l, or_lt, xor_lt, leading_le, pow_pos}
use Rattle.std.proofs.Math.Nat.{pow-le-pow_right}
use native.Mathlib.Nat.{mod-le, div-le_self}
use lib.Signed.{mag, mag_rem, mag_shr}
use lib.IntN.{neg_ℤ}
use Rattle.xt_word.specs.Words.{sign_extended}
use Rattle.xt_word.specs.Signed.{signed, signed_half, word_of}
use Rattle.xt_word.specs.Arithmetic.{addx, subx, mul16u, mul16s, mull, muluh, mulsh, quou, quos, remu, rems, signed_min, signed_max, neg, abs, sext, clamps, nsa, nsau}
use Rattle.xt_word.specs.Shifts.{src, srl, sra, sll, slli, srai, srli, extui, ssr, ssl, ssa8l, ssa8b}
use Rattle.xt_word.specs.declared.booleans.BoolOp.{BoolOp}
use Rattle.xt_word.specs.Registers.{logic, group}
use Rattle.xt_word.proofs.BooleanBits.{written_small}
use Rattle.xt_special.specs.declared.ps.Ps.{Ps}
use Rattle.xt_special.specs.Access.{value_read}
use Rattle.xt_special.specs.Control.{bit_of, ps_of, ps_word}
use Rattle.xt_special.specs.Shape.{IsPs}
use Rattle.xt_map.specs.Code.{code_number}
use Rattle.xt_rows.specs.Numbers.{plus, minus, loaded_value, return_address}

-- ---- sums, products and quotients

pub addx_small : (s t k : ℕ) → addx s t k < 2 ^ 32
unfolding addx
addx_small s t k = omega arith

pub subx_small : (s t k : ℕ) → subx s t k < 2 ^ 32
unfolding subx
subx_small s t k = omega arith

product_below : (a b m n : ℕ) → a ≤ m → b ≤ n → a * b ≤ m * n
product_below a b m n p q = grind arith

pub mul16u_small : (s t : ℕ) → mul16u s t < 2 ^ 32
unfolding mul16u
mul16u_small s t =
    let h : (s % 2 ^ 16) * (t % 2 ^ 16) ≤ (2 ^ 16 - 1) * (2 ^ 16 - 1) = product_below (s % 2 ^ 16) (t % 2 ^ 16) (2 ^ 16 - 1) (2 ^ 16 - 1) (omega arith) (omega arith) in
    omega arith

pub mull_small : (s t : ℕ) → mull s t < 2 ^ 32
unfolding mull
mull_small s t = omega arith

pub muluh_small : (s t : ℕ) → s < 2 ^ 32 → t < 2 ^ 32 → muluh s t < 2 ^ 32
unfolding muluh
muluh_small s t p q =
    let h : s * t ≤ (2 ^ 32 - 1) * (2 ^ 32 - 1) = product_below s t (2 ^ 32 - 1) (2 ^ 32 - 1) (omega arith) (omega arith) in
    omega arith

pub quou_small : (s t : ℕ) → s < 2 ^ 32 → quou s t < 2 ^ 32
unfolding quou
quou_small s t p = omega (arith, div-le_self s t)

pub remu_small : (s t : ℕ) → s < 2 ^ 32 → remu s t < 2 ^ 32
unfolding remu
remu_small s t p = omega (arith, mod-le s t)

-- ---- signed numbers

-- the word of a number that is not too far from 0
word_small : (z : ℤ) → mag z < 2 ^ 32 → word_of z < 2 ^ 32
word_small (pos n) h = h
word_small (negsuc n) h = omega arith

signed_fits : (s : ℕ) → s < 2 ^ 32 → mag (signed s) < 2 ^ 31
signed_fits s h = grind arith

half_fits : (s : ℕ) → unsigned_abs (signed_half s) ≤ 2 ^ 15
half_fits s = grind arith

pub mul16s_small : (s t : ℕ) → mul16s s t < 2 ^ 32
unfolding mul16s
mul16s_small s t =
    let f : FitsSigned w32 (signed_half s *ℤ signed_half t) = fits_signed_mul w32 (signed_half s) (signed_half t) (2 ^ 15) (2 ^ 15) (half_fits s) (half_fits t) (omega arith) in
    word_small (signed_half s *ℤ signed_half t) (let h = f.sfits in omega arith)

mag_product : (x y : ℤ) → mag x < 2 ^ 31 → mag y < 2 ^ 31 → mag (x *ℤ y) < 2 ^ 63
mag_product x y p q = mag_le (x *ℤ y) (fits_signed_mul w64 x y (2 ^ 31) (2 ^ 31) (abs_le x p) (abs_le y q) (omega arith))
  where
    abs_le : (z : ℤ) → mag z < 2 ^ 31 → unsigned_abs z ≤ 2 ^ 31
    abs_le (pos n) h = omega arith
    abs_le (negsuc n) h = omega arith

    mag_le : (z : ℤ) → FitsSigned w64 z → mag z < 2 ^ 63
    mag_le z f = let h = f.sfits in omega arith

shifted_fits : (z : ℤ) → mag z < 2 ^ 63 → mag (int_shr z 32) < 2 ^ 32
shifted_fits (pos n) h = omega arith
shifted_fits (negsuc n) h = omega arith

mag_quotient : (a b : ℤ) → mag (int_div a b) ≤ mag a + 1
mag_quotient (pos a) (pos b) = omega (arith, div-le_self a b)
mag_quotient (pos a) (negsuc b) = omega (arith, div-le_self a (suc b), mag_neg (a / suc b))
  where
    mag_neg : (n : ℕ) → mag (neg_ℤ (pos n)) ≤ n
    mag_neg zero = omega arith
    mag_neg (suc n) = omega arith
mag_quotient (negsuc a) (pos b) = omega (arith, div-le_self (suc a) b, mag_neg (suc a / b))
  where
    mag_neg : (n : ℕ) → mag (neg_ℤ (pos n)) ≤ n
    mag_neg zero = omega arith
    mag_neg (suc n) = omega arith
mag_quotient (negsuc a) (negsuc b) = omega (arith, div-le_self (suc a) (suc b))

pub quos_small : (s t : ℕ) → s < 2 ^ 32 → quos s t < 2 ^ 32
unfolding quos
quos_small s t h = word_small (int_div (signed s) (signed t)) (omega (arith, mag_quotient (signed s) (signed t), signed_fits s h))

pub rems_small : (s t : ℕ) → s < 2 ^ 32 → rems s t < 2 ^ 32
unfolding rems
rems_small s t h = word_small (int_rem (signed s) (signed t)) (omega (arith, mag_rem (signed s) (signed t), signed_fits s h))

either_small : (b : Bool) (s t : ℕ) → s < 2 ^ 32 → t < 2 ^ 32 → cond b s t < 2 ^ 32
either_small true s t p q = p
either_small false s t p q = q

pub signed_min_small : (s t : ℕ) → s < 2 ^ 32 → t < 2 ^ 32 → signed_min s t < 2 ^ 32
unfolding signed_min
signed_min_small s t p q = either_small _ s t p q

pub signed_max_small : (s t : ℕ) → s < 2 ^ 32 → t < 2 ^ 32 → signed_max s t < 2 ^ 32
unfolding signed_max
signed_max_small s t p q = either_small _ t s q p

pub min_small : (s t : ℕ) → s < 2 ^ 32 → t < 2 ^ 32 → min s t < 2 ^ 32
min_small s t p q = omega arith

pub max_small : (s t : ℕ) → s < 2 ^ 32 → t < 2 ^ 32 → max s t < 2 ^ 32
max_small s t p q = omega arith

-- ---- bits

pub and_small : (s t : ℕ) → s < 2 ^ 32 → bit_and s t < 2 ^ 32
and_small s t h = omega (arith, and_le_l s t)

pub or_small : (s t : ℕ) → s < 2 ^ 32 → t < 2 ^ 32 → bit_or s t < 2 ^ 32
or_small s t p q = or_lt 32 s t p q

pub xor_small : (s t : ℕ) → s < 2 ^ 32 → t < 2 ^ 32 → bit_xor s t < 2 ^ 32
xor_small s t p q = xor_lt 32 s t p q

-- ---- one word

pub neg_small : (t : ℕ) → neg t < 2 ^ 32
unfolding neg
neg_small t = omega arith

pub abs_small : (t : ℕ) → t < 2 ^ 32 → abs t < 2 ^ 32
unfolding abs
abs_small t h = grind arith

pub sign_extended_small : (v bits : ℕ) → bits ≤ 32 → sign_extended v bits < 2 ^ 32
sign_extended_small v bits h =
    let p : 2 ^ bits ≤ 2 ^ 32 = pow-le-pow_right (omega arith) h in
    let q : 0 < 2 ^ bits = pow_pos bits in
    let r : v % 2 ^ bits < 2 ^ bits = omega arith in
    either_small (nat_lt (v % 2 ^ bits) (2 ^ (bits - 1))) (v % 2 ^ bits) (v % 2 ^ bits + (2 ^ 32 - 2 ^ bits)) (omega arith) (omega arith)

pub sext_small : (s b : ℕ) → b ≤ 22 → sext s b < 2 ^ 32
unfolding sext
sext_small s b h = sign_extended_small s (b + 1) (omega arith)

saturated : (b : ℕ) (z : ℤ) → mag (saturate_to_bits b z) ≤ mag z
saturated b (pos n) = omega arith
saturated b (negsuc n) = omega arith

pub clamps_small : (s b : ℕ) → s < 2 ^ 32 → clamps s b < 2 ^ 32
unfolding clamps
clamps_small s b h = word_small (saturate_to_bits b (signed s)) (omega (arith, saturated b (signed s), signed_fits s h))

pub nsau_small : (s : ℕ) → nsau s < 2 ^ 32
unfolding nsau
nsau_small s = omega (arith, leading_le 32 s)

pub nsa_small : (s : ℕ) → nsa s < 2 ^ 32
unfolding nsa
nsa_small s = let h = leading_le 32 (if nat_lt s (2 ^ 31) then s else 2 ^ 32 - 1 - s) in omega arith

-- ---- shifts

pub src_small : (s t sar : ℕ) → src s t sar < 2 ^ 32
unfolding src
src_small s t sar = omega arith

pub srl_small : (t sar : ℕ) → srl t sar < 2 ^ 32
unfolding srl
srl_small t sar = omega arith

pub sll_small : (s sar : ℕ) → sll s sar < 2 ^ 32
unfolding sll
sll_small s sar = omega arith

pub sra_small : (t sar : ℕ) → t < 2 ^ 32 → sra t sar < 2 ^ 32
unfolding sra
sra_small t sar h = word_small (int_shr (signed t) sar) (omega (arith, mag_shr (signed t) (2 ^ sar), signed_fits t h))

pub slli_small : (s n : ℕ) → slli s n < 2 ^ 32
unfolding slli
slli_small s n = omega arith

pub srai_small : (t n : ℕ) → t < 2 ^ 32 → srai t n < 2 ^ 32
unfolding srai
srai_small t n h = word_small (int_shr (signed t) n) (omega (arith, mag_shr (signed t) (2 ^ n), signed_fits t h))

pub srli_small : (t n : ℕ) → t < 2 ^ 32 → srli t n < 2 ^ 32
unfolding srli
srli_small t n h = omega (arith, div-le_self t (2 ^ n))

pub extui_small : (t n w : ℕ) → t < 2 ^ 32 → extui t n w < 2 ^ 32
unfolding extui
extui_small t n w h = omega (arith, div-le_self t (2 ^ n), mod-le (t / 2 ^ n) (2 ^ w))

pub mulsh_small : (s t : ℕ) → s < 2 ^ 32 → t < 2 ^ 32 → mulsh s t < 2 ^ 32
unfolding mulsh
mulsh_small s t p q = word_small (int_shr (signed s *ℤ signed t) 32) (shifted_fits (signed s *ℤ signed t) (omega (arith, mag_product (signed s) (signed t) (signed_fits s p) (signed_fits t q))))

pub ssr_small : (s : ℕ) → ssr s < 2 ^ 6
unfolding ssr
ssr_small s = omega arith

pub ssl_small : (s : ℕ) → ssl s < 2 ^ 6
unfolding ssl
ssl_small s = omega arith

pub ssa8l_small : (s : ℕ) → ssa8l s < 2 ^ 6
unfolding ssa8l
ssa8l_small s = omega arith

pub ssa8b_small : (s : ℕ) → ssa8b s < 2 ^ 6
unfolding ssa8b
ssa8b_small s = omega arith

-- ---- Boolean registers

pub logic_small : (name : BoolOp) (b r s t : ℕ) → b < 2 ^ 16 → r < 16 → logic name b r s t < 2 ^ 16
unfolding logic
logic_small name b r s t p q = written_small b r _ p q

pub group_small : (all : Bool) (width b t s : ℕ) → b < 2 ^ 16 → t < 16 → group all width b t s < 2 ^ 16
unfolding group
group_small all width b t s p q = written_small b t _ p q

-- ---- numbers and addresses

pub plus_small : (x : ℕ) (n : ℤ) → plus x n < 2 ^ 32
unfolding plus
plus_small x (pos n) = omega arith
plus_small x (negsuc n) = omega arith

pub minus_small : (x n : ℕ) → minus x n < 2 ^ 32
unfolding minus
minus_small x n = omega arith

pub linked_small : (size pc : ℕ) → size < 4 → return_address size pc < 2 ^ 32
linked_small size pc h = omega arith

pub extended_small : (signed : Bool) (n : ℕ) → n < 2 ^ 32 → loaded_value signed n < 2 ^ 32
unfolding loaded_value
extended_small true n h = sign_extended_small n 16 (omega arith)
extended_small false n h = h

-- ---- numbers of bytes

byte_number : (code : ℕ → ℕ) → ((a : ℕ) → code a < 2 ^ 8) → (a : ℕ) → code_number code a 1 < 2 ^ 32
byte_number code bytes a = let b = bytes a in omega arith

half_number : (code : ℕ → ℕ) → ((a : ℕ) → code a < 2 ^ 8) → (a : ℕ) → code_number code a 2 < 2 ^ 32
half_number code bytes a = let b0 = bytes a in let b1 = bytes (a + 1) in omega arith

word_number : (code : ℕ → ℕ) → ((a : ℕ) → code a < 2 ^ 8) → (a : ℕ) → code_number code a 4 < 2 ^ 32
word_number code bytes a =
    let b0 = bytes a in
    let b1 = bytes (a + 1) in
    let b2 = bytes (a + 1 + 1) in
    let b3 = bytes (a + 1 + 1 + 1) in
    omega arith

pub data IsSize : ℕ → Type 0 where
  One : IsSize 1
  Two : IsSize 2
  Four : IsSize 4

pub code_number_small : (code : ℕ → ℕ) → ((a : ℕ) → code a < 2 ^ 8) → (a size : ℕ) → IsSize size → code_number code a size < 2 ^ 32
code_number_small code bytes a size One = byte_number code bytes a
code_number_small code bytes a size Two = half_number code bytes a
code_number_small code bytes a size Four = word_number code bytes a

-- ---- PS, and what is read of a special register

bit_small : (b : Bool) → bit_of b ≤ 1
bit_small true = omega arith
bit_small false = omega arith

pub ps_word_small : (ps : Ps) → IsPs ps → ps_word ps < 2 ^ 32
unfolding ps_word
ps_word_small ps f = omega (arith, bit_small ps.excm, bit_small ps.um, bit_small ps.woe, f.intlevel_fits, f.ring_fits, f.owb_fits, f.callinc_fits)

pub ps_of_proper : (w : ℕ) → IsPs (ps_of w)
unfolding ps_of
ps_of_proper w = record { intlevel_fits = omega arith; ring_fits = omega arith; owb_fits = omega arith; callinc_fits = omega arith }

pub value_read_small : (n u : ℕ) (ps : Ps) → u < 2 ^ 32 → IsPs ps → value_read n u ps < 2 ^ 32
value_read_small n u ps p f = by_test (eqb n 230)
  where
    by_test : (b : Bool) → cond b (ps_word ps) u < 2 ^ 32
    by_test true = ps_word_small ps f
    by_test false = p
