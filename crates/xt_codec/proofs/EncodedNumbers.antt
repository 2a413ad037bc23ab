-- A number in its range is given back by the fields that it is cut into.
use Rattle.std.proofs.Common.{◌≡◌, ℕ, zero, suc, ◌+◌, ◌-◌, ◌*◌, ◌/◌, ◌%◌, ◌<◌, ◌≤◌, Bool, true, ◌&&◌, ◌||◌, ltb, leb, eqb, Some, refl, sym, ap, subst, ◌∙◌, arith, ℤ, pos, negsuc, ⊎_elim}
use Rattle.std.proofs.lemmas.Bool.{and_parts, leb-true, ltb-true, eqb-true, lt-ltb, le-ltb, cond-true, cond-false, ne_eqb, or_cases, false≢true}
use Rattle.xt_isa.specs.declared.Insn.{Insn}
use Rattle.xt_isa.specs.Ranges.{one_register, two_registers, three_registers, natural_within, signed_within, multiple_within, window_within, literal_within, page_within, call_within, is_b4const, is_b4constu, small_within, narrow_within}
use Rattle.xt_isa.specs.Spelling.{signed, below, b4const, b4constu, minus_one_or, narrow_constant}
use Rattle.xt_isa.proofs.Ranged.{below_negative}
use Rattle.xt_codec.specs.Encoding.{bits, constant, five, small}
use Rattle.xt_codec.proofs.Digits.{digits, joined6, joined7, joined_loaded, low8, low12, low16, low18, low8_is, low12_is, low16_is, low18_is}

-- ---- Numbers that are not negative.
natural_is : (first last : ℕ) (n : ℤ) → natural_within first last n ≡ true → (pos (bits n) ≡ n) × (first ≤ bits n) × (bits n ≤ last)
unfolding natural_within
natural_is first last (pos n) h =
    let parts = and_parts (leb first n) (leb n last) h in
    (refl, leb-true first n parts.0, leb-true n last parts.1)
natural_is first last (negsuc n) h = absurd (false≢true h)

multiple_is : (k end : ℕ) (n : ℤ) → multiple_within k end n ≡ true → (pos (bits n) ≡ n) × (bits n % k ≡ 0) × (bits n / k < end)
unfolding multiple_within
multiple_is k end (pos n) h =
    let parts = and_parts (eqb (n % k) 0) (ltb (n / k) end) h in
    (refl, eqb-true (n % k) 0 parts.0, ltb-true (n / k) end parts.1)
multiple_is k end (negsuc n) h = absurd (false≢true h)

-- a number whose bits are those of another, which is not negative
is_pos : {n : ℤ} {k : ℕ} → pos (bits n) ≡ n → k ≡ bits n → pos k ≡ n
is_pos e d = ap pos d ∙ e

pub byte : (n : ℤ) → natural_within 0 255 n ≡ true → pos (low8 (bits n)) ≡ n
byte n h = let is = natural_is 0 255 n h in is_pos is.0 (low8_is (bits n) ∙ omega (arith, is.2))

-- a number of whole steps of k, out of the steps
pub halves : (n : ℤ) → multiple_within 2 256 n ≡ true → pos (2 * low8 (bits n / 2)) ≡ n
halves n h = let is = multiple_is 2 256 n h in is_pos is.0 (ap (λ k. 2 * k) (low8_is (bits n / 2)) ∙ omega (arith, is.1, is.2))

pub words : (n : ℤ) → multiple_within 4 256 n ≡ true → pos (4 * low8 (bits n / 4)) ≡ n
words n h = let is = multiple_is 4 256 n h in is_pos is.0 (ap (λ k. 4 * k) (low8_is (bits n / 4)) ∙ omega (arith, is.1, is.2))

pub frame : (n : ℤ) → multiple_within 8 4096 n ≡ true → pos (8 * low12 (bits n / 8)) ≡ n
frame n h = let is = multiple_is 8 4096 n h in is_pos is.0 (ap (λ k. 8 * k) (low12_is (bits n / 8)) ∙ omega (arith, is.1, is.2))

pub narrow_word : (n : ℤ) → multiple_within 4 16 n ≡ true → pos (4 * (bits n / 4 % 32 % 16)) ≡ n
narrow_word n h = let is = multiple_is 4 16 n h in is_pos is.0 (omega (arith, is.1, is.2))

pub four_bits : (n : ℤ) → natural_within 0 15 n ≡ true → pos (five n % 16) ≡ n
four_bits n h = let is = natural_is 0 15 n h in is_pos is.0 (omega (arith, is.2))

pub level : (n : ℤ) → natural_within 2 7 n ≡ true → (pos (five n % 16) ≡ n) × (1 < five n % 16) × (five n % 16 < 8)
level n h =
    let is = natural_is 2 7 n h in
    let same : five n % 16 ≡ bits n = omega (arith, is.2) in
    (is_pos is.0 same, omega (arith, same, is.1), omega (arith, same, is.2))

pub nothing : (n : ℤ) → natural_within 0 0 n ≡ true → pos 0 ≡ n
nothing n h = let is = natural_is 0 0 n h in is_pos is.0 (omega (arith, is.2))

pub five_bits : (n : ℤ) → natural_within 0 31 n ≡ true → pos (five n % 16 + 16 * (five n / 16)) ≡ n
five_bits n h = let is = natural_is 0 31 n h in is_pos is.0 (digits (five n) ∙ omega (arith, is.2))

pub six_bits : (n : ℤ) → natural_within 0 63 n ≡ true → pos (five n % 16 + 16 * (bits n / 16 % 4)) ≡ n
six_bits n h = let is = natural_is 0 63 n h in is_pos is.0 (joined6 (bits n) ∙ omega (arith, is.2))

pub left : (n : ℤ) → natural_within 1 31 n ≡ true → (pos (32 - ((32 - five n) % 16 + 16 * ((32 - five n) / 16))) ≡ n) × (32 - five n < 32) × (0 < 32 - five n)
left n h =
    let is = natural_is 1 31 n h in
    let same : five n ≡ bits n = omega (arith, is.2) in
    (is_pos is.0 (ap (λ a. 32 - a) (digits (32 - five n)) ∙ omega (arith, same, is.2)), omega (arith, same, is.1), omega (arith, same, is.2))

pub wide_by : (n : ℤ) → natural_within 1 16 n ≡ true → pos ((five n + 15) % 16 + 1) ≡ n
wide_by n h =
    let is = natural_is 1 16 n h in
    let same : five n ≡ bits n = omega (arith, is.2) in
    is_pos is.0 (omega (arith, same, is.1, is.2))

pub from_seven : (n : ℤ) → natural_within 7 22 n ≡ true → pos ((five n + 9) % 16 + 7) ≡ n
from_seven n h =
    let is = natural_is 7 22 n h in
    let same : five n ≡ bits n = omega (arith, is.2) in
    is_pos is.0 (omega (arith, same, is.1, is.2))

-- ---- Signed numbers.
-- k is the two's complement of n, of bits for twice half
abbrev Complement : ℕ → ℕ → ℤ → Type 0
Complement half k (pos n) = (k ≡ n) × (n < half)
Complement half k (negsuc n) = (k + suc n ≡ 2 * half) × (n < half)

signed_is : (half k : ℕ) (n : ℤ) → Complement half k n → signed half k ≡ n
unfolding signed
signed_is half k (pos n) h = cond-true (ltb k half) (pos k) (below k (2 * half)) (lt-ltb k half (omega (arith, h.0, h.1))) ∙ ap pos h.0
signed_is half k (negsuc n) h =
    cond-false (ltb k half) (pos k) (below k (2 * half)) (le-ltb k half (omega (arith, h.0, h.1)))
    ∙ (below_negative k (2 * half) (omega (arith, h.0)) ∙ ap negsuc (omega (arith, h.0)))

pub near : (n : ℤ) → signed_within 128 n ≡ true → signed 128 (low8 (bits n)) ≡ n
unfolding signed_within
near (pos n) h = let is = ltb-true n 128 h in ap (signed 128) (low8_is n) ∙ signed_is 128 (n % 256) (pos n) (omega (arith, is), is)
near (negsuc n) h =
    let is = ltb-true n 128 h in
    ap (signed 128) (low8_is (4294967295 - n)) ∙ signed_is 128 ((4294967295 - n) % 256) (negsuc n) (omega (arith, is), is)

pub far : (n : ℤ) → signed_within 2048 n ≡ true → signed 2048 (low12 (bits n)) ≡ n
unfolding signed_within
far (pos n) h = let is = ltb-true n 2048 h in ap (signed 2048) (low12_is n) ∙ signed_is 2048 (n % 4096) (pos n) (omega (arith, is), is)
far (negsuc n) h =
    let is = ltb-true n 2048 h in
    ap (signed 2048) (low12_is (4294967295 - n)) ∙ signed_is 2048 ((4294967295 - n) % 4096) (negsuc n) (omega (arith, is), is)

pub loaded : (n : ℤ) → signed_within 2048 n ≡ true → signed 2048 (low8 (bits n) + 256 * (bits n / 256 % 32 % 16)) ≡ n
unfolding signed_within
loaded (pos n) h = let is = ltb-true n 2048 h in ap (signed 2048) (ap (λ k. k + 256 * (n / 256 % 32 % 16)) (low8_is n) ∙ joined_loaded n) ∙ signed_is 2048 (n % 4096) (pos n) (omega (arith, is), is)
loaded (negsuc n) h =
    let is = ltb-true n 2048 h in
    ap (signed 2048) (ap (λ k. k + 256 * ((4294967295 - n) / 256 % 32 % 16)) (low8_is (4294967295 - n)) ∙ joined_loaded (4294967295 - n)) ∙ signed_is 2048 ((4294967295 - n) % 4096) (negsuc n) (omega (arith, is), is)

pub jump : (n : ℤ) → signed_within 131072 n ≡ true → signed 131072 (low18 (bits n)) ≡ n
unfolding signed_within
jump (pos n) h = let is = ltb-true n 131072 h in ap (signed 131072) (low18_is n) ∙ signed_is 131072 (n % 262144) (pos n) (omega (arith, is), is)
jump (negsuc n) h =
    let is = ltb-true n 131072 h in
    ap (signed 131072) (low18_is (4294967295 - n)) ∙ signed_is 131072 ((4294967295 - n) % 262144) (negsuc n) (omega (arith, is), is)

pub rotated : (n : ℤ) → signed_within 8 n ≡ true → signed 8 (five n % 16) ≡ n
unfolding signed_within
rotated (pos n) h = let small = ltb-true n 8 h in signed_is 8 _ (pos n) (omega (arith, small), small)
rotated (negsuc n) h = let small = ltb-true n 8 h in signed_is 8 _ (negsuc n) (omega (arith, small), small)

-- a number in steps of k: its sign's two tests
stepped : (k end n : ℕ) → (eqb (n % k) 0 && ltb n end) ≡ true → (n % k ≡ 0) × (n < end)
stepped k end n h = let parts = and_parts (eqb (n % k) 0) (ltb n end) h in (eqb-true (n % k) 0 parts.0, ltb-true n end parts.1)

stepped_back : (k end n : ℕ) → (eqb ((n + 1) % k) 0 && ltb n end) ≡ true → ((n + 1) % k ≡ 0) × (n < end)
stepped_back k end n h = let parts = and_parts (eqb ((n + 1) % k) 0) (ltb n end) h in (eqb-true ((n + 1) % k) 0 parts.0, ltb-true n end parts.1)

pub page : (n : ℤ) → page_within n ≡ true → signed 32768 (256 * low8 (bits n / 256)) ≡ n
unfolding page_within
page (pos n) h =
    let is = stepped 256 32768 n h in
    ap (λ m. signed 32768 (256 * m)) (low8_is (n / 256)) ∙ signed_is 32768 (256 * (n / 256 % 256)) (pos n) (omega (arith, is.0, is.1), is.1)
page (negsuc n) h =
    let is = stepped_back 256 32768 n h in
    ap (λ m. signed 32768 (256 * m)) (low8_is ((4294967295 - n) / 256)) ∙ signed_is 32768 (256 * ((4294967295 - n) / 256 % 256)) (negsuc n) (omega (arith, is.0, is.1), is.1)

pub called : (n : ℤ) → call_within n ≡ true → signed 524288 (4 * low18 (bits n / 4)) ≡ n
unfolding call_within
called (pos n) h =
    let is = stepped 4 524288 n h in
    ap (λ m. signed 524288 (4 * m)) (low18_is (n / 4)) ∙ signed_is 524288 (4 * (n / 4 % 262144)) (pos n) (omega (arith, is.0, is.1), is.1)
called (negsuc n) h =
    let is = stepped_back 4 524288 n h in
    ap (λ m. signed 524288 (4 * m)) (low18_is ((4294967295 - n) / 4)) ∙ signed_is 524288 (4 * ((4294967295 - n) / 4 % 262144)) (negsuc n) (omega (arith, is.0, is.1), is.1)

below_is : (k end n : ℕ) → k + suc n ≡ end → below k end ≡ negsuc n
below_is k end n e = below_negative k end (omega (arith, e)) ∙ ap negsuc (omega (arith, e))

pub window : (n : ℤ) → window_within n ≡ true → below (4 * (bits n / 4 % 32 % 16)) 64 ≡ n
unfolding window_within
window (pos n) h = absurd (false≢true h)
window (negsuc n) h = let is = stepped_back 4 64 n h in below_is (4 * ((4294967295 - n) / 4 % 32 % 16)) 64 n (omega (arith, is.0, is.1))

pub literal : (n : ℤ) → literal_within n ≡ true → below (4 * low16 (bits n / 4)) 262144 ≡ n
unfolding literal_within
literal (pos n) h = absurd (false≢true h)
literal (negsuc n) h = let is = stepped_back 4 262144 n h in ap (λ m. below (4 * m) 262144) (low16_is ((4294967295 - n) / 4)) ∙ below_is (4 * ((4294967295 - n) / 4 % 65536)) 262144 n (omega (arith, is.0, is.1))

pub narrow_number : (n : ℤ) → narrow_within n ≡ true → narrow_constant (five n % 16 + 16 * (bits n / 16 % 8)) ≡ n
unfolding narrow_within narrow_constant
narrow_number (pos n) h =
    let small = ltb-true n 96 h in
    let same : five (pos n) % 16 + 16 * (bits (pos n) / 16 % 8) ≡ n = joined7 n ∙ omega (arith, small) in
    ap narrow_constant same ∙ cond-true (ltb n 96) (pos n) (below n 128) h
narrow_number (negsuc n) h =
    let small = ltb-true n 32 h in
    let total : (4294967295 - n) % 128 + suc n ≡ 128 = omega (arith, small) in
    ap narrow_constant (joined7 (4294967295 - n))
    ∙ (cond-false (ltb ((4294967295 - n) % 128) 96) (pos ((4294967295 - n) % 128)) (below ((4294967295 - n) % 128) 128) (le-ltb ((4294967295 - n) % 128) 96 (omega (arith, total, small)))
    ∙ below_is ((4294967295 - n) % 128) 128 n total)

pub small_number : (n : ℤ) → small_within n ≡ true → minus_one_or (small n % 16) ≡ n
unfolding small_within minus_one_or
small_number (pos n) h =
    let parts = and_parts (leb 1 n) (leb n 15) h in
    let least = leb-true 1 n parts.0 in
    let most = leb-true n 15 parts.1 in
    let same : n % 32 % 16 ≡ n = omega (arith, most) in
    ap minus_one_or same ∙ cond-false (eqb n 0) (below 0 1) (pos n) (ne_eqb n 0 (λ e. omega (arith, e, least)))
small_number (negsuc n) h = ap negsuc (sym (eqb-true n 0 h))

-- ---- Constants of branches.
-- the constants above 8, each with its place
is_at : (place : ℕ → ℤ) (n k : ℕ) → eqb n k ≡ true → place (constant (pos k) % 16) ≡ pos k → place (constant (pos n) % 16) ≡ pos n
is_at place n k h e = subst (λ m. place (constant (pos m) % 16) ≡ pos m) (sym (eqb-true n k h)) e

either : {x : Bool} (y : Bool) {P : Type 0} → (x ≡ true → P) → (y ≡ true → P) → (x || y) ≡ true → P
either {x = x} y p q h = ⊎_elim p q (or_cases x y h)

b4const_low : (n : ℕ) → 1 ≤ n → n ≤ 8 → b4const (constant (pos n) % 16) ≡ pos n
unfolding b4const
b4const_low zero p q = absurd (omega (arith, p))
b4const_low (suc (zero)) p q = refl
b4const_low (suc (suc (zero))) p q = refl
b4const_low (suc (suc (suc (zero)))) p q = refl
b4const_low (suc (suc (suc (suc (zero))))) p q = refl
b4const_low (suc (suc (suc (suc (suc (zero)))))) p q = refl
b4const_low (suc (suc (suc (suc (suc (suc (zero))))))) p q = refl
b4const_low (suc (suc (suc (suc (suc (suc (suc (zero)))))))) p q = refl
b4const_low (suc (suc (suc (suc (suc (suc (suc (suc (zero))))))))) p q = refl
b4const_low (suc (suc (suc (suc (suc (suc (suc (suc (suc (n)))))))))) p q = absurd (omega (arith, q))

b4constu_low : (n : ℕ) → 2 ≤ n → n ≤ 8 → b4constu (constant (pos n) % 16) ≡ pos n
unfolding b4constu
b4constu_low zero p q = absurd (omega (arith, p))
b4constu_low (suc (zero)) p q = absurd (omega (arith, p))
b4constu_low (suc (suc (zero))) p q = refl
b4constu_low (suc (suc (suc (zero)))) p q = refl
b4constu_low (suc (suc (suc (suc (zero))))) p q = refl
b4constu_low (suc (suc (suc (suc (suc (zero)))))) p q = refl
b4constu_low (suc (suc (suc (suc (suc (suc (zero))))))) p q = refl
b4constu_low (suc (suc (suc (suc (suc (suc (suc (zero)))))))) p q = refl
b4constu_low (suc (suc (suc (suc (suc (suc (suc (suc (zero))))))))) p q = refl
b4constu_low (suc (suc (suc (suc (suc (suc (suc (suc (suc (n)))))))))) p q = absurd (omega (arith, q))

pub signed_constant : (n : ℤ) → is_b4const n ≡ true → b4const (constant n % 16) ≡ n
unfolding is_b4const b4const
signed_constant (pos n) h = either (eqb n 256) (λ a6. either (eqb n 128) (λ a5. either (eqb n 64) (λ a4. either (eqb n 32) (λ a3. either (eqb n 16) (λ a2. either (eqb n 12) (λ a1. either (eqb n 10) (λ a0. b4const_low n (leb-true 1 n (and_parts (leb 1 n) (leb n 8) a0).0) (leb-true n 8 (and_parts (leb 1 n) (leb n 8) a0).1)) (λ e. is_at b4const n 10 e refl) a1) (λ e. is_at b4const n 12 e refl) a2) (λ e. is_at b4const n 16 e refl) a3) (λ e. is_at b4const n 32 e refl) a4) (λ e. is_at b4const n 64 e refl) a5) (λ e. is_at b4const n 128 e refl) a6) (λ e. is_at b4const n 256 e refl) h
signed_constant (negsuc n) h = ap negsuc (sym (eqb-true n 0 h))

pub unsigned_constant : (n : ℤ) → is_b4constu n ≡ true → b4constu (constant n % 16) ≡ n
unfolding is_b4constu b4constu
unsigned_constant (pos n) h = either (eqb n 65536) (λ a8. either (eqb n 32768) (λ a7. either (eqb n 256) (λ a6. either (eqb n 128) (λ a5. either (eqb n 64) (λ a4. either (eqb n 32) (λ a3. either (eqb n 16) (λ a2. either (eqb n 12) (λ a1. either (eqb n 10) (λ a0. b4constu_low n (leb-true 2 n (and_parts (leb 2 n) (leb n 8) a0).0) (leb-true n 8 (and_parts (leb 2 n) (leb n 8) a0).1)) (λ e. is_at b4constu n 10 e refl) a1) (λ e. is_at b4constu n 12 e refl) a2) (λ e. is_at b4constu n 16 e refl) a3) (λ e. is_at b4constu n 32 e refl) a4) (λ e. is_at b4constu n 64 e refl) a5) (λ e. is_at b4constu n 128 e refl) a6) (λ e. is_at b4constu n 256 e refl) a7) (λ e. is_at b4constu n 32768 e refl) a8) (λ e. is_at b4constu n 65536 e refl) h
unsigned_constant (negsuc n) h = absurd (false≢true h)

-- ---- Registers.
cut_to : (a : ℕ) → ltb a 16 ≡ true → a % 16 ≡ a
cut_to a h = omega (arith, ltb-true a 16 h)

pub one_is : (s : ℕ) → one_register s ≡ true → s % 16 ≡ s
unfolding one_register
one_is s h = cut_to s h

pub two_are : (r s : ℕ) → two_registers r s ≡ true → (r % 16 ≡ r) × (s % 16 ≡ s)
unfolding two_registers
two_are r s h = let parts = and_parts (ltb r 16) (ltb s 16) h in (cut_to r parts.0, cut_to s parts.1)

pub three_are : (r s t : ℕ) → three_registers r s t ≡ true → (r % 16 ≡ r) × (s % 16 ≡ s) × (t % 16 ≡ t)
unfolding three_registers
three_are r s t h =
    let parts = and_parts (ltb r 16) (ltb s 16 && ltb t 16) h in
    let more = and_parts (ltb s 16) (ltb t 16) parts.1 in
    (cut_to r parts.0, cut_to s more.0, cut_to t more.1)

-- ---- Instructions out of operands that are given back.
pub of_one : (f : ℕ → Insn) (s : ℕ) → one_register s ≡ true → Some (f (s % 16)) ≡ Some (f s)
of_one f s h = ap (λ s. Some (f s)) (one_is s h)

pub of_two : (f : ℕ → ℕ → Insn) (r s : ℕ) → two_registers r s ≡ true → Some (f (r % 16) (s % 16)) ≡ Some (f r s)
of_two f r s h = let is = two_are r s h in let a = is.0 in let b = is.1 in cc

pub of_three : (f : ℕ → ℕ → ℕ → Insn) (r s t : ℕ) → three_registers r s t ≡ true → Some (f (r % 16) (s % 16) (t % 16)) ≡ Some (f r s t)
of_three f r s t h = let is = three_are r s t h in let a = is.0 in let b = is.1 in let c = is.2 in cc

pub of_number : (f : ℤ → Insn) (k n : ℤ) → k ≡ n → Some (f k) ≡ Some (f n)
of_number f k n e = ap (λ n. Some (f n)) e

pub of_one_and : (f : ℕ → ℤ → Insn) (s : ℕ) (k n : ℤ) (b : Bool) → (one_register s && b) ≡ true → (b ≡ true → k ≡ n) → Some (f (s % 16) k) ≡ Some (f s n)
of_one_and f s k n b h g =
    let parts = and_parts (one_register s) b h in
    let a = one_is s parts.0 in
    let e = g parts.1 in
    cc

pub of_two_and : (f : ℕ → ℕ → ℤ → Insn) (r s : ℕ) (k n : ℤ) (b : Bool) → (two_registers r s && b) ≡ true → (b ≡ true → k ≡ n) → Some (f (r % 16) (s % 16) k) ≡ Some (f r s n)
of_two_and f r s k n b h g =
    let parts = and_parts (two_registers r s) b h in
    let a = two_are r s parts.0 in
    let a0 = a.0 in
    let a1 = a.1 in
    let e = g parts.1 in
    cc

pub of_one_and_two : (f : ℕ → ℤ → ℤ → Insn) (s : ℕ) (k c l n : ℤ) (b d : Bool) → (one_register s && (b && d)) ≡ true → (b ≡ true → k ≡ c) → (d ≡ true → l ≡ n) → Some (f (s % 16) k l) ≡ Some (f s c n)
of_one_and_two f s k c l n b d h g j =
    let parts = and_parts (one_register s) (b && d) h in
    let more = and_parts b d parts.1 in
    let a = one_is s parts.0 in
    let e = g more.0 in
    let i = j more.1 in
    cc

pub of_four : (f : ℕ → ℕ → ℤ → ℤ → Insn) (r s : ℕ) (k n l m : ℤ) → two_registers r s ≡ true → k ≡ n → l ≡ m → Some (f (r % 16) (s % 16) k l) ≡ Some (f r s n m)
of_four f r s k n l m h e g =
    let is = two_are r s h in
    let a = is.0 in
    let b = is.1 in
    cc
