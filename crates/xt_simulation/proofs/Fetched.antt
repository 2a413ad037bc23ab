-- What the fetch gives within a vector that passes the check, and what that is to a handler.
use Rattle.std.proofs.Common.{◌≡◌, ◌⊎◌, ⊎_elim, ℕ, zero, suc, ◌+◌, ◌-◌, ◌/◌, ◌%◌, ◌^◌, ◌<◌, ◌≤◌, true, refl, sym, ◌∙◌, ap, arith, length, get_or, Some, None}
use Rattle.std.proofs.lemmas.Bool.{cases_lt, cond-true, cond-false, cases_Bool}
use Rattle.std.proofs.lemmas.Bool.Decides.{nat_tests}
use Rattle.std.proofs.lemmas.List.{get_or_past}
use Rattle.xt_isa.specs.Spelling.{spelled_insn, fields_at, length_of}
use Rattle.xt_isa.proofs.ThirdByte.{third_byte}
use Rattle.xt_map.specs.Regions.{region_of}
use Rattle.xt_map.specs.Fetching.{can_fetch, unfetchable, fetched_length, fetched_past, fetch_at, read_as}
use Rattle.xt_map.specs.Code.{code_bytes}
use Rattle.xt_handlers.specs.declared.stretch.Side.{Side}
use Rattle.xt_handlers.specs.declared.stretch.HandlerVerdict.TheVariants.{Yes, No}
use Rattle.xt_handlers.specs.Spelled.{step_of_spelled, step_of, lines_of}
use Rattle.xt_handlers.specs.Handling.{handling_verdict}
use Rattle.xt_handlers.specs.HandlerInvariants.{step_at}
use Rattle.xt_handlers.specs.Vectors.{vector_at, vector_bytes, verdict_of}

-- ---- the bytes of a vector
pub bytes_length : (code : ℕ → ℕ) (a n : ℕ) → length (code_bytes code a n) ≡ n
bytes_length code a zero = refl
bytes_length code a (suc n) = ap suc (bytes_length code (a + 1) n)

pub byte_is : (code : ℕ → ℕ) (a n k : ℕ) → k < n → get_or (code_bytes code a n) k 0 ≡ code (a + k)
byte_is code a zero k h = absurd (omega arith)
byte_is code a (suc n) zero h = let e : a ≡ a + 0 = omega arith in ap code e
byte_is code a (suc n) (suc k) h = let e : (a + 1) + k ≡ a + suc k = omega arith in byte_is code (a + 1) n k (omega arith) ∙ ap code e

pub byte_small : (code : ℕ → ℕ) (a n k : ℕ) → ((i : ℕ) → code i < 2 ^ 8) → get_or (code_bytes code a n) k 0 < 256
byte_small code a n k small = ⊎_elim
    (λ h. let e = byte_is code a n k h in let s = small (a + k) in omega arith)
    (λ h. let e = get_or_past (code_bytes code a n) k 0 (omega (arith, bytes_length code a n)) in omega arith)
    (cases_lt k n)

-- ---- the fetch
unfetchable_none : (a n : ℕ) → ((k : ℕ) → k < n → can_fetch (a + k) ≡ true) → unfetchable a n ≡ None
unfetchable_none a zero h = refl
unfetchable_none a (suc n) h =
    let z : a + 0 ≡ a = omega arith in
    let first : can_fetch a ≡ true = rw z at (h 0 (omega arith)) in
    cond-true (can_fetch a) (unfetchable (a + 1) n) (Some a) first
    ∙ unfetchable_none (a + 1) n (λ k l. let e : (a + 1) + k ≡ a + suc k = omega arith in rw e (h (suc k) (omega arith)))

pub fetched_is : (code : ℕ → ℕ) (pc : ℕ) → ((k : ℕ) → k < length_of (code pc) → can_fetch (pc + k) ≡ true) → 0 < length_of (code pc)
    → fetch_at code pc ≡ read_as (spelled_insn (fields_at (code pc) (code (pc + 1)) (code (pc + 2)))) (length_of (code pc))
unfolding fetch_at
fetched_is code pc h pos =
    let z : pc + 0 ≡ pc = omega arith in
    let first : can_fetch pc ≡ true = rw z at (h 0 pos) in
    let len : fetched_length code pc ≡ length_of (code pc) = cond-true (can_fetch pc) (length_of (code pc)) 1 first in
    let none : unfetchable pc (fetched_length code pc) ≡ None = ap (unfetchable pc) len ∙ unfetchable_none pc (length_of (code pc)) h in
    ap (λ o. fetched_past o code pc) none

pub length_is : (a : ℕ) → (length_of a ≡ 2) ⊎ (length_of a ≡ 3)
length_is a = grind (arith, nat_tests)

two_means : (a : ℕ) → length_of a ≡ 2 → (8 ≤ a % 16) × (a % 16 < 14)
two_means a h = grind (arith, nat_tests)

-- of a two-byte instruction the third byte plays no part
third_free : (a b c d : ℕ) → length_of a ≡ 2 → spelled_insn (fields_at a b c) ≡ spelled_insn (fields_at a b d)
third_free a b c d h =
    let m = two_means a h in
    let k : ℕ = a % 16 - 8 in
    let at : a % 16 ≡ 8 + k = omega arith in
    let p = third_byte k (a / 16) (b % 16) (b / 16) (c % 16) (c / 16) (omega arith) in
    let q = third_byte k (a / 16) (b % 16) (b / 16) (d % 16) (d / 16) (omega arith) in
    rw at (p ∙ sym q)

-- the step of a vector is that of the bytes there
pub step_is : (code : ℕ → ℕ) (at o : ℕ) → o + length_of (code (at + o)) ≤ 64 → step_at (vector_bytes code at) o ≡ step_of (code (at + o)) (code (at + o + 1)) (code (at + o + 2))
unfolding step_of
step_is code at o fit =
    let first : get_or (vector_bytes code at) o 0 ≡ code (at + o) = byte_is code at 64 o (⊎_elim (λ h. omega arith) (λ h. omega arith) (length_is (code (at + o)))) in
    let second : get_or (vector_bytes code at) (o + 1) 0 ≡ code (at + o + 1) = (let e : at + (o + 1) ≡ at + o + 1 = omega arith in rw e at (byte_is code at 64 (o + 1) (⊎_elim (λ h. omega arith) (λ h. omega arith) (length_is (code (at + o)))))) in
    ⊎_elim
    (λ two.
    let third = third_free (code (at + o)) (code (at + o + 1)) (get_or (vector_bytes code at) (o + 2) 0) (code (at + o + 2)) two in
    rw (first, second) (ap step_of_spelled third))
    (λ three.
    let third : get_or (vector_bytes code at) (o + 2) 0 ≡ code (at + o + 2) = (let e : at + (o + 2) ≡ at + o + 2 = omega arith in rw e at (byte_is code at 64 (o + 2) (omega arith))) in
    rw (first, second, third) refl)
    (length_is (code (at + o)))

-- ---- a vector lies whole in a region that can be executed
abbrev Executable : ℕ → Type 0
Executable a = ((0x40070000 ≤ a) × (a ≤ 0x4009FFFF)) ⊎ (((0x400C0000 ≤ a) × (a ≤ 0x400C1FFF)) ⊎ ((0x400D0000 ≤ a) × (a ≤ 0x403FFFFF)))

where_fetched : (a : ℕ) → can_fetch a ≡ true → Executable a
unfolding region_of
where_fetched a h = grind (arith, nat_tests)

in_iram : (a : ℕ) → 0x40070000 ≤ a → a ≤ 0x4009FFFF → can_fetch a ≡ true
unfolding region_of
in_iram a low high = grind (arith, nat_tests)

in_rtc : (a : ℕ) → 0x400C0000 ≤ a → a ≤ 0x400C1FFF → can_fetch a ≡ true
unfolding region_of
in_rtc a low high = grind (arith, nat_tests)

in_irom : (a : ℕ) → 0x400D0000 ≤ a → a ≤ 0x403FFFFF → can_fetch a ≡ true
unfolding region_of
in_irom a low high = grind (arith, nat_tests)

region_whole : (a k : ℕ) → a % 64 ≡ 0 → k < 64 → can_fetch a ≡ true → can_fetch (a + k) ≡ true
region_whole a k aligned h first = ⊎_elim
    (λ p. let l = p.0 in let u = p.1 in in_iram (a + k) (omega arith) (omega arith))
    (λ q. ⊎_elim
    (λ p. let l = p.0 in let u = p.1 in in_rtc (a + k) (omega arith) (omega arith))
    (λ p. let l = p.0 in let u = p.1 in in_irom (a + k) (omega arith) (omega arith))
    q)
    (where_fetched a first)

pub fetch_small : (a : ℕ) → can_fetch a ≡ true → a + 64 < 2 ^ 32
fetch_small a h = ⊎_elim (λ p. let u = p.1 in omega arith) (λ q. ⊎_elim (λ p. let u = p.1 in omega arith) (λ p. let u = p.1 in omega arith) q) (where_fetched a h)

pub vector_fetches : (code : ℕ → ℕ) (vecbase : ℕ) (side : Side) (n k : ℕ) → vecbase % 2 ^ 10 ≡ 0 → verdict_of code vecbase side n ≡ Yes → k < 64 → can_fetch (vector_at vecbase side n + k) ≡ true
vector_fetches code vecbase side n k aligned answered h =
    ⊎_elim
    (λ can. region_whole (vector_at vecbase side n) k (omega arith) h can)
    (λ cannot. let bad : No 0 ≡ Yes = sym (cond-false (can_fetch (vector_at vecbase side n)) (handling_verdict side n (lines_of (vector_bytes code (vector_at vecbase side n)))) (No 0) cannot) ∙ answered in absurd cc)
    (cases_Bool (can_fetch (vector_at vecbase side n)))

pub vector_handles : (code : ℕ → ℕ) (vecbase : ℕ) (side : Side) (n : ℕ) → verdict_of code vecbase side n ≡ Yes → handling_verdict side n (lines_of (vector_bytes code (vector_at vecbase side n))) ≡ Yes
vector_handles code vecbase side n answered =
    ⊎_elim
    (λ can. sym (cond-true (can_fetch (vector_at vecbase side n)) (handling_verdict side n (lines_of (vector_bytes code (vector_at vecbase side n)))) (No 0) can) ∙ answered)
    (λ cannot. let bad : No 0 ≡ Yes = sym (cond-false (can_fetch (vector_at vecbase side n)) (handling_verdict side n (lines_of (vector_bytes code (vector_at vecbase side n)))) (No 0) cannot) ∙ answered in absurd cc)
    (cases_Bool (can_fetch (vector_at vecbase side n)))
