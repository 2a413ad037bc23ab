-- Words of memory and places of registers.
use Rattle.std.proofs.Common.{◌≡◌, ◌≢◌, ◌⊎◌, ⊎_elim, inl, inr, ℕ, ◌+◌, ◌-◌, ◌*◌, ◌/◌, ◌%◌, ◌<◌, ◌≤◌, true, ◌==◌, refl, ◌∙◌, arith, leb}
use Rattle.std.proofs.lemmas.Bool.{cond-true, cond-false, eq-eqb, ne_eqb, and_parts, and_from, eqb-true, leb-true, le-leb}
use Rattle.xt_handlers.specs.Running.{with_word, is_access}
use Rattle.xt_handlers.specs.Machines.{place, word_at, address}

pub record HasWord (a : ℕ) : Type 0 where
  pub aligned : a % 4 ≡ 0
  pub low : 0x3FFAE000 ≤ a
  pub high : a + 4 ≤ 0x40000000

pub access_means : (a : ℕ) → is_access a ≡ true → HasWord a
unfolding is_access
access_means a h =
    let p = and_parts (a % 4 == 0) _ h in
    let q = and_parts (leb 0x3FFAE000 a) (leb (a + 4) 0x40000000) p.1 in
    record { aligned = eqb-true (a % 4) 0 p.0; low = leb-true 0x3FFAE000 a q.0; high = leb-true (a + 4) 0x40000000 q.1 }

pub access_from : (a : ℕ) → a % 4 ≡ 0 → 0x3FFAE000 ≤ a → a + 4 ≤ 0x40000000 → is_access a ≡ true
unfolding is_access
access_from a aligned low high = and_from _ _ (eq-eqb (a % 4) 0 aligned) (and_from _ _ (le-leb 0x3FFAE000 a low) (le-leb (a + 4) 0x40000000 high))

-- two words apart
pub words_apart : (a b : ℕ) → HasWord a → HasWord b → a ≢ b → (a + 4 ≤ b) ⊎ (b + 4 ≤ a)
words_apart a b p q h =
    let m = p.aligned in
    let k = q.aligned in
    grind arith

pub with_word-elsewhere : (bytes : ℕ → ℕ) (a value b : ℕ) → (b < a) ⊎ (a + 4 ≤ b) → with_word bytes a value b ≡ bytes b
with_word-elsewhere bytes a value b h =
    let n0 : b ≢ a = ⊎_elim (λ l. omega arith) (λ l. omega arith) h in
    let n1 : b ≢ a + 1 = ⊎_elim (λ l. omega arith) (λ l. omega arith) h in
    let n2 : b ≢ a + 2 = ⊎_elim (λ l. omega arith) (λ l. omega arith) h in
    let n3 : b ≢ a + 3 = ⊎_elim (λ l. omega arith) (λ l. omega arith) h in
    cond-false _ _ _ (ne_eqb b a n0) ∙ (cond-false _ _ _ (ne_eqb b (a + 1) n1) ∙ (cond-false _ _ _ (ne_eqb b (a + 2) n2) ∙ cond-false _ _ _ (ne_eqb b (a + 3) n3)))

pub with_word-0 : (bytes : ℕ → ℕ) (a value : ℕ) → with_word bytes a value a ≡ value % 256
with_word-0 bytes a value = cond-true _ _ _ (eq-eqb a a refl)

pub with_word-1 : (bytes : ℕ → ℕ) (a value : ℕ) → with_word bytes a value (a + 1) ≡ value / 256 % 256
with_word-1 bytes a value =
    let n0 : a + 1 ≢ a = omega arith in
    cond-false _ _ _ (ne_eqb (a + 1) a n0) ∙ cond-true _ _ _ (eq-eqb (a + 1) (a + 1) refl)

pub with_word-2 : (bytes : ℕ → ℕ) (a value : ℕ) → with_word bytes a value (a + 2) ≡ value / 65536 % 256
with_word-2 bytes a value =
    let n0 : a + 2 ≢ a = omega arith in
    let n1 : a + 2 ≢ a + 1 = omega arith in
    cond-false _ _ _ (ne_eqb (a + 2) a n0) ∙ (cond-false _ _ _ (ne_eqb (a + 2) (a + 1) n1) ∙ cond-true _ _ _ (eq-eqb (a + 2) (a + 2) refl))

pub with_word-3 : (bytes : ℕ → ℕ) (a value : ℕ) → with_word bytes a value (a + 3) ≡ value / 16777216 % 256
with_word-3 bytes a value =
    let n0 : a + 3 ≢ a = omega arith in
    let n1 : a + 3 ≢ a + 1 = omega arith in
    let n2 : a + 3 ≢ a + 2 = omega arith in
    cond-false _ _ _ (ne_eqb (a + 3) a n0) ∙ (cond-false _ _ _ (ne_eqb (a + 3) (a + 1) n1) ∙ (cond-false _ _ _ (ne_eqb (a + 3) (a + 2) n2) ∙ cond-true _ _ _ (eq-eqb (a + 3) (a + 3) refl)))

digits : (v : ℕ) → v < 4294967296 → v % 256 + 256 * (v / 256 % 256) + 65536 * (v / 65536 % 256) + 16777216 * (v / 16777216 % 256) ≡ v
digits v h = omega arith

pub word_at-same : (bytes : ℕ → ℕ) (a value : ℕ) → value < 4294967296 → word_at (with_word bytes a value) a ≡ value
word_at-same bytes a value h =
    simp (with_word-0, with_word-1, with_word-2, with_word-3) (digits value h)

pub word_at-other : (bytes : ℕ → ℕ) (a value b : ℕ) → (a + 4 ≤ b) ⊎ (b + 4 ≤ a) → word_at (with_word bytes a value) b ≡ word_at bytes b
word_at-other bytes a value b h =
    let e0 : with_word bytes a value b ≡ bytes b = with_word-elsewhere bytes a value b (⊎_elim (λ l. inr l) (λ l. inl (omega arith)) h) in
    let e1 : with_word bytes a value (b + 1) ≡ bytes (b + 1) = with_word-elsewhere bytes a value (b + 1) (⊎_elim (λ l. inr (omega arith)) (λ l. inl (omega arith)) h) in
    let e2 : with_word bytes a value (b + 2) ≡ bytes (b + 2) = with_word-elsewhere bytes a value (b + 2) (⊎_elim (λ l. inr (omega arith)) (λ l. inl (omega arith)) h) in
    let e3 : with_word bytes a value (b + 3) ≡ bytes (b + 3) = with_word-elsewhere bytes a value (b + 3) (⊎_elim (λ l. inr (omega arith)) (λ l. inl (omega arith)) h) in
    cc

-- ---- addresses
pub address_is : (base back : ℕ) → back ≤ base → base < 4294967296 → address base back ≡ base - back
unfolding address
address_is base back h l = omega arith

-- ---- registers
pub places_apart : (base i j : ℕ) → i < 16 → j < 16 → i ≢ j → place base i ≢ place base j
places_apart base i j hi hj h e = omega arith

pub place_below : (base i : ℕ) → place base i < 64
place_below base i = omega arith
