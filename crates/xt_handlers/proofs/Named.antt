-- Which words an underflow vector may load, at each n.
use Rattle.std.proofs.Common.{◌≡◌, ◌≢◌, ℕ, zero, suc, ◌+◌, ◌*◌, ◌%◌, ◌<◌, ◌≤◌, ◌⊎◌, Bool, true, false, refl, arith, lit≤}
use Rattle.std.proofs.lemmas.Bool.Decides.{nat_tests}
use Rattle.xt_handlers.specs.Needs.{is_among, named_words}
use Rattle.xt_handlers.specs.Flat.{word_at}
use Rattle.xt_handlers.specs.declared.stretch.Side.TheVariants.{Underflow}
use Rattle.xt_handlers.specs.declared.Mark.{Mark}
use Rattle.xt_handlers.specs.declared.Mark.TheVariants.{Initial, FrameWord, Link, Extra}

abbrev among : ℕ → Mark → ℕ → Bool
among n base back = is_among (word_at Underflow n base back) (named_words Underflow n)

pub initial_is : (n register back : ℕ) → 0 < n → n < 4 → register ≡ 4 * n + 1 → 4 ≤ back → back ≤ 16 → back % 4 ≡ 0 → among n (Initial register) back ≡ true
initial_is zero register back low high e a b m = absurd (omega arith)
initial_is (suc zero) register back low high e a b m = grind (arith, nat_tests)
initial_is (suc (suc zero)) register back low high e a b m = grind (arith, nat_tests)
initial_is (suc (suc (suc zero))) register back low high e a b m = grind (arith, nat_tests)
initial_is (suc (suc (suc (suc n)))) register back low high e a b m = absurd (omega arith)

pub initial_other : (n register back : ℕ) → 0 < n → n < 4 → register ≢ 4 * n + 1 → among n (Initial register) back ≡ false
initial_other zero register back low high e = absurd (omega arith)
initial_other (suc zero) register back low high e = grind (arith, nat_tests)
initial_other (suc (suc zero)) register back low high e = grind (arith, nat_tests)
initial_other (suc (suc (suc zero))) register back low high e = grind (arith, nat_tests)
initial_other (suc (suc (suc (suc n)))) register back low high e = absurd (omega arith)

initial_far_at : (n register back : ℕ) → 0 < n → n < 4 → back ≢ 4 → back ≢ 8 → back ≢ 12 → back ≢ 16 → among n (Initial register) back ≡ false
initial_far_at zero register back low high a b c d = absurd (omega arith)
initial_far_at (suc zero) register back low high a b c d = grind (arith, nat_tests)
initial_far_at (suc (suc zero)) register back low high a b c d = grind (arith, nat_tests)
initial_far_at (suc (suc (suc zero))) register back low high a b c d = grind (arith, nat_tests)
initial_far_at (suc (suc (suc (suc n)))) register back low high a b c d = absurd (omega arith)

pub initial_far : (n register back : ℕ) → 0 < n → n < 4 → ((4 ≤ back) × (back ≤ 16) × (back % 4 ≡ 0) → ⊥) → among n (Initial register) back ≡ false
initial_far n register back low high h =
    let far = λ (k : ℕ) (a : 4 ≤ k) (b : k ≤ 16) (m : k % 4 ≡ 0). let ne : back ≢ k = λ e. h (omega arith, omega arith, rw e m) in ne in
    initial_far_at n register back low high (far 4 (lit≤ tt) (lit≤ tt) refl) (far 8 (lit≤ tt) (lit≤ tt) refl) (far 12 (lit≤ tt) (lit≤ tt) refl) (far 16 (lit≤ tt) (lit≤ tt) refl)

pub frame_is : (n : ℕ) → 1 < n → n < 4 → among n (FrameWord 12) 12 ≡ true
frame_is zero low high = absurd (omega arith)
frame_is (suc zero) low high = absurd (omega arith)
frame_is (suc (suc zero)) low high = refl
frame_is (suc (suc (suc zero))) low high = refl
frame_is (suc (suc (suc (suc n)))) low high = absurd (omega arith)

pub frame_one : (at back : ℕ) → among 1 (FrameWord at) back ≡ false
frame_one at back = refl

pub frame_other : (n at back : ℕ) → 0 < n → n < 4 → (at ≢ 12) ⊎ (back ≢ 12) → among n (FrameWord at) back ≡ false
frame_other zero at back low high e = absurd (omega arith)
frame_other (suc zero) at back low high e = refl
frame_other (suc (suc zero)) at back low high e = grind (arith, nat_tests)
frame_other (suc (suc (suc zero))) at back low high e = grind (arith, nat_tests)
frame_other (suc (suc (suc (suc n)))) at back low high e = absurd (omega arith)

pub link_is : (n back : ℕ) → 0 < n → n < 4 → 20 ≤ back → back ≤ 16 * n → back % 4 ≡ 0 → among n Link back ≡ true
link_is zero back low high a b m = absurd (omega arith)
link_is (suc zero) back low high a b m = absurd (omega arith)
link_is (suc (suc zero)) back low high a b m = grind (arith, nat_tests)
link_is (suc (suc (suc zero))) back low high a b m = grind (arith, nat_tests)
link_is (suc (suc (suc (suc n)))) back low high a b m = absurd (omega arith)

none2 : (back : ℕ) → back ≢ 20 → back ≢ 24 → back ≢ 28 → back ≢ 32 → among 2 Link back ≡ false
none2 back a b c d = grind (arith, nat_tests)

none3 : (back : ℕ) → back ≢ 20 → back ≢ 24 → back ≢ 28 → back ≢ 32 → back ≢ 36 → back ≢ 40 → back ≢ 44 → back ≢ 48 → among 3 Link back ≡ false
none3 back a b c d e f g h = grind (arith, nat_tests)

link_other_at : (n back : ℕ) → 0 < n → n < 4 → ((20 ≤ back) × (back ≤ 16 * n) × (back % 4 ≡ 0) → ⊥) → ((k : ℕ) → 20 ≤ k → k ≤ 16 * n → k % 4 ≡ 0 → back ≢ k) → among n Link back ≡ false
link_other_at zero back low high h far = absurd (omega arith)
link_other_at (suc zero) back low high h far = refl
link_other_at (suc (suc zero)) back low high h far =
    let a = far 20 (lit≤ tt) (lit≤ tt) refl in let b = far 24 (lit≤ tt) (lit≤ tt) refl in let c = far 28 (lit≤ tt) (lit≤ tt) refl in let d = far 32 (lit≤ tt) (lit≤ tt) refl in
    none2 back a b c d
link_other_at (suc (suc (suc zero))) back low high h far =
    none3 back (far 20 (lit≤ tt) (lit≤ tt) refl) (far 24 (lit≤ tt) (lit≤ tt) refl) (far 28 (lit≤ tt) (lit≤ tt) refl) (far 32 (lit≤ tt) (lit≤ tt) refl) (far 36 (lit≤ tt) (lit≤ tt) refl) (far 40 (lit≤ tt) (lit≤ tt) refl) (far 44 (lit≤ tt) (lit≤ tt) refl) (far 48 (lit≤ tt) (lit≤ tt) refl)
link_other_at (suc (suc (suc (suc n)))) back low high h far = absurd (omega arith)

pub link_other : (n back : ℕ) → 0 < n → n < 4 → ((20 ≤ back) × (back ≤ 16 * n) × (back % 4 ≡ 0) → ⊥) → among n Link back ≡ false
link_other n back low high h = link_other_at n back low high h (λ k a b m e. h (omega arith, omega arith, rw e m))

pub extra_is : (n at back : ℕ) → 0 < n → n < 4 → among n (Extra at) back ≡ false
extra_is zero at back low high = absurd (omega arith)
extra_is (suc zero) at back low high = refl
extra_is (suc (suc zero)) at back low high = refl
extra_is (suc (suc (suc zero))) at back low high = refl
extra_is (suc (suc (suc (suc n)))) at back low high = absurd (omega arith)
