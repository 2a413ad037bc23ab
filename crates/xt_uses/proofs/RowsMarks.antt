-- EXCSAVE1 to EXCSAVE7 and MISC0 to MISC3: what a write of one of them sets.
use Rattle.std.proofs.Common.{◌≡◌, ℕ, ◌<◌, ◌≤◌, ◌⊎◌, inl, inr, ⊎_elim, Bool, true, false, ◌&&◌, leb, eqb, Some, None, cond, refl, arith}
use Rattle.std.proofs.lemmas.Bool.{and_parts, or_cases, eqb-true, leb-true, false_from_ne_true}
use Rattle.xt_special.specs.declared.ps.Ps.{Ps}
use Rattle.xt_special.specs.Control.{ps_of, ps_word}
use Rattle.xt_special.specs.Access.{value_kept, written_by, ps_written, is_ccompare, is_eps, set_to, no_set}
use Rattle.xt_rows.specs.declared.outcome.WindowRegister.{WindowRegister}
use Rattle.xt_rows.specs.declared.outcome.WindowRegister.TheVariants as window
use Rattle.xt_rows.specs.Effects.{window_register}
use Rattle.xt_frames.specs.Marks.{holds_marks}
use Rattle.xt_uses.specs.Used.{holds_owb}

marked_range : (n : ℕ) → holds_marks n ≡ true → ((209 ≤ n) × (n ≤ 215)) ⊎ ((244 ≤ n) × (n ≤ 247))
marked_range n h = ⊎_elim
    (λ a. let p = and_parts (leb 209 n) (leb n 215) a in inl (leb-true 209 n p.0, leb-true n 215 p.1))
    (λ b. let p = and_parts (leb 244 n) (leb n 247) b in inr (leb-true 244 n p.0, leb-true n 247 p.1))
    (or_cases (leb 209 n && leb n 215) (leb 244 n && leb n 247) h)

-- none of them has a number below 209, or from 216 to 243
low_apart : (n k : ℕ) → holds_marks n ≡ true → k < 209 → eqb n k ≡ false
low_apart n k h low = false_from_ne_true (eqb n k) (λ e. let same = eqb-true n k e in ⊎_elim (λ r. let s = r.0 in omega arith) (λ r. let s = r.0 in omega arith) (marked_range n h))

high_apart : (n k : ℕ) → holds_marks n ≡ true → 215 < k → k < 244 → eqb n k ≡ false
high_apart n k h low high = false_from_ne_true (eqb n k) (λ e. let same = eqb-true n k e in ⊎_elim (λ r. let s = r.1 in omega arith) (λ r. let s = r.0 in omega arith) (marked_range n h))

no_ccompare : (n : ℕ) → holds_marks n ≡ true → is_ccompare n ≡ false
no_ccompare n h = false_from_ne_true (is_ccompare n) (λ e.
    let q = and_parts (leb 240 n) (leb n 242) e in
    let x = leb-true 240 n q.0 in
    let y = leb-true n 242 q.1 in
    ⊎_elim (λ r. let s = r.1 in omega arith) (λ r. let s = r.0 in omega arith) (marked_range n h))

no_eps : (n : ℕ) → holds_marks n ≡ true → is_eps n ≡ false
no_eps n h = false_from_ne_true (is_eps n) (λ e.
    let q = and_parts (leb 194 n) (leb n 199) e in
    let y = leb-true n 199 q.1 in
    ⊎_elim (λ r. let s = r.0 in omega arith) (λ r. let s = r.0 in omega arith) (marked_range n h))

-- a write of one sets it alone, to what is written
pub marked_set : (n x v : ℕ) → holds_marks n ≡ true → written_by n x v ≡ (set_to n x, no_set, no_set)
unfolding value_kept
marked_set n x v h =
    rw (
      high_apart n 230 h (omega arith) (omega arith),
      no_ccompare n h,
      high_apart n 227 h (omega arith) (omega arith),
      low_apart n 3 h (omega arith),
      high_apart n 232 h (omega arith) (omega arith),
      low_apart n 4 h (omega arith),
      high_apart n 231 h (omega arith) (omega arith),
      high_apart n 228 h (omega arith) (omega arith),
      no_eps n h,
      high_apart n 226 h (omega arith) (omega arith),
    ) refl

pub marked_ps : (n x : ℕ) (ps : Ps) → holds_marks n ≡ true → ps_written n x ps ≡ ps
marked_ps n x ps h = rw (high_apart n 230 h (omega arith) (omega arith)) refl

-- WINDOWBASE and WINDOWSTART are none of them
pub window_unmarked : (n : ℕ) (w : WindowRegister) → window_register n ≡ Some w → holds_marks n ≡ false
window_unmarked n w e = false_from_ne_true (holds_marks n) (λ h. by_tests (eqb n 72) (eqb n 73) (low_apart n 72 h (omega arith)) (low_apart n 73 h (omega arith)) e)
  where
    by_tests : (b c : Bool) → b ≡ false → c ≡ false → cond b (Some window.Base) (cond c (Some window.Start) None) ≡ Some w → ⊥
    by_tests true c p q h = absurd cc
    by_tests false true p q h = absurd cc
    by_tests false false p q h = absurd cc

-- ---- EPS2 to EPS7
eps_range : (n : ℕ) → is_eps n ≡ true → (194 ≤ n) × (n ≤ 199)
eps_range n h = let p = and_parts (leb 194 n) (leb n 199) h in (leb-true 194 n p.0, leb-true n 199 p.1)

eps_apart : (n k : ℕ) → is_eps n ≡ true → (k < 194) ⊎ (199 < k) → eqb n k ≡ false
eps_apart n k h far = false_from_ne_true (eqb n k) (λ e. let same = eqb-true n k e in let r = eps_range n h in let lo = r.0 in let hi = r.1 in ⊎_elim (λ low. omega arith) (λ high. omega arith) far)

eps_no_ccompare : (n : ℕ) → is_eps n ≡ true → is_ccompare n ≡ false
eps_no_ccompare n h = false_from_ne_true (is_ccompare n) (λ e. let q = and_parts (leb 240 n) (leb n 242) e in let x = leb-true 240 n q.0 in let r = eps_range n h in let hi = r.1 in omega arith)

pub eps_unmarked : (n : ℕ) → is_eps n ≡ true → holds_marks n ≡ false
eps_unmarked n h = false_from_ne_true (holds_marks n) (λ m. let r = eps_range n h in let hi = r.1 in ⊎_elim (λ s. let lo = s.0 in omega arith) (λ s. let lo = s.0 in omega arith) (marked_range n m))

-- a write of one sets it alone, to what PS keeps of what is written
pub eps_set : (n x v : ℕ) → is_eps n ≡ true → written_by n x v ≡ (set_to n (ps_word (ps_of x)), no_set, no_set)
unfolding value_kept
eps_set n x v h =
    rw (
      eps_apart n 230 h (inr (omega arith)),
      eps_no_ccompare n h,
      eps_apart n 227 h (inr (omega arith)),
      eps_apart n 3 h (inl (omega arith)),
      eps_apart n 232 h (inr (omega arith)),
      eps_apart n 4 h (inl (omega arith)),
      eps_apart n 231 h (inr (omega arith)),
      eps_apart n 228 h (inr (omega arith)),
      h,
    ) refl

-- ---- PS and EPS2 to EPS7, which hold OWB, are neither WINDOWBASE nor WINDOWSTART
pub window_counts : (n : ℕ) (w : WindowRegister) → window_register n ≡ Some w → holds_owb n ≡ false
window_counts n w e = false_from_ne_true (holds_owb n) (λ h. by_tests (eqb n 72) (eqb n 73) (far n 72 h (omega arith)) (far n 73 h (omega arith)) e)
  where
    far : (n k : ℕ) → holds_owb n ≡ true → k < 194 → eqb n k ≡ false
    far n k h low = ⊎_elim
        (λ ps. false_from_ne_true (eqb n k) (λ e. let same = eqb-true n k e in let is = eqb-true n 230 ps in omega arith))
        (λ eps. eps_apart n k eps (inl low))
        (or_cases (eqb n 230) (is_eps n) h)

    by_tests : (b c : Bool) → b ≡ false → c ≡ false → cond b (Some window.Base) (cond c (Some window.Start) None) ≡ Some w → ⊥
    by_tests true c p q h = absurd cc
    by_tests false true p q h = absurd cc
    by_tests false false p q h = absurd cc
