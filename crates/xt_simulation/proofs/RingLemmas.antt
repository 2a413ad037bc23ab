-- The ring: which bits are set, and that a write above the callers' registers keeps them.
use Rattle.std.proofs.Common.{◌≡◌, ℕ, ◌+◌, ◌*◌, ◌%◌, ◌<◌, ◌≤◌, ◌≢◌, true, false, eqb, List, [], ◌∷◌, Option, Some, None, sym, ◌∙◌, refl, arith, ⊎_elim, length, get_or}
use Rattle.std.proofs.Math.ListN.{set}
use Rattle.std.proofs.lemmas.Bool.{eqb-true, eq-eqb, cases_lt, or_cases, or_right, or_left, false_from_ne_true}
use Rattle.std.proofs.lemmas.List.{get_or-set_other, get_or_past}
use Rattle.xt_frames.specs.Frames.{Frame, windows_moved}
use Rattle.xt_simulation.specs.Ring.{stands, InRing}
use Rattle.xt_simulation.specs.InHandlers.{Holds}
use Rattle.xt_frames.specs.Stacks.{AreFrames}
use Rattle.xt_window.specs.Ring.{place}
use Rattle.xt_simulation.proofs.Modular.{one_place}

pub some_within : {X : Type 0} (xs : List (Option X)) (i : ℕ) (v : X) → get_or xs i None ≡ Some v → i < length xs
some_within xs i v e =
    ⊎_elim (λ h. h) (λ h. let n : None ≡ Some v = sym (get_or_past xs i None h) ∙ e in cc) (cases_lt i (length xs))

-- ---- which windows stand
pub stands_within : (w : ℕ) (ring : List Frame) (low : ℕ) → stands w ring low ≡ true → (low ≤ w) × (w ≤ windows_moved ring + low)
stands_within w [] low e = let same = eqb-true w low e in (omega arith, omega arith)
stands_within w (f ∷ fs) low e =
    ⊎_elim
    (λ h. let same = eqb-true w (f.by + windows_moved fs + low) h in (omega arith, omega arith))
    (λ h. let rest = stands_within w fs low h in (rest.0, omega arith))
    (or_cases (eqb w (f.by + windows_moved fs + low)) (stands w fs low) e)

pub stands_above : (w : ℕ) (ring : List Frame) (low : ℕ) → windows_moved ring + low < w → stands w ring low ≡ false
stands_above w ring low h = false_from_ne_true (stands w ring low) (λ e. let b = stands_within w ring low e in omega arith)

pub stands_newest : (ring : List Frame) (low : ℕ) → stands (windows_moved ring + low) ring low ≡ true
stands_newest [] low = eq-eqb (0 + low) low (omega arith)
stands_newest (f ∷ fs) low = or_left (eqb (f.by + windows_moved fs + low) (f.by + windows_moved fs + low)) (stands (f.by + windows_moved fs + low) fs low) (eq-eqb _ _ refl)

pub stands_lowest : (ring : List Frame) (low : ℕ) → stands low ring low ≡ true
stands_lowest [] low = eq-eqb low low refl
stands_lowest (f ∷ fs) low = or_right _ _ (stands_lowest fs low)

-- ---- a write above the callers' registers
pub holds_set : (regs : List ℕ) (kept : List (Option ℕ)) (w p v : ℕ) → 4 * w + length kept ≤ p → p < 4 * w + 64 → Holds regs kept w → Holds (set regs (p % 64) v) kept w
holds_set regs kept w p v above below h i u e =
    let within = some_within kept i u e in
    let apart : place w i ≢ p % 64 = λ same. let one = one_place (4 * w + i) p (omega arith) (omega arith) same in omega arith in
    get_or-set_other regs (p % 64) (place w i) v 0 apart ∙ h i u e

pub in_ring_set : (regs : List ℕ) (ring : List Frame) (low p v : ℕ) → AreFrames ring → 4 * (windows_moved ring + low) ≤ p → p < 4 * low + 64 → InRing regs ring low → InRing (set regs (p % 64) v) ring low
in_ring_set regs [] low p v shaped above below h = tt
in_ring_set regs (f ∷ fs) low p v shaped above below h =
    let k = shaped.0.keeps in (
      holds_set regs f.kept (windows_moved fs + low) p v (omega arith) (omega arith) h.0,
      in_ring_set regs fs low p v shaped.1 (omega arith) below h.1,
    )
