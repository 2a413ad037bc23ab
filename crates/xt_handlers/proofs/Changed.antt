-- Which registers a handler may change.
use Rattle.std.proofs.Common.{◌≡◌, ◌≢◌, ⊎_elim, ℕ, ◌+◌, ◌-◌, ◌*◌, ◌%◌, ◌<◌, ◌≤◌, sym, ◌∙◌, ap, arith, get_or}
use Rattle.std.proofs.lemmas.Bool.{cases_lt}
use Rattle.xt_handlers.specs.Machines.{Machine, place}
use Rattle.xt_handlers.specs.HandlerInvariants.{KeepsRegisters}

-- how far a register stands above the window's base
above : ℕ → ℕ → ℕ
above base p = (p + 64 - 4 * base % 64) % 64

above_is : (base p : ℕ) → p < 64 → place base (above base p) ≡ p
unfolding above
above_is base p h = omega arith

above_below : (base p : ℕ) → above base p < 64
unfolding above
above_below base p = omega arith

place_once : (base i j : ℕ) → i < 64 → j < 64 → place base i ≡ place base j → i ≡ j
place_once base i j hi hj e = omega arith

pub others_stay : (n : ℕ) (start end : Machine) (p : ℕ) → KeepsRegisters n start end → p < 64 → ((i : ℕ) → i < 4 * n → p ≢ place start.base i) →
    get_or end.ring p 0 ≡ get_or start.ring p 0
others_stay n start end p k l far =
    let d = above start.base p in
    let at : place start.base d ≡ p = above_is start.base p l in
    ⊎_elim
    (λ h. ⊎_elim
    (λ low. absurd (far d low (sym at)))
    (λ high. sym (ap (λ q. get_or end.ring q 0) (ap (λ b. place b d) k.base ∙ at)) ∙ (k.kept d high h ∙ ap (λ q. get_or start.ring q 0) at))
    (cases_lt d (4 * n)))
    (λ h. k.hidden p l (λ i hi e.
    let same : i ≡ d = place_once start.base i d (omega arith) (above_below start.base p) (sym e ∙ sym at) in
    omega arith))
    (cases_lt d 16)

apart_from : (base at n p i : ℕ) → base ≡ at % 16 → 4 * (at + n) ≤ p → p < 4 * at + 64 → i < 4 * n → p % 64 ≢ place base i
apart_from base at n p i e low high h q = omega arith

-- the same by window numbers that are never reduced
pub others_stay_above : (n at : ℕ) (start end : Machine) (p : ℕ) → KeepsRegisters n start end → start.base ≡ at % 16 → 4 * (at + n) ≤ p → p < 4 * at + 64 →
    get_or end.ring (p % 64) 0 ≡ get_or start.ring (p % 64) 0
others_stay_above n at start end p k e low high =
    others_stay n start end (p % 64) k (omega arith) (λ i h. apart_from start.base at n p i e low high h)
