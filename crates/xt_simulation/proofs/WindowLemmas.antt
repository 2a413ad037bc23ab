-- What the checks of the window bits find, and that a write, a call and a return keep the windows.
use Rattle.std.proofs.Common.{◌≡◌, ℕ, ◌+◌, ◌-◌, ◌%◌, ◌<◌, ◌≤◌, ◌⊎◌, Bool, true, false, ◌&&◌, eqb, leb, suc, zero, List, [], ◌∷◌, Option, sym, ◌∙◌, refl, arith, inl, inr, ⊎_elim}
use Rattle.std.proofs.lemmas.Bool.{eq-eqb, ne_eqb, cases_lt, or_right, or_left, or_from, and_parts, and_from, le-leb, leb-true, both_ways}
use Rattle.xt_frames.specs.Frames.{Frame, windows_moved}
use Rattle.xt_simulation.specs.Ring.{stands, Windows, oldest_by}
use Rattle.xt_frames.specs.Stacks.{AreFrames}
use Rattle.xt_window.specs.Ring.{bit, first_of_three, ahead, size_at}
use Rattle.xt_simulation.proofs.Modular.{bit_at_window}
use Rattle.xt_simulation.proofs.RingLemmas.{stands_above, stands_lowest}

pub at_or_above : (a b : ℕ) → a ≤ b → (b ≡ a) ⊎ (a < b)
at_or_above a b h = ⊎_elim (λ l. inr l) (λ g. inl (omega arith)) (cases_lt a b)

pub three_cases : (P : ℕ → Type 0) (k : ℕ) → 0 < k → k ≤ 3 → P 1 → P 2 → P 3 → P k
three_cases P zero pos small one two three = absurd (omega arith)
three_cases P (suc zero) pos small one two three = one
three_cases P (suc (suc zero)) pos small one two three = two
three_cases P (suc (suc (suc zero))) pos small one two three = three
three_cases P (suc (suc (suc (suc k)))) pos small one two three = absurd (omega arith)

none_found : (x y z : Bool) → first_of_three x y z ≡ 0 → (x ≡ false) × (y ≡ false) × (z ≡ false)
none_found true y z e = absurd (omega (arith, e))
none_found false true z e = absurd (omega (arith, e))
none_found false false true e = absurd (omega (arith, e))
none_found false false false e = (refl, refl, refl)

-- a test that holds is found
none_hit : (q k : ℕ) (p : ℕ → Bool) → 0 < k → k ≤ q → q ≤ 3 → p k ≡ true → first_of_three (leb 1 q && p 1) (leb 2 q && p 2) (leb 3 q && p 3) ≡ 0 → ⊥
none_hit q k p pos within small t e =
    let f = none_found (leb 1 q && p 1) (leb 2 q && p 2) (leb 3 q && p 3) e in
    three_cases (λ j. j ≤ q → p j ≡ true → ⊥) k pos (omega arith)
    (λ h u. both_ways _ f.0 (and_from _ _ (le-leb 1 q h) u))
    (λ h u. both_ways _ f.1 (and_from _ _ (le-leb 2 q h) u))
    (λ h u. both_ways _ f.2 (and_from _ _ (le-leb 3 q h) u))
    within t

abbrev Found : Bool → Bool → Bool → ℕ → Type 0
Found x y z n = ((n ≡ 1) × (x ≡ true)) ⊎ (((n ≡ 2) × (x ≡ false) × (y ≡ true)) ⊎ ((n ≡ 3) × (x ≡ false) × (y ≡ false) × (z ≡ true)))

found : (x y z : Bool) (n : ℕ) → 0 < n → first_of_three x y z ≡ n → Found x y z n
found true y z n pos e = inl (sym e, refl)
found false true z n pos e = inr (inl (sym e, refl, refl))
found false false true n pos e = inr (inr (sym e, refl, refl, refl))
found false false false n pos e = absurd (omega (arith, e))

not_both : (b c : Bool) → b ≡ true → (b && c) ≡ false → c ≡ false
not_both true c t f = f
not_both false c t f = absurd (both_ways false refl t)

-- the least test that holds
found_at : (q n : ℕ) (p : ℕ → Bool) → 0 < n → first_of_three (leb 1 q && p 1) (leb 2 q && p 2) (leb 3 q && p 3) ≡ n → (n ≤ q) × (n ≤ 3) × (p n ≡ true) × ((k : ℕ) → 0 < k → k < n → p k ≡ false)
found_at q n p pos e =
    ⊎_elim
    (λ h.
    let a = and_parts (leb 1 q) (p 1) h.1 in
    let l = leb-true 1 q a.0 in
    let same = h.0 in
    let at : p n ≡ true = rw same a.1 in
    (omega arith, omega arith, at, λ k up below. absurd (omega arith)))
    (λ h. ⊎_elim
    (λ h2.
    let a = and_parts (leb 2 q) (p 2) h2.2 in
    let l = leb-true 2 q a.0 in
    let same = h2.0 in
    let at : p n ≡ true = rw same a.1 in
    let f1 = not_both (leb 1 q) (p 1) (le-leb 1 q (omega arith)) h2.1 in
    (omega arith, omega arith, at, λ k up below. let one : k ≡ 1 = omega arith in rw one f1))
    (λ h3.
    let a = and_parts (leb 3 q) (p 3) h3.3 in
    let l = leb-true 3 q a.0 in
    let same = h3.0 in
    let at : p n ≡ true = rw same a.1 in
    let f1 = not_both (leb 1 q) (p 1) (le-leb 1 q (omega arith)) h3.1 in
    let f2 = not_both (leb 2 q) (p 2) (le-leb 2 q (omega arith)) h3.2 in (
      omega arith,
      omega arith,
      at,
      λ k up below. ⊎_elim (λ one. rw one f1) (λ more. let two : k ≡ 2 = omega arith in rw two f2) (at_or_above 1 k up),
    ))
    h)
    (found (leb 1 q && p 1) (leb 2 q && p 2) (leb 3 q && p 3) n pos e)

-- ---- gaps between windows
oldest_moves : (ring : List Frame) → oldest_by ring ≤ windows_moved ring
oldest_moves [] = omega arith
oldest_moves (f ∷ []) = omega arith
oldest_moves (f ∷ (g ∷ fs)) = let h = oldest_moves (g ∷ fs) in omega arith

pub oldest_within : (ring : List Frame) → AreFrames ring → 0 < windows_moved ring → (0 < oldest_by ring) × (oldest_by ring ≤ 3)
oldest_within [] shaped h = (omega arith, omega arith)
oldest_within (f ∷ []) shaped h = (shaped.0.moves, shaped.0.within)
oldest_within (f ∷ (g ∷ fs)) shaped h = let m = shaped.1.0.moves in oldest_within (g ∷ fs) shaped.1 (omega arith)

-- no window stands between the oldest and its callee
pub stands_gap : (ring : List Frame) (low j : ℕ) → AreFrames ring → 0 < j → j < oldest_by ring → stands (low + j) ring low ≡ false
stands_gap [] low j shaped pos h = ne_eqb _ _ (λ e. omega arith)
stands_gap (f ∷ []) low j shaped pos h =
    or_from (eqb (low + j) (f.by + 0 + low)) (eqb (low + j) low) (ne_eqb _ _ (λ e. omega arith)) (ne_eqb _ _ (λ e. omega arith))
stands_gap (f ∷ (g ∷ fs)) low j shaped pos h =
    let m = oldest_moves (g ∷ fs) in
    let p = shaped.0.moves in
    or_from (eqb (low + j) (f.by + windows_moved (g ∷ fs) + low)) (stands (low + j) (g ∷ fs) low) (ne_eqb _ _ (λ e. omega arith)) (stands_gap (g ∷ fs) low j shaped.1 pos h)

pub stands_next : (ring : List Frame) (low : ℕ) → 0 < windows_moved ring → AreFrames ring → stands (low + oldest_by ring) ring low ≡ true
stands_next [] low h shaped = absurd (omega arith)
stands_next (f ∷ []) low h shaped = or_left (eqb (low + f.by) (f.by + 0 + low)) (eqb (low + f.by) low) (eq-eqb _ _ (omega arith))
stands_next (f ∷ (g ∷ fs)) low h shaped =
    let p = shaped.1.0.moves in
    or_right (eqb (low + oldest_by (g ∷ fs)) (f.by + windows_moved (g ∷ fs) + low)) (stands (low + oldest_by (g ∷ fs)) (g ∷ fs) low) (stands_next (g ∷ fs) low (omega arith) shaped.1)

-- ---- what the checks find
module _ {regs : List ℕ} {base start : ℕ} {seen : List (Option ℕ)} {ring : List Frame} {low : ℕ} (w : Windows regs base start seen ring low) where
  -- a bit, of any window number that stands for the same window as one of the sixteen
  pub bit_is : (a b : ℕ) → a % 16 ≡ b % 16 → low ≤ b → b < low + 16 → bit start a ≡ stands b ring low
  bit_is a b e at_least below = bit_at_window start a b e ∙ w.bits b at_least below

  pub free_ahead : (k : ℕ) → 0 < k → windows_moved ring + k < 16 → bit start (base + k) ≡ false
  free_ahead k pos h =
      let e = w.based in
      bit_is (base + k) (windows_moved ring + low + k) (omega arith) (omega arith) (omega arith) ∙ stands_above (windows_moved ring + low + k) ring low (omega arith)

  pub oldest_ahead : (k : ℕ) → windows_moved ring + k ≡ 16 → bit start (base + k) ≡ true
  oldest_ahead k h =
      let e = w.based in
      bit_is (base + k) low (omega arith) (omega arith) (omega arith) ∙ stands_lowest ring low

  gap_after : (k j : ℕ) → windows_moved ring + k ≡ 16 → 0 < j → j < oldest_by ring → oldest_by ring ≤ 3 → bit start (base + k + j) ≡ false
  gap_after k j h pos below within =
      let e = w.based in
      bit_is (base + k + j) (low + j) (omega arith) (omega arith) (omega arith) ∙ stands_gap ring low j w.shaped pos below

  next_after : (k : ℕ) → windows_moved ring + k ≡ 16 → k ≤ 3 → oldest_by ring ≤ 3 → bit start (base + k + oldest_by ring) ≡ true
  next_after k h small within =
      let e = w.based in
      bit_is (base + k + oldest_by ring) (low + oldest_by ring) (omega arith) (omega arith) (omega arith) ∙ stands_next ring low (omega arith) w.shaped

  -- an overflow's vector is that of the ring's oldest caller
  pub size_at_oldest : (k : ℕ) → k ≤ 3 → windows_moved ring + k ≡ 16 → size_at start (base + k) ≡ oldest_by ring
  unfolding size_at
  size_at_oldest k within h =
      let o = oldest_within ring w.shaped (omega arith) in
      let next = next_after k h within o.1 in
      ⊎_elim
      (λ one. let t : bit start (base + k + 1) ≡ true = rw one at next in rw t (sym one))
      (λ more.
      let f : bit start (base + k + 1) ≡ false = gap_after k 1 h (omega arith) more o.1 in
      ⊎_elim
      (λ two. let t : bit start (base + k + 2) ≡ true = rw two at next in rw (f, t) (sym two))
      (λ three.
      let g : bit start (base + k + 2) ≡ false = gap_after k 2 h (omega arith) three o.1 in
      rw (f, g) (let e : 3 ≡ oldest_by ring = omega arith in e))
      (at_or_above 2 (oldest_by ring) more))
      (at_or_above 1 (oldest_by ring) o.0)

  -- the window check passes where there is room for the windows that it looks at
  pub passes : (q : ℕ) → q ≤ 3 → ahead start base q ≡ 0 → windows_moved ring + q < 16
  unfolding ahead
  passes q small h =
      ⊎_elim
      (λ room. room)
      (λ full.
      let f = w.fits in
      let at : bit start (base + (16 - windows_moved ring)) ≡ true = oldest_ahead (16 - windows_moved ring) (omega arith) in
      absurd (none_hit q (16 - windows_moved ring) (λ k. bit start (base + k)) (omega arith) (omega arith) small at h))
      (cases_lt (windows_moved ring + q) 16)

  -- where it hits, it hits the oldest window
  pub hits : (q n : ℕ) → 0 < n → ahead start base q ≡ n → (n ≤ q) × (n ≤ 3) × (windows_moved ring + n ≡ 16)
  unfolding ahead
  hits q n pos h =
      let f = found_at q n (λ k. bit start (base + k)) pos h in
      let fit = w.fits in
      ⊎_elim
      (λ low_side. absurd (both_ways _ (free_ahead n pos low_side) f.2))
      (λ rest. ⊎_elim
      (λ same. (f.0, f.1, same))
      (λ above. absurd (both_ways _ (f.3 (16 - windows_moved ring) (omega arith) (omega arith)) (oldest_ahead (16 - windows_moved ring) (omega arith))))
      (at_or_above 16 (windows_moved ring + n) rest))
      (cases_lt (windows_moved ring + n) 16)
