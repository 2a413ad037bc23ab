-- What a return finds behind the newest window.
use Rattle.std.proofs.Common.{◌≡◌, ℕ, ◌+◌, ◌-◌, ◌<◌, true, false, eqb, List, [], ◌∷◌, Option, ◌∙◌, refl, arith}
use Rattle.std.proofs.lemmas.Bool.{ne_eqb, or_right, or_from}
use Rattle.xt_frames.specs.Frames.{Frame, windows_moved}
use Rattle.xt_simulation.specs.Ring.{stands, Windows}
use Rattle.xt_window.specs.Moves.{behind}
use Rattle.xt_window.specs.Ring.{bit, first_of_three}
use Rattle.xt_simulation.proofs.RingLemmas.{stands_above, stands_newest}
use Rattle.xt_simulation.proofs.WindowLemmas.{three_cases, bit_is}

module _ {regs : List ℕ} {base start : ℕ} {seen : List (Option ℕ)} {f : Frame} {ring : List Frame} {low : ℕ} (w : Windows regs base start seen (f ∷ ring) low) where
  gap_behind : (k : ℕ) → 0 < k → k < f.by → bit start (base + (16 - k)) ≡ false
  gap_behind k pos below =
      let e = w.based in
      let fit = w.fits in
      let s = w.shaped.0.within in
      bit_is w (base + (16 - k)) (windows_moved (f ∷ ring) + low - k) (omega arith) (omega arith) (omega arith)
      ∙ or_from (eqb (windows_moved (f ∷ ring) + low - k) (f.by + windows_moved ring + low)) (stands (windows_moved (f ∷ ring) + low - k) ring low)
      (ne_eqb _ _ (λ same. omega arith))
      (stands_above (windows_moved (f ∷ ring) + low - k) ring low (omega arith))

  pub caller_bit : bit start (base + (16 - f.by)) ≡ true
  caller_bit =
      let e = w.based in
      let fit = w.fits in
      let s = w.shaped.0.within in
      let p = w.shaped.0.moves in
      bit_is w (base + (16 - f.by)) (windows_moved ring + low) (omega arith) (omega arith) (omega arith)
      ∙ or_right (eqb (windows_moved ring + low) (f.by + windows_moved ring + low)) (stands (windows_moved ring + low) ring low) (stands_newest ring low)

  pub caller_behind : behind start base ≡ f.by
  unfolding behind
  caller_behind =
      let s = w.shaped.0 in
      let at = caller_bit in
      three_cases (λ n. f.by ≡ n → first_of_three (bit start (base + 15)) (bit start (base + 14)) (bit start (base + 13)) ≡ n) f.by s.moves s.within
      (λ one. let t : bit start (base + 15) ≡ true = rw one at at in rw t refl)
      (λ two.
      let g : bit start (base + 15) ≡ false = gap_behind 1 (omega arith) (omega arith) in
      let t : bit start (base + 14) ≡ true = rw two at at in
      rw (g, t) refl)
      (λ three.
      let g : bit start (base + 15) ≡ false = gap_behind 1 (omega arith) (omega arith) in
      let h : bit start (base + 14) ≡ false = gap_behind 2 (omega arith) (omega arith) in
      let t : bit start (base + 13) ≡ true = rw three at at in
      rw (g, h, t) refl)
      refl

module _ {regs : List ℕ} {base start : ℕ} {seen : List (Option ℕ)} {low : ℕ} (w : Windows regs base start seen [] low) where
  pub free_behind : (k : ℕ) → 0 < k → k < 16 → bit start (base + (16 - k)) ≡ false
  free_behind k pos small =
      let e = w.based in
      bit_is w (base + (16 - k)) (low + 16 - k) (omega arith) (omega arith) (omega arith) ∙ ne_eqb _ _ (λ same. omega arith)

  pub none_behind : behind start base ≡ 0
  unfolding behind
  none_behind =
      let a : bit start (base + 15) ≡ false = free_behind 1 (omega arith) (omega arith) in
      let b : bit start (base + 14) ≡ false = free_behind 2 (omega arith) (omega arith) in
      let c : bit start (base + 13) ≡ false = free_behind 3 (omega arith) (omega arith) in
      rw (a, b, c) refl
