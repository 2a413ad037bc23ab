-- A write, a call and a return keep the windows.
use Rattle.std.proofs.Common.{◌≡◌, ℕ, ◌+◌, ◌-◌, ◌*◌, ◌/◌, ◌<◌, ◌≤◌, ◌≢◌, ◌⊎◌, false, ◌||◌, eqb, List, ◌∷◌, ◌++◌, Option, Some, None, sym, ◌∙◌, refl, arith, inl, inr, ⊎_elim, length, get_or, take, drop, replicate}
use Rattle.std.proofs.Math.ListN.{set}
use Rattle.std.proofs.lemmas.Bool.{eq-eqb, ne_eqb, cases_eq, cases_lt, or_left}
use Rattle.std.proofs.lemmas.List.{get_or-set_same, get_or-set_other, length-set, get_or_past, length-append, length-take, length-drop, length-replicate, get_or-take, get_or-drop, get_or_append_left, get_or-append_right, get_or-replicate}
use Rattle.xt_frames.specs.Frames.{Frame, windows_moved, seen_after_call, seen_after_return}
use Rattle.xt_simulation.specs.Ring.{stands, Windows}
use Rattle.xt_window.specs.Moves.{base_after_call, base_after_return}
use Rattle.xt_window.specs.Ring.{place, visible, bit, with_bit, without_bit}
use Rattle.xt_simulation.proofs.Modular.{one_window, one_place, place_at, place_below, bit_with_same, bit_with_other, bit_without_same, bit_without_other}
use Rattle.xt_simulation.proofs.RingLemmas.{some_within, stands_above, in_ring_set}

-- ---- lists of registers that may have no value
set_some : (seen : List (Option ℕ)) (r v i u : ℕ) → r < length seen → get_or (set seen r (Some v)) i None ≡ Some u → ((i ≡ r) × (v ≡ u)) ⊎ ((i ≡ r → ⊥) × (get_or seen i None ≡ Some u))
set_some seen r v i u within e =
    ⊎_elim
    (λ same. inl (same, let at : get_or (set seen r (Some v)) i None ≡ Some v = rw same (get_or-set_same seen r (Some v) None within) in cc))
    (λ other. inr (other, sym (get_or-set_other seen r i (Some v) None other) ∙ e))
    (cases_eq i r)

-- ---- a write
pub set_here : (regs : List ℕ) (base r v : ℕ) → length regs ≡ 64 → visible (set regs (place base r) v) base r ≡ v
set_here regs base r v all = get_or-set_same regs (place base r) v 0 (let b = place_below base r in omega arith)

pub set_there : (regs : List ℕ) (base r v i : ℕ) → r < 16 → i < 16 → i ≢ r → visible (set regs (place base r) v) base i ≡ visible regs base i
set_there regs base r v i narrow small other =
    let apart : place base i ≢ place base r = λ same. let one = one_place (4 * base + i) (4 * base + r) (omega arith) (omega arith) same in other (omega arith) in
    get_or-set_other regs (place base r) (place base i) v 0 apart

pub written_numbers : (regs : List ℕ) (seen : List (Option ℕ)) (base r v : ℕ) → length regs ≡ 64 → length seen ≡ 16 → r < 16 → ((i u : ℕ) → get_or seen i None ≡ Some u → visible regs base i ≡ u)
    → (i u : ℕ) → get_or (set seen r (Some v)) i None ≡ Some u → visible (set regs (place base r) v) base i ≡ u
written_numbers regs seen base r v all wide narrow old i u e =
    let small = some_within (set seen r (Some v)) i u e in
    let len = length-set seen r (Some v) in
    ⊎_elim
    (λ h. let same = h.0 in rw same (set_here regs base r v all ∙ h.1))
    (λ h. set_there regs base r v i narrow (omega arith) h.0 ∙ old i u h.1)
    (set_some seen r v i u (omega arith) e)

module _ {regs : List ℕ} {base start : ℕ} {seen : List (Option ℕ)} {ring : List Frame} {low : ℕ} (w : Windows regs base start seen ring low) (r v : ℕ) (narrow : r < 16) (free : windows_moved ring + r / 4 < 16) where
  same_place : place base r ≡ place (windows_moved ring + low) r
  same_place = place_at base (windows_moved ring + low) r (let e = w.based in omega arith)

  pub visible_after_write : (i u : ℕ) → get_or (set seen r (Some v)) i None ≡ Some u → get_or (set regs (place (windows_moved ring + low) r) v) (place (windows_moved ring + low) i) 0 ≡ u
  visible_after_write i u e = written_numbers regs seen (windows_moved ring + low) r v w.size w.wide narrow w.visible i u e

  pub room_after_write : (i u : ℕ) → get_or (set seen r (Some v)) i None ≡ Some u → windows_moved ring + i / 4 < 16
  room_after_write i u e =
      let wide = w.wide in
      ⊎_elim (λ h. let same = h.0 in rw same free) (λ h. w.room i u h.1) (set_some seen r v i u (omega arith) e)

  pub written : Windows (set regs (place base r) v) base start (set seen r (Some v)) ring low
  written = record {
    size = length-set regs (place base r) v ∙ w.size;
    wide = length-set seen r (Some v) ∙ w.wide;
    shaped = w.shaped;
    fits = w.fits;
    based = w.based;
    bits = w.bits;
    kept = rw same_place (in_ring_set regs ring low (4 * (windows_moved ring + low) + r) v w.shaped (omega arith) (omega arith) w.kept);
    visible = λ i u e. rw same_place (visible_after_write i u e);
    room = room_after_write;
  }

-- ---- a call
abbrev no_value : Option ℕ
no_value = None

pub none_in : (n i : ℕ) → get_or (replicate n no_value) i None ≡ None
none_in n i = ⊎_elim (λ h. get_or-replicate n i None None h) (λ h. get_or_past (replicate n no_value) i None (let l = length-replicate n no_value in omega arith)) (cases_lt i n)

drop_some : (seen : List (Option ℕ)) (n m i v : ℕ) → length seen ≡ n + m → get_or (drop n seen ++ replicate n None) i None ≡ Some v → get_or seen (n + i) None ≡ Some v
drop_some seen n m i v len e =
    let d = length-drop n seen in
    ⊎_elim
    (λ low_side. sym (get_or_append_left (drop n seen) (replicate n None) None i low_side ∙ get_or-drop n seen i None) ∙ e)
    (λ high. let past = get_or-append_right (drop n seen) (replicate n None) (length (drop n seen)) i None refl high in
    let none = none_in n (i - length (drop n seen)) in
    let bad : None ≡ Some v = sym (past ∙ none) ∙ e in cc)
    (cases_lt i (length (drop n seen)))

take_some : (seen : List (Option ℕ)) (n i v : ℕ) → get_or (take n seen) i None ≡ Some v → (i < n) × (get_or seen i None ≡ Some v)
take_some seen n i v e =
    let within = some_within (take n seen) i v e in
    let l = length-take n seen in
    let below : i < n = omega arith in
    (below, sym (get_or-take n seen i None below) ∙ e)

module _ {regs : List ℕ} {base start : ℕ} {seen : List (Option ℕ)} {ring : List Frame} {low : ℕ} (w : Windows regs base start seen ring low) (n : ℕ) (moves : 0 < n) (within : n ≤ 3) (free : windows_moved ring + n < 16) where
  new_bits : (k : ℕ) → low ≤ k → k < low + 16 → bit (with_bit start (base_after_call base n)) k ≡ (eqb k (n + windows_moved ring + low) || stands k ring low)
  new_bits k at_least below =
      let e = w.based in
      ⊎_elim
      (λ same. bit_with_same start (base_after_call base n) k (omega arith) ∙ sym (or_left (eqb k (n + windows_moved ring + low)) (stands k ring low) (eq-eqb _ _ same)))
      (λ other.
      let f : eqb k (n + windows_moved ring + low) ≡ false = ne_eqb _ _ other in
      bit_with_other start (base_after_call base n) k (λ same. other (one_window k (n + windows_moved ring + low) (omega arith) (omega arith) (omega arith)))
      ∙ (w.bits k at_least below ∙ rw f refl))
      (cases_eq k (n + windows_moved ring + low))

  pub called : Windows regs (base_after_call base n) (with_bit start (base_after_call base n)) (seen_after_call seen n) (record { by = n; kept = take (4 * n) seen } ∷ ring) low
  called =
      let wide = w.wide in
      let e = w.based in
      let d = length-drop (4 * n) seen in
      let r = length-replicate (4 * n) no_value in
      let a = length-append (drop (4 * n) seen) (replicate (4 * n) None) in
      let t = length-take (4 * n) seen in
      record {
        size = w.size;
        wide = (let k : length (drop (4 * n) seen ++ replicate (4 * n) None) ≡ 16 = omega arith in k);
        shaped = (record { moves = moves; within = within; keeps = (let k : length (take (4 * n) seen) ≡ 4 * n = omega arith in k) }, w.shaped);
        fits = omega arith;
        based = omega arith;
        bits = new_bits;
        kept = ((λ i v h. w.visible i v (take_some seen (4 * n) i v h).1), w.kept);
        visible = (λ i v h.
            let s = w.visible (4 * n + i) v (drop_some seen (4 * n) (16 - 4 * n) i v (omega arith) h) in
            let p : place (n + windows_moved ring + low) i ≡ place (windows_moved ring + low) (4 * n + i) = omega arith in
            rw p s);
        room = (λ i v h.
            let s = w.room (4 * n + i) v (drop_some seen (4 * n) (16 - 4 * n) i v (omega arith) h) in
            omega arith);
      }

-- ---- a return
module _ {regs : List ℕ} {base start : ℕ} {seen : List (Option ℕ)} {f : Frame} {ring : List Frame} {low : ℕ} (w : Windows regs base start seen (f ∷ ring) low) where
  old_bits : (k : ℕ) → low ≤ k → k < low + 16 → bit (without_bit start base) k ≡ stands k ring low
  old_bits k at_least below =
      let e = w.based in
      let fit = w.fits in
      let m = w.shaped.0.moves in
      ⊎_elim
      (λ same. bit_without_same start base k (omega arith) ∙ sym (stands_above k ring low (omega arith)))
      (λ other.
      let g : eqb k (f.by + windows_moved ring + low) ≡ false = ne_eqb _ _ other in
      bit_without_other start base k (λ same. other (one_window k (f.by + windows_moved ring + low) (omega arith) (omega arith) (omega arith)))
      ∙ (w.bits k at_least below ∙ rw g refl))
      (cases_eq k (f.by + windows_moved ring + low))

  back_some : (i v : ℕ) → get_or (seen_after_return f.kept seen f.by) i None ≡ Some v → ((i < 4 * f.by) × (get_or f.kept i None ≡ Some v)) ⊎ ((4 * f.by ≤ i) × (i < 16) × (get_or seen (i - 4 * f.by) None ≡ Some v))
  back_some i v e =
      let k = w.shaped.0.keeps in
      ⊎_elim
      (λ low_side. inl (omega arith, sym (get_or_append_left f.kept (take (16 - 4 * f.by) seen) None i low_side) ∙ e))
      (λ high.
      let past = get_or-append_right f.kept (take (16 - 4 * f.by) seen) (length f.kept) i None refl high in
      let t = take_some seen (16 - 4 * f.by) (i - length f.kept) v (sym past ∙ e) in
      let s : i - length f.kept ≡ i - 4 * f.by = omega arith in
      inr (omega arith, omega arith, rw s at t.1))
      (cases_lt i (length f.kept))

  pub returned : Windows regs (base_after_return base f.by) (without_bit start base) (seen_after_return f.kept seen f.by) ring low
  returned =
      let wide = w.wide in
      let e = w.based in
      let fit = w.fits in
      let m = w.shaped.0.moves in
      let s = w.shaped.0.within in
      let k = w.shaped.0.keeps in
      let a = length-append f.kept (take (16 - 4 * f.by) seen) in
      let t = length-take (16 - 4 * f.by) seen in
      record {
        size = w.size;
        wide = (let l : length (f.kept ++ take (16 - 4 * f.by) seen) ≡ 16 = omega arith in l);
        shaped = w.shaped.1;
        fits = omega arith;
        based = omega arith;
        bits = old_bits;
        kept = w.kept.1;
        visible = (λ i v h. ⊎_elim
            (λ mine. w.kept.0 i v mine.1)
            (λ theirs.
            let at = w.visible (i - 4 * f.by) v theirs.2 in
            let p : place (windows_moved ring + low) i ≡ place (f.by + windows_moved ring + low) (i - 4 * f.by) = (let b = theirs.0 in omega arith) in
            rw p at)
            (back_some i v h));
        room = (λ i v h. ⊎_elim
            (λ mine. let b = mine.0 in omega arith)
            (λ theirs. let r = w.room (i - 4 * f.by) v theirs.2 in let b = theirs.0 in omega arith)
            (back_some i v h));
      }
