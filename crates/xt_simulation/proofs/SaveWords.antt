-- The words that a handler stores or loads are those of the moved frame's save areas, and its window stands or does not.
use Rattle.std.proofs.Common.{◌≡◌, ⊎_elim, inl, inr, ℕ, ◌+◌, ◌-◌, ◌*◌, ◌%◌, ◌<◌, ◌≤◌, Bool, true, false, ltb, eqb, sym, refl, ◌∙◌, ap, arith, List, [], ◌∷◌, ◌++◌}
use Rattle.std.proofs.lemmas.Bool.{cases_lt, cond-true, cond-false, lt-ltb, le-ltb, or_right, eq-eqb, ne_eqb}
use Rattle.xt_exec.specs.State.{State}
use Rattle.xt_window.specs.Ring.{bit}
use Rattle.xt_frames.specs.Frames.{Frame, FrameState, windows_moved}
use Rattle.xt_frames.specs.Breaches.{Bounds}
use Rattle.xt_handlers.specs.declared.stretch.Side.{Side}
use Rattle.xt_handlers.specs.declared.stretch.Side.TheVariants.{Overflow, Underflow}
use Rattle.xt_handlers.specs.Needs.{save_word}
use Rattle.xt_handlers.specs.Machines.{Machine, address_of}
use Rattle.xt_handlers.specs.Frames.{HasFrames, IsOwn, IsOwnByte}
use Rattle.xt_handlers.proofs.Places.{saves_own}
use Rattle.xt_handlers.proofs.Joins.{save_low, save_high}
use Rattle.xt_simulation.specs.InHandlers.{start_of, above, saved_at, InAreas}
use Rattle.xt_simulation.specs.Handling.{Begins}
use Rattle.xt_simulation.proofs.Modular.{bit_at_window}
use Rattle.xt_simulation.proofs.Closed.{stands_end}
use Rattle.xt_simulation.proofs.RingLemmas.{stands_above}
use Rattle.xt_simulation.proofs.Begun.{Found, own_live}

-- a byte of a save word is the frame's own
pub save_covers : (side : Side) (n : ℕ) (start : Machine) (f : HasFrames side n start) (k a : ℕ) → k < 4 * n → address_of start (save_word side n k) ≤ a → a < address_of start (save_word side n k) + 4 → IsOwnByte side n start a
save_covers side n start f k a l low up = bytes_of (saves_own side n k start f l)
  where
    bytes_of : IsOwn side n start (address_of start (save_word side n k)) → IsOwnByte side n start a
    bytes_of (inl h) = inl (omega (arith, h.0), omega (arith, h.1))
    bytes_of (inr (two, inl h)) = inr (two, inl (omega (arith, h.0), omega (arith, h.1)))
    bytes_of (inr (two, inr h)) = inr (two, inr (omega (arith, h), omega (arith, h)))

module _ {side : Side} {opened : ℕ → ℕ} {b : Bounds} {before : State} {f : FrameState} {front : List Frame} {g : Frame} {rest : List Frame} (r : Found side opened b before f front g rest) where
  save_at : (k : ℕ) → k < 4 * g.by → address_of (start_of before opened rest) (save_word side g.by k) ≡ saved_at b f (above side front) g rest k
  save_at k l = ⊎_elim
      (λ low. save_low side g.by k (start_of before opened rest) r.frames low ∙ (ap (λ x. x - 16 + 4 * k) r.callee ∙ sym (cond-true (ltb k 4) _ _ (lt-ltb k 4 low))))
      (λ high. save_high side g.by k (start_of before opened rest) r.frames high l ∙ (ap (λ x. x - 16 * g.by + 4 * (k - 4)) r.top ∙ sym (cond-false (ltb k 4) _ _ (le-ltb k 4 high))))
      (cases_lt k 4)

  pub in_areas : InAreas b f side (above side front) g rest (start_of before opened rest)
  in_areas = record {
    addresses = save_at;
    live = λ k a l low up.
        let at = save_at k l in
        own_live r a (save_covers side g.by (start_of before opened rest) r.frames k a l (rw at low) (rw at up));
  }

-- the bit of WINDOWSTART before a stretch
pub stood_before : (side : Side) (m : ℕ → ℕ) (b : Bounds) (lost : ℕ → Bool) (s : State) (f : FrameState) (front : List Frame) (g : Frame) (rest : List Frame) → Begins side m b lost s f front g rest → side ≡ Overflow → bit s.start (windows_moved rest) ≡ true
stood_before Overflow m b lost s f front g rest l e =
    l.plain.windows.bits (windows_moved rest) (omega arith) (omega arith)
    ∙ (stands_end (windows_moved rest) front g (windows_moved rest) ∙ or_right _ (eqb (windows_moved rest) (windows_moved rest)) (eq-eqb (windows_moved rest) (windows_moved rest) refl))
stood_before Underflow m b lost s f front g rest l e = absurd cc

pub spilled_before : (side : Side) (m : ℕ → ℕ) (b : Bounds) (lost : ℕ → Bool) (s : State) (f : FrameState) (front : List Frame) (g : Frame) (rest : List Frame) → Begins side m b lost s f front g rest → side ≡ Underflow → bit s.start (windows_moved rest) ≡ false
spilled_before Underflow m b lost s f front g rest l e =
    let shape = l.plain.older.0 in
    let pos = shape.moves in
    let small = shape.within in
    bit_at_window s.start (windows_moved rest) (windows_moved rest + 16) (omega arith)
    ∙ (l.plain.windows.bits (windows_moved rest + 16) (omega arith) (omega arith) ∙ ne_eqb (windows_moved rest + 16) (g.by + windows_moved rest) (λ z. omega arith))
spilled_before Overflow m b lost s f front g rest l e = absurd cc

-- ---- which frame it is
moved_both : (xs ys : List Frame) → windows_moved (xs ++ ys) ≡ windows_moved xs + windows_moved ys
moved_both [] ys = omega arith
moved_both (x ∷ xs) ys = let rest = moved_both xs ys in omega arith

pub newest_before : (side : Side) (m : ℕ → ℕ) (b : Bounds) (lost : ℕ → Bool) (s : State) (f : FrameState) (front : List Frame) (g : Frame) (rest : List Frame) → Begins side m b lost s f front g rest → s.base ≡ windows_moved f.frames % 16
newest_before Overflow m b lost s f front g rest l = l.plain.windows.based ∙ ap (λ n. n % 16) (sym (ap windows_moved l.plain.frames ∙ moved_both (front ++ g ∷ []) rest))
newest_before Underflow m b lost s f front g rest l = l.plain.windows.based ∙ ap (λ n. n % 16) (sym (ap windows_moved l.plain.frames ∙ moved_both [] (g ∷ rest)))

pub oldest_before : (side : Side) (m : ℕ → ℕ) (b : Bounds) (lost : ℕ → Bool) (s : State) (f : FrameState) (front : List Frame) (g : Frame) (rest : List Frame) → Begins side m b lost s f front g rest
    → side ≡ Overflow → (w : ℕ) → windows_moved f.frames < w → w < windows_moved rest + 16 → bit s.start w ≡ false
oldest_before Overflow m b lost s f front g rest l e w above_newest below =
    let all : windows_moved f.frames ≡ windows_moved (front ++ g ∷ []) + windows_moved rest = ap windows_moved l.plain.frames ∙ moved_both (front ++ g ∷ []) rest in
    l.plain.windows.bits w (omega arith) (omega arith) ∙ stands_above w (front ++ g ∷ []) (windows_moved rest) (omega arith)
oldest_before Underflow m b lost s f front g rest l e w above_newest below = absurd cc
