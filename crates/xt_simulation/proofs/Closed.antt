-- After a handler the relation holds again, with one frame moved.
use Rattle.std.proofs.Common.{◌≡◌, ℕ, ◌+◌, ◌-◌, ◌*◌, ◌%◌, ◌<◌, ◌≤◌, ◌≢◌, Bool, true, false, ◌||◌, ◌&&◌, not, eqb, List, [], ◌∷◌, ◌++◌, Option, sym, ap, ◌∙◌, refl, arith, ⊎_elim, length, get_or, append_assoc}
use Rattle.std.proofs.Math.ListN.{set}
use Rattle.xt_frames.specs.Breaches.{Bounds, lost_of}
use Rattle.std.proofs.Math.Bool.{or-false, or_assoc}
use Rattle.std.proofs.lemmas.Bool.{and_from, and_parts, eq-eqb, ne_eqb, cases_eq, cases_lt, or_left, or_right, or_from, or_parts, or_cases, false_from_ne_true, false≢true}
use Rattle.xt_exec.specs.State.{State}
use Rattle.xt_frames.specs.FrameStep.{with_inputs}
use Rattle.xt_frames.specs.Frames.{Frame, windows_moved, FrameState}
use Rattle.xt_simulation.specs.Closing.{SpillsKeepPlain, FillsKeepPlain}
use Rattle.xt_simulation.specs.Cores.{Related}
use Rattle.xt_simulation.specs.InHandlers.{Resumes, Holds}
use Rattle.xt_simulation.specs.Relation.{Same, Even, Level, Plain, inputs, lost_at, without_epc1, can_be_lost}
use Rattle.xt_simulation.specs.Ring.{stands, InRing, Windows}
use Rattle.xt_frames.specs.Stacks.{IsFrame, AreFrames}
use Rattle.xt_special.specs.Control.{Control}
use Rattle.xt_special.specs.declared.ps.Ps.{Ps}
use Rattle.xt_window.specs.Ring.{place, bit, with_bit, without_bit}
use Rattle.xt_simulation.proofs.Laid.{laid_length, laid_other, relaid, same_relaid}
use Rattle.xt_simulation.proofs.Modular.{one_window, bit_at_window, bit_with_same, bit_with_other, bit_without_same, bit_without_other}
use Rattle.xt_simulation.proofs.RingLemmas.{some_within, stands_within, stands_above}

-- ---- the ring at its old end
pub moved_end : (ring : List Frame) (g : Frame) → windows_moved (ring ++ g ∷ []) ≡ windows_moved ring + g.by
moved_end [] g = omega arith
moved_end (f ∷ fs) g = let h = moved_end fs g in omega arith

pub frames_end : (ring : List Frame) (g : Frame) → AreFrames (ring ++ g ∷ []) → AreFrames ring × IsFrame g
frames_end [] g h = (tt, h.0)
frames_end (f ∷ fs) g h = let r = frames_end fs g h.1 in ((h.0, r.0), r.1)

pub stands_end : (w : ℕ) (ring : List Frame) (g : Frame) (low : ℕ) → stands w (ring ++ g ∷ []) low ≡ (stands w ring (g.by + low) || eqb w low)
stands_end w [] g low = ap (λ x. eqb w x || eqb w low) (let e : g.by + 0 + low ≡ g.by + low = omega arith in e)
stands_end w (f ∷ fs) g low =
    let e : f.by + windows_moved (fs ++ g ∷ []) + low ≡ f.by + windows_moved fs + (g.by + low) = (let m = moved_end fs g in omega arith) in
    let h = stands_end w fs g low in
    ap (λ x. eqb w x || stands w (fs ++ g ∷ []) low) e
    ∙ (ap (λ y. eqb w (f.by + windows_moved fs + (g.by + low)) || y) h
    ∙ sym (or_assoc (eqb w (f.by + windows_moved fs + (g.by + low))) (stands w fs (g.by + low)) (eqb w low)))

pub in_ring_end : (regs : List ℕ) (ring : List Frame) (g : Frame) (low : ℕ) → InRing regs (ring ++ g ∷ []) low → InRing regs ring (g.by + low) × Holds regs g.kept low
in_ring_end regs [] g low h = let e : 0 + low ≡ low = omega arith in (tt, rw e at h.0)
in_ring_end regs (f ∷ fs) g low h =
    let r = in_ring_end regs fs g low h.1 in
    let e : windows_moved (fs ++ g ∷ []) + low ≡ windows_moved fs + (g.by + low) = (let m = moved_end fs g in omega arith) in
    ((rw e at h.0, r.0), r.1)

-- registers above the window that was spilled
in_ring_same : (regs other : List ℕ) (ring : List Frame) (low at : ℕ) → AreFrames ring → at ≤ low → windows_moved ring + low < at + 16 → ((p : ℕ) → 4 * low ≤ p → p < 4 * at + 64 → get_or other (p % 64) 0 ≡ get_or regs (p % 64) 0) → InRing regs ring low → InRing other ring low
in_ring_same regs other [] low at shaped le fit same h = tt
in_ring_same regs other (f ∷ fs) low at shaped le fit same h =
    let k = shaped.0.keeps in (
      (λ i v e. let n = some_within f.kept i v e in same (4 * (windows_moved fs + low) + i) (omega arith) (omega arith) ∙ h.0 i v e),
      in_ring_same regs other fs low at shaped.1 le (omega arith) same h.1,
    )

-- ---- what a handler leaves of the special registers
-- EPC1 aside
not_epc1 : (lost : ℕ → Bool) (k : ℕ) → without_epc1 lost k ≡ false → k ≢ 177
not_epc1 lost k known e = false≢true (sym (or_parts (lost_of false k) (lost k) known).0 ∙ and_from (eqb k 177) true (eq-eqb k 177 e) refl)

can_lose : {lost : ℕ → Bool} {xs ys : List ℕ} → Same lost xs ys → (k : ℕ) → without_epc1 lost k ≡ true → can_be_lost k ≡ true
can_lose {lost = lost} s k h = ⊎_elim
    (λ epc. or_left (eqb k 177) _ (and_parts (eqb k 177) true epc).0)
    (λ other. s.only k other)
    (or_cases (lost_of false k) (lost k) h)

pub same_overlaid : {lost : ℕ → Bool} (xs ys zs : List ℕ) (count bits : ℕ) → Same lost xs (set (set ys 234 count) 226 bits) → length zs ≡ length xs → ((k : ℕ) → k ≢ 177 → k ≢ 226 → k ≢ 234 → get_or zs k 0 ≡ get_or xs k 0) → Same (without_epc1 lost) zs (relaid zs ys)
same_overlaid {lost = lost} xs ys zs count bits e len same =
    same_relaid (without_epc1 lost) zs ys (len ∙ (e.size ∙ laid_length ys count bits)) (can_lose e)
    (λ k known not_bits not_count.
    let before : lost k ≡ false = (or_parts (lost_of false k) (lost k) known).1 in
    same k (not_epc1 lost k known) not_bits not_count ∙ (e.at k before ∙ laid_other ys count bits k not_bits not_count))

resumed : {vecbase : ℕ} {lost : ℕ → Bool} {s : State} {ring spilled : List Frame} (f : FrameState) → Plain vecbase lost s f ring spilled → (t : State) → Resumes s.control t.control → Even (without_epc1 lost) t.control (with_inputs (inputs 0 t) f).control
resumed {s = s} f l t r =
    let e = l.even in
    record {
      pc = r.pc ∙ e.pc;
      ps = r.ps ∙ ap (λ (p : Ps). (let q : Ps = record p { owb = t.control.ps.owb } in q)) e.ps;
      threadptr = r.threadptr ∙ e.threadptr;
      waits = r.waits ∙ e.waits;
      special = same_overlaid s.control.special f.control.special t.control.special _ _ e.special r.size r.special;
    }

-- ---- what is lost, said in another way
pub same_lost : {lost other : ℕ → Bool} {xs ys : List ℕ} → ((k : ℕ) → other k ≡ lost k) → Same lost xs ys → Same other xs ys
same_lost e s = record { size = s.size; only = λ k h. s.only k (sym (e k) ∙ h); at = λ k h. s.at k (sym (e k) ∙ h) }

pub even_lost : {lost other : ℕ → Bool} {c d : Control} → ((k : ℕ) → other k ≡ lost k) → Even lost c d → Even other c d
even_lost e h = record { pc = h.pc; ps = h.ps; threadptr = h.threadptr; waits = h.waits; special = same_lost e h.special }

pub level_lost : {vecbase : ℕ} {lost other : ℕ → Bool} {s : State} {g : FrameState} {ring spilled : List Frame} → ((k : ℕ) → other k ≡ lost k) → Level vecbase lost s g ring spilled → Level vecbase other s g ring spilled
level_lost e l = record { windows = l.windows; frames = l.frames; older = l.older; even = even_lost e l.even; woe = l.woe; calls = l.calls; vectors = l.vectors }

pub related_lost : {m : ℕ → ℕ} {b : Bounds} {lost other : ℕ → Bool} {s : State} {f : FrameState} {ring spilled : List Frame} → ((k : ℕ) → other k ≡ lost k) → Related m b lost s f ring spilled → Related m b other s f ring spilled
related_lost e l = record { plain = level_lost e l.plain; stack = l.stack; saved = l.saved }

epc1_or : (is fresh unset : Bool) → ((is && true) || unset) ≡ ((is && true) || ((is && not fresh) || unset))
epc1_or true fresh unset = refl
epc1_or false fresh unset = refl

-- after a window exception EPC1 is lost, whatever it was before
pub epc1_lost : (fresh : Bool) (f : FrameState) (k : ℕ) → lost_at false f k ≡ without_epc1 (lost_at fresh f) k
epc1_lost fresh f k = epc1_or (eqb k 177) fresh (get_or f.unset k false)

stands_below : (w : ℕ) (ring : List Frame) (low : ℕ) → w < low → stands w ring low ≡ false
stands_below w ring low h = false_from_ne_true (stands w ring low) (λ e. let b = stands_within w ring low e in omega arith)

-- ---- an overflow's handler
module _ {regs : List ℕ} {base start : ℕ} {seen : List (Option ℕ)} {low : ℕ} (ring : List Frame) (g : Frame) (w : Windows regs base start seen (ring ++ g ∷ []) low) (other : List ℕ) (size : length other ≡ length regs) (same : (p : ℕ) → 4 * (low + g.by) ≤ p → p < 4 * low + 64 → get_or other (p % 64) 0 ≡ get_or regs (p % 64) 0) where
  spilled_bits : (k : ℕ) → g.by + low ≤ k → k < g.by + low + 16 → bit (without_bit start low) k ≡ stands k ring (g.by + low)
  spilled_bits k at_least below =
      let shape = frames_end ring g w.shaped in
      let pos = shape.1.moves in
      let m = moved_end ring g in
      let fit = w.fits in
      ⊎_elim
      (λ inside.
      let apart : k % 16 ≡ low % 16 → ⊥ = λ e. let z = one_window k low (omega arith) (omega arith) e in omega arith in
      let n : eqb k low ≡ false = ne_eqb _ _ (λ z. omega arith) in
      bit_without_other start low k apart ∙ (w.bits k (omega arith) inside ∙ (stands_end k ring g low ∙ rw n (or-false (stands k ring (g.by + low))))))
      (λ beyond.
      -- the window is low, or one above it that no frame has
      ⊎_elim
      (λ oldest. bit_without_same start low k (omega arith) ∙ sym (stands_above k ring (g.by + low) (omega arith)))
      (λ gap.
      let apart : k % 16 ≡ low % 16 → ⊥ = λ e. let z = one_window k (low + 16) (omega arith) (omega arith) (omega arith) in gap z in
      let n : eqb (k - 16) low ≡ false = ne_eqb _ _ (λ z. gap (omega arith)) in
      let under = stands_below (k - 16) ring (g.by + low) (omega arith) in
      let b = w.bits (k - 16) (omega arith) (omega arith) in
      let c = stands_end (k - 16) ring g low ∙ or_from _ _ under n in
      bit_without_other start low k apart ∙ (bit_at_window start k (k - 16) (omega arith) ∙ (b ∙ (c ∙ sym (stands_above k ring (g.by + low) (omega arith))))))
      (cases_eq k (low + 16)))
      (cases_lt k (low + 16))

  pub spilled_windows : Windows other base (without_bit start low) seen ring (g.by + low)
  spilled_windows =
      let shape = frames_end ring g w.shaped in
      let pos = shape.1.moves in
      let m = moved_end ring g in
      let fit = w.fits in
      let b = w.based in
      let here : windows_moved (ring ++ g ∷ []) + low ≡ windows_moved ring + (g.by + low) = omega arith in
      record {
        size = size ∙ w.size;
        wide = w.wide;
        shaped = shape.0;
        fits = omega arith;
        based = omega arith;
        bits = spilled_bits;
        kept = in_ring_same regs other ring (g.by + low) low shape.0 (omega arith) (omega arith) (λ p lo hi. same p (omega arith) hi) (in_ring_end regs ring g low w.kept).0;
        visible = λ i v e.
            let room = w.room i v e in
            let at : get_or regs (place (windows_moved ring + (g.by + low)) i) 0 ≡ v = rw here at (w.visible i v e) in
            same (4 * (windows_moved ring + (g.by + low)) + i) (omega arith) (omega arith) ∙ at;
        room = λ i v e. let room = w.room i v e in omega arith;
      }

pub spills : SpillsKeepPlain
spills vecbase lost s t f ring g spilled l c start =
    let w = spilled_windows ring g l.windows t.regs c.size c.others in
    record {
      windows = rw (c.base, start) w;
      frames = l.frames ∙ append_assoc ring (g ∷ []) spilled;
      older = ((frames_end ring g l.windows.shaped).1, l.older);
      even = resumed f l t c.control;
      woe = rw c.control.ps l.woe;
      calls = rw c.control.ps l.calls;
      vectors = c.control.special 231 (λ e. omega arith) (λ e. omega arith) (λ e. omega arith) ∙ l.vectors;
    }

-- ---- an underflow's handler
module _ {regs : List ℕ} {base start : ℕ} {seen : List (Option ℕ)} {low : ℕ} (g : Frame) (w : Windows regs base start seen [] (g.by + low)) (shape : IsFrame g) (other : List ℕ) (size : length other ≡ length regs) (same : (p : ℕ) → 4 * (low + g.by) ≤ p → p < 4 * low + 64 → get_or other (p % 64) 0 ≡ get_or regs (p % 64) 0) (back : Holds other g.kept low) where
  filled_bits : (k : ℕ) → low ≤ k → k < low + 16 → bit (with_bit start low) k ≡ stands k (g ∷ []) low
  filled_bits k at_least below =
      let pos = shape.moves in
      let small = shape.within in
      let b = w.based in
      let same_end : g.by + low ≡ g.by + 0 + low = omega arith in
      ⊎_elim
      (λ mine. bit_with_same start low k (omega arith) ∙ sym (or_right (eqb k (g.by + 0 + low)) (eqb k low) (eq-eqb _ _ mine)))
      (λ not_mine.
      let apart : k % 16 ≡ low % 16 → ⊥ = λ e. not_mine (one_window k low (omega arith) (omega arith) e) in
      let n : eqb k low ≡ false = ne_eqb _ _ not_mine in
      let right : (eqb k (g.by + 0 + low) || eqb k low) ≡ eqb k (g.by + 0 + low) = rw n (or-false (eqb k (g.by + 0 + low))) in
      bit_with_other start low k apart
      ∙ (⊎_elim
      (λ low_side.
      let above : eqb (k + 16) (g.by + low) ≡ false = ne_eqb _ _ (λ z. omega arith) in
      let f : eqb k (g.by + 0 + low) ≡ false = ne_eqb _ _ (λ z. omega arith) in
      bit_at_window start k (k + 16) (omega arith) ∙ (w.bits (k + 16) (omega arith) (omega arith) ∙ (above ∙ sym f)))
      (λ high. w.bits k high (omega arith) ∙ ap (eqb k) same_end)
      (cases_lt k (g.by + low))
      ∙ sym right))
      (cases_eq k low)

  pub filled_windows : Windows other base (with_bit start low) seen (g ∷ []) low
  filled_windows =
      let b = w.based in
      let small = shape.within in
      let wide = w.wide in
      record {
        size = size ∙ w.size;
        wide = w.wide;
        shaped = (shape, tt);
        fits = omega arith;
        based = omega arith;
        bits = filled_bits;
        kept = ((let e : 0 + low ≡ low = omega arith in rw e back), tt);
        visible = λ i v e.
            let narrow = some_within seen i v e in
            let here : 0 + (g.by + low) ≡ g.by + 0 + low = omega arith in
            let at : get_or regs (place (g.by + 0 + low) i) 0 ≡ v = rw here at (w.visible i v e) in
            same (4 * (g.by + 0 + low) + i) (omega arith) (omega arith) ∙ at;
        room = λ i v e. let narrow = some_within seen i v e in omega arith;
      }

pub fills : FillsKeepPlain
fills vecbase lost s t f g rest l c back start =
    let w = filled_windows g l.windows l.older.0 t.regs c.size c.others back in
    record {
      windows = rw (c.base, start) w;
      frames = l.frames;
      older = l.older.1;
      even = resumed f l t c.control;
      woe = rw c.control.ps l.woe;
      calls = rw c.control.ps l.calls;
      vectors = c.control.special 231 (λ e. omega arith) (λ e. omega arith) (λ e. omega arith) ∙ l.vectors;
    }
