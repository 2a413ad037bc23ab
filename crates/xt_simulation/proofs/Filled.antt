-- A register that a step reads, and that has no number, receives the processor's: the relation with the processor stays, and what the
-- machine of uses knows does too.
use Rattle.std.specs.Prelude.{unwrap_or}
use Rattle.std.proofs.Common.{◌≡◌, ℕ, ◌+◌, ◌/◌, ◌<◌, ◌≢◌, ◌⊎◌, inl, inr, Bool, List, Option, Some, None, sym, ap, ◌∙◌, refl, arith, ⊎_elim, subst, get_or}
use Rattle.std.proofs.Math.ListN.{set}
use Rattle.std.proofs.lemmas.Bool.{cases_eq}
use Rattle.std.proofs.lemmas.List.{get_or-set_same, get_or-set_other, length-set}
use Rattle.xt_window.specs.Ring.{place, visible}
use Rattle.xt_exec.specs.State.{State}
use Rattle.xt_frames.specs.Frames.{Frame, FrameState, value_or_zero, windows_moved}
use Rattle.xt_frames.specs.Breaches.{Bounds}
use Rattle.xt_simulation.specs.Ring.{Windows}
use Rattle.xt_simulation.specs.Cores.{Related}
use Rattle.xt_simulation.proofs.Modular.{place_at}
use Rattle.xt_simulation.proofs.Windowed.{visible_value}
use Rattle.xt_uses.specs.UseState.{UseState}
use Rattle.xt_simulation.specs.Knowing.{Knows}
use Rattle.xt_simulation.proofs.Seen.{filled}

-- ---- a visible register
abbrev pub with_seen : ℕ → ℕ → FrameState → FrameState
with_seen r v f = record f { seen = set f.seen r (Some v) }

module _ {b : Bounds} {m : ℕ → ℕ} {lost : ℕ → Bool} {s : State} {f : FrameState} {ring spilled : List Frame} (l : Related m b lost s f ring spilled) (r : ℕ) (narrow : r < 16) (room : windows_moved ring + r / 4 < 16) where
  abbrev real : ℕ
  real = visible s.regs s.base r

  w : Windows s.regs s.base s.start f.seen ring (windows_moved spilled)
  w = l.plain.windows

  set_seen : (i v : ℕ) → get_or (set f.seen r (Some real)) i None ≡ Some v → ((i ≡ r) × (real ≡ v)) ⊎ ((i ≢ r) × (get_or f.seen i None ≡ Some v))
  set_seen i v e = ⊎_elim
      (λ is.
      let wide = w.wide in
      let at : get_or (set f.seen r (Some real)) r None ≡ Some real = get_or-set_same f.seen r (Some real) None (omega arith) in
      let e2 : get_or (set f.seen r (Some real)) r None ≡ Some v = subst (λ j. get_or (set f.seen r (Some real)) j None ≡ Some v) is e in
      inl (is, ap (λ (o : Option ℕ). unwrap_or o 0) (sym at ∙ e2)))
      (λ other. inr (other, sym (get_or-set_other f.seen r i (Some real) None other) ∙ e))
      (cases_eq i r)

  pub filled_windows : Windows s.regs s.base s.start (set f.seen r (Some real)) ring (windows_moved spilled)
  filled_windows = record {
    size = w.size;
    wide = length-set f.seen r (Some real) ∙ w.wide;
    shaped = w.shaped;
    fits = w.fits;
    based = w.based;
    bits = w.bits;
    kept = w.kept;
    visible = λ i v e. ⊎_elim
        (λ h.
        let p : place s.base r ≡ place (windows_moved ring + windows_moved spilled) r = place_at s.base (windows_moved ring + windows_moved spilled) r (let d = w.based in omega arith) in
        subst (λ j. get_or s.regs (place (windows_moved ring + windows_moved spilled) j) 0 ≡ v) (sym h.0) (ap (λ z. get_or s.regs z 0) (sym p) ∙ h.1))
        (λ h. w.visible i v h.1)
        (set_seen i v e);
    room = λ i v e. ⊎_elim
        (λ h. subst (λ j. windows_moved ring + j / 4 < 16) (sym h.0) room)
        (λ h. w.room i v h.1)
        (set_seen i v e);
  }

  -- a1 has its number
  same_sp : value_or_zero (set f.seen r (Some real)) 1 ≡ value_or_zero f.seen 1
  same_sp = ⊎_elim
      (λ one.
      let wide = w.wide in
      let at : get_or (set f.seen 1 (Some real)) 1 None ≡ Some real = get_or-set_same f.seen 1 (Some real) None (omega arith) in
      let v : visible s.regs s.base 1 ≡ value_or_zero f.seen 1 = visible_value w 1 (value_or_zero f.seen 1) l.stack.sp in
      ap (λ j. value_or_zero (set f.seen j (Some real)) 1) one ∙ (ap (λ (o : Option ℕ). unwrap_or o 0) at ∙ (ap (visible s.regs s.base) one ∙ v)))
      (λ other. ap (λ (o : Option ℕ). unwrap_or o 0) (get_or-set_other f.seen r 1 (Some real) None (λ e. other (sym e))))
      (cases_eq r 1)

  sp_there : get_or (set f.seen r (Some real)) 1 None ≡ Some (value_or_zero (set f.seen r (Some real)) 1)
  sp_there = ⊎_elim
      (λ one.
      let wide = w.wide in
      let at : get_or (set f.seen r (Some real)) r None ≡ Some real = get_or-set_same f.seen r (Some real) None (omega arith) in
      let here : get_or (set f.seen r (Some real)) 1 None ≡ Some real = subst (λ j. get_or (set f.seen r (Some real)) j None ≡ Some real) one at in
      here ∙ ap (λ z. Some z) (sym (ap (λ (o : Option ℕ). unwrap_or o 0) here)))
      (λ other.
      let a : get_or (set f.seen r (Some real)) 1 None ≡ get_or f.seen 1 None = get_or-set_other f.seen r 1 (Some real) None (λ e. other (sym e)) in
      a ∙ (l.stack.sp ∙ ap (λ z. Some z) (sym same_sp)))
      (cases_eq r 1)

  pub filled_related : Related m b lost s (with_seen r real f) ring spilled
  filled_related = record {
    plain = record {
      windows = filled_windows;
      frames = l.plain.frames;
      older = l.plain.older;
      even = l.plain.even;
      woe = l.plain.woe;
      calls = l.plain.calls;
      vectors = l.plain.vectors;
    };
    stack = record {
      range = l.stack.range;
      wide = length-set f.seen r (Some real) ∙ l.stack.wide;
      shaped = l.stack.shaped;
      sp = sp_there;
      chain = rw same_sp l.stack.chain;
    };
    saved = rw same_sp l.saved;
  }

  before_fill : (get_or f.seen r None ≡ None) ⊎ (get_or f.seen r None ≡ Some real)
  before_fill = by_value (get_or f.seen r None) refl
    where
      by_value : (o : Option ℕ) → get_or f.seen r None ≡ o → (get_or f.seen r None ≡ None) ⊎ (get_or f.seen r None ≡ Some real)
      by_value None e = inl e
      by_value (Some v) e = inr (e ∙ ap (λ z. Some z) (sym (visible_value w r v e)))

  pub filled_knows : {u : UseState} → Knows f u → Knows (with_seen r real f) u
  filled_knows k = record {
    seen = filled k.seen r real narrow before_fill;
    sp = same_sp ∙ k.sp;
    frames = k.frames;
    control = k.control;
    unset = k.unset;
    nested = k.nested;
  }
