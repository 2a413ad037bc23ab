-- In a nested interrupt: a register that a step reads, and that has neither a number nor a mark, receives the processor's number.
use Rattle.std.specs.Prelude.{unwrap_or}
use Rattle.std.proofs.Common.{◌≡◌, ℕ, ◌<◌, ◌≢◌, ◌⊎◌, inl, inr, true, false, List, Option, Some, None, sym, ap, ◌∙◌, refl, arith, ⊎_elim, subst, length, get_or}
use Rattle.std.proofs.Math.ListN.{set}
use Rattle.std.proofs.lemmas.Bool.{both_ways, cases_eq}
use Rattle.std.proofs.lemmas.List.{get_or-set_same, get_or-set_other, length-set}
use Rattle.xt_map.specs.declared.contents.MemoryContents.{MemoryContents}
use Rattle.xt_special.specs.declared.ps.Ps.{Ps}
use Rattle.xt_special.specs.Numbers as number
use Rattle.xt_special.specs.Control.{special_of}
use Rattle.xt_window.specs.Ring.{visible}
use Rattle.xt_exec.specs.State.{State}
use Rattle.xt_exec.specs.TurnLaws.{IsShaped}
use Rattle.xt_frames.specs.declared.holes.Nested.{Nested}
use Rattle.xt_frames.specs.Frames.{FrameState}
use Rattle.xt_frames.specs.FrameStep.{with_inputs}
use Rattle.xt_frames.specs.Marks.{holds_marks}
use Rattle.xt_frames.specs.Breaches.{Bounds}
use Rattle.xt_simulation.specs.InHandlers.{as_left}
use Rattle.xt_simulation.specs.Nested.{Suspends, resumed_state}
use Rattle.xt_simulation.specs.Relation.{Same, inputs, lost_at}
use Rattle.xt_simulation.proofs.Carried.{Carries, carried}
use Rattle.xt_simulation.proofs.Taken.{beside}
use Rattle.xt_uses.specs.UseState.{UseState}
use Rattle.xt_simulation.specs.Knowing.{Knows, NestedFit}
use Rattle.xt_simulation.proofs.Seen.{filled}
use Rattle.xt_simulation.proofs.SpecialFilled.{same_filled, special_knows, with_special}

-- ---- a visible register of the interrupt
module _ {code : ℕ → ℕ} {b : Bounds} {m : MemoryContents} {s : State} {f : FrameState} {before : State} {opened : ℕ → ℕ} {suspended : State} (h : Suspends code b m s f before opened suspended) (shaped : IsShaped s) where
  -- a frame state in which registers and frames are as they are in f
  same_carries : (g : FrameState) → g.seen ≡ f.seen → g.frames ≡ f.frames → g.control.pc ≡ f.control.pc → g.control.ps ≡ f.control.ps → g.control.threadptr ≡ f.control.threadptr → g.control.waits ≡ f.control.waits
      → special_of g.control number.vecbase ≡ special_of f.control number.vecbase → Same (lost_at false g) s.control.special (with_inputs (inputs 0 s) g).control.special → Carries b (resumed_state suspended s) (resumed_state suspended s) f g
  same_carries g seen frames pc ps pointer waits vectors special = record {
    regs = refl;
    base = refl;
    start = refl;
    pc = refl;
    ps = refl;
    epc1 = refl;
    running = h.inside.running;
    special = special;
    threadptr = h.inside.even.threadptr ∙ sym pointer;
    awake = waits ∙ (sym h.inside.even.waits ∙ h.inside.running);
    count = shaped.control.count;
    words = shaped.control.words;
    shape = shaped.control.shape;
    pointer = shaped.control.threadptr;
    vectors = vectors ∙ (beside h.handling).vectors;
    seen = seen;
    frames = frames;
    framed_pc = pc;
    framed_ps = λ owb. ap (λ (p : Ps). (let q : Ps = record p { owb = owb } in q)) ps;
  }

  module _ (r : ℕ) (narrow : r < 16) (bare : get_or h.x.marks r None ≡ None) where
    abbrev real : ℕ
    real = visible s.regs s.base r

    abbrev x : Nested
    x = record h.x { seen = set h.x.seen r (Some real) }

    abbrev g : FrameState
    g = record f { nested = Some x }

    at_r : get_or (set h.x.seen r (Some real)) r None ≡ Some real
    at_r = get_or-set_same h.x.seen r (Some real) None (let wide = h.inside.wide in omega arith)

    pub inner_filled : Suspends code b m s g (as_left before (resumed_state suspended s) (resumed_state suspended s)) opened suspended
    inner_filled = record {
      x = x;
      nested = refl;
      inside = record {
        even = h.inside.even;
        level = h.inside.level;
        mode = h.inside.mode;
        running = h.inside.running;
        woe = h.inside.woe;
        epc = h.inside.epc;
        eps = h.inside.eps;
        base = h.inside.base;
        start = h.inside.start;
        size = h.inside.size;
        wide = length-set h.x.seen r (Some real) ∙ h.inside.wide;
        others = h.inside.others;
        numbers = λ i v e. ⊎_elim
            (λ is.
            let e2 : get_or (set h.x.seen r (Some real)) r None ≡ Some v = subst (λ j. get_or (set h.x.seen r (Some real)) j None ≡ Some v) is e in
            subst (λ j. visible s.regs s.base j ≡ v) (sym is) (ap (λ (o : Option ℕ). unwrap_or o 0) (sym at_r ∙ e2)))
            (λ other. h.inside.numbers i v (sym (get_or-set_other h.x.seen r i (Some real) None other) ∙ e))
            (cases_eq i r);
        marks = λ i k e.
            let old = h.inside.marks i k e in
            let other : i ≢ r = λ is. (let q : get_or h.x.marks r None ≡ Some k = subst (λ j. get_or h.x.marks j None ≡ Some k) is e in absurd cc) in
            (old.0, get_or-set_other h.x.seen r i (Some real) None other ∙ old.1);
        saved = h.inside.saved;
      };
      handling = carried (same_carries g refl refl refl refl refl refl refl h.inside.even.special) h.handling;
    }

    pub inner_x : inner_filled.x ≡ x
    unfolding inner_filled
    inner_x = refl

    before_inner : (get_or h.x.seen r None ≡ None) ⊎ (get_or h.x.seen r None ≡ Some real)
    before_inner = by_value (get_or h.x.seen r None) refl
      where
        by_value : (o : Option ℕ) → get_or h.x.seen r None ≡ o → (get_or h.x.seen r None ≡ None) ⊎ (get_or h.x.seen r None ≡ Some real)
        by_value None e = inl e
        by_value (Some v) e = inr (e ∙ ap (λ z. Some z) (sym (h.inside.numbers r v e)))

    inner_fit : (masks : List ℕ) (o : Option Nested) → NestedFit masks (Some h.x) o → NestedFit masks (Some x) o
    inner_fit masks None k = absurd k
    inner_fit masks (Some y) k = record { seen = filled k.seen r real narrow before_inner; pc = k.pc; ps = k.ps; marks = k.marks; spread = k.spread; saved = k.saved }

    pub inner_knows : {u : UseState} → Knows f u → Knows g u
    inner_knows {u = u} k = record {
      seen = k.seen;
      sp = k.sp;
      frames = k.frames;
      control = k.control;
      unset = k.unset;
      nested = inner_fit u.masks.inner u.frame.nested (subst (λ (o : Option Nested). NestedFit u.masks.inner o u.frame.nested) h.nested k.nested);
    }

  -- ---- a special register that holds no mark
  module _ (n : ℕ) (mark : holds_marks n ≡ true) (bare : get_or h.x.saved n None ≡ None) (count : length f.control.special ≡ 256) (wide : length f.unset ≡ 256) where
    abbrev value : ℕ
    value = special_of s.control n

    abbrev k : FrameState
    k = with_special n value f

    special_same : Same (lost_at false k) s.control.special (with_inputs (inputs 0 s) k).control.special
    special_same = same_filled false s f n mark count wide h.inside.even.special

    not_vectors : special_of k.control number.vecbase ≡ special_of f.control number.vecbase
    not_vectors = get_or-set_other f.control.special n 231 value 0 (λ e. both_ways (holds_marks n) (subst (λ j. holds_marks j ≡ false) e refl) mark)

    pub special_filled : Suspends code b m s k (as_left before (resumed_state suspended s) (resumed_state suspended s)) opened suspended
    special_filled = record {
      x = h.x;
      nested = h.nested;
      inside = record {
        even = record { pc = h.inside.even.pc; ps = h.inside.even.ps; threadptr = h.inside.even.threadptr; waits = h.inside.even.waits; special = special_same };
        level = h.inside.level;
        mode = h.inside.mode;
        running = h.inside.running;
        woe = h.inside.woe;
        epc = h.inside.epc;
        eps = h.inside.eps;
        base = h.inside.base;
        start = h.inside.start;
        size = h.inside.size;
        wide = h.inside.wide;
        others = h.inside.others;
        numbers = h.inside.numbers;
        marks = h.inside.marks;
        saved = λ j i e.
            let old = h.inside.saved j i e in
            let other : j ≢ n = λ is. (let q : get_or h.x.saved n None ≡ Some i = subst (λ z. get_or h.x.saved z None ≡ Some i) is e in absurd cc) in
            (old.0, get_or-set_other f.unset n j false false other ∙ old.1);
      };
      handling = carried (same_carries k refl refl refl refl refl refl not_vectors special_same) h.handling;
    }

    pub special_x : special_filled.x ≡ h.x
    unfolding special_filled
    special_x = refl

    pub special_known : {u : UseState} → Knows f u → Knows k u
    special_known q = special_knows false s f n mark count wide (shaped.control.words n) h.inside.even.special q
