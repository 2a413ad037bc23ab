-- The processor's turn at such a MOVSP: the caller stands in the ring, so nothing that is saved moves.
use Rattle.std.specs.Prelude.{unwrap_or}
use Rattle.std.proofs.Common.{◌≡◌, ℕ, ◌+◌, ◌-◌, ◌%◌, ◌<◌, ◌≤◌, Bool, true, false, not, eqb, leb, List, [], ◌∷◌, Option, Some, None, sym, ap, ◌∙◌, refl, arith, subst, get_or, cond}
use Rattle.std.proofs.Math.ListN.{set}
use Rattle.std.proofs.lemmas.Bool.{and_parts, cond-false, eqb-true, false≢true, leb-true, not-false, not-true}
use Rattle.std.proofs.lemmas.List.{get_or-set_same, length-set}
use Rattle.xt_special.specs.declared.ps.Ps.{Ps}
use Rattle.xt_special.specs.Control.{Control, special_of}
use Rattle.xt_special.specs.Timers.{after_tick}
use Rattle.xt_window.specs.Ring.{place, visible}
use Rattle.xt_window.specs.Moves.{behind}
use Rattle.xt_trace.specs.declared.record.StepKind.{StepKind}
use Rattle.xt_map.specs.Fetching.{Fetches}
use Rattle.xt_rows.specs.declared.outcome.Flow.TheVariants.{Falls}
use Rattle.xt_rows.specs.declared.outcome.WindowStep.TheVariants.{MovesStack}
use Rattle.xt_rows.specs.declared.outcome.Outcome.TheVariants.{Windowed}
use Rattle.xt_rows.specs.Effects.{no_caller_window, write_to}
use Rattle.xt_rows.specs.Operands.{reads}
use Rattle.xt_rows.specs.Outcomes.{outcome, outcome_at, shift_outcome}
use Rattle.xt_rows.specs.Settling.{after_effect, after_flow}
use Rattle.xt_exec.specs.State.{State}
use Rattle.xt_exec.specs.Turn.{turn_or_overflow, outcome_turn, fall_through, fetched_turn, is_illegal, moved_stack, planned_turn, raises, window_check, window_step}
use Rattle.xt_frames.specs.Frames.{Frame, FrameState, value_or_zero}
use Rattle.xt_frames.specs.SaveAreas.{Range, sp_of}
use Rattle.xt_frames.specs.Stacks.{Chain, Stack}
use Rattle.xt_simulation.specs.Relation.{Even, Level}
use Rattle.xt_simulation.specs.Stacks.{sp_under}
use Rattle.xt_simulation.proofs.Behind.{none_behind}
use Rattle.xt_simulation.proofs.Evenly.{even_flow, even_ticked}
use Rattle.xt_simulation.proofs.Kept as kept
use Rattle.xt_uses.specs.UseBreaches.{breaks_stack, is_insn, keeps_stack}
use Rattle.xt_uses.specs.UseStep.{stack_moved}
use Rattle.xt_simulation.specs.Knowing.{FramesFit}
use Rattle.xt_special.proofs.Kept.{ticked_other}
use Rattle.xt_simulation.proofs.MovspStep.{movsp}
use Rattle.xt_simulation.proofs.Specials.{flow_special}

-- ---- what the test denies
pub record Keeps (r : Range) (t q : ℕ) (k : StepKind) (h : FrameState) : Type 0 where
  pub insn : is_insn k ≡ true
  pub one : t ≡ 1
  pub low : h.control.ps.excm ≡ false
  pub stack : keeps_stack r (value_or_zero h.seen q) h.frames ≡ true

pub keeps : (r : Range) (t q : ℕ) (k : StepKind) (h : FrameState) → breaks_stack r (movsp t q) k h ≡ false → Keeps r t q k h
unfolding breaks_stack
keeps r t q k h e =
    let a = and_parts (is_insn k) _ (not-false _ e) in
    let b = and_parts (eqb t 1) _ a.1 in
    let c = and_parts (not h.control.ps.excm) _ b.1 in
    record { insn = a.0; one = eqb-true t 1 b.0; low = not-true _ c.0; stack = c.1 }

-- ---- the turn
movsp_outcome : (code : ℕ → ℕ) (t q : ℕ) (ar : ℕ → ℕ) (c : Control) → outcome_at code (movsp t q) ar c ≡ Windowed (MovesStack t (ar q))
unfolding outcome shift_outcome reads
movsp_outcome code t q ar c = refl

pub not_illegal : (t q : ℕ) (s : State) → is_illegal (movsp t q) s ≡ false
unfolding is_illegal
not_illegal t q s = refl

pub movsp_turn : (code : ℕ → ℕ) (s : State) (t q len : ℕ) → planned_turn code s ≡ fetched_turn (Fetches (movsp t q) len) code s → window_check (movsp t q) s ≡ 0 → planned_turn code s ≡ moved_stack t (visible s.regs s.base q) len s
movsp_turn code s t q len is free =
    is
    ∙ (cond-false (is_illegal (movsp t q) s) (raises _ s) (turn_or_overflow (window_check (movsp t q) s) code (movsp t q) len s) (not_illegal t q s)
    ∙ (ap (λ k. turn_or_overflow k code (movsp t q) len s) free ∙ ap (λ o. outcome_turn o len s) (movsp_outcome code t q (visible s.regs s.base) s.control)))

-- it is executed, so a caller stands in the ring
pub movsp_ring : {vecbase : ℕ} {lost : ℕ → Bool} {s : State} {g : FrameState} (ring : List Frame) {spilled : List Frame} → Level vecbase lost s g ring spilled → (t x len : ℕ) → is_insn (moved_stack t x len s).kind ≡ true
    → (moved_stack t x len s ≡ window_step (write_to t x) (fall_through len s)) × (ring ≡ [] → ⊥)
unfolding moved_stack
movsp_ring {s = s} [] l t x len e =
    let n : behind s.start s.base ≡ 0 = none_behind l.windows in
    let z : is_insn (cond (eqb 0 0) (raises no_caller_window s) (window_step (write_to t x) (fall_through len s))).kind ≡ true = subst (λ k. is_insn (cond (eqb k 0) (raises no_caller_window s) (window_step (write_to t x) (fall_through len s))).kind ≡ true) n e in
    absurd (false≢true z)
movsp_ring {s = s} (c ∷ ring) l t x len e = (by_test (eqb (behind s.start s.base) 0) e, λ z. absurd cc)
  where
    by_test : (b : Bool) → is_insn (cond b (raises no_caller_window s) (window_step (write_to t x) (fall_through len s))).kind ≡ true → cond b (raises no_caller_window s) (window_step (write_to t x) (fall_through len s)) ≡ window_step (write_to t x) (fall_through len s)
    by_test true e = absurd (false≢true e)
    by_test false e = refl

-- ---- the chain of stack pointers
link_fits : (r : Range) (x : ℕ) (ms : List (List ℕ)) (fs gs : List Frame) (sp : ℕ) → FramesFit ms fs gs → keeps_stack r x gs ≡ true → Chain r.lo r.hi sp fs → Chain r.lo r.hi x fs
link_fits r x [] [] [] sp k e h = absurd (false≢true e)
link_fits r x (m ∷ ms) (f ∷ fs) (g ∷ gs) sp k e h =
    let a = and_parts (eqb (x % 16) 0) _ e in
    let b = and_parts (leb (r.lo + 16) x) (leb (x + 16) (sp_of g)) a.1 in
    let top : sp_of f ≡ sp_of g = k.1.0 in
    let under : x + 16 ≤ sp_of g = leb-true (x + 16) (sp_of g) b.1 in
    (record { aligned = eqb-true (x % 16) 0 a.0; low = leb-true (r.lo + 16) x b.0; under = omega arith; large = h.0.large; kept = h.0.kept }, h.1)
link_fits r x [] [] (g ∷ gs) sp k e h = absurd k
link_fits r x [] (f ∷ fs) gs sp k e h = absurd k
link_fits r x (m ∷ ms) [] gs sp k e h = absurd k
link_fits r x (m ∷ ms) (f ∷ fs) [] sp k e h = absurd k

pub movsp_stack : (r : Range) (x : ℕ) (ms : List (List ℕ)) (f h : FrameState) → FramesFit ms f.frames h.frames → keeps_stack r x h.frames ≡ true → Stack r.lo r.hi f.seen f.frames → Stack r.lo r.hi (set f.seen 1 (Some x)) f.frames
movsp_stack r x ms f h k e st =
    let wide = st.wide in
    let at : get_or (set f.seen 1 (Some x)) 1 None ≡ Some x = get_or-set_same f.seen 1 (Some x) None (omega arith) in
    let sp : value_or_zero (set f.seen 1 (Some x)) 1 ≡ x = ap (λ (o : Option ℕ). unwrap_or o 0) at in
    record {
      range = st.range;
      wide = length-set f.seen 1 (Some x) ∙ wide;
      shaped = st.shaped;
      sp = at ∙ ap (λ z. Some z) (sym sp);
      chain = rw sp (link_fits r x ms f.frames h.frames (value_or_zero f.seen 1) k e st.chain);
    }

-- a caller in the ring hides the newest stack pointer
pub ring_under : (ring : List Frame) (a b : ℕ) → (ring ≡ [] → ⊥) → sp_under a ring ≡ sp_under b ring
ring_under [] a b some = absurd (some refl)
ring_under (f ∷ fs) a b some = refl

-- ---- the levels
falls_ps : (len : ℕ) (c : Control) → (after_flow Falls len c).ps ≡ c.ps
falls_ps len c = by_test _ _ _
  where
    by_test : (b : Bool) (pc next : ℕ) → (cond b (record c { pc = pc; special = set c.special 2 (special_of c 2 - 1) }) (record c { pc = next })).ps ≡ c.ps
    by_test true pc next = refl
    by_test false pc next = refl

pub movsp_level : {vecbase : ℕ} {lost : ℕ → Bool} {s : State} {g : FrameState} {ring spilled : List Frame} → Level vecbase lost s g ring spilled → (x len : ℕ) → s.control.waits ≡ false
    → let next = fall_through len s in
    Level vecbase lost (record next { regs = set s.regs (place s.base 1) x; control = after_tick next.control }) (stack_moved 1 x len g).after ring spilled
unfolding after_effect
movsp_level {lost = lost} {s = s} {g = g} {ring = ring} l x len awake =
    let fit = l.windows.fits in
    let even0 : Even lost s.control (record g.control { waits = false }) = record { pc = l.even.pc; ps = l.even.ps; threadptr = l.even.threadptr; waits = awake; special = l.even.special } in
    let even : Even lost (after_tick (after_flow Falls len s.control)) (after_tick (after_flow Falls len (record g.control { waits = false }))) = even_ticked _ _ (even_flow Falls len s.control (record g.control { waits = false }) even0) in
    record {
      windows = kept.written l.windows 1 x (omega arith) (omega arith);
      frames = l.frames;
      older = l.older;
      even = even;
      woe = ap (λ (p : Ps). p.woe) (falls_ps len s.control) ∙ l.woe;
      calls = subst (λ (p : Ps). p.callinc < 4) (sym (falls_ps len s.control)) l.calls;
      vectors = ticked_other (after_flow Falls len s.control).special 231 (λ e. omega (arith, e)) (λ e. omega (arith, e)) ∙ (flow_special Falls len s.control 231 (λ e. omega (arith, e)) ∙ l.vectors);
    }
