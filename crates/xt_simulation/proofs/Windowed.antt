-- The turns that enter a window exception: an overflow of the oldest caller's window, or an underflow of the newest spilled one.
use Rattle.xt_exec.proofs.Finished.{turn_taken, turn_waits, turn_fetches}
use Rattle.std.proofs.Common.{◌≡◌, ℕ, zero, suc, ◌+◌, ◌-◌, ◌*◌, ◌%◌, ◌^◌, ◌<◌, ◌⊎◌, Bool, true, false, ◌||◌, ◌&&◌, not, eqb, ltb, cond, List, [], ◌∷◌, ◌++◌, Option, Some, None, sym, ap, ◌∙◌, refl, arith, inl, inr, ⊎_elim, subst, get_or}
use Rattle.std.specs.Prelude.{is_some, unwrap_or}
use Rattle.std.proofs.lemmas.Bool.{cases_Bool, both_ways, cond-true, cond-false, or_parts, and_parts, not-false, not-true, eqb-true, true≢false}
use Rattle.xt_isa.specs.declared.Insn.{Insn}
use Rattle.xt_isa.specs.declared.Insn.TheVariants as insn
use Rattle.xt_isa.specs.declared.control.Control.TheVariants as control
use Rattle.xt_isa.specs.declared.control.ReturnName.TheVariants as ReturnName
use Rattle.xt_isa.specs.declared.density.Density.TheVariants as density
use Rattle.xt_isa.specs.declared.density.BareName.TheVariants as BareName
use Rattle.xt_special.specs.Interrupts.{pending_of}
use Rattle.xt_window.specs.Ring.{visible, place, ahead, bit, size_at}
use Rattle.xt_window.specs.Moves.{base_after_call, base_after_return, behind}
use Rattle.xt_trace.specs.declared.record.StepKind.TheVariants as kind
use Rattle.xt_rows.specs.declared.outcome.WindowStep.TheVariants.{Enters, Returns, EndsOverflow, EndsUnderflow, Rotates, MovesStack, Reads, Sets, Exchanges}
use Rattle.xt_rows.specs.declared.outcome.Outcome.{Outcome}
use Rattle.xt_rows.specs.declared.outcome.Outcome.TheVariants.{Does, Raises, Asks, Stops, Windowed}
use Rattle.xt_map.specs.Fetching.{Fetched, Fetches, Fails, SpellsNothing, fetch_at}
use Rattle.xt_rows.specs.Effects.{illegal_instruction, write_to, no_caller_window}
use Rattle.xt_rows.specs.Operands.{reads, special_reads}
use Rattle.xt_rows.specs.Outcomes.{outcome_at, value_of}
use Rattle.xt_exec.specs.State.{State}
use Rattle.xt_exec.specs.TurnLaws.{IsShaped}
use Rattle.xt_exec.proofs.Returns.{return_value}
use Rattle.xt_exec.specs.Turn.{Planned, planned_turn, raises, has_windows, looks, window_check, window_exception, overflow, underflow, window_step, entry_turn, return_turn, resuming_turn, moved_stack, return_size, is_illegal, outcome_turn, turn_or_overflow, fetched_turn, fall_through}
use Rattle.xt_frames.proofs.Shown.{NoneShown, none_shown}
use Rattle.xt_frames.specs.Frames.{Frame, FrameState, value_or_zero, windows_moved}
use Rattle.xt_frames.specs.HandlerSteps.{is_window}
use Rattle.xt_frames.specs.declared.holes.Nested.{Nested}
use Rattle.xt_frames.specs.Marks.{moves_marks}
use Rattle.xt_frames.specs.Nesting.{ends_nested}
use Rattle.xt_frames.specs.Breaches.{first_shown, lacks, is_unset, reads_none, reads_none_in, reads_unset, is_return, mismatches, returns_elsewhere, is_empty, has_no_caller, return_tests, fetched_return_breach, is_underflow, window_breach}
use Rattle.xt_simulation.specs.Ring.{oldest_by, Windows}
use Rattle.xt_simulation.specs.Relation.{Level, Overflows, Underflows, EntersWindow}
use Rattle.xt_simulation.proofs.Modular.{place_at, bit_at_window}
use Rattle.xt_simulation.proofs.WindowLemmas.{hits, size_at_oldest, oldest_within}
use Rattle.xt_simulation.proofs.Behind.{caller_bit}
use Rattle.xt_rows.specs.Kinds.{Fits, IsReturn}
use Rattle.xt_rows.proofs.Fitting.{outcome_fits}

-- ---- a turn that passes to the window check
pub record Checks (code : ℕ → ℕ) (s : State) : Type 0 where
  pub insn : Insn
  pub len : ℕ
  pub at : fetch_at code s.control.pc ≡ Fetches insn len
  pub running : s.control.waits ≡ false
  pub legal : is_illegal insn s ≡ false
  pub same : planned_turn code s ≡ turn_or_overflow (window_check insn s) code insn len s

not_window : {X : Type 0} (p q : Planned) → p ≡ q → is_window q.kind ≡ false → is_window p.kind ≡ true → X
not_window p q e isnt is = let f : is_window p.kind ≡ false = rw e isnt in absurd (both_ways _ f is)

fetched_checks : (code : ℕ → ℕ) (s : State) (at : Fetched) → fetch_at code s.control.pc ≡ at → s.control.waits ≡ false → planned_turn code s ≡ fetched_turn at code s → is_window (planned_turn code s).kind ≡ true → Checks code s
fetched_checks code s (Fails addr) e w t is = not_window _ _ t refl is
fetched_checks code s SpellsNothing e w t is = not_window _ _ t refl is
fetched_checks code s (Fetches i len) e w t is =
    ⊎_elim
    (λ bad. not_window _ _ (t ∙ cond-true (is_illegal i s) (raises illegal_instruction s) (turn_or_overflow (window_check i s) code i len s) bad) refl is)
    (λ legal. record { insn = i; len = len; at = e; running = w; legal = legal; same = t ∙ cond-false (is_illegal i s) (raises illegal_instruction s) (turn_or_overflow (window_check i s) code i len s) legal })
    (cases_Bool (is_illegal i s))

pub checks : (code : ℕ → ℕ) (s : State) → is_window (planned_turn code s).kind ≡ true → Checks code s
checks code s is =
    ⊎_elim
    (λ taken. not_window _ _ (turn_taken code s taken) refl is)
    (λ isnt. ⊎_elim
    (λ w. not_window _ _ (turn_waits code s isnt w) refl is)
    (λ w. fetched_checks code s (fetch_at code s.control.pc) refl w (turn_fetches code s isnt w) is)
    (cases_Bool s.control.waits))
    (cases_Bool (ltb 0 (pending_of s.control)))

-- ---- what a turn is that passes the check
pub returned_kind : (a0 : ℕ) (s : State) → ((return_turn a0 s).kind ≡ kind.Insn) ⊎ (return_turn a0 s ≡ underflow (return_size a0) s)
unfolding return_turn
returned_kind a0 s = ⊎_elim
    (λ is. inl (ap (λ (p : Planned). p.kind) (cond-true (bit s.start (base_after_return s.base (return_size a0))) _ (underflow (return_size a0) s) is)))
    (λ isnt. inr (cond-false (bit s.start (base_after_return s.base (return_size a0))) _ _ isnt))
    (cases_Bool (bit s.start (base_after_return s.base (return_size a0))))

pub entered_kind : (number value len : ℕ) (s : State) → (entry_turn number value len s).kind ≡ kind.Insn
unfolding entry_turn
entered_kind number value len s = refl

resumed_kind : (start epc1 : ℕ) (s : State) → (resuming_turn start epc1 s).kind ≡ kind.Insn
unfolding resuming_turn
resumed_kind start epc1 s = refl

moved_kind : (number value len : ℕ) (s : State) → is_window (moved_stack number value len s).kind ≡ false
unfolding moved_stack
moved_kind number value len s =
    elim (eqb (behind s.start s.base) 0) as (λ b. is_window (cond b (raises no_caller_window s) (window_step (write_to number value) (fall_through len s))).kind ≡ false)
    [ true ↦ refl | false ↦ refl ]

-- a row that enters a window exception is a return whose caller's window is not there
pub record Under (o : Outcome) (p : Planned) (s : State) : Type 0 where
  pub a0 : ℕ
  pub is : o ≡ Windowed (Returns a0)
  pub same : p ≡ underflow (return_size a0) s

done_window : (o : Outcome) (len : ℕ) (s : State) → is_window (outcome_turn o len s).kind ≡ true → Under o (outcome_turn o len s) s
done_window (Does e) len s h = absurd (true≢false (sym h))
done_window (Raises cause addr) len s h = absurd (true≢false (sym h))
done_window (Asks access awaited e) len s h = absurd (true≢false (sym h))
done_window Stops len s h = absurd (true≢false (sym h))
done_window (Windowed (Enters number value)) len s h = let a = entered_kind number value len s in absurd (true≢false (sym h ∙ ap (λ k. is_window k) a))
done_window (Windowed (Returns a0)) len s h = ⊎_elim (λ a. absurd (true≢false (sym h ∙ ap (λ k. is_window k) a))) (λ u. record { a0 = a0; is = refl; same = u }) (returned_kind a0 s)
done_window (Windowed (EndsOverflow epc1)) len s h = let a = resumed_kind _ epc1 s in absurd (true≢false (sym h ∙ ap (λ k. is_window k) a))
done_window (Windowed (EndsUnderflow epc1)) len s h = let a = resumed_kind _ epc1 s in absurd (true≢false (sym h ∙ ap (λ k. is_window k) a))
done_window (Windowed (Rotates n)) len s h = absurd (true≢false (sym h))
done_window (Windowed (MovesStack number value)) len s h = absurd (true≢false (sym h ∙ moved_kind number value len s))
done_window (Windowed (Reads register number)) len s h = absurd (true≢false (sym h))
done_window (Windowed (Sets register value)) len s h = absurd (true≢false (sym h))
done_window (Windowed (Exchanges register number value)) len s h = absurd (true≢false (sym h))

-- ---- an overflow
record Last (ring : List Frame) : Type 0 where
  front : List Frame
  g : Frame
  last : ring ≡ front ++ g ∷ []
  by : g.by ≡ oldest_by ring

last_of : (ring : List Frame) → 0 < oldest_by ring → Last ring
last_of [] h = absurd (omega arith)
last_of (f ∷ []) h = record { front = []; g = f; last = refl; by = refl }
last_of (f ∷ (g ∷ fs)) h = let r = last_of (g ∷ fs) h in record { front = f ∷ r.front; g = r.g; last = ap (λ xs. f ∷ xs) r.last; by = r.by }

windows_low : (s : State) → has_windows s.control.ps ≡ true → s.control.ps.excm ≡ false
windows_low s h = not-true _ (and_parts s.control.ps.woe (not s.control.ps.excm) h).1

over_at : {vecbase : ℕ} {lost : ℕ → Bool} {s : State} {g : FrameState} {ring spilled : List Frame} → Level vecbase lost s g ring spilled → (code : ℕ → ℕ) (i : Insn) (k : ℕ) → s.control.waits ≡ false → window_check i s ≡ suc k → planned_turn code s ≡ overflow (suc k) s → Overflows code s ring spilled
unfolding overflow
over_at {s = s} {ring = ring} {spilled = spilled} l code i k w c is =
    let may : has_windows s.control.ps ≡ true = ⊎_elim (λ m. m) (λ m. let z = sym (cond-false (has_windows s.control.ps) (ahead s.start s.base (looks i s.control.ps)) 0 m) ∙ c in absurd (omega (arith, z))) (cases_Bool (has_windows s.control.ps)) in
    let a : ahead s.start s.base (looks i s.control.ps) ≡ suc k = sym (cond-true (has_windows s.control.ps) (ahead s.start s.base (looks i s.control.ps)) 0 may) ∙ c in
    let h = hits l.windows (looks i s.control.ps) (suc k) (omega arith) a in
    let o = size_at_oldest l.windows (suc k) h.1 h.2 in
    let b = l.windows.based in
    let within = oldest_within ring l.windows.shaped (let e = h.2 in let m = h.1 in omega arith) in
    let r = last_of ring within.0 in
    let size : size_at s.start (s.base + suc k) ≡ r.g.by = o ∙ sym r.by in
    let base : base_after_call s.base (suc k) ≡ windows_moved spilled % 16 = (let e = h.2 in omega arith) in
    let by = r.by in
    record {
      front = r.front;
      g = r.g;
      last = r.last;
      moves = rw by within.0;
      within = rw by within.1;
      running = w;
      low = windows_low s may;
      is = is ∙ ap (λ n. window_exception (2 * (n - 1)) (base_after_call s.base (suc k)) s) size ∙ ap (λ x. window_exception (2 * (r.g.by - 1)) x s) base;
    }

-- ---- an underflow
pub some_value : (o : Option ℕ) → not (is_some o) ≡ false → (v : ℕ) × (o ≡ Some v)
some_value None h = absurd (true≢false h)
some_value (Some v) h = (v, refl)

pub visible_value : {regs : List ℕ} {base start : ℕ} {seen : List (Option ℕ)} {ring : List Frame} {low : ℕ} (w : Windows regs base start seen ring low) (k v : ℕ) → get_or seen k None ≡ Some v → get_or regs (place base k) 0 ≡ v
visible_value {base = base} {ring = ring} {low = low} w k v h =
    let p : place base k ≡ place (windows_moved ring + low) k = place_at base (windows_moved ring + low) k (let e = w.based in omega arith) in
    rw p (w.visible k v h)

return_reads : (i : Insn) → IsReturn i → reads i ≡ (Some 0, None)
unfolding reads
return_reads i (inl e) = rw e refl
return_reads i (inr e) = rw e refl

pub return_is : (i : Insn) → IsReturn i → is_return i ≡ true
unfolding is_return
return_is i (inl e) = rw e refl
return_is i (inr e) = rw e refl

-- it moves no mark
none_unset : (i : Insn) → IsReturn i → (o : Option Nested) (g : FrameState) → reads_none_in o i g ≡ false → reads_unset i g ≡ false
unfolding moves_marks ends_nested
none_unset i r None g h = h
none_unset i (inl e) (Some x) g h = let q : reads_unset (insn.Control (control.Return ReturnName.Retw)) g ≡ false = rw e at h in rw e q
none_unset i (inr e) (Some x) g h = let q : reads_unset (insn.Density (density.Bare BareName.Retw)) g ≡ false = rw e at h in rw e q

-- a0 is known, and is the processor's
pub a0_known : {vecbase : ℕ} {lost : ℕ → Bool} {s : State} {g : FrameState} {ring spilled : List Frame} → Level vecbase lost s g ring spilled → (i : Insn) → IsReturn i → reads_none i g ≡ false → value_or_zero g.seen 0 ≡ visible s.regs s.base 0
a0_known {g = g} l i r h =
    let e = return_reads i r in
    let u : lacks g.seen (reads i).0 ≡ false = (or_parts (lacks g.seen (reads i).0) (lacks g.seen (reads i).1 || (is_unset g.unset (special_reads i).0 || is_unset g.unset (special_reads i).1)) (none_unset i r g.nested g h)).0 in
    let k : lacks g.seen (Some 0) ≡ false = subst (λ (o : Option ℕ × Option ℕ). lacks g.seen o.0 ≡ false) e u in
    let v = some_value (get_or g.seen 0 None) k in
    let b : value_or_zero g.seen 0 ≡ v.0 = ap (λ o. unwrap_or o 0) v.1 in
    b ∙ sym (visible_value l.windows 0 v.0 v.1)

pub return_names : (f : Frame) (rest : List Frame) (i : Insn) (g : FrameState) → is_return i ≡ true → g.frames ≡ f ∷ rest → returns_elsewhere i g ≡ false → return_size (value_or_zero g.seen 0) ≡ f.by
return_names f rest i g is e h =
    let m : mismatches (f ∷ rest) (value_or_zero g.seen 0) ≡ false = rw (is, e) at h in
    eqb-true _ _ (not-false _ m)

pub return_has_caller : (i : Insn) (g : FrameState) → is_return i ≡ true → g.frames ≡ [] → has_no_caller i g ≡ false → ⊥
return_has_caller i g is e h = let m : (true && is_empty []) ≡ false = rw (is, e) at h in true≢false m

-- where the caller stands in the ring, the return finds it
pub caller_there : {regs : List ℕ} {base start : ℕ} {seen : List (Option ℕ)} {f : Frame} {ring : List Frame} {low : ℕ} → Windows regs base start seen (f ∷ ring) low → bit start (base_after_return base f.by) ≡ true
caller_there {base = base} {start = start} {f = f} w =
    let shape = w.shaped.0 in
    let k = shape.within in
    bit_at_window start (base_after_return base f.by) (base + (16 - f.by)) (omega arith) ∙ caller_bit w

pub leaves_kind : {vecbase : ℕ} {lost : ℕ → Bool} {s : State} {g : FrameState} {f : Frame} {ring spilled : List Frame} → Level vecbase lost s g (f ∷ ring) spilled → (a0 : ℕ) → return_size a0 ≡ f.by → (return_turn a0 s).kind ≡ kind.Insn
unfolding return_turn
leaves_kind {s = s} {f = f} l a0 n =
    let at = caller_there l.windows in
    rw (n, at) refl

underflow_kind : (n : ℕ) (s : State) → is_window (underflow n s).kind ≡ true
unfolding underflow
underflow_kind n s = refl

-- RETW is executed only where the window mechanism is at work
return_windows : (i : Insn) (s : State) → IsReturn i → is_illegal i s ≡ false → has_windows s.control.ps ≡ true
unfolding is_illegal
return_windows i s (inl e) h =
    let z : is_illegal (insn.Control (control.Return ReturnName.Retw)) s ≡ false = rw e at h in
    not-false _ (or_parts _ (not (has_windows s.control.ps)) z).1
return_windows i s (inr e) h =
    let z : is_illegal (insn.Density (density.Bare BareName.Retw)) s ≡ false = rw e at h in
    not-false _ (or_parts _ (not (has_windows s.control.ps)) z).1

under_at : {vecbase : ℕ} {lost : ℕ → Bool} {s : State} {g : FrameState} (ring spilled : List Frame) → Level vecbase lost s g ring spilled → (code : ℕ → ℕ) (i : Insn) (a0 : ℕ) → IsReturn i → s.control.waits ≡ false → is_illegal i s ≡ false
    → visible s.regs s.base 0 ≡ a0 → NoneShown (return_tests i g) → return_turn a0 s ≡ underflow (return_size a0) s → planned_turn code s ≡ underflow (return_size a0) s → Underflows code s ring spilled
unfolding underflow
under_at {s = s} {g = g} (f ∷ ring) spilled l code i a0 r w legal v none u is =
    let a = a0_known l i r none.0 in
    let n = return_names f (ring ++ spilled) i g (return_is i r) l.frames none.1.0 in
    let here : return_size a0 ≡ f.by = rw (← v, ← a) n in
    let k = leaves_kind l a0 here in
    absurd (true≢false (sym (underflow_kind (return_size a0) s) ∙ (ap (λ (p : Planned). is_window p.kind) (sym u) ∙ ap (λ k. is_window k) k)))
under_at {s = s} {g = g} [] (f ∷ rest) l code i a0 r w legal v none u is =
    let a = a0_known l i r none.0 in
    let n = return_names f rest i g (return_is i r) l.frames none.1.0 in
    let here : return_size a0 ≡ f.by = rw (← v, ← a) n in
    let b = l.windows.based in
    let shape = l.older.0 in
    let small = shape.within in
    let base : base_after_return s.base (return_size a0) ≡ windows_moved rest % 16 = rw here (omega arith) in
    record {
      empty = refl;
      g = f;
      rest = rest;
      older = refl;
      moves = shape.moves;
      within = shape.within;
      running = w;
      low = windows_low s (return_windows i s r legal);
      is = is ∙ ap (λ x. window_exception (2 * (return_size a0 - 1) + 1) x s) base ∙ ap (λ n. window_exception (2 * (n - 1) + 1) (windows_moved rest % 16) s) here;
    }
under_at {g = g} [] [] l code i a0 r w legal v none u is = absurd (return_has_caller i g (return_is i r) l.frames none.1.1.0)

-- the vector of an underflow by one, two or three windows
underflow_vector : (size : ℕ) → size < 4 → is_underflow (2 * (size - 1) + 1) ≡ true
underflow_vector zero h = refl
underflow_vector (suc zero) h = refl
underflow_vector (suc (suc zero)) h = refl
underflow_vector (suc (suc (suc zero))) h = refl
underflow_vector (suc (suc (suc (suc n)))) h = absurd (omega arith)

-- the tests of an underflow's record are those of its RETW
under_tests : (code : ℕ → ℕ) (i : Insn) (len size : ℕ) (s : State) (g : FrameState) → size < 4 → is_return i ≡ true → fetch_at code g.control.pc ≡ Fetches i len → window_breach code (underflow size s).kind g ≡ None → NoneShown (return_tests i g)
unfolding underflow window_breach
under_tests code i len size s g small is at h =
    let under : is_underflow (2 * (size - 1) + 1) ≡ true = underflow_vector size small in
    let h1 : fetched_return_breach (fetch_at code g.control.pc) g ≡ None = sym (cond-true (is_underflow (2 * (size - 1) + 1)) (fetched_return_breach (fetch_at code g.control.pc) g) None under) ∙ h in
    let h2 : fetched_return_breach (Fetches i len) g ≡ None = rw at at h1 in
    none_shown (return_tests i g) (sym (cond-true (is_return i) (first_shown (return_tests i g)) None is) ∙ h2)

under_done : {vecbase : ℕ} {lost : ℕ → Bool} {s : State} {g : FrameState} {ring spilled : List Frame} → Level vecbase lost s g ring spilled → (code : ℕ → ℕ) (i : Insn) (len : ℕ) → IsShaped s → s.control.waits ≡ false → is_illegal i s ≡ false → fetch_at code s.control.pc ≡ Fetches i len
    → planned_turn code s ≡ outcome_turn (outcome_at code i (visible s.regs s.base) s.control) len s → is_window (planned_turn code s).kind ≡ true → window_breach code (planned_turn code s).kind g ≡ None → Underflows code s ring spilled
under_done {s = s} {g = g} {ring = ring} {spilled = spilled} l code i len shaped w legal at is window none =
    let o = outcome_at code i (visible s.regs s.base) s.control in
    let window2 : is_window (outcome_turn o len s).kind ≡ true = rw is at window in
    let d = done_window o len s window2 in
    let r : IsReturn i = (let f : Fits i (Windowed (Returns d.a0)) = subst (Fits i) d.is (outcome_fits code i s.control.pc (value_of (visible s.regs s.base) (reads i).0) (value_of (visible s.regs s.base) (reads i).1) _ _ s.control.ps s.control.threadptr) in f) in
    let v = return_value code i (visible s.regs s.base) s.control d.a0 r d.is in
    let word_ : visible s.regs s.base 0 < 2 ^ 32 = shaped.words (place s.base 0) in
    let small : return_size d.a0 < 4 = omega (arith, word_, v) in
    let same : planned_turn code s ≡ underflow (return_size d.a0) s = is ∙ d.same in
    let here : outcome_turn (Windowed (Returns d.a0)) len s ≡ underflow (return_size d.a0) s = ap (λ x. outcome_turn x len s) (sym d.is) ∙ d.same in
    let at_g : fetch_at code g.control.pc ≡ Fetches i len = ap (fetch_at code) (sym l.even.pc) ∙ at in
    let none2 : window_breach code (underflow (return_size d.a0) s).kind g ≡ None = subst (λ (p : Planned). window_breach code p.kind g ≡ None) same none in
    under_at ring spilled l code i d.a0 r w legal v (under_tests code i len (return_size d.a0) s g small (return_is i r) at_g none2) here same

window_turn : {vecbase : ℕ} {lost : ℕ → Bool} {s : State} {g : FrameState} {ring spilled : List Frame} → Level vecbase lost s g ring spilled → (code : ℕ → ℕ) (i : Insn) (len k : ℕ) → IsShaped s → s.control.waits ≡ false → is_illegal i s ≡ false → fetch_at code s.control.pc ≡ Fetches i len
    → window_check i s ≡ k → planned_turn code s ≡ turn_or_overflow k code i len s → is_window (planned_turn code s).kind ≡ true → window_breach code (planned_turn code s).kind g ≡ None → Overflows code s ring spilled ⊎ Underflows code s ring spilled
window_turn l code i len zero shaped w legal at c is window none = inr (under_done l code i len shaped w legal at is window none)
window_turn l code i len (suc k) shaped w legal at c is window none = inl (over_at l code i k w c is)

-- the inputs play no part in what is compared
pub enters_window : EntersWindow
enters_window vecbase code lost s f ring spilled reply l shaped window none =
    let c = checks code s window in
    window_turn l code c.insn c.len (window_check c.insn s) shaped c.running c.legal c.at refl c.same window none
