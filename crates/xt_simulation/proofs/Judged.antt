-- A judged step keeps both machines level.
use Rattle.std.proofs.Common.{◌≡◌, ℕ, ◌+◌, ◌/◌, ◌<◌, ◌≤◌, ◌⊎◌, ℤ, Bool, true, false, ◌||◌, ◌&&◌, not, eqb, leb, ltb, List, [], ◌∷◌, ◌++◌, Option, Some, None, sym, ap, ◌∙◌, refl, arith, inl, inr, ⊎_elim, subst, get_or}
use Rattle.std.specs.Prelude.{is_some}
use Rattle.std.proofs.Math.ListN.{set}
use Rattle.std.proofs.lemmas.List.{get_or_past}
use Rattle.std.proofs.lemmas.Bool.{eq-eqb, ne_eqb, eqb-true, le-leb, leb-true, or_left, or_right, false_from_ne_true, cases_Bool, or_cases, true≢false, both_ways, and_parts, not-true, not-false, and_from, and_cases, and_left, and_right, not_from_false, not_from_true, leb-false, cond-true}
use Rattle.xt_isa.specs.declared.Insn.{Insn}
use Rattle.xt_isa.specs.declared.Insn.TheVariants as insn
use Rattle.xt_isa.specs.declared.control.Control.TheVariants as control
use Rattle.xt_isa.specs.declared.control.ReturnName.TheVariants as ReturnName
use Rattle.xt_isa.specs.declared.density.Density.TheVariants as density
use Rattle.xt_isa.specs.declared.density.BareName.TheVariants as BareName
use Rattle.xt_isa.specs.declared.system.System.TheVariants as system
use Rattle.xt_isa.specs.declared.system.SpecialName.TheVariants as SpecialName
use Rattle.xt_isa.specs.Ranges.{in_range}
use Rattle.xt_special.specs.declared.ps.Ps.{Ps}
use Rattle.xt_special.specs.Control.{Control}
use Rattle.xt_special.specs.Timers.{after_tick}
use Rattle.xt_special.specs.Exceptions.{after_exception}
use Rattle.xt_window.specs.Ring.{visible, ahead}
use Rattle.xt_window.specs.Moves.{behind}
use Rattle.xt_trace.specs.declared.record.StepRecord.{StepRecord}
use Rattle.xt_trace.specs.declared.record.RegWrite.{RegWrite}
use Rattle.xt_rows.specs.declared.outcome.ReplyTarget.{ReplyTarget}
use Rattle.xt_rows.specs.declared.outcome.Effect.{Effect}
use Rattle.xt_map.specs.Fetching.{Fetched, Fetches}
use Rattle.xt_special.specs.Access.{set_to, no_set, with_sets, is_eps}
use Rattle.xt_rows.specs.Effects.{illegal_instruction}
use Rattle.xt_rows.specs.Operands.{highest_register}
use Rattle.xt_rows.specs.Outcomes.{outcome, control_outcome, density_outcome}
use Rattle.xt_rows.specs.Settling.{settled_exception, after_effect}
use Rattle.xt_rows.proofs.Registers.{names_registers}
use Rattle.xt_exec.specs.State.{State}
use Rattle.xt_exec.specs.Turn.{in_window, has_windows, looks, window_check, return_size, is_illegal, illegal_return, write_with_reply}
use Rattle.xt_frames.specs.Frames.{Frame, FrameState, value_or_zero, windows_moved}
use Rattle.xt_frames.specs.FrameStep.{FrameTurn, exception_in_frame, fetched_step}
use Rattle.xt_frames.specs.Marks.{holds_marks, unset_by, unset_written}
use Rattle.xt_frames.specs.Nesting.{unset_after}
use Rattle.xt_frames.specs.Breaches.{Bounds, sets_epc1, names_high, writes_epc1, ends_exception_mode, fresh_after}
use Rattle.xt_simulation.specs.Stacks.{sp_under}
use Rattle.xt_simulation.specs.Relation.{Even, Level, can_be_lost, lost_at}
use Rattle.xt_simulation.proofs.WindowLemmas.{passes}
use Rattle.xt_simulation.proofs.Behind.{caller_behind, none_behind}
use Rattle.xt_rows.specs.Kinds.{SetsOne, SetsSaved, is_saved, moved_to, WritesNamed, AwaitsNamed, IsReturn, is_entry}
use Rattle.xt_frames.proofs.Shown.{Sound, entry_number}
use Rattle.xt_simulation.proofs.Windowed.{a0_known, return_names, return_has_caller, return_is}
use Rattle.xt_exec.specs.Finishing.{Turn, finished_turn}
use Rattle.xt_simulation.specs.JudgedSteps.{Steps}
use Rattle.xt_simulation.proofs.Evenly.{Numbers, at_given, except, lost_in, numbers_set, same_at, same_given, same_numbers, even_effect, even_flow, even_ticked, even_raise_epc1, even_after}
use Rattle.xt_simulation.proofs.Ordinary.{Ends, HasRoom, in_both, raise_alike}

-- ---- the target
-- `unset` are the registers that have no number before the step
abbrev pub Target : ℕ → Bool → List Bool → List Frame → ℕ → Fetched → State → Turn → FrameTurn → Type 0
Target vecbase fresh unset spilled under at s t u = Ends vecbase t u → Steps vecbase (lost_in (fresh_after fresh t.kind at s.control.ps t.after.control.ps) (unset_after t.kind at unset)) spilled under t u

module _ {vecbase : ℕ} (fresh : Bool) {s : State} {g : FrameState} {ring spilled : List Frame} (l : Level vecbase (lost_at fresh g) s g ring spilled) where
  pub raise_target : (at : Fetched) (cause reply : ℕ) (addr : Option ℕ) → Target vecbase fresh g.unset spilled (sp_under (value_or_zero g.seen 1) ring) at s (finished_turn (in_window (settled_exception cause addr s.control) s) reply) (exception_in_frame cause addr g)
  unfolding writes_epc1
  raise_target at cause reply addr ends =
      let a = raise_alike cause addr s.control g.control l.even in
      let c : Control = (settled_exception cause addr s.control).control in
      let d : Control = (settled_exception cause addr g.control).control in
      in_both l (settled_exception cause addr s.control) (settled_exception cause addr g.control) reply
      (record { kind = refl; write = refl; access = refl; awaited = refl; even = even_after fresh (not s.control.ps.excm) (not (ends_exception_mode s.control.ps (after_exception cause addr s.control).ps)) g.unset g.unset c d a.even (λ w. at_given (lost_at fresh g) 177 (even_ticked _ _ (even_raise_epc1 cause addr s.control g.control (not-true _ w) l.even))) (same_numbers g.unset c d) })
      tt tt ends

module _ {vecbase : ℕ} {lost : ℕ → Bool} {s : State} {g : FrameState} {ring spilled : List Frame} (l : Level vecbase lost s g ring spilled) where
  pub same_excm : s.control.ps.excm ≡ g.control.ps.excm
  same_excm = ap (λ p. p.excm) l.even.ps

-- ---- an illegal RETW or ENTRY of a program without a breach has EXCM set
not_may : (ps : Ps) → ps.woe ≡ true → not (has_windows ps) ≡ true → ps.excm ≡ true
not_may ps woe h = ⊎_elim
    (λ bad. absurd (both_ways _ bad woe))
    (λ e. not-false _ e)
    (and_cases ps.woe (not ps.excm) (not-true _ h))

pub may : (ps : Ps) → not (has_windows ps) ≡ false → ps.excm ≡ false
may ps h = not-true _ (and_parts ps.woe (not ps.excm) (not-false _ h)).1

return_excm : (s : State) (n m : ℕ) → return_size (visible s.regs s.base 0) ≡ n → behind s.start s.base ≡ m → 0 < n → (m ≡ 0) ⊎ (m ≡ n) → s.control.ps.woe ≡ true → illegal_return s ≡ true → s.control.ps.excm ≡ true
return_excm s n m e f pos h woe bad =
    let b : ((eqb n 0 || (not (eqb m 0) && not (eqb m n))) || not (has_windows s.control.ps)) ≡ true = rw (e, f) at bad in
    let zero_not : eqb n 0 ≡ false = ne_eqb _ _ (λ z. omega arith) in
    let same_not : (not (eqb m 0) && not (eqb m n)) ≡ false = ⊎_elim
    (λ z. and_left _ _ (not_from_true _ (eq-eqb m 0 z)))
    (λ z. and_right _ _ (not_from_true _ (eq-eqb m n z))) h in
    ⊎_elim
    (λ first. ⊎_elim
    (λ zero. absurd (both_ways _ zero_not zero))
    (λ other. absurd (both_ways _ same_not other))
    (or_cases (eqb n 0) (not (eqb m 0) && not (eqb m n)) first))
    (λ last. not_may s.control.ps woe last)
    (or_cases (eqb n 0 || (not (eqb m 0) && not (eqb m n))) (not (has_windows s.control.ps)) b)

return_illegal : {b : Bounds} {fresh : Bool} {live stale : ℕ → Bool} {rec : StepRecord} {u : FrameTurn} {s : State} {g : FrameState} (ring spilled : List Frame) → Level b.vecbase (lost_at fresh g) s g ring spilled → (i : Insn) → IsReturn i → Sound b fresh live stale i rec g u → illegal_return s ≡ true → s.control.ps.excm ≡ true
return_illegal {s = s} {g = g} (f ∷ ring) spilled l i r o bad =
    let a = a0_known l i r o.unset in
    let n : return_size (visible s.regs s.base 0) ≡ f.by = rw (← a) (return_names f (ring ++ spilled) i g (return_is i r) l.frames o.mismatch) in
    return_excm s f.by f.by n (caller_behind l.windows) l.windows.shaped.0.moves (inr refl) l.woe bad
return_illegal {s = s} {g = g} [] (f ∷ rest) l i r o bad =
    let a = a0_known l i r o.unset in
    let n : return_size (visible s.regs s.base 0) ≡ f.by = rw (← a) (return_names f rest i g (return_is i r) l.frames o.mismatch) in
    return_excm s f.by 0 n (none_behind l.windows) l.older.0.moves (inl refl) l.woe bad
return_illegal {g = g} [] [] l i r o bad = absurd (return_has_caller i g (return_is i r) l.frames o.caller)

-- the two instructions that may be illegal
abbrev pub Calls : Insn → Type 0
Calls i = IsReturn i ⊎ ((number : ℕ) × (size : ℤ) × (i ≡ insn.Control (control.Entry number size)))

pub illegal_excm : {b : Bounds} {fresh : Bool} {live stale : ℕ → Bool} {rec : StepRecord} {u : FrameTurn} {s : State} {g : FrameState} {ring spilled : List Frame} → Level b.vecbase (lost_at fresh g) s g ring spilled → (i : Insn) → Sound b fresh live stale i rec g u → is_illegal i s ≡ true → (s.control.ps.excm ≡ true) × Calls i
unfolding is_illegal
illegal_excm {ring = ring} {spilled = spilled} l (insn.Control (control.Return ReturnName.Retw)) o bad = (return_illegal ring spilled l (insn.Control (control.Return ReturnName.Retw)) (inl refl) o bad, inl (inl refl))
illegal_excm {ring = ring} {spilled = spilled} l (insn.Density (density.Bare BareName.Retw)) o bad = (return_illegal ring spilled l (insn.Density (density.Bare BareName.Retw)) (inr refl) o bad, inl (inr refl))
illegal_excm {b = b} {s = s} {g = g} l (insn.Control (control.Entry number size)) o bad =
    let one = entry_number number size b.range g o.size in (
      ⊎_elim
          (λ first. let f : ltb 3 1 ≡ true = rw one at first in absurd (true≢false (sym f)))
          (λ last. not_may s.control.ps l.woe last)
          (or_cases (ltb 3 number) (not (has_windows s.control.ps)) bad),
      inr (number, size, refl),
    )
illegal_excm l _ o bad = absurd (true≢false (sym bad))

pub excm_step : (code : ℕ → ℕ) (i : Insn) (len reply : ℕ) (g : FrameState) → Calls i → g.control.ps.excm ≡ true → fetched_step (Fetches i len) code reply g ≡ exception_in_frame illegal_instruction None g
unfolding outcome control_outcome density_outcome
excm_step code i len reply g c e =
    let P : Insn → Type 0 = λ j. fetched_step (Fetches j len) code reply g ≡ exception_in_frame illegal_instruction None g in
    ⊎_elim
    (λ r. ⊎_elim
    (λ q. subst P (sym q) (cond-true g.control.ps.excm (exception_in_frame illegal_instruction None g) _ e))
    (λ q. subst P (sym q) (cond-true g.control.ps.excm (exception_in_frame illegal_instruction None g) _ e))
    r)
    (λ n. subst P (sym n.2) (cond-true g.control.ps.excm (exception_in_frame illegal_instruction None g) _ e))
    c

looks_named : (i : Insn) (ps : Ps) → is_entry i ≡ false → looks i ps ≡ highest_register i / 4
unfolding is_entry
looks_named (insn.Control (control.Entry number size)) ps h = absurd (true≢false h)
looks_named _ ps h = refl

-- ---- room for the register that is written
module _ {vecbase : ℕ} {lost : ℕ → Bool} {s : State} {g : FrameState} {ring spilled : List Frame} (l : Level vecbase lost s g ring spilled) where
  may_now : s.control.ps.excm ≡ false → has_windows s.control.ps ≡ true
  may_now low = and_from _ _ l.woe (not_from_false _ low)

  pub checked_ahead : (i : Insn) → s.control.ps.excm ≡ false → window_check i s ≡ 0 → ahead s.start s.base (looks i s.control.ps) ≡ 0
  checked_ahead i low c = sym (cond-true (has_windows s.control.ps) (ahead s.start s.base (looks i s.control.ps)) 0 (may_now low)) ∙ c

  room_named : (i : Insn) → in_range i ≡ true → is_entry i ≡ false → names_high i g ≡ false → window_check i s ≡ 0 → windows_moved ring + highest_register i / 4 < 16
  room_named i ok other high c =
      let n = names_registers i ok in
      let fit = l.windows.fits in
      ⊎_elim
      (λ set_. ⊎_elim
      (λ bad. absurd (both_ways _ bad (sym (same_excm l) ∙ set_)))
      (λ low. let b = leb-false 4 (highest_register i) low in omega arith)
      (and_cases g.control.ps.excm (leb 4 (highest_register i)) high))
      (λ low. passes l.windows (highest_register i / 4) (omega arith) (rw (looks_named i s.control.ps other) at (checked_ahead i low c)))
      (cases_Bool s.control.ps.excm)

  pub has_room : (i : Insn) → in_range i ≡ true → is_entry i ≡ false → names_high i g ≡ false → window_check i s ≡ 0 → (o : Option RegWrite) → WritesNamed i o → HasRoom ring o
  has_room i ok other high c None h = tt
  has_room i ok other high c (Some w) h =
      let n = names_registers i ok in
      let r = room_named i ok other high c in
      (omega arith, omega arith)

-- ---- an effect
pub awaited_named : (i : Insn) (awaited : Option ReplyTarget) (reply : ℕ) → AwaitsNamed i awaited → WritesNamed i (write_with_reply None awaited reply)
awaited_named i None reply h = tt
awaited_named i (Some a) reply h = h

-- where a WSR or XSR writes the register n, both machines give it one value
given_effect : {lost : ℕ → Bool} (n x : ℕ) (e : Effect) (len : ℕ) (c d : Control) → e.sets ≡ (set_to n x, no_set, no_set) → Even lost c d → Even (except n lost) (after_effect e len c) (after_effect e len d)
unfolding after_effect
given_effect n x e len c d q h =
    even_flow e.flow len
    (record { pc = c.pc; special = with_sets e.sets c.special; ps = e.ps; threadptr = e.threadptr; waits = e.waits })
    (record { pc = d.pc; special = with_sets e.sets d.special; ps = e.ps; threadptr = e.threadptr; waits = e.waits })
    (record { pc = h.pc; ps = refl; threadptr = refl; waits = refl; special = rw q (same_given h.special n x) })

-- a register that can be lost saves another, or is MISC
saved_low : (n : ℕ) → 177 ≤ n → n ≤ 215 → is_saved n ≡ true
saved_low n low high = or_left _ _ (and_from _ _ (le-leb 177 n low) (le-leb n 215 high))

pub lost_saved : (n : ℕ) → can_be_lost n ≡ true → is_saved n ≡ true
lost_saved n h = ⊎_elim
    (λ a. let q = eqb-true n 177 a in saved_low n (omega arith) (omega arith))
    (λ b. ⊎_elim
    (λ a. let q = eqb-true n 181 a in saved_low n (omega arith) (omega arith))
    (λ c. ⊎_elim
    (λ a. let q = and_parts (leb 194 n) (leb n 199) a in let x = leb-true 194 n q.0 in let y = leb-true n 199 q.1 in saved_low n (omega arith) (omega arith))
    (λ d. ⊎_elim
    (λ a. let q = and_parts (leb 209 n) (leb n 215) a in let x = leb-true 209 n q.0 in let y = leb-true n 215 q.1 in saved_low n (omega arith) (omega arith))
    (λ a. or_right _ _ a)
    (or_cases (leb 209 n && leb n 215) (leb 244 n && leb n 247) d))
    (or_cases (is_eps n) (holds_marks n) c))
    (or_cases (eqb n 181) (is_eps n || holds_marks n) b))
    (or_cases (eqb n 177) (eqb n 181 || (is_eps n || holds_marks n)) h)

-- the register that it names has a number
named_given : {lost : ℕ → Bool} (i : Insn) (e : Effect) (len t n : ℕ) (c d : Control) → moved_to i ≡ Some (t, n) → SetsSaved i e.sets → Even lost c d → get_or (after_tick (after_effect e len c)).special n 0 ≡ get_or (after_tick (after_effect e len d)).special n 0
named_given {lost = lost} i e len t n c d is sets h =
    let x : Control = after_tick (after_effect e len c) in
    let y : Control = after_tick (after_effect e len d) in
    ⊎_elim
    (λ can.
    let one : SetsOne (Some (t, n)) n e.sets = subst (λ (o : Option (ℕ × ℕ)). SetsOne o n e.sets) is (sets n (lost_saved n can)) in
    let q = one.0 refl in
    at_given lost n (even_ticked _ _ (given_effect n q.0 e len c d q.1 h)))
    (λ sure. same_at (even_ticked _ _ (even_effect e len c d h)).special n sure)
    (cases_Bool (can_be_lost n))

abbrev no_mark : Option ℕ
no_mark = None

pub effect_numbers : {lost : ℕ → Bool} (i : Insn) (e : Effect) (len : ℕ) (c d : Control) (old : List Bool) → SetsSaved i e.sets → Even lost c d → Numbers old (unset_written i [] old) (after_tick (after_effect e len c)) (after_tick (after_effect e len d))
effect_numbers {lost = lost} i e len c d old sets h = by (moved_to i) refl
  where
    x : Control
    x = after_tick (after_effect e len c)

    y : Control
    y = after_tick (after_effect e len d)

    by : (o : Option (ℕ × ℕ)) → moved_to i ≡ o → Numbers old (unset_by o [] old) x y
    by None is = same_numbers old x y
    by (Some p) is =
        let none : is_some (get_or [] p.0 no_mark) ≡ false = ap is_some (get_or_past [] p.0 no_mark (omega arith)) in
        subst (λ v. Numbers old (set old p.1 v) x y) (sym none) (numbers_set old old p.1 x y (named_given i e len p.0 p.1 c d is sets h) (same_numbers old x y))

-- WSR and XSR of EPC1
sets_moved : (i : Insn) → sets_epc1 i ≡ true → (t : ℕ) × (moved_to i ≡ Some (t, 177))
unfolding sets_epc1 moved_to
sets_moved (insn.System (system.Special SpecialName.Wsr t n)) h = (t, ap (λ n. Some (t, n)) (eqb-true n 177 h))
sets_moved (insn.System (system.Special SpecialName.Xsr t n)) h = (t, ap (λ n. Some (t, n)) (eqb-true n 177 h))
sets_moved _ h = absurd (true≢false (sym h))

pub epc1_effect : {lost : ℕ → Bool} (i : Insn) (e : Effect) (len : ℕ) (c d : Control) → SetsSaved i e.sets → Even lost c d → sets_epc1 i ≡ true → get_or (after_tick (after_effect e len c)).special 177 0 ≡ get_or (after_tick (after_effect e len d)).special 177 0
epc1_effect i e len c d sets h w = let q = sets_moved i w in named_given i e len q.0 177 c d q.1 sets h

-- another instruction writes neither EPC1 nor another
pub not_moved : (i : Insn) → moved_to i ≡ None → sets_epc1 i ≡ false
not_moved i is = false_from_ne_true (sets_epc1 i) (λ h. let q = sets_moved i h in let bad : Some (q.0, 177) ≡ None = sym q.1 ∙ is in absurd cc)

pub not_written : (i : Insn) (old : List Bool) → moved_to i ≡ None → unset_written i [] old ≡ old
not_written i old is = ap (λ (o : Option (ℕ × ℕ)). unset_by o [] old) is

-- ---- a step with another freshness
-- with other numbers
pub steps_with : {vecbase : ℕ} {lost now : ℕ → Bool} {spilled : List Frame} {under : ℕ} {t : Turn} {u : FrameTurn} (unset : List Bool) → Even now t.after.control u.after.control → Steps vecbase lost spilled under t u → Steps vecbase now spilled under t (record u { after = record u.after { unset = unset } })
steps_with unset even p = record {
  kind = p.kind;
  write = p.write;
  access = p.access;
  ring = p.ring;
  same = p.same;
  level = record {
    windows = p.level.windows;
    frames = p.level.frames;
    older = p.level.older;
    even = even;
    woe = p.level.woe;
    calls = p.level.calls;
    vectors = p.level.vectors;
  };
}

pub less_fresh : {vecbase : ℕ} (fresh : Bool) {spilled : List Frame} {under : ℕ} {t : Turn} {u : FrameTurn} (old new : List Bool) (writes kept : Bool) → writes ≡ false → new ≡ old → Steps vecbase (lost_in fresh old) spilled under t u → Steps vecbase (lost_in (writes || (fresh && kept)) new) spilled under t u
less_fresh fresh {t = t} {u = u} old new writes kept w same p =
    steps_with u.after.unset (even_after fresh writes kept old new t.after.control u.after.control p.level.even (λ t. absurd (both_ways _ w t)) (λ k. inl (ap (λ xs. get_or xs k false) same))) p
