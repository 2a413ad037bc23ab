-- An instruction that is executed keeps both machines level.
use Rattle.std.proofs.Common.{◌≡◌, ℕ, zero, suc, ◌+◌, ◌<◌, ◌≢◌, ℤ, Bool, true, false, not, List, [], ◌∷◌, ◌++◌, Option, None, sym, ap, ◌∙◌, refl, arith, inl, inr, ⊎_elim, subst, get_or}
use Rattle.std.proofs.lemmas.Bool.{eqb-false, cases_Bool, true≢false, both_ways, or_parts, cond-true, cond-false}
use Rattle.xt_isa.specs.declared.Insn.{Insn}
use Rattle.xt_isa.specs.declared.Insn.TheVariants as insn
use Rattle.xt_isa.specs.declared.control.Control.TheVariants as control
use Rattle.xt_isa.specs.declared.control.ReturnName.TheVariants as ReturnName
use Rattle.xt_isa.specs.declared.density.Density.TheVariants as density
use Rattle.xt_isa.specs.declared.density.BareName.TheVariants as BareName
use Rattle.xt_isa.specs.Ranges.{in_range}
use Rattle.xt_map.specs.declared.access.Access.{Access}
use Rattle.xt_special.specs.Control.{Control}
use Rattle.xt_special.specs.Timers.{after_tick}
use Rattle.xt_window.specs.Ring.{visible}
use Rattle.xt_trace.specs.declared.record.StepRecord.{StepRecord}
use Rattle.xt_rows.specs.declared.outcome.ReplyTarget.{ReplyTarget}
use Rattle.xt_rows.specs.declared.outcome.Effect.{Effect}
use Rattle.xt_rows.specs.declared.outcome.Outcome.{Outcome}
use Rattle.xt_rows.specs.declared.outcome.Outcome.TheVariants.{Does, Raises, Asks, Stops, Windowed}
use Rattle.xt_rows.specs.declared.outcome.WindowStep.TheVariants.{Enters, Returns, EndsOverflow, EndsUnderflow, Rotates, MovesStack, Reads, Sets, Exchanges}
use Rattle.xt_map.specs.Fetching.{Fetches}
use Rattle.xt_rows.specs.Effects.{illegal_instruction}
use Rattle.xt_rows.specs.Outcomes.{outcome_at}
use Rattle.xt_rows.specs.Settling.{after_outcome}
use Rattle.xt_exec.specs.State.{State}
use Rattle.xt_exec.specs.Turn.{Planned, in_window, raises, has_windows, window_check, return_size, is_illegal, outcome_turn, turn_or_overflow, entry_turn, return_turn, underflow, overflow, fetched_turn, write_with_reply, with_write}
use Rattle.xt_frames.specs.Frames.{Frame, FrameState, value_or_zero, windows_moved}
use Rattle.xt_frames.specs.FrameStep.{FrameTurn, in_frame, exception_in_frame, entry_in_frame, return_in_frame, windowed_in_frame, done_in_frame, fetched_step}
use Rattle.xt_frames.specs.HandlerSteps.{is_window}
use Rattle.xt_frames.specs.Marks.{unset_written}
use Rattle.xt_frames.specs.Nesting.{unset_after}
use Rattle.xt_frames.specs.Breaches.{Bounds, writes_sp, opens_nothing, sets_epc1, writes_epc1, ends_exception_mode}
use Rattle.xt_simulation.specs.Stacks.{sp_under}
use Rattle.xt_simulation.specs.Relation.{Level, lost_at}
use Rattle.xt_frames.proofs.Shown.{Sound, keeps_sp, entry_number}
use Rattle.xt_simulation.proofs.WindowLemmas.{passes}
use Rattle.xt_rows.specs.Kinds.{Fits, IsReturn, moved_to}
use Rattle.xt_rows.proofs.Fitting.{outcome_fits}
use Rattle.xt_simulation.proofs.Windowed.{a0_known, return_names, return_has_caller, return_is, leaves_kind}
use Rattle.xt_exec.proofs.Returns.{return_value}
use Rattle.xt_exec.specs.Finishing.{finished_turn}
use Rattle.xt_simulation.proofs.Evenly.{same_numbers, even_ticked, even_after}
use Rattle.xt_simulation.proofs.Ordinary.{in_both, same_outcome, settled_alike}
use Rattle.xt_simulation.proofs.Moves.{enters, leaves, underflows}
use Rattle.xt_simulation.proofs.Judged.{Target, raise_target, same_excm, may, Calls, illegal_excm, excm_step, checked_ahead, has_room, awaited_named, effect_numbers, epc1_effect, less_fresh, not_moved, not_written}

module _ {b : Bounds} {fresh : Bool} {live stale : ℕ → Bool} {rec : StepRecord} {s : State} {g : FrameState} {ring spilled : List Frame} (l : Level b.vecbase (lost_at fresh g) s g ring spilled) (i : Insn) (len reply : ℕ) (ok : in_range i ≡ true) (u : FrameTurn) (o : Sound b fresh live stale i rec g u) (legal : is_illegal i s ≡ false) (free : window_check i s ≡ 0) where
  does_target : (e : Effect) → Fits i (Does e) → writes_sp i rec.write e.write ≡ false → Target b.vecbase fresh g.unset spilled (sp_under (value_or_zero g.seen 1) ring) (Fetches i len) s (finished_turn (in_window (after_outcome (Does e) len s.control) s) reply) (in_frame (after_outcome (Does e) len g.control) reply g)
  unfolding writes_epc1
  does_target e f sp ends =
      let a = settled_alike (Does e) len s.control g.control l.even in
      let c : Control = (after_outcome (Does e) len s.control).control in
      let d : Control = (after_outcome (Does e) len g.control).control in
      in_both l (after_outcome (Does e) len s.control) (after_outcome (Does e) len g.control) reply
      (record { kind = refl; write = refl; access = refl; awaited = refl; even = even_after fresh (sets_epc1 i) (not (ends_exception_mode s.control.ps (with_write e.write (record s { control = c })).control.ps)) g.unset (unset_written i [] g.unset) c d a.even (epc1_effect i e len s.control g.control f.1 l.even) (effect_numbers i e len s.control g.control g.unset f.1 l.even) })
      (has_room l i ok f.2 o.high free e.write f.0)
      (keeps_sp i rec.write e.write f.2 o.movsp sp)
      ends

  asks_target : (access : Access) (awaited : Option ReplyTarget) (e : Effect) → Fits i (Asks access awaited e) → writes_sp i rec.write (write_with_reply None awaited reply) ≡ false → Target b.vecbase fresh g.unset spilled (sp_under (value_or_zero g.seen 1) ring) (Fetches i len) s (finished_turn (in_window (after_outcome (Asks access awaited e) len s.control) s) reply) (in_frame (after_outcome (Asks access awaited e) len g.control) reply g)
  unfolding writes_epc1
  asks_target access awaited e f sp ends =
      let a = settled_alike (Asks access awaited e) len s.control g.control l.even in
      let c : Control = (after_outcome (Asks access awaited e) len s.control).control in
      let d : Control = (after_outcome (Asks access awaited e) len g.control).control in
      in_both l (after_outcome (Asks access awaited e) len s.control) (after_outcome (Asks access awaited e) len g.control) reply
      (record { kind = refl; write = refl; access = refl; awaited = refl; even = even_after fresh (sets_epc1 i) (not (ends_exception_mode s.control.ps (with_write (write_with_reply None awaited reply) (record s { control = c })).control.ps)) g.unset (unset_written i [] g.unset) c d a.even (λ w. absurd (both_ways _ (not_moved i f.1) w)) (λ k. inl (ap (λ xs. get_or xs k false) (not_written i g.unset f.1))) })
      (has_room l i ok f.2 o.high free (write_with_reply None awaited reply) (awaited_named i awaited reply f.0))
      (keeps_sp i rec.write (write_with_reply None awaited reply) f.2 o.movsp sp)
      ends

  stops_target : Target b.vecbase fresh g.unset spilled (sp_under (value_or_zero g.seen 1) ring) (Fetches i len) s (finished_turn (in_window (after_outcome Stops len s.control) s) reply) (in_frame (after_outcome Stops len g.control) reply g)
  unfolding writes_epc1
  stops_target ends =
      in_both l (after_outcome Stops len s.control) (after_outcome Stops len g.control) reply
      (record { kind = refl; write = refl; access = refl; awaited = refl; even = even_after fresh false (not (ends_exception_mode s.control.ps s.control.ps)) g.unset g.unset (after_tick s.control) (after_tick g.control) (even_ticked s.control g.control l.even) (λ w. absurd (true≢false (sym w))) (same_numbers g.unset (after_tick s.control) (after_tick g.control)) })
      tt tt ends

  -- ---- ENTRY
  not_excm : Calls i → s.control.ps.excm ≡ false
  unfolding is_illegal
  not_excm c = ⊎_elim
      (λ r. ⊎_elim
      (λ e.
      let q : is_illegal (insn.Control (control.Return ReturnName.Retw)) s ≡ false = rw e at legal in
      may s.control.ps (or_parts _ (not (has_windows s.control.ps)) q).1)
      (λ e.
      let q : is_illegal (insn.Density (density.Bare BareName.Retw)) s ≡ false = rw e at legal in
      may s.control.ps (or_parts _ (not (has_windows s.control.ps)) q).1)
      r)
      (λ e.
      let q : is_illegal (insn.Control (control.Entry e.0 e.1)) s ≡ false = rw e.2 at legal in
      may s.control.ps (or_parts _ (not (has_windows s.control.ps)) q).1)
      c

  opens_some : (number : ℕ) (size : ℤ) → i ≡ insn.Control (control.Entry number size) → 0 < s.control.ps.callinc
  unfolding opens_nothing
  opens_some number size e =
      let q : opens_nothing (insn.Control (control.Entry number size)) g ≡ false = rw e at o.opens in
      let n : s.control.ps.callinc ≡ g.control.ps.callinc = ap (λ p. p.callinc) l.even.ps in
      let z = eqb-false g.control.ps.callinc 0 q in
      let ne : g.control.ps.callinc ≢ 0 = z in
      omega arith

  room_ahead : (number : ℕ) (size : ℤ) → i ≡ insn.Control (control.Entry number size) → windows_moved ring + s.control.ps.callinc < 16
  room_ahead number size e =
      let low = not_excm (inr (number, size, e)) in
      let q : window_check (insn.Control (control.Entry number size)) s ≡ 0 = rw e at free in
      let c = l.calls in
      passes l.windows s.control.ps.callinc (omega arith) (checked_ahead l (insn.Control (control.Entry number size)) low q)

  entry_moves_none : (number : ℕ) (size : ℤ) → i ≡ insn.Control (control.Entry number size) → moved_to i ≡ None
  unfolding moved_to
  entry_moves_none number size e = rw e refl

  enters_target : (number value : ℕ) (size : ℤ) → i ≡ insn.Control (control.Entry number size) → Target b.vecbase fresh g.unset spilled (sp_under (value_or_zero g.seen 1) ring) (Fetches i len) s (finished_turn (entry_turn number value len s) reply) (windowed_in_frame (Enters number value) len reply g)
  unfolding entry_turn writes_epc1
  enters_target number value size e =
      let low = not_excm (inr (number, size, e)) in
      let other : g.control.ps.excm ≡ false = sym (same_excm l) ∙ low in
      let one : number ≡ 1 = entry_number number size b.range g (rw e at o.size) in
      let P : FrameTurn → Type 0 = λ u. Target b.vecbase fresh g.unset spilled (sp_under (value_or_zero g.seen 1) ring) (Fetches i len) s (finished_turn (entry_turn number value len s) reply) u in
      let Q : ℕ → Type 0 = λ n. Target b.vecbase fresh g.unset spilled (sp_under (value_or_zero g.seen 1) ring) (Fetches i len) s (finished_turn (entry_turn n value len s) reply) (entry_in_frame n value len g) in
      subst P (sym (cond-false g.control.ps.excm (exception_in_frame illegal_instruction None g) (entry_in_frame number value len g) other))
      (let none = entry_moves_none number size e in subst Q (sym one) (λ ends. less_fresh fresh g.unset (unset_written i [] g.unset) (sets_epc1 i) _ (not_moved i none) (not_written i g.unset none) (enters l value len reply (opens_some number size e) (room_ahead number size e) ends)))

  -- ---- RETW
  return_moves_none : IsReturn i → moved_to i ≡ None
  unfolding moved_to
  return_moves_none r = ⊎_elim (λ e. rw e refl) (λ e. rw e refl) r

window_not : (p q : Planned) → p ≡ q → is_window q.kind ≡ true → is_window p.kind ≡ false → ⊥
window_not p q e is isnt = let f : is_window p.kind ≡ true = rw e is in both_ways _ isnt f

underflow_window : (n : ℕ) (s : State) → is_window (underflow n s).kind ≡ true
unfolding underflow
underflow_window n s = refl

pub overflow_window : (n : ℕ) (s : State) → is_window (overflow n s).kind ≡ true
unfolding overflow
overflow_window n s = refl

pub returns_target : {b : Bounds} {fresh : Bool} {live stale : ℕ → Bool} {rec : StepRecord} {u : FrameTurn} {s : State} {g : FrameState} (ring spilled : List Frame) (i : Insn) (len reply : ℕ) → IsReturn i → in_range i ≡ true → Level b.vecbase (lost_at fresh g) s g ring spilled → Sound b fresh live stale i rec g u → is_illegal i s ≡ false → window_check i s ≡ 0
    → (a0 : ℕ) → visible s.regs s.base 0 ≡ a0 → is_window (return_turn a0 s).kind ≡ false → Target b.vecbase fresh g.unset spilled (sp_under (value_or_zero g.seen 1) ring) (Fetches i len) s (finished_turn (return_turn a0 s) reply) (windowed_in_frame (Returns a0) len reply g)
unfolding writes_epc1
returns_target {b = b} {fresh = fresh} {u = u} {s = s} {g = g} (f ∷ ring) spilled i len reply r ok l o legal free a0 v nowindow =
    let a = a0_known l i r o.unset in
    let n : return_size a0 ≡ f.by = rw (← v, ← a) (return_names f (ring ++ spilled) i g (return_is i r) l.frames o.mismatch) in
    let k = leaves_kind l a0 n in
    let other : g.control.ps.excm ≡ false = sym (same_excm l) ∙ not_excm l i len reply ok u o legal free (inl r) in
    let none = return_moves_none l i len reply ok u o legal free r in
    let w : writes_epc1 (return_turn a0 s).kind (Fetches i len) s.control.ps ≡ false = rw k (not_moved i none) in
    let same : unset_after (return_turn a0 s).kind (Fetches i len) g.unset ≡ g.unset = rw k (not_written i g.unset none) in
    let P : FrameTurn → Type 0 = λ u. Target b.vecbase fresh g.unset spilled (sp_under (value_or_zero g.seen 1) (f ∷ ring)) (Fetches i len) s (finished_turn (return_turn a0 s) reply) u in
    subst P (sym (cond-false g.control.ps.excm (exception_in_frame illegal_instruction None g) (return_in_frame a0 g) other))
    (λ ends. less_fresh fresh g.unset (unset_after (return_turn a0 s).kind (Fetches i len) g.unset) (writes_epc1 (return_turn a0 s).kind (Fetches i len) s.control.ps) _ w same (leaves l a0 reply n ends))
returns_target {s = s} {g = g} [] (f ∷ rest) i len reply r ok l o legal free a0 v nowindow =
    let a = a0_known l i r o.unset in
    let n : return_size a0 ≡ f.by = rw (← v, ← a) (return_names f rest i g (return_is i r) l.frames o.mismatch) in
    let m = l.older.0.moves in
    let k = l.older.0.within in
    let u = underflows l a0 (omega arith) (omega arith) in
    absurd (window_not _ _ u (underflow_window (return_size a0) s) nowindow)
returns_target {g = g} [] [] i len reply r ok l o legal free a0 v nowindow = absurd (return_has_caller i g (return_is i r) l.frames o.caller)

-- ---- the instruction, by its outcome
module _ {b : Bounds} {fresh : Bool} {live stale : ℕ → Bool} {rec : StepRecord} {s : State} {g : FrameState} {ring spilled : List Frame} (l : Level b.vecbase (lost_at fresh g) s g ring spilled) (plain : g.nested ≡ None) (code : ℕ → ℕ) (i : Insn) (len reply : ℕ) (ok : in_range i ≡ true) (u : FrameTurn) (o : Sound b fresh live stale i rec g u) (legal : is_illegal i s ≡ false) (free : window_check i s ≡ 0) where
  done_target : (x : Outcome) → outcome_at code i (visible s.regs s.base) s.control ≡ x → Fits i x → is_window (outcome_turn x len s).kind ≡ false → writes_sp i rec.write (done_in_frame x len reply g).write ≡ false → Target b.vecbase fresh g.unset spilled (sp_under (value_or_zero g.seen 1) ring) (Fetches i len) s (finished_turn (outcome_turn x len s) reply) (done_in_frame x len reply g)
  done_target (Does e) q f nowindow sp = does_target l i len reply ok u o legal free e f sp
  done_target (Raises cause addr) q f nowindow sp = raise_target fresh l (Fetches i len) cause reply addr
  done_target (Asks access awaited e) q f nowindow sp = asks_target l i len reply ok u o legal free access awaited e f sp
  done_target Stops q f nowindow sp = stops_target l i len reply ok u o legal free
  done_target (Windowed (Enters number value)) q f nowindow sp = enters_target l i len reply ok u o legal free number value f.0 f.1
  done_target (Windowed (Returns a0)) q f nowindow sp = returns_target ring spilled i len reply f ok l o legal free a0 (return_value code i (visible s.regs s.base) s.control a0 f q) nowindow
  done_target (Windowed (EndsOverflow epc1)) q f nowindow sp = absurd (both_ways _ o.windowing f)
  done_target (Windowed (EndsUnderflow epc1)) q f nowindow sp = absurd (both_ways _ o.windowing f)
  done_target (Windowed (Rotates n)) q f nowindow sp = absurd (both_ways _ o.windowing f)
  done_target (Windowed (MovesStack number value)) q f nowindow sp = absurd (both_ways _ o.movsp f)
  done_target (Windowed (Reads register number)) q f nowindow sp = absurd (both_ways _ o.window_register f)
  done_target (Windowed (Sets register value)) q f nowindow sp = absurd (both_ways _ o.window_register f)
  done_target (Windowed (Exchanges register number value)) q f nowindow sp = absurd (both_ways _ o.window_register f)

  executed_target : is_window (outcome_turn (outcome_at code i (visible s.regs s.base) s.control) len s).kind ≡ false → writes_sp i rec.write (fetched_step (Fetches i len) code reply g).write ≡ false → Target b.vecbase fresh g.unset spilled (sp_under (value_or_zero g.seen 1) ring) (Fetches i len) s (finished_turn (outcome_turn (outcome_at code i (visible s.regs s.base) s.control) len s) reply) (fetched_step (Fetches i len) code reply g)
  executed_target nowindow sp =
      let same = same_outcome fresh l code i plain o.unset o.lost in
      let P : Outcome → Type 0 = λ x. writes_sp i rec.write (done_in_frame x len reply g).write ≡ false → Target b.vecbase fresh g.unset spilled (sp_under (value_or_zero g.seen 1) ring) (Fetches i len) s (finished_turn (outcome_turn (outcome_at code i (visible s.regs s.base) s.control) len s) reply) (done_in_frame x len reply g) in
      subst P same (done_target (outcome_at code i (visible s.regs s.base) s.control) refl (outcome_fits code i s.control.pc _ _ _ _ s.control.ps s.control.threadptr) nowindow) sp

-- ---- the fetched instruction
module _ {b : Bounds} {fresh : Bool} {live stale : ℕ → Bool} {rec : StepRecord} {s : State} {g : FrameState} {ring spilled : List Frame} (l : Level b.vecbase (lost_at fresh g) s g ring spilled) (plain : g.nested ≡ None) (code : ℕ → ℕ) (i : Insn) (len reply : ℕ) (ok : in_range i ≡ true) (o : Sound b fresh live stale i rec g (fetched_step (Fetches i len) code reply g)) where
  checked_target : (k : ℕ) → window_check i s ≡ k → is_illegal i s ≡ false → is_window (turn_or_overflow k code i len s).kind ≡ false → Target b.vecbase fresh g.unset spilled (sp_under (value_or_zero g.seen 1) ring) (Fetches i len) s (finished_turn (turn_or_overflow k code i len s) reply) (fetched_step (Fetches i len) code reply g)
  checked_target zero c legal nowindow = executed_target l plain code i len reply ok (fetched_step (Fetches i len) code reply g) o legal c nowindow o.written
  checked_target (suc k) c legal nowindow = absurd (both_ways _ nowindow (overflow_window (suc k) s))

  pub insn_target : is_window (fetched_turn (Fetches i len) code s).kind ≡ false → Target b.vecbase fresh g.unset spilled (sp_under (value_or_zero g.seen 1) ring) (Fetches i len) s (finished_turn (fetched_turn (Fetches i len) code s) reply) (fetched_step (Fetches i len) code reply g)
  insn_target nowindow =
      ⊎_elim
      (λ bad.
      let x = illegal_excm l i o bad in
      let other : g.control.ps.excm ≡ true = sym (same_excm l) ∙ x.0 in
      let u = excm_step code i len reply g x.1 other in
      let P : FrameTurn → Type 0 = λ u. Target b.vecbase fresh g.unset spilled (sp_under (value_or_zero g.seen 1) ring) (Fetches i len) s (finished_turn (raises illegal_instruction s) reply) u in
      let Q : Planned → Type 0 = λ t. Target b.vecbase fresh g.unset spilled (sp_under (value_or_zero g.seen 1) ring) (Fetches i len) s (finished_turn t reply) (fetched_step (Fetches i len) code reply g) in
      subst Q (sym (cond-true (is_illegal i s) (raises illegal_instruction s) (turn_or_overflow (window_check i s) code i len s) bad)) (subst P (sym u) (raise_target fresh l (Fetches i len) 0 reply None)))
      (λ legal.
      let t = cond-false (is_illegal i s) (raises illegal_instruction s) (turn_or_overflow (window_check i s) code i len s) legal in
      let Q : Planned → Type 0 = λ t. is_window t.kind ≡ false → Target b.vecbase fresh g.unset spilled (sp_under (value_or_zero g.seen 1) ring) (Fetches i len) s (finished_turn t reply) (fetched_step (Fetches i len) code reply g) in
      subst Q (sym t) (checked_target (window_check i s) refl legal) nowindow)
      (cases_Bool (is_illegal i s))
