-- A whole turn: interrupts first, then waiting, then the instruction.
use Rattle.xt_special.proofs.Kept.{Kept, interrupt_kept, tick_kept}
use Rattle.xt_map.proofs.Fetches.{fetched_range}
use Rattle.std.proofs.Common.{◌≡◌, ℕ, ◌<◌, Bool, true, false, ◌&&◌, not, eqb, ltb, List, Some, None, sym, ap, ◌∙◌, refl, ⊎_elim, subst}
use Rattle.std.proofs.Math.ListN.{set}
use Rattle.std.proofs.lemmas.Bool.{cases_Bool, true≢false, not-false, eqb-true}
use Rattle.xt_isa.specs.declared.Insn.{Insn}
use Rattle.xt_isa.specs.Ranges.{in_range}
use Rattle.xt_special.specs.Numbers as number
use Rattle.xt_special.specs.Control.{Control, special_of}
use Rattle.xt_special.specs.Timers.{after_tick}
use Rattle.xt_special.specs.Interrupts.{pending_of, after_interrupt}
use Rattle.xt_trace.specs.declared.record.StepRecord.{StepRecord}
use Rattle.xt_map.specs.Fetching.{Fetched, Fetches, Fails, SpellsNothing, fetch_at}
use Rattle.xt_rows.specs.Effects.{illegal_instruction, fetch_error}
use Rattle.xt_rows.specs.Settling.{settled_interrupt, settled_wait}
use Rattle.xt_exec.proofs.Specials.{level_small}
use Rattle.xt_map.specs.Code.{AreBytes}
use Rattle.xt_exec.specs.State.{State}
use Rattle.xt_exec.specs.TurnLaws.{IsShaped}
use Rattle.xt_exec.specs.Turn.{Planned, planned_turn, in_window, fetched_turn, turn}
use Rattle.xt_frames.specs.Frames.{Frame, FrameState, value_or_zero}
use Rattle.xt_frames.specs.FrameStep.{FrameTurn, in_frame, fetched_step, step_with_inputs}
use Rattle.xt_frames.specs.HandlerSteps.{is_window}
use Rattle.xt_frames.specs.Nesting.{unset_after}
use Rattle.xt_frames.specs.Breaches.{Bounds, first_shown, fetched_tests, other_tests, laid_breach, writes_epc1, ends_exception_mode, fresh_after}
use Rattle.xt_simulation.specs.Stacks.{sp_under}
use Rattle.xt_simulation.specs.Relation.{Level, lost_at}
use Rattle.xt_frames.proofs.StackSteps.{breach_fetches, step_fetches, step_taken, step_waits}
use Rattle.xt_frames.proofs.Shown.{NoneShown, none_shown, sound}
use Rattle.xt_exec.proofs.Finished.{turn_taken, turn_waits, turn_fetches}
use Rattle.xt_exec.specs.Finishing.{Turn, finished_turn}
use Rattle.xt_simulation.specs.JudgedSteps.{Steps, KeepsLevel, fresh_turn, plain_after, turn_of}
use Rattle.xt_simulation.proofs.Evenly.{at_given, interrupt_numbers, lost_in, same_at, same_numbers, even_ticked, even_interrupt, even_interrupt_epc1, even_after, same_pending}
use Rattle.xt_simulation.proofs.Turns.{low_level}
use Rattle.xt_simulation.proofs.Ordinary.{Ends, in_both}
use Rattle.xt_simulation.proofs.Judged.{Target, raise_target, steps_with}
use Rattle.xt_simulation.proofs.Executed.{insn_target}

module _ {vecbase : ℕ} (fresh : Bool) {s : State} {g : FrameState} {ring spilled : List Frame} (l : Level vecbase (lost_at fresh g) s g ring spilled) (at : Fetched) (reply : ℕ) where
  taken_target : (level : ℕ) → (eqb level 1 ≡ true → s.control.ps.excm ≡ false) → Target vecbase fresh g.unset spilled (sp_under (value_or_zero g.seen 1) ring) at s (finished_turn (in_window (settled_interrupt level s.control) s) reply) (in_frame (settled_interrupt level g.control) reply g)
  unfolding writes_epc1
  taken_target level low ends =
      let c : Control = after_tick (after_interrupt level s.control) in
      let d : Control = after_tick (after_interrupt level g.control) in
      in_both l (settled_interrupt level s.control) (settled_interrupt level g.control) reply
      (record {
        kind = refl;
        write = refl;
        access = refl;
        awaited = refl;
        even = even_after fresh (eqb level 1 && not s.control.ps.excm) (not (ends_exception_mode s.control.ps (after_interrupt level s.control).ps)) g.unset (set (set g.unset (number.epc level) false) (number.eps level) false) c d
            (even_ticked _ _ (even_interrupt level s.control g.control l.even))
            (λ w. at_given (lost_at fresh g) 177 (even_ticked _ _ (even_interrupt_epc1 level s.control g.control w l.even)))
            (interrupt_numbers level g.unset s.control g.control low l.even);
      })
      tt tt ends

  waits_target : Target vecbase fresh g.unset spilled (sp_under (value_or_zero g.seen 1) ring) at s (finished_turn (in_window (settled_wait s.control) s) reply) (in_frame (settled_wait g.control) reply g)
  unfolding writes_epc1
  waits_target ends =
      in_both l (settled_wait s.control) (settled_wait g.control) reply
      (record { kind = refl; write = refl; access = refl; awaited = refl; even = even_after fresh false (not (ends_exception_mode s.control.ps s.control.ps)) g.unset g.unset (after_tick s.control) (after_tick g.control) (even_ticked s.control g.control l.even) (λ w. absurd (true≢false (sym w))) (same_numbers g.unset (after_tick s.control) (after_tick g.control)) })
      tt tt ends

module _ {vecbase : ℕ} {lost : ℕ → Bool} {s : State} {g : FrameState} {ring spilled : List Frame} (l : Level vecbase lost s g ring spilled) where
  from_level : (d : Control) (t : Turn) (u : FrameTurn) → u.after.control ≡ d → Kept g.control d → t.after.control.ps.callinc < 4 → Ends vecbase t u
  from_level d t u is k calls =
      let e = l.even.ps in
      let v = same_at l.even.special 231 refl in
      record {
        calls = calls;
        woe = ap (λ (c : Control). c.ps.woe) is ∙ (k.0 ∙ (sym (ap (λ p. p.woe) e) ∙ l.woe));
        vectors = ap (λ (c : Control). special_of c number.vecbase) is ∙ (k.1 ∙ (sym v ∙ l.vectors));
      }

-- ---- a step that fetches
other_ends : (b : Bounds) (live stale : ℕ → Bool) (rec : StepRecord) (g : FrameState) (t : Turn) (u : FrameTurn) → NoneShown (other_tests b live stale rec g u) → t.after.control.ps.callinc < 4 → Ends b.vecbase t u
other_ends b live stale rec g t u (saves, (loads, (woe, (vectors, more)))) calls = record { calls = calls; woe = not-false _ woe; vectors = eqb-true _ _ (not-false _ vectors) }

fetched_target : (b : Bounds) (live stale : ℕ → Bool) (rec : StepRecord) (fresh : Bool) {s : State} {g : FrameState} {ring spilled : List Frame} → Level b.vecbase (lost_at fresh g) s g ring spilled → g.nested ≡ None → (code : ℕ → ℕ) (at : Fetched) (reply : ℕ) → ((i : Insn) (len : ℕ) → at ≡ Fetches i len → in_range i ≡ true)
    → NoneShown (fetched_tests b fresh live stale at rec g (fetched_step at code reply g)) → is_window (fetched_turn at code s).kind ≡ false → (finished_turn (fetched_turn at code s) reply).after.control.ps.callinc < 4
    → Steps b.vecbase (lost_in (fresh_after fresh (fetched_turn at code s).kind at s.control.ps (finished_turn (fetched_turn at code s) reply).after.control.ps) (unset_after (fetched_turn at code s).kind at g.unset)) spilled (sp_under (value_or_zero g.seen 1) ring) (finished_turn (fetched_turn at code s) reply) (fetched_step at code reply g)
fetched_target b live stale rec fresh {g = g} l plain code (Fails addr) reply ok none nowindow calls = raise_target fresh l (Fails addr) fetch_error reply (Some addr) (other_ends b live stale rec g _ _ none calls)
fetched_target b live stale rec fresh {g = g} l plain code SpellsNothing reply ok none nowindow calls = raise_target fresh l SpellsNothing illegal_instruction reply None (other_ends b live stale rec g _ _ none calls)
fetched_target b live stale rec fresh {g = g} l plain code (Fetches i len) reply ok none nowindow calls =
    let o = sound b fresh live stale i rec g (fetched_step (Fetches i len) code reply g) none in
    insn_target l plain code i len reply (ok i len refl) o nowindow (record { calls = calls; woe = o.woe; vectors = o.vectors })

-- the frame step, before it gives numbers
whole_turn : (code : ℕ → ℕ) → AreBytes code → (b : Bounds) (fresh : Bool) (live stale : ℕ → Bool) (s : State) (g : FrameState) (ring spilled : List Frame) (reply : ℕ)
    → Level b.vecbase (lost_at fresh g) s g ring spilled → g.nested ≡ None → IsShaped s → IsShaped (turn code s reply).1 → (turn code s reply).0.reply ≡ reply → is_window (planned_turn code s).kind ≡ false → laid_breach b fresh code live stale (turn code s reply).0 g ≡ None
    → Steps b.vecbase (lost_in (fresh_turn fresh code reply s) (unset_after (planned_turn code s).kind (fetch_at code s.control.pc) g.unset)) spilled (sp_under (value_or_zero g.seen 1) ring) (turn_of code s reply) (step_with_inputs code reply g)
unfolding turn
whole_turn code bytes b fresh live stale s g ring spilled reply l plain shaped after reply_is nowindow none =
    let p = same_pending s.control g.control l.even in
    let under = sp_under (value_or_zero g.seen 1) ring in
    let at = fetch_at code s.control.pc in
    let P : Planned → Type 0 = λ t. is_window t.kind ≡ false → (finished_turn t reply).after.control.ps.callinc < 4 → Steps b.vecbase (lost_in (fresh_after fresh t.kind at s.control.ps (finished_turn t reply).after.control.ps) (unset_after t.kind at g.unset)) spilled under (finished_turn t reply) (step_with_inputs code reply g) in
    let calls : (finished_turn (planned_turn code s) reply).after.control.ps.callinc < 4 = after.control.ps.callinc_fits in
    ⊎_elim
    (λ yes.
    let yes_g : ltb 0 (pending_of g.control) ≡ true = subst (λ x. ltb 0 x ≡ true) p yes in
    let t = turn_taken code s yes in
    let u0 = step_taken code reply g yes_g in
    let u : step_with_inputs code reply g ≡ in_frame (settled_interrupt (pending_of s.control) g.control) reply g = u0 ∙ ap (λ x. in_frame (settled_interrupt x g.control) reply g) (sym p) in
    let small = level_small (special_of s.control number.interrupt) (special_of s.control number.intenable) s.control.ps in
    let Q : FrameTurn → Type 0 = λ u. Steps b.vecbase (lost_in (fresh_after fresh (in_window (settled_interrupt (pending_of s.control) s.control) s).kind at s.control.ps (finished_turn (in_window (settled_interrupt (pending_of s.control) s.control) s) reply).after.control.ps) (unset_after (in_window (settled_interrupt (pending_of s.control) s.control) s).kind at g.unset)) spilled under (finished_turn (in_window (settled_interrupt (pending_of s.control) s.control) s) reply) u in
    subst P (sym t) (λ h c. subst Q (sym u) (taken_target fresh l at reply (pending_of s.control) (low_level s.control) (from_level l (after_tick (after_interrupt (pending_of s.control) g.control)) _ _ refl (tick_kept g.control (after_interrupt (pending_of s.control) g.control) (interrupt_kept (pending_of s.control) g.control small)) c))) nowindow calls)
    (λ no.
    let no_g : ltb 0 (pending_of g.control) ≡ false = subst (λ x. ltb 0 x ≡ false) p no in
    ⊎_elim
    (λ w.
    let t = turn_waits code s no w in
    let u = step_waits code reply g no_g (sym l.even.waits ∙ w) in
    let Q : FrameTurn → Type 0 = λ u. Steps b.vecbase (lost_in (fresh_after fresh (in_window (settled_wait s.control) s).kind at s.control.ps (finished_turn (in_window (settled_wait s.control) s) reply).after.control.ps) (unset_after (in_window (settled_wait s.control) s).kind at g.unset)) spilled under (finished_turn (in_window (settled_wait s.control) s) reply) u in
    subst P (sym t) (λ h c. subst Q (sym u) (waits_target fresh l at reply (from_level l (after_tick g.control) _ _ refl (tick_kept g.control g.control (refl, refl)) c))) nowindow calls)
    (λ w.
    let w_g = sym l.even.waits ∙ w in
    let rec = (turn code s reply).0 in
    let t = turn_fetches code s no w in
    let u = step_fetches code reply g no_g w_g in
    let f = breach_fetches b fresh code live stale rec g no_g w_g in
    let h0 : first_shown (fetched_tests b fresh live stale (fetch_at code g.control.pc) rec g (step_with_inputs code rec.reply g)) ≡ None = sym f ∙ none in
    let h1 : first_shown (fetched_tests b fresh live stale (fetch_at code g.control.pc) rec g (step_with_inputs code reply g)) ≡ None = subst (λ x. first_shown (fetched_tests b fresh live stale (fetch_at code g.control.pc) rec g (step_with_inputs code x g)) ≡ None) reply_is h0 in
    let h2 : first_shown (fetched_tests b fresh live stale (fetch_at code g.control.pc) rec g (fetched_step (fetch_at code g.control.pc) code reply g)) ≡ None = subst (λ v. first_shown (fetched_tests b fresh live stale (fetch_at code g.control.pc) rec g v) ≡ None) u h1 in
    let h3 : first_shown (fetched_tests b fresh live stale at rec g (fetched_step at code reply g)) ≡ None = subst (λ x. first_shown (fetched_tests b fresh live stale (fetch_at code x) rec g (fetched_step (fetch_at code x) code reply g)) ≡ None) (sym l.even.pc) h2 in
    let here : step_with_inputs code reply g ≡ fetched_step at code reply g = u ∙ ap (λ x. fetched_step (fetch_at code x) code reply g) (sym l.even.pc) in
    let Q : FrameTurn → Type 0 = λ u. Steps b.vecbase (lost_in (fresh_after fresh (fetched_turn at code s).kind at s.control.ps (finished_turn (fetched_turn at code s) reply).after.control.ps) (unset_after (fetched_turn at code s).kind at g.unset)) spilled under (finished_turn (fetched_turn at code s) reply) u in
    subst P (sym t) (λ h c. subst Q (sym here) (fetched_target b live stale rec fresh l plain code at reply (λ i len e. fetched_range code s.control.pc i len bytes e) (none_shown (fetched_tests b fresh live stale at rec g (fetched_step at code reply g)) h3) h c)) nowindow calls)
    (cases_Bool s.control.waits))
    (cases_Bool (ltb 0 (pending_of s.control)))

-- ---- and after it has given them
pub keeps_level : KeepsLevel
keeps_level code bytes b fresh live stale s g ring spilled reply l plain shaped after reply_is nowindow none =
    let w = whole_turn code bytes b fresh live stale s g ring spilled reply l plain shaped after reply_is nowindow none in
    let u = plain_after code reply g in
    let same : unset_after (planned_turn code s).kind (fetch_at code s.control.pc) g.unset ≡ u.after.unset =
    ap (λ k. unset_after k (fetch_at code s.control.pc) g.unset) w.kind ∙ ap (λ pc. unset_after (step_with_inputs code reply g).kind (fetch_at code pc) g.unset) l.even.pc in
    subst (λ x. Steps b.vecbase (lost_in (fresh_turn fresh code reply s) x) spilled (sp_under (value_or_zero g.seen 1) ring) (turn_of code s reply) u) same (steps_with u.after.unset w.level.even w)
