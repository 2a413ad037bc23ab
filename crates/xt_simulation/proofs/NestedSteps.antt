-- What a nested step leaves, as the walk over both cores asks it: of the record that begins a nested interrupt, of a step of it, and of
-- RFI 5.
use Rattle.std.proofs.Common.{◌≡◌, ℕ, Bool, true, false, ◌&&◌, not, eqb, Some, None, sym, ap, ◌∙◌, refl, subst}
use Rattle.std.proofs.lemmas.Bool.{cond-true, and_right, or_from, false≢true}
use Rattle.xt_map.specs.declared.contents.MemoryContents.{MemoryContents}
use Rattle.xt_special.specs.declared.ps.Ps.{Ps}
use Rattle.xt_window.specs.Ring.{visible}
use Rattle.xt_trace.specs.declared.record.StepRecord.{StepRecord}
use Rattle.xt_trace.specs.declared.record.StepKind.{StepKind}
use Rattle.xt_trace.specs.declared.record.StepKind.TheVariants as kind
use Rattle.xt_rows.specs.declared.outcome.Outcome.TheVariants.{Does}
use Rattle.xt_rows.specs.Settling.{settled_interrupt}
use Rattle.xt_map.specs.Fetching.{Fetched, Fetches, Fails, SpellsNothing, fetch_at}
use Rattle.xt_exec.specs.State.{State}
use Rattle.xt_exec.specs.TurnLaws.{IsShaped}
use Rattle.xt_exec.specs.Turn.{in_window, planned_turn, demand, turn, outcome_turn, reply_where}
use Rattle.xt_frames.specs.declared.holes.Nested.{Nested}
use Rattle.xt_frames.specs.Frames.{FrameState}
use Rattle.xt_frames.specs.FrameStep.{FrameTurn, with_inputs, step_with_inputs}
use Rattle.xt_frames.specs.Marks.{are_own_marks}
use Rattle.xt_frames.specs.Nesting.{begins, nested_entry, current, nested_view, is_nesting}
use Rattle.xt_frames.specs.HandlerSteps.{returns, fetched_returns}
use Rattle.xt_frames.specs.Breaches.{Bounds, inputs_of, breach_of, fetched_tests, fetched_sets_epc1, writes_epc1, fresh_after, touches_save_area, loads_stale}
use Rattle.xt_frames.specs.Judging.{fresh_on, step_on, place_on}
use Rattle.xt_frames.proofs.Inside.{begins_now, fresh_inside, fresh_begun, returns_fetched, step_begins}
use Rattle.xt_frames.proofs.Shown.{NoneShown, sound}
use Rattle.xt_simulation.specs.Relation.{inputs}
use Rattle.xt_simulation.specs.Steps.{reply_at, reply_now, record_now, state_now}
use Rattle.xt_simulation.specs.Memories.{KeepsAreas}
use Rattle.xt_simulation.specs.Judges.{Matches}
use Rattle.xt_simulation.specs.Nested.{Suspends}
use Rattle.xt_simulation.proofs.Memories.{keeps_from}
use Rattle.xt_simulation.proofs.Judges.{record_access}
use Rattle.xt_simulation.proofs.Plans.{plan_kind, plan_write}
use Rattle.xt_simulation.proofs.Resumed.{back, back_at, back_ps, back_state, same_regs}
use Rattle.xt_simulation.proofs.Inner.{laid_excm, laid_same, laid_tests}
use Rattle.xt_simulation.proofs.InnerRows.{quiet_of}
use Rattle.xt_simulation.proofs.Taken.{asks_nothing, nesting_now, nesting_taken}
use Rattle.xt_simulation.proofs.Served.{areas_fetched}

-- ---- RFI 5
-- t is the state after it, where `suspended` is that at the beginning of the interrupt
pub record Back (s t suspended : State) : Type 0 where
  pub regs : t.regs ≡ s.regs
  pub base : t.base ≡ suspended.base
  pub start : t.start ≡ suspended.start
  pub ps : t.control.ps ≡ suspended.control.ps

-- ---- the record that begins one
module _ (code : ℕ → ℕ) (m : MemoryContents) (s : State) (f : FrameState) (nesting : is_nesting (planned_turn code s).kind ≡ true) (none : f.nested ≡ None) where
  begun_now : step_on code true (record_now code m s) f ≡ nested_entry (with_inputs (inputs_of (record_now code m s)) f)
  begun_now = step_begins code (record_now code m s) f (nesting_now code m s nesting) none

  pub no_access : demand code s ≡ None
  no_access = asks_nothing code s (nesting_taken code s nesting)

  pub begin_matches : (framed : MemoryContents) → Matches (place_on true (record_now code m s) f) (record_now code m s) (step_on code true (record_now code m s) f) framed
  unfolding turn
  begin_matches framed =
      let p = nesting_taken code s nesting in
      record {
        place = sym (cond-true (begins true (record_now code m s).kind f) (record_now code m s).pc (current f).control.pc (begins_now (record_now code m s) f (nesting_now code m s nesting) none));
        kind = plan_kind code s (in_window (settled_interrupt 5 s.control) s) p (reply_now code m s) ∙ sym (ap (λ (u : FrameTurn). u.kind) begun_now);
        write = plan_write code s (in_window (settled_interrupt 5 s.control) s) p (reply_now code m s) ∙ sym (ap (λ (u : FrameTurn). u.write) begun_now);
        access = no_access ∙ sym (ap (λ (u : FrameTurn). u.access) begun_now);
        reply = ap (λ o. reply_where o (reply_now code m s)) no_access ∙ sym (ap (λ (u : FrameTurn). reply_at framed u.access) begun_now);
      }

  pub begin_fresh : (fresh : Bool) → fresh_on fresh code true (record_now code m s) f ≡ fresh
  begin_fresh fresh =
      let rec = record_now code m s in
      let at = fetch_at code (current f).control.pc in
      ap (λ (u : FrameTurn). fresh_after fresh u.kind at (with_inputs (inputs_of rec) (current f)).control.ps (current u.after).control.ps) begun_now
      ∙ sym (fresh_begun fresh at (with_inputs (inputs_of rec) (current f)) (with_inputs (inputs_of rec) f))

-- ---- a step inside one that shows no breach
not_written : (k : StepKind) (at : Fetched) (ps : Ps) → ps.excm ≡ true → fetched_sets_epc1 at ≡ false → writes_epc1 k at ps ≡ false
unfolding writes_epc1
not_written (kind.Exc cause) at ps e w = ap not e
not_written (kind.Interrupt level) at ps e w = ap (λ b. (eqb level 1) && not b) e ∙ and_right (eqb level 1) false refl
not_written kind.Insn at ps e w = w
not_written _ at ps e w = refl

-- it writes no EPC1, and RFI 5 finds a0 to a3 as the window handler had them
fetched_quiet : (b : Bounds) (live stale : ℕ → Bool) (at : Fetched) (rec : StepRecord) (g : FrameState) (u : FrameTurn) (x : Nested) → g.nested ≡ Some x → NoneShown (fetched_tests b false live stale at rec g u)
    → (fetched_sets_epc1 at ≡ false) × (fetched_returns at ≡ true → are_own_marks x.marks ≡ true)
fetched_quiet b live stale (Fetches i len) rec g u x e t = let q = quiet_of b live stale i rec g u x e (sound b false live stale i rec g u t) in (q.epc1, q.own)
fetched_quiet b live stale (Fails address) rec g u x e t = (refl, λ ends. absurd (false≢true ends))
fetched_quiet b live stale SpellsNothing rec g u x e t = (refl, λ ends. absurd (false≢true ends))

module _ {code : ℕ → ℕ} {b : Bounds} {m : MemoryContents} {s : State} {f : FrameState} {before : State} {opened : ℕ → ℕ} {suspended : State} (h : Suspends code b m s f before opened suspended) (shaped : IsShaped s) (live stale : ℕ → Bool)
    (none : breach_of b false code live stale true (record_now code m s) f ≡ None) where
  abbrev rec : StepRecord
  rec = record_now code m s

  abbrev g : FrameState
  g = with_inputs (inputs 0 s) (nested_view h.x f)

  tests : NoneShown (fetched_tests b false live stale (fetch_at code g.control.pc) rec g (step_with_inputs code rec.reply g))
  tests = laid_tests h.inside code b m live stale h.nested shaped none

  quiet : (fetched_sets_epc1 (fetch_at code g.control.pc) ≡ false) × (fetched_returns (fetch_at code g.control.pc) ≡ true → are_own_marks h.x.marks ≡ true)
  quiet = fetched_quiet b live stale (fetch_at code g.control.pc) rec g (step_with_inputs code rec.reply g) h.x h.nested tests

  pub nested_areas : KeepsAreas live stale (demand code s)
  nested_areas =
      let k = areas_fetched b false live stale (fetch_at code g.control.pc) rec g (step_with_inputs code rec.reply g) tests in
      let a = record_access code s (reply_now code m s) in
      keeps_from live stale (demand code s) (ap (touches_save_area live) (sym a) ∙ k.0) (ap (loads_stale live stale) (sym a) ∙ k.1)

  pub nested_fresh : fresh_on false code true rec f ≡ false
  nested_fresh =
      let y = with_inputs (inputs_of rec) (nested_view h.x f) in
      let excm_y : y.control.ps.excm ≡ true = ap (λ (z : FrameState). z.control.ps.excm) (laid_same h.inside code m shaped) ∙ laid_excm h.inside in
      fresh_inside false code true rec f h.x h.nested ∙ or_from _ _ (not_written (step_with_inputs code rec.reply y).kind (fetch_at code y.control.pc) y.control.ps excm_y quiet.0) refl

  -- ---- the end of the interrupt
  here : fetched_returns (fetch_at code s.control.pc) ≡ true → (len : ℕ) × (planned_turn code s ≡ outcome_turn (Does (back s.control)) len s)
  here ends = back_at code s h.inside.mode h.inside.level h.inside.running (fetch_at code s.control.pc) refl ends

  pc_same : s.control.pc ≡ h.x.pc
  pc_same = h.inside.even.pc

  pub nested_back : returns code (planned_turn code s).kind s.control.pc ≡ true → Back s (state_now code m s) suspended
  nested_back e =
      let plan = here (returns_fetched code (planned_turn code s).kind s.control.pc e) in
      let state = back_state code s (reply_now code m s) plan.0 plan.1 in
      record {
        regs = ap (λ (t : State). t.regs) state;
        base = ap (λ (t : State). t.base) state ∙ h.inside.base;
        start = ap (λ (t : State). t.start) state ∙ h.inside.start;
        ps = ap (λ (t : State). t.control.ps) state ∙ back_ps h.inside h.handling;
      }

  pub nested_seen : returns code (planned_turn code s).kind s.control.pc ≡ true → (i : ℕ) → visible (state_now code m s).regs (state_now code m s).base i ≡ visible suspended.regs suspended.base i
  nested_seen e i =
      let back = nested_back e in
      let at : fetched_returns (fetch_at code g.control.pc) ≡ true = subst (λ pc. fetched_returns (fetch_at code pc) ≡ true) pc_same (returns_fetched code (planned_turn code s).kind s.control.pc e) in
      ap (λ r. visible r (state_now code m s).base i) (back.regs ∙ same_regs h.inside (quiet.1 at)) ∙ ap (λ x. visible suspended.regs x i) back.base
