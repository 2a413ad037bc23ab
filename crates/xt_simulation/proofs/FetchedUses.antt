-- A step that fetches and shows no breach of uses.
use Rattle.std.proofs.Common.{◌≡◌, ℕ, Bool, true, false, ◌||◌, ltb, [], ◌∷◌, None, sym, ap, ◌∙◌, refl, subst}
use Rattle.std.proofs.lemmas.Bool.{cond-false, cond-true, false≢true, or_from}
use Rattle.xt_isa.specs.declared.Insn.{Insn}
use Rattle.xt_isa.specs.declared.Insn.TheVariants as insn
use Rattle.xt_isa.specs.declared.shift.Shift.TheVariants as shift
use Rattle.xt_special.specs.Interrupts.{pending_of}
use Rattle.xt_trace.specs.declared.record.StepRecord.{StepRecord}
use Rattle.xt_map.specs.Fetching.{Fetched, Fetches, Fails, SpellsNothing, fetch_at}
use Rattle.xt_rows.specs.Kinds.{is_movsp}
use Rattle.xt_frames.specs.Frames.{FrameState}
use Rattle.xt_frames.specs.FrameStep.{FrameTurn, fetched_step, step_with_inputs}
use Rattle.xt_frames.specs.Breaches.{Bounds, first_shown, other_tests, vector_test}
use Rattle.xt_frames.proofs.Shown.{NoneShown, none_shown}
use Rattle.xt_frames.proofs.StackSteps.{step_fetches}
use Rattle.xt_uses.specs.UseBreaches.{fetched_uses, laid_use, nowhere, swaps_unknown, use_tests}
use Rattle.xt_uses.specs.UseState.{UseState}
use Rattle.xt_simulation.proofs.MovspStep.{movsp}
use Rattle.xt_simulation.proofs.MovspTurn.{keeps}
use Rattle.xt_simulation.proofs.Tests.{Denied, denied}

pub laid_pends : (b : Bounds) (fresh : Bool) (code : ℕ → ℕ) (live : ℕ → Bool) (kb : ℕ → ℕ) (rec : StepRecord) (s : UseState) (h : FrameState) → (ltb 0 (pending_of h.control) || h.control.waits) ≡ true → laid_use b fresh code live kb rec s h ≡ first_shown (vector_test b h ∷ [])
unfolding laid_use
laid_pends b fresh code live kb rec s h e = cond-true (ltb 0 (pending_of h.control) || h.control.waits) _ _ e

laid_fetches : (b : Bounds) (fresh : Bool) (code : ℕ → ℕ) (live : ℕ → Bool) (kb : ℕ → ℕ) (rec : StepRecord) (s : UseState) (h : FrameState) → (ltb 0 (pending_of h.control) || h.control.waits) ≡ false → laid_use b fresh code live kb rec s h ≡ first_shown (fetched_uses b fresh live kb (fetch_at code h.control.pc) rec s h (step_with_inputs code rec.reply h))
unfolding laid_use
laid_fetches b fresh code live kb rec s h e = cond-false (ltb 0 (pending_of h.control) || h.control.waits) _ _ e

pub movsp_form : (i : Insn) → is_movsp i ≡ true → (t : ℕ) × (q : ℕ) × (i ≡ movsp t q)
unfolding is_movsp
movsp_form (insn.Shift (shift.Movsp t q)) h = (t, q, refl)
movsp_form _ h = absurd (false≢true h)

-- a MOVSP writes a1
pub moves_denied : {b : Bounds} {fresh : Bool} {live : ℕ → Bool} {kb : ℕ → ℕ} (i : Insn) {rec : StepRecord} {us : UseState} {h : FrameState} {v : FrameTurn} → is_movsp i ≡ true → Denied b fresh live kb i rec us h v
    → (q : ℕ) × ((i ≡ movsp 1 q) × Denied b fresh live kb (movsp 1 q) rec us h v)
moves_denied {b = b} {fresh = fresh} {live = live} {kb = kb} i {rec = rec} {us = us} {h = h} {v = v} is d =
    let form = movsp_form i is in
    let moves : Denied b fresh live kb (movsp form.0 form.1) rec us h v = subst (λ j. Denied b fresh live kb j rec us h v) form.2 d in
    let same : i ≡ movsp 1 form.1 = form.2 ∙ ap (λ n. movsp n form.1) (keeps b.range form.0 form.1 rec.kind h moves.stack).one in
    (form.1, (same, subst (λ j. Denied b fresh live kb j rec us h v) same d))

module _ (b : Bounds) (fresh : Bool) (code : ℕ → ℕ) (live : ℕ → Bool) (kb : ℕ → ℕ) (rec : StepRecord) (us : UseState) (h : FrameState) (still : ltb 0 (pending_of h.control) ≡ false) (awake : h.control.waits ≡ false) (none : laid_use b fresh code live kb rec us h ≡ None) where
  shown_at : (at : Fetched) → fetch_at code h.control.pc ≡ at → first_shown (fetched_uses b fresh live kb at rec us h (step_with_inputs code rec.reply h)) ≡ None
  shown_at at e = ap (λ z. first_shown (fetched_uses b fresh live kb z rec us h (step_with_inputs code rec.reply h))) (sym e) ∙ (sym (laid_fetches b fresh code live kb rec us h (or_from _ _ still awake)) ∙ none)

  pub row_denied : (i : Insn) (len : ℕ) → fetch_at code h.control.pc ≡ Fetches i len → Denied b fresh live kb i rec us h (fetched_step (Fetches i len) code rec.reply h)
  row_denied i len e =
      let step : step_with_inputs code rec.reply h ≡ fetched_step (Fetches i len) code rec.reply h = step_fetches code rec.reply h still awake ∙ ap (λ z. fetched_step z code rec.reply h) e in
      denied b fresh live kb i rec us h (fetched_step (Fetches i len) code rec.reply h) (subst (λ (z : FrameTurn). first_shown (fetched_uses b fresh live kb (Fetches i len) rec us h z) ≡ None) step (shown_at (Fetches i len) e))

  -- nothing is fetched, or no instruction
  abbrev Others : Type 0
  Others = NoneShown (use_tests false (swaps_unknown kb rec.access) false (other_tests b live nowhere rec h (step_with_inputs code rec.reply h)))

  pub fails_shown : (a : ℕ) → fetch_at code h.control.pc ≡ Fails a → Others
  fails_shown a e = none_shown (use_tests false (swaps_unknown kb rec.access) false (other_tests b live nowhere rec h (step_with_inputs code rec.reply h))) (shown_at (Fails a) e)

  pub spells_shown : fetch_at code h.control.pc ≡ SpellsNothing → Others
  spells_shown e = none_shown (use_tests false (swaps_unknown kb rec.access) false (other_tests b live nowhere rec h (step_with_inputs code rec.reply h))) (shown_at SpellsNothing e)
