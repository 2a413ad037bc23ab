-- A record shows the same beside other live and stale bytes, if its access touches none of those.
use Rattle.std.proofs.Common.{◌≡◌, ℕ, Bool, true, false, cond, nat_lt, not, ◌||◌, Option, Some, None, [], ◌∷◌, refl, sym, ap, ◌∙◌, subst}
use Rattle.xt_special.specs.Interrupts.{pending_of}
use Rattle.xt_trace.specs.declared.record.StepRecord.{StepRecord}
use Rattle.xt_map.specs.Fetching.{Fetched, Fetches, Fails, SpellsNothing, fetch_at}
use Rattle.xt_rows.specs.Kinds.{is_movsp, is_windowing, names_window_register}
use Rattle.xt_frames.specs.declared.kinds.BreachKind.{BreachKind}
use Rattle.xt_frames.specs.declared.kinds.BreachKind.TheVariants as breach
use Rattle.xt_frames.specs.Frames.{FrameState}
use Rattle.xt_frames.specs.FrameStep.{FrameTurn, with_inputs, step_with_inputs}
use Rattle.xt_frames.specs.Nesting.{begins, current, is_nesting}
use Rattle.xt_frames.specs.declared.kinds.HandlerPhase.{HandlerPhase}
use Rattle.xt_frames.specs.declared.kinds.HandlerPhase.TheVariants.{Outside, InHandler, Nested}
use Rattle.xt_frames.specs.HandlerSteps.{is_window}
use Rattle.xt_frames.specs.Breaches.{Bounds, breach_of, breaks_nested, fetched_tests, first_shown, has_no_caller, inputs_of, laid_breach, leaves_range, loads_stale, loses_epc1, misaligns_sp, moves_vectors, names_high, opens_nothing, other_frame_size, reads_none, returns_elsewhere, stale_after, test, touches_save_area, vector_test, window_breach, writes_sp}
use Rattle.xt_frames.specs.Judging.{Standing, Seen, Handled, Judges, Breaks, handled_record, live_of, seen_record, seen_in, seen_judged, seen_step, seen_window}
use Rattle.std.specs.Prelude.{is_some}

module _ (b : Bounds) (fresh : Bool) (code : ℕ → ℕ) (live stale live' stale' : ℕ → Bool) (rec : StepRecord)
    (saves : touches_save_area live rec.access ≡ touches_save_area live' rec.access) (loads : loads_stale live stale rec.access ≡ loads_stale live' stale' rec.access) where
  tests_same : (at : Fetched) (f : FrameState) (u : FrameTurn) → first_shown (fetched_tests b fresh live stale at rec f u) ≡ first_shown (fetched_tests b fresh live' stale' at rec f u)
  tests_same (Fetches i len) f u =
      let shown : Bool → Bool → Option BreachKind = λ s l. first_shown (
      test breach.Unset (reads_none i f)
      ∷ test breach.SpWritten (writes_sp i rec.write u.write)
      ∷ test breach.FrameSize (other_frame_size b.range i f)
      ∷ test breach.StackRange (leaves_range b.range i f)
      ∷ test breach.SpAlign (misaligns_sp i f)
      ∷ test breach.OpeningCall (opens_nothing i f)
      ∷ test breach.ReturnMismatch (returns_elsewhere i f)
      ∷ test breach.NoCaller (has_no_caller i f)
      ∷ test breach.SaveStore s
      ∷ test breach.StaleLoad l
      ∷ test breach.ExcmRegister (names_high i f)
      ∷ test breach.WindowInstruction (is_windowing i)
      ∷ test breach.WindowRegister (names_window_register i)
      ∷ test breach.WoeCleared (not u.after.control.ps.woe)
      ∷ test breach.VecbaseMoved (moves_vectors b u)
      ∷ test breach.EpcLost (loses_epc1 f.nested fresh i)
      ∷ test breach.Movsp (is_movsp i)
      ∷ vector_test b f
      ∷ test breach.Nested (breaks_nested f.nested i u)
      ∷ []) in
      λ k. shown (saves k) (loads k)
  tests_same (Fails address) f u = others_same f u
    where
      others_same : (f : FrameState) (u : FrameTurn) → first_shown (fetched_tests b fresh live stale (Fails address) rec f u) ≡ first_shown (fetched_tests b fresh live' stale' (Fails address) rec f u)
      others_same f u =
          let shown : Bool → Bool → Option BreachKind = λ s l. first_shown (
          test breach.SaveStore s
          ∷ test breach.StaleLoad l
          ∷ test breach.WoeCleared (not u.after.control.ps.woe)
          ∷ test breach.VecbaseMoved (moves_vectors b u)
          ∷ vector_test b f
          ∷ test breach.Nested (is_some f.nested)
          ∷ []) in
          λ k. shown (saves k) (loads k)
  tests_same SpellsNothing f u =
      let shown : Bool → Bool → Option BreachKind = λ s l. first_shown (
      test breach.SaveStore s
      ∷ test breach.StaleLoad l
      ∷ test breach.WoeCleared (not u.after.control.ps.woe)
      ∷ test breach.VecbaseMoved (moves_vectors b u)
      ∷ vector_test b f
      ∷ test breach.Nested (is_some f.nested)
      ∷ []) in
      λ k. shown (saves k) (loads k)

  laid_same : (f : FrameState) → laid_breach b fresh code live stale rec f ≡ laid_breach b fresh code live' stale' rec f
  unfolding laid_breach
  laid_same f =
      ap (cond (nat_lt 0 (pending_of f.control) || f.control.waits) (first_shown (vector_test b f ∷ []))) (tests_same (fetch_at code f.control.pc) f (step_with_inputs code rec.reply f))

  pub breach_same : (nested : Bool) (f : FrameState) → breach_of b fresh code live stale nested rec f ≡ breach_of b fresh code live' stale' nested rec f
  breach_same nested f = ap (cond (begins nested rec.kind f) None) (laid_same (with_inputs (inputs_of rec) (current f)))

-- ---- what the judge sees

module _ (code : ℕ → ℕ) (b : Bounds) (st : Standing) (others stale others' stale' : ℕ → Bool) (rec : StepRecord)
    (saves : touches_save_area (live_of b st.frame others) rec.access ≡ touches_save_area (live_of b st.frame others') rec.access)
    (loads : loads_stale (live_of b st.frame others) stale rec.access ≡ loads_stale (live_of b st.frame others') stale' rec.access) where
  -- the same, but for the stale bytes, which are those after the step beside these bytes
  abbrev pub IsLike : Seen → Seen → Type 0
  IsLike (Handled s) (Handled t) = (s ≡ t) × (t.frame ≡ st.frame)
  IsLike (Judges s x) (Judges t y) =
      (s ≡ t) × (x ≡ stale_after (live_of b t.frame others) (live_of b st.frame others) stale rec.access) × (y ≡ stale_after (live_of b t.frame others') (live_of b st.frame others') stale' rec.access)
  IsLike (Breaks k) (Breaks l) = k ≡ l
  IsLike _ _ = ⊥

  step_like : (nested : Bool) (k : Option BreachKind) → IsLike (seen_step k code b st others stale nested rec) (seen_step k code b st others' stale' nested rec)
  step_like nested None = (refl, refl, refl)
  step_like nested (Some kind) = refl

  judged_like : (nested : Bool) → IsLike (seen_judged code b st others stale nested rec) (seen_judged code b st others' stale' nested rec)
  judged_like nested =
      let f = st.frame in
      let k = breach_of b st.fresh code (live_of b f others) stale nested rec f in
      let same = breach_same b st.fresh code (live_of b f others) stale (live_of b f others') stale' rec saves loads nested f in
      subst (λ (l : Option BreachKind). IsLike (seen_step k code b st others stale nested rec) (seen_step l code b st others' stale' nested rec)) same (step_like nested k)

  window_like : (k : Option BreachKind) → IsLike (seen_window k st.frame) (seen_window k st.frame)
  window_like None = (refl, refl)
  window_like (Some kind) = refl

  handled_like : IsLike (handled_record code st rec) (handled_record code st rec)
  handled_like = (refl, refl)

  chosen : (c : Bool) (s t u v : Seen) → IsLike s t → IsLike u v → IsLike (cond c s u) (cond c t v)
  chosen true s t u v h k = h
  chosen false s t u v h k = k

  in_like : (m : HandlerPhase) → IsLike (seen_in m code b st others stale rec) (seen_in m code b st others' stale' rec)
  in_like Outside =
      let w = seen_window (window_breach code rec.kind (with_inputs (inputs_of rec) (current st.frame))) st.frame in
      chosen (is_window rec.kind) w w (seen_judged code b st others stale false rec) (seen_judged code b st others' stale' false rec)
      (window_like (window_breach code rec.kind (with_inputs (inputs_of rec) (current st.frame)))) (judged_like false)
  in_like InHandler =
      chosen (is_nesting rec.kind) (seen_judged code b st others stale true rec) (seen_judged code b st others' stale' true rec) (handled_record code st rec) (handled_record code st rec) (judged_like true) handled_like
  in_like Nested = judged_like true

  pub seen_like : IsLike (seen_record code b st others stale rec) (seen_record code b st others' stale' rec)
  seen_like = in_like st.phase

-- ---- a record without an access

-- the same, but for the stale bytes
abbrev pub IsAsSeen : Seen → Seen → Type 0
IsAsSeen (Handled s) (Handled t) = s ≡ t
IsAsSeen (Judges s a) (Judges t b) = s ≡ t
IsAsSeen (Breaks k) (Breaks l) = k ≡ l
IsAsSeen _ _ = ⊥

module _ (code : ℕ → ℕ) (b : Bounds) (st : Standing) (others stale others' stale' : ℕ → Bool) (rec : StepRecord) (e : rec.access ≡ None) where
  saves_none : touches_save_area (live_of b st.frame others) rec.access ≡ touches_save_area (live_of b st.frame others') rec.access
  saves_none = ap (touches_save_area (live_of b st.frame others)) e ∙ sym (ap (touches_save_area (live_of b st.frame others')) e)

  loads_none : loads_stale (live_of b st.frame others) stale rec.access ≡ loads_stale (live_of b st.frame others') stale' rec.access
  loads_none = ap (loads_stale (live_of b st.frame others) stale) e ∙ sym (ap (loads_stale (live_of b st.frame others') stale') e)

  forget : (s t : Seen) → IsLike code b st others stale others' stale' rec saves_none loads_none s t → IsAsSeen s t
  forget (Handled s) (Handled t) h = h.0
  forget (Judges s x) (Judges t y) h = h.0
  forget (Breaks k) (Breaks l) h = h
  forget (Handled s) (Judges t y) h = absurd h
  forget (Handled s) (Breaks l) h = absurd h
  forget (Judges s x) (Handled t) h = absurd h
  forget (Judges s x) (Breaks l) h = absurd h
  forget (Breaks k) (Handled t) h = absurd h
  forget (Breaks k) (Judges t y) h = absurd h

  pub quiet_as : IsAsSeen (seen_record code b st others stale rec) (seen_record code b st others' stale' rec)
  quiet_as =
      forget (seen_record code b st others stale rec) (seen_record code b st others' stale' rec)
      (seen_like code b st others stale others' stale' rec saves_none loads_none)
