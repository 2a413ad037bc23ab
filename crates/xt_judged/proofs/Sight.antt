-- What the judge sees in records that are equal but for time, where what it knows is equal but for time.
use Rattle.std.proofs.Common.{◌≡◌, ℕ, zero, suc, Bool, true, false, cond, eqb, nat_lt, not, ◌||◌, Option, Some, None, List, [], ◌∷◌, bit_and, slice_index, slice_set, refl, sym, ap, ◌∙◌, subst, arith}
use Rattle.std.specs.Prelude.{is_some}
use Rattle.std.proofs.lemmas.Bool.{eqb-true, or_parts, true≢false}
use Rattle.xt_isa.specs.declared.Insn.{Insn}
use Rattle.xt_isa.specs.declared.Insn.TheVariants as insn
use Rattle.xt_isa.specs.declared.control.Control.TheVariants as control
use Rattle.xt_special.specs.Control.{special_of}
use Rattle.xt_special.specs.Access.{without_bits}
use Rattle.xt_trace.specs.declared.record.StepKind.{StepKind}
use Rattle.xt_trace.specs.declared.record.StepKind.TheVariants as kind
use Rattle.xt_trace.specs.declared.record.StepRecord.{StepRecord}
use Rattle.xt_map.specs.Code.{AreBytes}
use Rattle.xt_map.specs.Fetching.{Fetched, Fetches, Fails, SpellsNothing, fetch_at}
use Rattle.xt_frames.specs.declared.holes.Nested as holes
use Rattle.xt_frames.specs.declared.kinds.BreachKind.{BreachKind}
use Rattle.xt_frames.specs.declared.kinds.BreachKind.TheVariants as breach
use Rattle.xt_frames.specs.Frames.{FrameState}
use Rattle.xt_frames.specs.FrameStep.{FrameTurn, with_inputs, step_with_inputs}
use Rattle.xt_frames.specs.Nesting.{begins, current, current_in, is_nesting}
use Rattle.xt_frames.specs.declared.kinds.HandlerPhase.{HandlerPhase}
use Rattle.xt_frames.specs.declared.kinds.HandlerPhase.TheVariants.{Outside, InHandler, Nested}
use Rattle.xt_frames.specs.HandlerSteps.{is_window, phase_after}
use Rattle.xt_frames.specs.SaveAreas.{Range}
use Rattle.xt_frames.specs.Breaches.{Bounds, breach_of, breaks_nested, fetched_return_breach, fetched_tests, first_shown, fresh_after, has_no_caller, inputs_of, insn_tests, is_movsp, is_return, is_underflow, is_windowing, laid_breach, leaves_range, loads_stale, loses_epc1, misaligns_sp, names_high, names_window_register, opens_nothing, other_frame_size, other_tests, reads_none_in, returns_elsewhere, stale_after, test, touches_save_area, vector_test, window_breach, writes_sp}
use Rattle.xt_frames.specs.Judging.{Standing, Seen, Handled, Judges, Breaks, fresh_on, handled_record, live_of, seen_record, seen_in, seen_judged, seen_step, seen_window, step_on}
use Rattle.xt_timeless.specs.Time.{fetches_time, timer_bits}
use Rattle.xt_timeless.specs.Alike.{AreAlike, Clocks, Difference, fetches_difference}
use Rattle.xt_map.proofs.Fetches.{fetched_range}
use Rattle.xt_timeless.proofs.Keeping.{with_special}
use Rattle.xt_judged.specs.Timeless.{frame_uses_time}
use Rattle.xt_judged.proofs.Untimed.{AreKeptTurns, AreRanged, IsQuiet, kept_level}
use Rattle.xt_judged.specs.Forgotten.{IsKeptFrame}
use Rattle.xt_judged.proofs.Stepping.{IsSameTime, current_kept, found_kept, found_turns, on_kept, unlike_special}

-- ---- tests on a state and on the same state with another list of special registers

module _ (p : FrameState) (l : List ℕ) where
  abbrev q : FrameState
  q = record p { control = with_special p.control l }

  none_read : (n : Option holes.Nested) (i : Insn) → reads_none_in n i p ≡ reads_none_in n i q
  none_read None i = refl
  none_read (Some x) i = refl

  frame_size : (r : Range) (i : Insn) → other_frame_size r i p ≡ other_frame_size r i q
  unfolding other_frame_size
  frame_size r (insn.Control (control.Entry n size)) = refl
  frame_size r _ = refl

  range_left : (r : Range) (i : Insn) → leaves_range r i p ≡ leaves_range r i q
  unfolding leaves_range
  range_left r (insn.Control (control.Entry n size)) = refl
  range_left r _ = refl

  sp_aligned : (i : Insn) → misaligns_sp i p ≡ misaligns_sp i q
  unfolding misaligns_sp
  sp_aligned (insn.Control (control.Entry n size)) = refl
  sp_aligned _ = refl

  call_opened : (i : Insn) → opens_nothing i p ≡ opens_nothing i q
  unfolding opens_nothing
  call_opened (insn.Control (control.Entry n size)) = refl
  call_opened _ = refl

  return_shown : (at : Fetched) → fetched_return_breach at p ≡ fetched_return_breach at q
  return_shown (Fetches i len) =
      λ j. cond (is_return i) (first_shown (test breach.Unset (none_read p.nested i j) ∷ test breach.ReturnMismatch (returns_elsewhere i p) ∷ test breach.NoCaller (has_no_caller i p) ∷ [])) None
  return_shown (Fails address) = refl
  return_shown SpellsNothing = refl

  window_shown : (code : ℕ → ℕ) (what : StepKind) → window_breach code what p ≡ window_breach code what q
  unfolding window_breach
  window_shown code (kind.Window vector) = ap (λ (r : Option BreachKind). cond (is_underflow vector) r None) (return_shown (fetch_at code p.control.pc))
  window_shown code _ = refl

  -- ---- and after a step

  module _ {gap : Difference} (u v : FrameTurn) (k : AreKeptTurns gap u v) (b : Bounds) (fresh : Bool) (live stale : ℕ → Bool) (rec : StepRecord) (ccount interrupt : ℕ) where
    abbrev rec' : StepRecord
    rec' = record rec { ccount = ccount; interrupt = interrupt }

    woe_same : u.after.control.ps.woe ≡ v.after.control.ps.woe
    woe_same = unlike_special (λ s. s.control.ps.woe) u.after v.after (λ list. refl) k.after

    vecbase_same : special_of u.after.control 231 ≡ special_of v.after.control 231
    vecbase_same = k.after.alike.same 231 refl ∙ sym (ap (λ (s : FrameState). special_of s.control 231) k.after.is)

    insn_same : (i : Insn) → insn_tests b fresh live stale i rec p u ≡ insn_tests b fresh live stale i rec' q v
    insn_same i = λ j.
        test breach.Unset (none_read p.nested i j)
        ∷ test breach.SpWritten (writes_sp i rec.write (k.write j))
        ∷ test breach.FrameSize (frame_size b.range i j)
        ∷ test breach.StackRange (range_left b.range i j)
        ∷ test breach.SpAlign (sp_aligned i j)
        ∷ test breach.OpeningCall (call_opened i j)
        ∷ test breach.ReturnMismatch (returns_elsewhere i p)
        ∷ test breach.NoCaller (has_no_caller i p)
        ∷ test breach.SaveStore (touches_save_area live rec.access)
        ∷ test breach.StaleLoad (loads_stale live stale rec.access)
        ∷ test breach.ExcmRegister (names_high i p)
        ∷ test breach.WindowInstruction (is_windowing i)
        ∷ test breach.WindowRegister (names_window_register i)
        ∷ test breach.WoeCleared (not (woe_same j))
        ∷ test breach.VecbaseMoved (not (eqb (vecbase_same j) b.vecbase))
        ∷ test breach.EpcLost (loses_epc1 p.nested fresh i)
        ∷ test breach.Movsp (is_movsp i)
        ∷ vector_test b p
        ∷ test breach.Nested (breaks_same p.nested i j)
        ∷ []
      where
        breaks_same : (n : Option holes.Nested) (i : Insn) → breaks_nested n i u ≡ breaks_nested n i v
        breaks_same None i = refl
        breaks_same (Some x) i = ap (λ (what : StepKind). breaks_nested (Some x) i (record u { kind = what })) k.kind

    other_same : other_tests b live stale rec p u ≡ other_tests b live stale rec' q v
    other_same = λ j.
        test breach.SaveStore (touches_save_area live rec.access)
        ∷ test breach.StaleLoad (loads_stale live stale rec.access)
        ∷ test breach.WoeCleared (not (woe_same j))
        ∷ test breach.VecbaseMoved (not (eqb (vecbase_same j) b.vecbase))
        ∷ vector_test b p
        ∷ test breach.Nested (is_some p.nested)
        ∷ []

    tests_same : (at : Fetched) → fetched_tests b fresh live stale at rec p u ≡ fetched_tests b fresh live stale at rec' q v
    tests_same (Fetches i len) = insn_same i
    tests_same (Fails address) = other_same
    tests_same SpellsNothing = other_same

-- ---- the first breach of a record

module _ {gap : Difference} (code : ℕ → ℕ) (b : Bounds) (fresh : Bool) (live stale : ℕ → Bool) (rec : StepRecord) (ccount interrupt : ℕ) where
  laid_shown : (p : FrameState) (l : List ℕ) → AreAlike gap p.control.special l → IsQuiet gap (special_of p.control 228)
      → AreKeptTurns gap (step_with_inputs code rec.reply p) (step_with_inputs code rec.reply (record p { control = with_special p.control l }))
      → laid_breach b fresh code live stale rec p ≡ laid_breach b fresh code live stale (record rec { ccount = ccount; interrupt = interrupt }) (record p { control = with_special p.control l })
  unfolding laid_breach
  laid_shown p l a none k =
      let pending = kept_level gap p.control l a none in
      let q : FrameState = record p { control = with_special p.control l } in
      let tests = tests_same p l (step_with_inputs code rec.reply p) (step_with_inputs code rec.reply q) k b fresh live stale rec ccount interrupt (fetch_at code p.control.pc) in
      λ j. cond (nat_lt 0 (pending j) || p.control.waits) (first_shown (vector_test b p ∷ [])) (first_shown (tests j))

  shown_same : (p q : FrameState) → IsKeptFrame gap p q → IsQuiet gap (special_of p.control 228) → AreKeptTurns gap (step_with_inputs code rec.reply p) (step_with_inputs code rec.reply q)
      → laid_breach b fresh code live stale rec p ≡ laid_breach b fresh code live stale (record rec { ccount = ccount; interrupt = interrupt }) q
  shown_same p q k none turns =
      laid_shown p k.list k.alike none (subst (λ (s : FrameState). AreKeptTurns gap (step_with_inputs code rec.reply p) (step_with_inputs code rec.reply s)) k.is turns)
      ∙ ap (laid_breach b fresh code live stale (record rec { ccount = ccount; interrupt = interrupt })) (sym k.is)

-- ---- what the judge sees

pub record IsKeptStanding (gap : Difference) (s t : Standing) : Type 0 where
  pub frame : IsKeptFrame gap s.frame t.frame
  pub fresh : s.fresh ≡ t.fresh
  pub phase : s.phase ≡ t.phase

abbrev pub IsKeptSeen : Difference → Seen → Seen → Type 0
IsKeptSeen gap (Handled s) (Handled t) = IsKeptStanding gap s t
IsKeptSeen gap (Judges s a) (Judges t b) = IsKeptStanding gap s t × (a ≡ b)
IsKeptSeen gap (Breaks k) (Breaks l) = k ≡ l
IsKeptSeen gap _ _ = ⊥

chosen_seen : (gap : Difference) (c : Bool) (s t x y : Seen) → IsKeptSeen gap s t → IsKeptSeen gap x y → IsKeptSeen gap (cond c s x) (cond c t y)
chosen_seen gap true s t x y h k = h
chosen_seen gap false s t x y h k = k

window_seen : {gap : Difference} → (k : Option BreachKind) (f g : FrameState) → IsKeptFrame gap f g → IsKeptSeen gap (seen_window k f) (seen_window k g)
window_seen None f g h = record { frame = h; fresh = refl; phase = refl }
window_seen (Some kind) f g h = refl

set_other : (xs : List ℕ) (k v j : ℕ) → (j ≡ k → ⊥) → slice_index (slice_set xs k v) j ≡ slice_index xs j
set_other [] k v j apart = refl
set_other (x ∷ xs) zero v zero apart = absurd (apart refl)
set_other (x ∷ xs) zero v (suc j) apart = refl
set_other (x ∷ xs) (suc k) v zero apart = refl
set_other (x ∷ xs) (suc k) v (suc j) apart = set_other xs k v j (λ e. apart (ap suc e))

-- in the state of a nested interrupt too
inner_ps : (n : Option holes.Nested) (p : FrameState) (l : List ℕ) → (current_in n (record p { control = with_special p.control l })).control.ps ≡ (current_in n p).control.ps
inner_ps None p l = refl
inner_ps (Some x) p l = refl

-- INTENABLE where CCOUNT and INTERRUPT are laid over
enabled_laid : (xs : List ℕ) (a b : ℕ) → slice_index (slice_set (slice_set xs 234 a) 226 b) 228 ≡ slice_index xs 228
enabled_laid xs a b = set_other (slice_set xs 234 a) 226 b 228 (λ e. absurd (omega (arith, e))) ∙ set_other xs 234 a 228 (λ e. absurd (omega (arith, e)))

not_used : (x : ℕ) (b : Bool) → (not (eqb x 0) || b) ≡ false → (x ≡ 0) × (b ≡ false)
not_used x b h = let parts = or_parts (not (eqb x 0)) b h in (eqb-true x 0 (negated (eqb x 0) parts.0), parts.1)
  where
    negated : (c : Bool) → not c ≡ false → c ≡ true
    negated true e = refl
    negated false e = absurd (true≢false e)

module _ {gap : Difference} (code : ℕ → ℕ) (ranged : AreRanged gap code) (b : Bounds) (f : FrameState) (ys : List ℕ) (a : AreAlike gap f.control.special ys) (fresh : Bool) (others stale : ℕ → Bool)
    (rec : StepRecord) (ccount interrupt : ℕ) (same : IsSameTime gap rec ccount interrupt) (none : IsQuiet gap (special_of (with_inputs (inputs_of rec) (current f)).control 228))
    (untold : fetches_difference gap (fetch_at code (current f).control.pc) ≡ false) where
  abbrev g : FrameState
  g = record f { control = with_special f.control ys }

  abbrev other : StepRecord
  other = record rec { ccount = ccount; interrupt = interrupt }

  found : IsKeptFrame gap (with_inputs (inputs_of rec) (current f)) (with_inputs (inputs_of other) (current g))
  found = found_kept f ys a rec ccount interrupt same f.nested

  steps : (nested : Bool) → AreKeptTurns gap (step_on code nested rec f) (step_on code nested other g)
  steps nested = on_kept f ys a rec ccount interrupt same code ranged nested none untold

  found_steps : AreKeptTurns gap (step_with_inputs code rec.reply (with_inputs (inputs_of rec) (current f))) (step_with_inputs code rec.reply (with_inputs (inputs_of other) (current g)))
  found_steps = found_turns f ys a rec ccount interrupt same code ranged none untold

  breach_kept : (live : ℕ → Bool) (nested : Bool) → breach_of b fresh code live stale nested rec f ≡ breach_of b fresh code live stale nested other g
  breach_kept live nested =
      ap (cond (begins nested rec.kind f) None)
      (shown_same code b fresh live stale rec ccount interrupt (with_inputs (inputs_of rec) (current f)) (with_inputs (inputs_of other) (current g)) found none found_steps)

  fresh_kept : (nested : Bool) → fresh_on fresh code nested rec f ≡ fresh_on fresh code nested other g
  fresh_kept nested =
      let k = steps nested in
      let pc : (current f).control.pc ≡ (current g).control.pc = sym (ap (λ (s : FrameState). s.control.pc) (current_kept f ys a rec ccount interrupt same f.nested)) in
      let before : (with_inputs (inputs_of rec) (current f)).control.ps ≡ (with_inputs (inputs_of other) (current g)).control.ps = sym (ap (λ (s : FrameState). s.control.ps) found.is) in
      let after = unlike_special (λ s. (current s).control.ps) (step_on code nested rec f).after (step_on code nested other g).after
      (λ list. inner_ps (step_on code nested rec f).after.nested (step_on code nested rec f).after list) k.after in
      λ j. fresh_after fresh (k.kind j) (fetch_at code (pc j)) (before j) (after j)

  stale_kept : (nested : Bool)
      → stale_after (live_of b (step_on code nested rec f).after others) (live_of b f others) stale rec.access ≡ stale_after (live_of b (step_on code nested other g).after others) (live_of b g others) stale rec.access
  stale_kept nested =
      let live = unlike_special (λ s. live_of b s others) (step_on code nested rec f).after (step_on code nested other g).after (λ list. refl) (steps nested).after in
      ap (λ (now : ℕ → Bool). stale_after now (live_of b f others) stale rec.access) live

  phase_kept : (m : HandlerPhase) → phase_after code m rec ≡ phase_after code m other
  phase_kept Outside = refl
  phase_kept InHandler = refl
  phase_kept Nested = refl

  step_seen : (m : HandlerPhase) (nested : Bool) (k : Option BreachKind)
      → IsKeptSeen gap (seen_step k code b (record { frame = f; fresh = fresh; phase = m }) others stale nested rec) (seen_step k code b (record { frame = g; fresh = fresh; phase = m }) others stale nested other)
  step_seen m nested None = (record { frame = (steps nested).after; fresh = fresh_kept nested; phase = phase_kept m }, stale_kept nested)
  step_seen m nested (Some kind) = refl

  judged_seen : (m : HandlerPhase) (nested : Bool)
      → IsKeptSeen gap (seen_judged code b (record { frame = f; fresh = fresh; phase = m }) others stale nested rec) (seen_judged code b (record { frame = g; fresh = fresh; phase = m }) others stale nested other)
  judged_seen m nested =
      let k = breach_of b fresh code (live_of b f others) stale nested rec f in
      subst
      (λ (l : Option BreachKind).
      IsKeptSeen gap (seen_step k code b (record { frame = f; fresh = fresh; phase = m }) others stale nested rec) (seen_step l code b (record { frame = g; fresh = fresh; phase = m }) others stale nested other))
      (breach_kept (live_of b f others) nested) (step_seen m nested k)

  window_kept : window_breach code rec.kind (with_inputs (inputs_of rec) (current f)) ≡ window_breach code rec.kind (with_inputs (inputs_of other) (current g))
  window_kept = window_shown (with_inputs (inputs_of rec) (current f)) found.list code rec.kind ∙ ap (window_breach code rec.kind) (sym found.is)

  itself : IsKeptFrame gap f g
  itself = record { list = ys; alike = a; is = refl }

  pub phase_seen : (m : HandlerPhase) → IsKeptSeen gap (seen_in m code b (record { frame = f; fresh = fresh; phase = m }) others stale rec) (seen_in m code b (record { frame = g; fresh = fresh; phase = m }) others stale other)
  phase_seen Outside =
      chosen_seen gap (is_window rec.kind) (seen_window (window_breach code rec.kind (with_inputs (inputs_of rec) (current f))) f) (seen_window (window_breach code rec.kind (with_inputs (inputs_of other) (current g))) g)
      (seen_judged code b (record { frame = f; fresh = fresh; phase = Outside }) others stale false rec) (seen_judged code b (record { frame = g; fresh = fresh; phase = Outside }) others stale false other)
      (subst (λ (l : Option BreachKind). IsKeptSeen gap (seen_window (window_breach code rec.kind (with_inputs (inputs_of rec) (current f))) f) (seen_window l g)) window_kept
      (window_seen (window_breach code rec.kind (with_inputs (inputs_of rec) (current f))) f g itself))
      (judged_seen Outside false)
  phase_seen InHandler =
      chosen_seen gap (is_nesting rec.kind) (seen_judged code b (record { frame = f; fresh = fresh; phase = InHandler }) others stale true rec)
      (seen_judged code b (record { frame = g; fresh = fresh; phase = InHandler }) others stale true other)
      (handled_record code (record { frame = f; fresh = fresh; phase = InHandler }) rec) (handled_record code (record { frame = g; fresh = fresh; phase = InHandler }) other)
      (judged_seen InHandler true) (record { frame = itself; fresh = refl; phase = refl })
  phase_seen Nested = judged_seen Nested true

-- a record that differs in time alone
pub record IsSameRecord (x y : StepRecord) : Type 0 where
  pub is : y ≡ record x { ccount = y.ccount; interrupt = y.interrupt }
  pub interrupt : without_bits x.interrupt timer_bits ≡ without_bits y.interrupt timer_bits

-- the same but for what may differ
pub seen_alike : {gap : Difference} (code : ℕ → ℕ) (b : Bounds) (s t : Standing) (others stale : ℕ → Bool) (x y : StepRecord) → AreRanged gap code → IsKeptStanding gap s t
    → y ≡ record x { ccount = y.ccount; interrupt = y.interrupt } → IsSameTime gap x y.ccount y.interrupt → IsQuiet gap (special_of (with_inputs (inputs_of x) (current s.frame)).control 228)
    → fetches_difference gap (fetch_at code (current s.frame).control.pc) ≡ false → IsKeptSeen gap (seen_record code b s others stale x) (seen_record code b t others stale y)
seen_alike {gap} code b s t others stale x y ranged k is time none untold =
    let frame = k.frame in
    let T : Standing → StepRecord → Type 0 = λ z w. IsKeptSeen gap (seen_record code b s others stale x) (seen_record code b z others stale w) in
    let u : Standing = record { frame = record s.frame { control = with_special s.frame.control frame.list }; fresh = s.fresh; phase = s.phase } in
    let make : FrameState → Bool → HandlerPhase → Standing = λ f e m. record { frame = f; fresh = e; phase = m } in
    let same : u ≡ t = λ i. make ((sym frame.is) i) (k.fresh i) (k.phase i) in
    let here = phase_seen code ranged b s.frame frame.list frame.alike s.fresh others stale x y.ccount y.interrupt time none untold s.phase in
    subst (λ (w : StepRecord). T t w) (sym is) (subst (λ (z : Standing). T z (record x { ccount = y.ccount; interrupt = y.interrupt })) same here)

-- but for time
pub seen_kept : (code : ℕ → ℕ) (b : Bounds) (s t : Standing) (others stale : ℕ → Bool) (x y : StepRecord) → AreBytes code → IsKeptStanding Clocks s t → IsSameRecord x y → frame_uses_time code s.frame ≡ false
    → IsKeptSeen Clocks (seen_record code b s others stale x) (seen_record code b t others stale y)
seen_kept code b s t others stale x y bytes k r free =
    let f = s.frame in
    let parts = not_used (bit_and (special_of (current f).control 228) timer_bits) (fetches_time (fetch_at code (current f).control.pc)) free in
    seen_alike code b s t others stale x y (λ pc i len e. fetched_range code pc i len bytes e) k r.is
    (record { bits = r.interrupt; levels = λ h. absurd (true≢false h); count = λ h. absurd (true≢false h) })
    (ap (λ (v : ℕ). bit_and v timer_bits) (enabled_laid (current f).control.special x.ccount x.interrupt) ∙ parts.0)
    (by_fetched (fetch_at code (current f).control.pc) parts.1)
  where
    by_fetched : (at : Fetched) → fetches_time at ≡ false → fetches_difference Clocks at ≡ false
    by_fetched (Fetches i len) h = h
    by_fetched (Fails address) h = refl
    by_fetched SpellsNothing h = refl
