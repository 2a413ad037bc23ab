-- A step that shows no breach and stays in its frame.
use Rattle.std.proofs.Common.{◌≡◌, ℕ, ◌||◌, ◌&&◌, Bool, true, false, not, ltb, List, [], ◌∷◌, Option, Some, None, refl, sym, ◌∙◌, ap, arith, cond, get_or, subst}
use Rattle.std.proofs.Math.Bool.{and-true}
use Rattle.std.proofs.lemmas.Bool.{and_left, and_right, and_parts, not-true, not_from_true, eqb-false, eq-eqb, or_from, cond-false}
use Rattle.std.proofs.lemmas.List.{get_or-set_other}
use Rattle.xt_isa.specs.declared.Insn.{Insn}
use Rattle.xt_isa.specs.declared.Insn.TheVariants as insn
use Rattle.xt_isa.specs.declared.control.Control.TheVariants as control
use Rattle.xt_isa.specs.declared.shift.Shift.TheVariants as shift
use Rattle.xt_map.specs.declared.access.Access.{Access}
use Rattle.xt_special.specs.declared.ps.Ps.{Ps}
use Rattle.xt_special.specs.declared.writes.SpecialWrite.{SpecialWrite}
use Rattle.xt_special.specs.Access.{with_set, with_sets}
use Rattle.xt_special.specs.Control.{Control, special_of}
use Rattle.xt_special.specs.Timers.{after_tick}
use Rattle.xt_special.proofs.Kept.{ticked_other}
use Rattle.xt_trace.specs.declared.record.RegWrite.{RegWrite}
use Rattle.xt_trace.specs.declared.record.StepKind.{StepKind}
use Rattle.xt_trace.specs.declared.record.StepKind.TheVariants as kind
use Rattle.xt_trace.specs.declared.record.StepRecord.{StepRecord}
use Rattle.xt_map.specs.Fetching.{Fetched, Fetches, fetch_at}
use Rattle.xt_rows.specs.declared.outcome.ReplyTarget.{ReplyTarget}
use Rattle.xt_rows.specs.declared.outcome.Effect.{Effect}
use Rattle.xt_rows.specs.declared.outcome.Flow.{Flow}
use Rattle.xt_rows.specs.declared.outcome.Flow.TheVariants.{Falls, Goes}
use Rattle.xt_rows.specs.declared.outcome.Outcome.{Outcome}
use Rattle.xt_rows.specs.declared.outcome.Outcome.TheVariants.{Does, Asks}
use Rattle.xt_rows.specs.Outcomes.{outcome_at}
use Rattle.xt_rows.specs.Settling.{after_effect, after_flow, write_with_reply}
use Rattle.xt_frames.specs.declared.breach.Limits.{Limits}
use Rattle.xt_frames.specs.declared.holes.UndefinedParts.{UndefinedParts}
use Rattle.xt_frames.specs.declared.holes.Nested.{Nested}
use Rattle.xt_frames.specs.Frames.{Frame, FrameState, value_or_zero, seen_after_write}
use Rattle.xt_frames.specs.FrameStep.{FrameTurn, done_in_frame, fetched_step, step_with_inputs}
use Rattle.xt_frames.specs.Marks.{unset_by}
use Rattle.xt_frames.specs.Nesting.{unset_after}
use Rattle.xt_frames.specs.SaveAreas.{Range}
use Rattle.xt_frames.specs.Breaches.{Test, first_shown, fetched_tests, insn_tests, laid_breach, fresh_after, ends_exception_mode, writes_epc1, is_sp, may_write_sp, is_movsp, other_frame_size, leaves_range, misaligns_sp, opens_nothing, touches_save_area, loads_stale, reads_none_in, reads_unset, loses_epc1, reads_epc1, breaks_nested}
use Rattle.xt_frames.specs.KeptFrameState.{Upper, state_at}
use Rattle.xt_frames.specs.Quick.{IsAtRest, IsCommon, IsMade, IsRow, IsRowOr, IsQuick, IsQuickOr, IsTurn, is_mild, sets_vecbase}
use Rattle.xt_frames.specs.Walked.{bounds_of}
use Rattle.xt_frames.proofs.Shown.{NoneShown}
use Rattle.xt_frames.proofs.StackSteps.{step_fetches, breach_fetches}

-- ---- an effect that is mild keeps VECBASE, and leaves PS.WOE set
set_other : (w : Option SpecialWrite) (xs : List ℕ) → not (sets_vecbase w) ≡ true → get_or (with_set w xs) 231 0 ≡ get_or xs 231 0
set_other None xs h = refl
set_other (Some w) xs h = get_or-set_other xs w.number 231 w.value 0 (λ e. eqb-false w.number 231 (not-true _ h) (sym e))

abbrev Same : Control → Control → Type 0
Same c d = (get_or d.special 231 0 ≡ get_or c.special 231 0) × (d.ps ≡ c.ps)

if_same : (c : Control) (b : Bool) (x y : Control) → Same c x → Same c y → Same c (cond b x y)
if_same c true x y p q = p
if_same c false x y p q = q

flow_keeps : (flow : Flow) (len : ℕ) (c : Control) → Same c (after_flow flow len c)
flow_keeps (Goes target) len c = (refl, refl)
flow_keeps Falls len c = if_same c _ _ _ (get_or-set_other c.special 2 231 _ 0 (λ e. omega arith), refl) (refl, refl)

pub record IsKeptBy (c d : Control) : Type 0 where
  pub woe : d.ps.woe ≡ true
  pub vectors : get_or d.special 231 0 ≡ get_or c.special 231 0

pub mild_keeps : (e : Effect) (len : ℕ) (c : Control) → is_mild e ≡ true → IsKeptBy c (after_tick (after_effect e len c))
unfolding after_effect
mild_keeps e len c h =
    let p = and_parts e.ps.woe _ h in
    let q = and_parts (not (sets_vecbase e.sets.0)) _ p.1 in
    let r = and_parts (not (sets_vecbase e.sets.1)) _ q.1 in
    let d : Control = record { pc = c.pc; special = with_sets e.sets c.special; ps = e.ps; threadptr = e.threadptr; waits = e.waits } in
    let f = flow_keeps e.flow len d in
    let sets : get_or (with_sets e.sets c.special) 231 0 ≡ get_or c.special 231 0 =
    set_other e.sets.2 (with_set e.sets.1 (with_set e.sets.0 c.special)) r.1
    ∙ (set_other e.sets.1 (with_set e.sets.0 c.special) r.0 ∙ set_other e.sets.0 c.special q.0) in
    record {
      woe = ap (λ (p : Ps). p.woe) f.1 ∙ p.0;
      vectors = ticked_other (after_flow e.flow len d).special 231 (λ e. omega arith) (λ e. omega arith) ∙ (f.0 ∙ sets);
    }

-- ---- the turn of an effect
abbrev after_write : Effect → ℕ → Option RegWrite → Upper → Upper
after_write e len write v = record { seen = seen_after_write write v.seen; control = after_tick (after_effect e len v.control) }

abbrev Turns : Outcome → ℕ → ℕ → Option RegWrite → UndefinedParts → Upper → Upper → Type 0
Turns o len reply write h v w = (frames : List Frame) → IsTurn (done_in_frame o len reply (state_at frames h v)) write frames h w

does_turn : (o : Outcome) (e : Effect) (len reply : ℕ) (h : UndefinedParts) (v w : Upper) → o ≡ Does e → w ≡ after_write e len e.write v → Turns o len reply e.write h v w
does_turn o e len reply h v w is made =
    let P : Outcome → Type 0 = λ x. Turns x len reply e.write h v w in
    let Q : Upper → Type 0 = λ y. Turns (Does e) len reply e.write h v y in
    subst P (sym is) (subst Q (sym made) (λ frames. record { kind = refl; writes = refl; after = refl }))

asks_turn : (o : Outcome) (access : Access) (awaited : Option ReplyTarget) (e : Effect) (len reply : ℕ) (h : UndefinedParts) (v w : Upper) → o ≡ Asks access awaited e → w ≡ after_write e len (write_with_reply None awaited reply) v → Turns o len reply (write_with_reply None awaited reply) h v w
asks_turn o access awaited e len reply h v w is made =
    let write = write_with_reply None awaited reply in
    let P : Outcome → Type 0 = λ x. Turns x len reply write h v w in
    let Q : Upper → Type 0 = λ y. Turns (Asks access awaited e) len reply write h v y in
    subst P (sym is) (subst Q (sym made) (λ frames. record { kind = refl; writes = refl; after = refl }))

-- what is known before a row is made
pub record IsRead (fresh : Bool) (i : Insn) (rec : StepRecord) (h : UndefinedParts) (v : Upper) : Type 0 where
  pub common : IsCommon i
  pub shown : is_sp rec.write ≡ false
  pub reads : (frames : List Frame) → reads_unset i (state_at frames h v) ≡ false
  pub lost : reads_epc1 fresh i ≡ false

row_of : (fresh : Bool) (i : Insn) (len : ℕ) (code : ℕ → ℕ) (rec : StepRecord) (h : UndefinedParts) (v w : Upper) (wrote : Option RegWrite) (e : Effect) (write : Option RegWrite)
    → IsRead fresh i rec h v → IsMade (Some wrote) e len write v w → Turns (outcome_at code i (value_or_zero v.seen) v.control) len rec.reply write h v w → IsRow fresh i len code rec h wrote v w
row_of fresh i len code rec h v w wrote e write k made turns =
    let kept = mild_keeps e len v.control made.0 in
    let row : IsRow fresh i len code rec h write v w = record {
      common = k.common;
      shown = k.shown;
      reads = k.reads;
      lost = k.lost;
      free = made.1;
      proper = made.4;
      seen = ap (λ (u : Upper). u.seen) made.2;
      turn = turns;
      woe = ap (λ (u : Upper). u.control.ps.woe) made.2 ∙ kept.woe;
      vectors = ap (λ (u : Upper). get_or u.control.special 231 0) made.2 ∙ kept.vectors;
    } in
    subst (λ (o : Option RegWrite). IsRow fresh i len code rec h o v w) (sym made.3) row

pub does_row : (made : Option (Option RegWrite)) (fresh : Bool) (i : Insn) (len : ℕ) (code : ℕ → ℕ) (rec : StepRecord) (h : UndefinedParts) (v w : Upper) (e : Effect)
    → IsRead fresh i rec h v → outcome_at code i (value_or_zero v.seen) v.control ≡ Does e → IsMade made e len e.write v w → IsRowOr made fresh i len code rec h v w
does_row (Some wrote) fresh i len code rec h v w e k does made = row_of fresh i len code rec h v w wrote e e.write k made (does_turn _ e len rec.reply h v w does made.2)
does_row None fresh i len code rec h v w e k does made = made

asks_made : (fresh : Bool) (i : Insn) (len : ℕ) (code : ℕ → ℕ) (rec : StepRecord) (h : UndefinedParts) (v w : Upper) (wrote : Option RegWrite) (access : Access) (awaited : Option ReplyTarget) (e : Effect)
    → IsRead fresh i rec h v → outcome_at code i (value_or_zero v.seen) v.control ≡ Asks access awaited e → IsMade (Some wrote) e len (write_with_reply None awaited rec.reply) v w → IsRow fresh i len code rec h wrote v w
asks_made fresh i len code rec h v w wrote access awaited e k asks made = row_of fresh i len code rec h v w wrote e (write_with_reply None awaited rec.reply) k made (asks_turn _ access awaited e len rec.reply h v w asks made.2)

pub asks_row : (made : Option (Option RegWrite)) (fresh : Bool) (i : Insn) (len : ℕ) (code : ℕ → ℕ) (rec : StepRecord) (h : UndefinedParts) (v w : Upper) (access : Access) (awaited : Option ReplyTarget) (e : Effect) (write : Option RegWrite)
    → write ≡ write_with_reply None awaited rec.reply → IsRead fresh i rec h v → outcome_at code i (value_or_zero v.seen) v.control ≡ Asks access awaited e → IsMade made e len write v w → IsRowOr made fresh i len code rec h v w
asks_row (Some wrote) fresh i len code rec h v w access awaited e write is k asks made = asks_made fresh i len code rec h v w wrote access awaited e k asks (subst (λ (o : Option RegWrite). IsMade (Some wrote) e len o v w) is made)
asks_row None fresh i len code rec h v w access awaited e write is k asks made = made

-- ---- it shows no breach
none_of : (ts : List Test) → NoneShown ts → first_shown ts ≡ None
none_of [] k = refl
none_of (t ∷ ts) k = cond-false t.shown _ _ k.0 ∙ none_of ts k.1

pub record IsNoEntry (r : Range) (i : Insn) (f : FrameState) : Type 0 where
  pub size : other_frame_size r i f ≡ false
  pub low : leaves_range r i f ≡ false
  pub align : misaligns_sp i f ≡ false
  pub opens : opens_nothing i f ≡ false
  pub movsp : is_movsp i ≡ false

pub no_entry : (r : Range) (i : Insn) (f : FrameState) → may_write_sp i ≡ false → IsNoEntry r i f
unfolding may_write_sp other_frame_size leaves_range misaligns_sp opens_nothing is_movsp
no_entry r (insn.Control (control.Entry number size)) f h = absurd cc
no_entry r (insn.Shift (shift.Movsp t s)) f h = absurd cc
no_entry r _ f h = record { size = refl; low = refl; align = refl; opens = refl; movsp = refl }

-- what is known of the state before a quick step
pub record IsStill (limits : Limits) (code : ℕ → ℕ) (i : Insn) (len : ℕ) (h : UndefinedParts) (v : Upper) : Type 0 where
  pub plain : h.nested ≡ None
  pub rest : IsAtRest limits v
  pub at : fetch_at code v.control.pc ≡ Fetches i len

module _ (limits : Limits) (fresh : Bool) (code : ℕ → ℕ) (rec : StepRecord) (h : UndefinedParts) (write : Option RegWrite) (v w : Upper) (i : Insn) (len : ℕ) (s : IsStill limits code i len h v) (k : IsRow fresh i len code rec h write v w) (frames : List Frame) where
  step_is : step_with_inputs code rec.reply (state_at frames h v) ≡ done_in_frame (outcome_at code i (value_or_zero v.seen) v.control) len rec.reply (state_at frames h v)
  step_is =
      let f = state_at frames h v in
      step_fetches code rec.reply f (ap (ltb 0) s.rest.quiet) s.rest.goes ∙ ap (λ (x : Fetched). fetched_step x code rec.reply f) s.at

  pub tests_shown : (u : FrameTurn) (live stale : ℕ → Bool) → IsTurn u write frames h w → touches_save_area live rec.access ≡ false → loads_stale live stale rec.access ≡ false
      → NoneShown (insn_tests (bounds_of limits) fresh live stale i rec (state_at frames h v) u)
  tests_shown u live stale turn saves loads =
      let f = state_at frames h v in
      let c = k.common in
      let e = no_entry (bounds_of limits).range i f c.stack in
      let after_woe : u.after.control.ps.woe ≡ true = ap (λ (g : FrameState). g.control.ps.woe) turn.after ∙ k.woe in
      let after_vectors : special_of u.after.control 231 ≡ limits.vecbase = ap (λ (g : FrameState). special_of g.control 231) turn.after ∙ (k.vectors ∙ s.rest.vectors) in (
        ap (λ (o : Option Nested). reads_none_in o i f) s.plain ∙ k.reads frames,
        (
          and_right _ _ (or_from _ _ k.shown (ap is_sp turn.writes ∙ k.free)),
          (
            e.size,
            (
              e.low,
              (
                e.align,
                (
                  e.opens,
                  (
                    and_left _ _ c.return,
                    (
                      and_left _ _ c.return,
                      (
                        saves,
                        (
                          loads,
                          (
                            and_left _ _ s.rest.excm,
                            (
                              c.windowing,
                              (
                                c.register,
                                (
                                  not_from_true _ after_woe,
                                  (
                                    not_from_true _ (eq-eqb _ _ after_vectors),
                                    (
                                      ap (λ (o : Option Nested). loses_epc1 o fresh i) s.plain ∙ k.lost,
                                      (
                                        e.movsp,
                                        (
                                          s.rest.outside,
                                          (ap (λ (o : Option Nested). breaks_nested o i u) s.plain, tt),
                                        ),
                                      ),
                                    ),
                                  ),
                                ),
                              ),
                            ),
                          ),
                        ),
                      ),
                    ),
                  ),
                ),
              ),
            ),
          ),
        ),
      )

  turn_is : IsTurn (step_with_inputs code rec.reply (state_at frames h v)) write frames h w
  turn_is = subst (λ (u : FrameTurn). IsTurn u write frames h w) (sym step_is) (k.turn frames)

  none_is : (live stale : ℕ → Bool) → touches_save_area live rec.access ≡ false → loads_stale live stale rec.access ≡ false
      → laid_breach (bounds_of limits) fresh code live stale rec (state_at frames h v) ≡ None
  none_is live stale saves loads =
      let f = state_at frames h v in
      let b = bounds_of limits in
      let u = step_with_inputs code rec.reply f in
      breach_fetches b fresh code live stale rec f (ap (ltb 0) s.rest.quiet) s.rest.goes
      ∙ (ap (λ (x : Fetched). first_shown (fetched_tests b fresh live stale x rec f u)) s.at
      ∙ none_of (insn_tests b fresh live stale i rec f u) (tests_shown u live stale turn_is saves loads))

  unset_is : unset_after (step_with_inputs code rec.reply (state_at frames h v)).kind (fetch_at code v.control.pc) h.unset ≡ h.unset
  unset_is =
      ap (λ (n : StepKind). unset_after n (fetch_at code v.control.pc) h.unset) turn_is.kind
      ∙ (ap (λ (x : Fetched). unset_after kind.Insn x h.unset) s.at
      ∙ ap (λ (o : Option (ℕ × ℕ)). unset_by o [] h.unset) k.common.moves)

  writes_none : writes_epc1 kind.Insn (Fetches i len) v.control.ps ≡ false
  unfolding writes_epc1
  writes_none = k.common.epc1

  kept_is : fresh_after fresh (step_with_inputs code rec.reply (state_at frames h v)).kind (fetch_at code v.control.pc) v.control.ps w.control.ps ≡ fresh
  kept_is =
      let before = v.control.ps in
      let after = w.control.ps in
      let no_fall : ends_exception_mode before after ≡ false = and_left _ _ s.rest.excm in
      ap (λ (n : StepKind). fresh_after fresh n (fetch_at code v.control.pc) before after) turn_is.kind
      ∙ (ap (λ (x : Fetched). fresh_after fresh kind.Insn x before after) s.at
      ∙ (ap (λ (b : Bool). b || (fresh && not (ends_exception_mode before after))) writes_none
      ∙ (ap (λ (b : Bool). fresh && not b) no_fall ∙ and-true fresh)))

quick_of : (limits : Limits) (fresh : Bool) (code : ℕ → ℕ) (rec : StepRecord) (h : UndefinedParts) (write : Option RegWrite) (v w : Upper) (i : Insn) (len : ℕ) → IsStill limits code i len h v → IsRow fresh i len code rec h write v w → IsQuick limits fresh code rec h write v w
quick_of limits fresh code rec h write v w i len s k = record {
  i = i;
  len = len;
  rest = s.rest;
  at = s.at;
  row = k;
  none = λ frames live stale saves loads. none_is limits fresh code rec h write v w i len s k frames live stale saves loads;
  turn = λ frames. turn_is limits fresh code rec h write v w i len s k frames;
  unset = λ frames. unset_is limits fresh code rec h write v w i len s k frames;
  kept = λ frames. kept_is limits fresh code rec h write v w i len s k frames;
}

pub quick_or : (made : Option (Option RegWrite)) (limits : Limits) (fresh : Bool) (code : ℕ → ℕ) (rec : StepRecord) (h : UndefinedParts) (v w : Upper) (i : Insn) (len : ℕ) → IsStill limits code i len h v → IsRowOr made fresh i len code rec h v w → IsQuickOr made limits fresh code rec h v w
quick_or (Some write) limits fresh code rec h v w i len s k = quick_of limits fresh code rec h write v w i len s k
quick_or None limits fresh code rec h v w i len s k = k
