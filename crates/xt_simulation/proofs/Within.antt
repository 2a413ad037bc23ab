-- A judged step of a nested interrupt that shows no breach of uses, beside the machine of frames over a filling; and the step that begins one.
use Rattle.std.specs.Prelude.{is_some}
use Rattle.std.proofs.Common.{◌≡◌, ℕ, ◌^◌, ◌<◌, ◌⊎◌, inl, inr, Bool, true, false, ◌||◌, not, ltb, Option, Some, None, sym, ap, ◌∙◌, refl, ⊎_elim, subst, get_or, cond}
use Rattle.std.proofs.lemmas.Bool.{both_ways, cases_Bool, cond-true, false≢true, or_left, or_parts}
use Rattle.xt_isa.specs.declared.Insn.{Insn}
use Rattle.xt_isa.specs.declared.Insn.TheVariants as insn
use Rattle.xt_isa.specs.declared.system.System.TheVariants as system
use Rattle.xt_isa.specs.Ranges.{in_range}
use Rattle.xt_special.specs.declared.ps.Ps.{Ps}
use Rattle.xt_special.specs.Numbers as number
use Rattle.xt_special.specs.Control.{special_of}
use Rattle.xt_special.specs.Interrupts.{pending_of}
use Rattle.xt_trace.specs.declared.record.RegWrite.{RegWrite}
use Rattle.xt_trace.specs.declared.record.StepRecord.{StepRecord}
use Rattle.xt_map.specs.Code.{AreBytes}
use Rattle.xt_map.specs.Fetching.{Fetched, Fetches, Fails, SpellsNothing, fetch_at}
use Rattle.xt_map.proofs.Fetches.{fetched_range}
use Rattle.xt_rows.specs.declared.outcome.Outcome.{Outcome}
use Rattle.xt_rows.specs.declared.outcome.Outcome.TheVariants.{Windowed}
use Rattle.xt_rows.specs.declared.outcome.WindowStep.TheVariants.{Enters}
use Rattle.xt_rows.specs.RowLaws.{IsProper, IsWord}
use Rattle.xt_rows.specs.Operands.{reads, special_reads}
use Rattle.xt_rows.specs.Outcomes.{outcome, outcome_at, system_outcome}
use Rattle.xt_rows.proofs.Proper.{outcome_words}
use Rattle.xt_frames.specs.declared.holes.Nested.{Nested}
use Rattle.xt_frames.specs.Frames.{FrameState, value_or_zero}
use Rattle.xt_frames.specs.FrameStep.{FrameTurn, Inputs, fetched_step, with_inputs, step_with_inputs}
use Rattle.xt_frames.specs.Marks.{mark_read, marked_write}
use Rattle.xt_frames.specs.Nesting.{nested_entry, ends_nested, nested_view, is_nesting, nested_fetched, nested_insn, nested_turn, turn_in}
use Rattle.xt_frames.specs.Breaches.{Bounds, inputs_of, is_exception}
use Rattle.xt_frames.specs.Judging.{value_in}
use Rattle.xt_frames.proofs.StackSteps.{step_fetches, turn_if}
use Rattle.xt_simulation.proofs.Evenly.{same_pending}
use Rattle.xt_uses.specs.Words.{masked}
use Rattle.xt_uses.specs.Known.{result_mask}
use Rattle.xt_uses.specs.Used.{counted_bits, used_are_known}
use Rattle.xt_uses.specs.UseBreaches.{laid_use, reads_mark, reads_no_number, use_breach}
use Rattle.xt_uses.specs.UseState.{UseState, first_word, second_word, special_operand, special_word}
use Rattle.xt_uses.specs.UseStep.{UseTurn, step_insn, full_step, movsp_of, reply_mask, turn_or, use_turn, value_step}
use Rattle.xt_uses.specs.UseLaws.{AgreeIn, InnerIsCut, IsCutAt, OutcomesAgree, RepliesAgree, RowsAgree, WriteFits}
use Rattle.xt_uses.proofs.CutLists.{cut_at}
use Rattle.xt_uses.proofs.CutStates.{IsCut}
use Rattle.xt_uses.proofs.CutWords.{AreInputs, IsShapedFrame, IsShapedNested}
use Rattle.xt_uses.proofs.RowsWords.{result_word}
use Rattle.xt_uses.proofs.WholeInner.{none_pending}
use Rattle.xt_uses.proofs.WholeStates.{IsInner, IsInside}
use Rattle.xt_simulation.specs.Knowing.{Follows, InnerFit, Knows, NestedFit, NowFit, with_pointer}
use Rattle.xt_simulation.proofs.Agreed.{Uses, uses_known}
use Rattle.xt_simulation.proofs.Beginning.{begin_follows, use_begins}
use Rattle.xt_simulation.proofs.MaskStep.{special_word_small, visible_word_small}
use Rattle.xt_simulation.proofs.MaskWords.{MaskWords, now_small}
use Rattle.xt_simulation.proofs.NestedFollow.{ends_follows, goes_follows, now_inside, stops_follows}
use Rattle.xt_simulation.proofs.NestedJudged.{breach_use_inside}
use Rattle.xt_simulation.proofs.NestedRow.{moves_hold, moves_result, reading_moves}
use Rattle.xt_simulation.proofs.NestedTests.{no_exception, no_movsp}
use Rattle.xt_simulation.proofs.NestedTop.{ends_result, ends_turn, executed_insn, goes_on_turn, goes_turn, use_insn_inside}
use Rattle.xt_simulation.proofs.NestedWhole.{other_breaks}
use Rattle.xt_simulation.proofs.Operands.{IsGivenAt, row_agrees, row_masks}
use Rattle.xt_simulation.proofs.FetchedUses.{fails_shown, row_denied, spells_shown}
use Rattle.xt_simulation.proofs.PlainRow.{visible_named}
use Rattle.xt_simulation.proofs.Rfi.{ends_moves, ends_ordinary, ends_silent}
use Rattle.xt_simulation.proofs.Rows.{EntersWord, Executes, Ordinary, Pops, Pushes, Rests, RowStep, result}
use Rattle.xt_simulation.proofs.Seen.{cut_zero}
use Rattle.xt_simulation.proofs.Tests.{Denied}
use Rattle.xt_simulation.proofs.Numbered.{Held}
use Rattle.xt_simulation.proofs.Outside.{Goes}
use Rattle.xt_simulation.proofs.Replied.{replied_row}
use Rattle.xt_simulation.proofs.UseWords.{given_words, inside_words, laid_words}

-- ---- the step that begins one
pub begins_goes : (code : ℕ → ℕ) (kb : ℕ → ℕ) (rec : StepRecord) (inp : Inputs) (value : ℕ) (us : UseState) {f : FrameState} → with_inputs inp f ≡ with_inputs (inputs_of rec) f → Knows f us → is_nesting rec.kind ≡ true → us.frame.nested ≡ None → Held f
    → Goes (full_step code true rec kb us) (value_step code true value inp f)
unfolding value_step
begins_goes code kb rec inp value us {f = f} same kn nesting sn held =
    subst (λ (z : FrameState). Goes (full_step code true rec kb us) (nested_entry z)) (sym same) (record {
      follows = subst (λ z. Follows z (nested_entry (with_inputs (inputs_of rec) f))) (sym (use_begins code rec kb us nesting sn)) (begin_follows kn (inputs_of rec));
      held = held;
    })

-- ---- RFI 5 looks at no reply
ends_alone : (code : ℕ → ℕ) (i : Insn) (len a c : ℕ) (g : FrameState) → ends_nested i ≡ true → fetched_step (Fetches i len) code a g ≡ fetched_step (Fetches i len) code c g
unfolding ends_nested outcome system_outcome
ends_alone code (insn.System (system.Rfi level)) len a c g e = refl
ends_alone code _ len a c g e = absurd (false≢true e)

-- ---- the value of a mark that is read may be any
marked_none : (mark : Option ℕ) (value : ℕ) → marked_write mark value None ≡ None
marked_none None value = refl
marked_none (Some j) value = refl

marked_any : (m value other : ℕ) (mark : Option ℕ) → ((j : ℕ) → mark ≡ Some j → m ≡ 0) → (v w : Option RegWrite) → WriteFits m (marked_write mark value v) w → WriteFits m (marked_write mark other v) w
marked_any m value other None gone v w h = h
marked_any m value other (Some j) gone None w h = h
marked_any m value other (Some j) gone (Some v) (Some w) h =
    let z : m ≡ 0 = gone j refl in
    (h.0, ap (λ k. masked k other) z ∙ (cut_zero other ∙ (sym (cut_zero value) ∙ (ap (λ k. masked k value) (sym z) ∙ h.1))))
marked_any m value other (Some j) gone (Some v) None h = absurd h

insn_held : (i : Insn) (value : ℕ) (x : Nested) (f : FrameState) (u : FrameTurn) → Held f → Held (nested_insn i value x f u).after
insn_held i value x f u h = turn_if (λ (v : FrameTurn). Held v.after) (ends_nested i) _ _ h h

module _ (rows : RowsAgree) (replies : RepliesAgree) (code : ℕ → ℕ) (bytes : AreBytes code) (b : Bounds) (fresh : Bool) (live : ℕ → Bool) (kb : ℕ → ℕ) (rec : StepRecord) (words : AreInputs (inputs_of rec))
    (reply value : ℕ) (mask_word : reply_mask kb rec.access < 2 ^ 32) (reply_word : reply < 2 ^ 32) (same : AgreeIn (reply_mask kb rec.access) reply rec.reply)
    (us : UseState) (masks : MaskWords us.masks) (is_cut : IsCut us.frame us.masks) {f : FrameState} (kn : Knows f us) (shaped : IsShapedFrame f) (frames_held : Held f)
    (x y : Nested) (fx : f.nested ≡ Some x) (sy : us.frame.nested ≡ Some y) where
  abbrev inp : Inputs
  inp = record (inputs_of rec) { reply = reply }

  abbrev h : FrameState
  h = with_inputs (inputs_of rec) (nested_view y us.frame)

  abbrev g : FrameState
  g = with_inputs (inputs_of rec) (nested_view x f)

  inner : InnerFit us.masks.inner x y
  inner = subst (λ (o : Option Nested). NestedFit us.masks.inner o (Some y)) fx (subst (λ (o : Option Nested). NestedFit us.masks.inner f.nested o) sy kn.nested)

  now : NowFit us g h
  now = now_inside kn x y fx sy inner (inputs_of rec)

  shaped_g : IsShapedFrame g
  shaped_g = laid_words (inputs_of rec) (nested_view x f) words (inside_words x f shaped (subst (λ o. IsShapedNested o) fx shaped.nested))

  -- ---- what holds in it
  held : IsInner y us.frame.control.waits us.frame.unset
  held = subst (λ (o : Option Nested). IsInside o us.frame.control.waits us.frame.unset) sy is_cut.inside

  mode_h : h.control.ps.excm ≡ true
  mode_h = held.excm

  runs : h.control.waits ≡ false
  runs = held.runs

  still : ltb 0 (pending_of h.control) ≡ false
  still = ap (λ n. ltb 0 n) (none_pending (special_of h.control number.interrupt) (special_of h.control number.intenable) h.control.ps held.excm held.level)

  same_wait : pending_of g.control ≡ pending_of h.control
  same_wait = same_pending g.control (with_pointer g.control.threadptr h.control) now.control.even

  still_g : ltb 0 (pending_of g.control) ≡ false
  still_g = ap (λ n. ltb 0 n) same_wait ∙ still

  runs_g : g.control.waits ≡ false
  runs_g = now.control.even.waits ∙ runs

  mode_g : g.control.ps.excm ≡ true
  mode_g = ap (λ (p : Ps). p.excm) now.control.even.ps ∙ mode_h

  -- nothing is known of marks
  bare : (n j : ℕ) → get_or x.marks n None ≡ Some j → get_or us.masks.inner n 0 ≡ 0
  bare n j e =
      let at_y : get_or y.marks n None ≡ Some j = subst (λ m. get_or m n None ≡ Some j) inner.marks e in
      let none : get_or y.seen n None ≡ None = held.marks n j at_y in
      let c = cut_at y.seen us.masks.inner (subst (λ (o : Option Nested). InnerIsCut o us.masks.inner) sy is_cut.inner) n in
      let z : IsCutAt None (get_or us.masks.inner n 0) = subst (λ o. IsCutAt o (get_or us.masks.inner n 0)) none c in
      z

  step_h : (at : Fetched) → fetch_at code h.control.pc ≡ at → step_with_inputs code rec.reply h ≡ fetched_step at code rec.reply h
  step_h at e = step_fetches code rec.reply h still runs ∙ ap (λ z. fetched_step z code rec.reply h) e

  at_g : (at : Fetched) → fetch_at code h.control.pc ≡ at → fetch_at code g.control.pc ≡ at
  at_g at e = ap (fetch_at code) now.control.even.pc ∙ e

  step_g : (at : Fetched) → fetch_at code h.control.pc ≡ at → step_with_inputs code reply g ≡ fetched_step at code reply g
  step_g at e = step_fetches code reply g still_g runs_g ∙ ap (λ z. fetched_step z code reply g) (at_g at e)

  inner_step : value_step code false value inp f ≡ nested_turn code value inp x f
  unfolding value_step
  inner_step =
      let U : Option FrameTurn → Option Nested → FrameTurn = λ z o. turn_or z (turn_in o code value inp f) in
      let none : movsp_of code (with_inputs inp f) ≡ None = cond-true (is_some f.nested || (ltb 0 (pending_of (with_inputs inp f).control) || (with_inputs inp f).control.waits)) None _ (or_left _ _ (ap (λ (o : Option Nested). is_some o) fx)) in
      ap (U (movsp_of code (with_inputs inp f))) fx ∙ ap (λ z. U z (Some x)) none

  abbrev k : ℕ
  k = reply_mask kb rec.access

  abbrev told : ℕ
  told = value_in rec.write

  abbrev target : Type 0
  target = Goes (full_step code true rec kb us) (value_step code false value inp f)

  module _ (i : Insn) (len : ℕ) (e : fetch_at code h.control.pc ≡ Fetches i len) (d : Denied b fresh live kb i rec us h (fetched_step (Fetches i len) code rec.reply h)) where
    abbrev v : FrameTurn
    v = fetched_step (Fetches i len) code rec.reply h

    abbrev u : FrameTurn
    u = fetched_step (Fetches i len) code reply g

    framed_step : value_step code false value inp f ≡ nested_insn i value x f u
    framed_step = inner_step ∙ (ap (λ (z : FrameTurn). nested_fetched (fetch_at code g.control.pc) value x f z) (step_g (Fetches i len) e) ∙ ap (λ z. nested_fetched z value x f u) (at_g (Fetches i len) e))

    abbrev turn_v : FrameTurn
    turn_v = nested_insn i told y us.frame v

    used : full_step code true rec kb us ≡ use_turn (step_insn v.kind (Fetches i len)) k us h turn_v
    used = use_insn_inside code rec kb us y sy i len e (step_h (Fetches i len) e)

    conclude : Follows (use_turn (step_insn v.kind (Fetches i len)) k us h turn_v) (nested_insn i value x f u) → target
    conclude here = record {
      follows = subst (λ z. Follows z (value_step code false value inp f)) (sym used) (subst (Follows (use_turn (step_insn v.kind (Fetches i len)) k us h turn_v)) (sym framed_step) here);
      held = subst (λ (z : FrameTurn). Held z.after) (sym framed_step) (insn_held i value x f u frames_held);
    }

    ok : in_range i ≡ true
    ok = fetched_range code h.control.pc i len bytes e

    -- ---- RFI 5
    ends_target : ends_nested i ≡ true → target
    ends_target ends =
        let o : Ordinary i us g h (row_masks i us h).result u v = ends_replied o_same in
        let o2 : Ordinary i us g h (result_mask us.masks.discipline i (first_word i us h) (second_word i us h) (special_operand i us h) us.masks.threadptr k) u v = subst (λ z. Ordinary i us g h z u v) (sym (ends_result us.masks.discipline i (first_word i us h) (second_word i us h) (special_operand i us h) us.masks.threadptr k ends)) o in
        let here = ends_follows kn x y fx sy inner (inputs_of rec) bare i k u v o2 (ends_moves i ends) (ends_silent code i len rec.reply h ends) in
        conclude (ends_turn us f x y i len k told value h u v o.kind_too ends here)
      where
        o_same : fetched_step (Fetches i len) code rec.reply g ≡ u
        o_same = ends_alone code i len rec.reply reply g ends

        ends_replied : fetched_step (Fetches i len) code rec.reply g ≡ u → Ordinary i us g h (row_masks i us h).result u v
        ends_replied q = subst (λ (z : FrameTurn). Ordinary i us g h (row_masks i us h).result z v) q (ends_ordinary now code i len rec.reply shaped_g.control.count ok ends)

    -- ---- any other
    module _ (goes : ends_nested i ≡ false) where
      uses : Uses i us h
      uses = uses_known i us h d.unset

      given : IsGivenAt i g
      given = given_words g shaped_g i ok

      abbrev o : Outcome
      o = outcome_at code i (value_or_zero g.seen) g.control

      agree : OutcomesAgree us.masks.discipline i (row_masks i us h) o (outcome_at code i (value_or_zero h.seen) h.control)
      agree = row_agrees now rows (now_small us masks) code i given uses.used

      proper : EntersWord o
      proper n j q = let p : IsProper IsWord (Windowed (Enters n j)) = subst (IsProper IsWord) q (outcome_words code i g.control.pc _ _ _ _ g.control.ps g.control.threadptr bytes given) in p.1

      small_result : result_mask us.masks.discipline i (first_word i us h) (second_word i us h) (special_operand i us h) us.masks.threadptr k < 2 ^ 32
      small_result = result_word (first_word i us h) (second_word i us h) (visible_word_small us h (reads i).0 masks) (visible_word_small us h (reads i).1 masks) us.masks.discipline i ok (special_operand i us h) us.masks.threadptr k (special_word_small us h (special_reads i).0 masks) masks.threadptr mask_word

      row : RowStep i us g h (result now code i shaped_g.control.count given.x_word k) u v
      row = replied_row replies now code i shaped_g.control.count given.x_word k reply rec.reply mask_word reply_word words.reply same small_result len agree proper uses.used d.windowing (no_movsp code len y d sy mode_h) d.window_register

      abbrev mark : Option ℕ
      mark = mark_read i x.saved

      no_mark_read : reads_mark (Some y) i ≡ false
      no_mark_read = (or_parts (reads_mark (Some y) i) _ (subst (λ (o : Option Nested). (reads_mark o i || (reads_no_number i h || not (used_are_known us.masks.discipline i (first_word i us h) (second_word i us h)))) ≡ false) sy d.unset)).0

      gone : (j : ℕ) → mark ≡ Some j → result_mask us.masks.discipline i (first_word i us h) (second_word i us h) (special_operand i us h) us.masks.threadptr k ≡ 0
      gone j is =
          let at_y : mark_read i y.saved ≡ Some j = ap (mark_read i) (sym inner.saved) ∙ is in
          let moves = reading_moves i j y at_y no_mark_read in
          let p = moves_hold i j y.saved at_y moves in
          let zero : get_or us.masks.special p.0 0 ≡ 0 = is_cut.lost p.0 p.2 (held.saved p.0 j p.3).1 in
          moves_result i j y.saved us h k at_y
          ∙ (ap (λ (o : Option ℕ). (special_word us h o).mask) p.1
          ∙ (ap (λ z. cond z (get_or us.masks.special p.0 0) (counted_bits us.masks.discipline p.0)) p.2 ∙ zero))

      -- with the value of the filling in place of the record's
      revalued : {t : UseTurn} → t.mask ≡ result_mask us.masks.discipline i (first_word i us h) (second_word i us h) (special_operand i us h) us.masks.threadptr k ⊎ (u.write ≡ None) → Follows t (goes_on_turn i told mark x f u) → Follows t (goes_on_turn i value mark x f u)
      revalued {t = t} mask_is follows = record {
        kind = follows.kind;
        write = ⊎_elim
            (λ m. marked_any t.mask told value mark (λ j is. m ∙ gone j is) u.write t.turn.write follows.write)
            (λ none. unwritten none)
            mask_is;
        access = follows.access;
        sent = follows.sent;
        knows = follows.knows;
      }
        where
          unwritten : u.write ≡ None → WriteFits t.mask (marked_write mark value u.write) t.turn.write
          unwritten none =
              let a : WriteFits t.mask None t.turn.write = subst (λ (w : Option RegWrite). WriteFits t.mask w t.turn.write) (ap (marked_write mark told) none ∙ marked_none mark told) follows.write in
              subst (λ (w : Option RegWrite). WriteFits t.mask w t.turn.write) (sym (ap (marked_write mark value) none ∙ marked_none mark value)) a

      by_row : RowStep i us g h (result now code i shaped_g.control.count given.x_word k) u v → Follows (use_turn (step_insn v.kind (Fetches i len)) k us h turn_v) (nested_insn i value x f u)
      by_row (Executes q) =
          goes_turn us f x y i len k told value h u v (Some i) (ap (λ z. step_insn z (Fetches i len)) q.kind_too ∙ executed_insn i len) goes inner.saved
          (revalued (inl refl) (goes_follows kn x y fx sy inner (inputs_of rec) bare i k told mark gone u v q (visible_named i ok u.write q.narrow)))
      by_row (Rests q (inl bad)) = absurd (both_ways (is_exception v.kind) (no_exception code len y d sy mode_h) (ap is_exception (sym q.kind) ∙ bad))
      by_row (Rests q (inr none)) =
          goes_turn us f x y i len k told value h u v None (q.idle (Fetches i len)) goes inner.saved (revalued (inr q.write) (stops_follows kn x y fx sy inner (inputs_of rec) bare i told mark u v q none))
      by_row (Pushes number _ n low entry size is small eu ev) = absurd (both_ways g.control.ps.excm low mode_g)
      by_row (Pops a0 low return_ eu ev) = absurd (both_ways g.control.ps.excm low mode_g)

      goes_target : target
      goes_target = conclude (by_row row)

  by_fetch : (at : Fetched) → fetch_at code h.control.pc ≡ at → laid_use b fresh code live kb rec us h ≡ None → target
  by_fetch (Fails a) e none = absurd (other_breaks b live kb rec h (step_with_inputs code rec.reply h) y sy (fails_shown b fresh code live kb rec us h still runs none a e))
  by_fetch SpellsNothing e none = absurd (other_breaks b live kb rec h (step_with_inputs code rec.reply h) y sy (spells_shown b fresh code live kb rec us h still runs none e))
  by_fetch (Fetches i len) e none = let d = row_denied b fresh code live kb rec us h still runs none i len e in ⊎_elim (ends_target i len e d) (goes_target i len e d) (cases_Bool (ends_nested i))

  pub within_goes : use_breach b fresh code live kb true rec us ≡ None → target
  within_goes none = by_fetch (fetch_at code h.control.pc) refl (sym (breach_use_inside b fresh code live kb rec us y sy) ∙ none)
