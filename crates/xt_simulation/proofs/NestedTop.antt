-- The judged step of a nested interrupt that shows no breach of uses, as a whole: the frame state is filled and steps, and the machine of
-- uses follows.
use Rattle.std.specs.Prelude.{unwrap_or, is_some}
use Rattle.std.proofs.Common.{◌≡◌, ℕ, ◌^◌, ◌<◌, inl, inr, Bool, true, false, ◌||◌, ◌&&◌, not, ltb, List, Option, Some, None, sym, ap, ◌∙◌, refl, ⊎_elim, subst, length, get_or}
use Rattle.std.proofs.lemmas.Bool.{and_right, both_ways, cond-false, cond-true, false≢true, or_from, or_parts}
use Rattle.xt_isa.specs.declared.Insn.{Insn}
use Rattle.xt_isa.specs.declared.Insn.TheVariants as insn
use Rattle.xt_isa.specs.declared.system.System.TheVariants as system
use Rattle.xt_isa.specs.Ranges.{in_range}
use Rattle.xt_map.specs.declared.contents.MemoryContents.{MemoryContents}
use Rattle.xt_special.specs.declared.ps.Ps.{Ps}
use Rattle.xt_special.specs.Shape.{IsPs}
use Rattle.xt_special.specs.Control.{special_of}
use Rattle.xt_special.specs.Interrupts.{pending_of}
use Rattle.xt_trace.specs.declared.record.StepRecord.{StepRecord}
use Rattle.xt_trace.specs.declared.record.StepKind.TheVariants as step
use Rattle.xt_uses.specs.declared.discipline.Discipline.{Discipline}
use Rattle.xt_uses.specs.declared.words.Word.{Word}
use Rattle.xt_simulation.proofs.Judges.{record_access}
use Rattle.xt_simulation.proofs.Resumed.{ends_access}
use Rattle.xt_map.specs.Fetching.{Fetched, Fetches, fetch_at}
use Rattle.xt_map.specs.Code.{AreBytes}
use Rattle.xt_map.proofs.Fetches.{fetched_range}
use Rattle.xt_rows.specs.declared.outcome.Effect.{Effect}
use Rattle.xt_rows.specs.declared.outcome.Outcome.{Outcome}
use Rattle.xt_rows.specs.declared.outcome.Outcome.TheVariants.{Does, Windowed}
use Rattle.xt_rows.specs.declared.outcome.WindowStep.TheVariants.{Enters}
use Rattle.xt_rows.specs.RowLaws.{IsHeld, IsProper, IsWord}
use Rattle.xt_rows.specs.Operands.{reads, special_reads}
use Rattle.xt_rows.specs.Outcomes.{outcome_at, value_of}
use Rattle.xt_rows.proofs.Proper.{outcome_words}
use Rattle.xt_rows.proofs.Registers.{shift_amount}
use Rattle.xt_exec.specs.State.{State}
use Rattle.xt_exec.specs.TurnLaws.{IsShaped}
use Rattle.xt_frames.specs.declared.holes.Nested.{Nested}
use Rattle.xt_frames.specs.Frames.{FrameState, value_or_zero}
use Rattle.xt_frames.specs.FrameStep.{FrameTurn, done_in_frame, fetched_step, with_inputs, step_with_inputs}
use Rattle.xt_frames.specs.Marks.{holds_marks, mark_read, marked_write, moves_marks, unset_written}
use Rattle.xt_frames.specs.Nesting.{ends_nested, nested_view, with_kept_frame, nested_after, nested_fetched, nested_insn}
use Rattle.xt_frames.specs.Breaches.{Bounds, breach_of, fetched_tests, first_shown, inputs_of, insn_tests, is_exception, is_unset, lost_of, loses_epc1, reads_epc1, reads_lost, reads_none, reads_none_in}
use Rattle.xt_frames.specs.Judging.{step_on, value_in}
use Rattle.xt_frames.specs.SaveAreas.{is_live}
use Rattle.xt_frames.proofs.Inside.{breach_inside, kind_inside, step_inside}
use Rattle.xt_frames.proofs.Shown.{NoneShown}
use Rattle.xt_frames.proofs.StackSteps.{breach_fetches, step_fetches}
use Rattle.xt_simulation.specs.Handling.{IsGood}
use Rattle.xt_simulation.specs.Nested.{Suspends}
use Rattle.xt_simulation.specs.Relation.{inputs}
use Rattle.xt_simulation.specs.Steps.{record_now, reply_now}
use Rattle.xt_simulation.proofs.Evenly.{same_pending}
use Rattle.xt_simulation.proofs.Inner.{laid_excm, laid_quiet, laid_runs, laid_same}
use Rattle.xt_simulation.proofs.InnerRows.{inner_step}
use Rattle.xt_simulation.proofs.Laid.{laid_length}
use Rattle.xt_uses.specs.Words.{all_bits}
use Rattle.xt_uses.specs.Used.{used_are_known}
use Rattle.xt_uses.specs.UseBreaches.{has_no_number, holds_mark, nowhere, reads_mark, reads_no_number}
use Rattle.xt_uses.specs.UseState.{UseState, first_word, second_word, special_operand}
use Rattle.xt_uses.specs.Known.{result_mask}
use Rattle.xt_uses.specs.UseStep.{UseTurn, step_insn, full_step, insn_turn, reply_mask, use_turn}
use Rattle.xt_uses.specs.UseLaws.{OutcomesAgree, RowsAgree}
use Rattle.xt_simulation.specs.Knowing.{Follows, InnerFit, Knows, NestedFit, NowFit, with_pointer}
use Rattle.xt_simulation.proofs.Agreed.{Uses, uses_known}
use Rattle.xt_simulation.proofs.NestedFollow.{ends_follows, goes_follows, now_inside, stops_follows}
use Rattle.xt_simulation.proofs.NestedJudged.{InnerUse, inner_use, use_inside}
use Rattle.xt_simulation.proofs.NestedTests.{inner_tests, no_exception, no_movsp}
use Rattle.xt_simulation.proofs.Operands.{AreMasks, IsGivenAt, row_agrees, row_masks}
use Rattle.xt_simulation.proofs.Rfi.{ends_moves, ends_ordinary, ends_silent}
use Rattle.xt_simulation.proofs.Rows.{EntersWord, Executes, Ordinary, Pops, Pushes, Rests, RowStep, row_step}
use Rattle.xt_simulation.proofs.Tests.{Denied, shown_none}
use Rattle.xt_simulation.proofs.NestedRow.{inner_of, mark_gone, seen_small, special_small}
use Rattle.xt_simulation.proofs.PlainRow.{visible_named}
use Rattle.xt_simulation.proofs.Reading.{numbered}

pub executed_insn : (i : Insn) (len : ℕ) → step_insn step.Insn (Fetches i len) ≡ Some i
unfolding step_insn
executed_insn i len = refl

pub ends_result : (by : Discipline) (i : Insn) (x y u : Word) (pointer r : ℕ) → ends_nested i ≡ true → result_mask by i x y u pointer r ≡ result_mask by i x y u pointer all_bits
unfolding ends_nested result_mask
ends_result by (insn.System (system.Rfi level)) x y u pointer r e = refl
ends_result by _ x y u pointer r e = absurd (false≢true e)

pub ending_is : (i : Insn) (value : ℕ) (x : Nested) (f : FrameState) (u : FrameTurn) → ends_nested i ≡ true → nested_insn i value x f u ≡ record u { after = record (with_kept_frame f u.after) { nested = None } }
ending_is i value x f u ends = cond-true (ends_nested i) _ _ ends

abbrev pub goes_on_turn : Insn → ℕ → Option ℕ → Nested → FrameState → FrameTurn → FrameTurn
goes_on_turn i value mark z q u = record u {
  write = marked_write mark value u.write;
  after = record (with_kept_frame q u.after) { unset = unset_written i z.marks q.unset; nested = Some (nested_after i mark z u) };
}

pub going_is : (i : Insn) (value : ℕ) (x : Nested) (f : FrameState) (u : FrameTurn) → ends_nested i ≡ false → nested_insn i value x f u ≡ goes_on_turn i value (mark_read i x.saved) x f u
going_is i value x f u goes = cond-false (ends_nested i) _ _ goes

-- the machine of uses follows a step inside where it follows what that step is; `told` and `value` are what both are told of the record's write
module _ (us : UseState) (f : FrameState) (x y : Nested) (i : Insn) (len k told value : ℕ) (h : FrameState) (u v : FrameTurn) where
  abbrev pub InnerFollows : Type 0
  InnerFollows = Follows (use_turn (step_insn v.kind (Fetches i len)) k us h (nested_insn i told y us.frame v)) (nested_insn i value x f u)

  turn_follows : {o : Option Insn} {v2 u2 : FrameTurn} → step_insn v.kind (Fetches i len) ≡ o → nested_insn i told y us.frame v ≡ v2 → nested_insn i value x f u ≡ u2 → Follows (use_turn o k us h v2) u2 → InnerFollows
  turn_follows {o = o} {v2 = v2} is first second here =
      subst (λ z. Follows (use_turn z k us h (nested_insn i told y us.frame v)) (nested_insn i value x f u)) (sym is)
      (subst (λ (z : FrameTurn). Follows (use_turn o k us h z) (nested_insn i value x f u)) (sym first) (subst (Follows (use_turn o k us h v2)) (sym second) here))

  -- RFI 5
  pub ends_turn : v.kind ≡ step.Insn → ends_nested i ≡ true → Follows (insn_turn i k us h (record v { after = record (with_kept_frame us.frame v.after) { nested = None } })) (record u { after = record (with_kept_frame f u.after) { nested = None } }) → InnerFollows
  ends_turn kind ends here = turn_follows (ap (λ z. step_insn z (Fetches i len)) kind ∙ executed_insn i len) (ending_is i told y us.frame v ends) (ending_is i value x f u ends) here

  -- any other
  pub goes_turn : (o : Option Insn) → step_insn v.kind (Fetches i len) ≡ o → ends_nested i ≡ false → x.saved ≡ y.saved → Follows (use_turn o k us h (goes_on_turn i told (mark_read i x.saved) y us.frame v)) (goes_on_turn i value (mark_read i x.saved) x f u) → InnerFollows
  goes_turn o is goes saved here =
      turn_follows is (going_is i told y us.frame v goes ∙ ap (λ z. goes_on_turn i told (mark_read i z) y us.frame v) (sym saved)) (going_is i value x f u goes) here

pub use_insn_inside : (code : ℕ → ℕ) (rec : StepRecord) (kb : ℕ → ℕ) (us : UseState) (y : Nested) → us.frame.nested ≡ Some y → (i : Insn) (len : ℕ)
    → let h = with_inputs (inputs_of rec) (nested_view y us.frame) in let v = fetched_step (Fetches i len) code rec.reply h in
    fetch_at code h.control.pc ≡ Fetches i len → step_with_inputs code rec.reply h ≡ v
    → full_step code true rec kb us ≡ use_turn (step_insn v.kind (Fetches i len)) (reply_mask kb rec.access) us h (nested_insn i (value_in rec.write) y us.frame v)
use_insn_inside code rec kb us y sy i len at step =
    let h = with_inputs (inputs_of rec) (nested_view y us.frame) in
    let v = fetched_step (Fetches i len) code rec.reply h in
    let told = value_in rec.write in
    let k = reply_mask kb rec.access in
    let U : Fetched → FrameTurn → UseTurn = λ z w. use_turn (step_insn (nested_fetched z told y us.frame w).kind z) k us h (nested_fetched z told y us.frame w) in
    use_inside code rec kb us y sy ∙ (ap (U (fetch_at code h.control.pc)) step ∙ (ap (λ z. U z v) at ∙ ap (λ z. use_turn (step_insn z (Fetches i len)) k us h (nested_insn i told y us.frame v)) (kind_inside (Fetches i len) told y us.frame v)))

pub count_inside : {code : ℕ → ℕ} {b : Bounds} {m : MemoryContents} {s : State} {f : FrameState} {before : State} {opened : ℕ → ℕ} {suspended : State} → Suspends code b m s f before opened suspended → IsShaped s → length f.control.special ≡ 256
count_inside {s = s} {f = f} h shaped = sym (laid_length f.control.special (special_of s.control 234) (special_of s.control 226)) ∙ (sym h.inside.even.special.size ∙ shaped.control.count)

module _ (rows : RowsAgree) (code : ℕ → ℕ) (bytes : AreBytes code) (b : Bounds) (good : IsGood code b) (fresh : Bool) (m : MemoryContents) (s : State) (shaped : IsShaped s) (opened : ℕ → ℕ) (suspended : State)
    (us : UseState) (y : Nested) (sy : us.frame.nested ≡ Some y) (masks : AreMasks us) (live : ℕ → Bool) (own : (a : ℕ) → is_live b.range us.frame a ≡ true → live a ≡ true) (kb : ℕ → ℕ) where
  abbrev rec : StepRecord
  rec = record_now code m s

  abbrev h : FrameState
  h = with_inputs (inputs_of rec) (nested_view y us.frame)

  abbrev target : Type 0
  target = InnerUse code b m s opened suspended live kb (full_step code true rec kb us)

  -- ---- a frame state that has all that is read
  module _ {f : FrameState} {before : State} (q : Suspends code b m s f before opened suspended) (kn : Knows f us) where
    inner : InnerFit us.masks.inner q.x y
    inner = inner_of (subst (λ (o : Option Nested). NestedFit us.masks.inner f.nested o) sy kn.nested) q.nested

    abbrev g : FrameState
    g = with_inputs (inputs_of rec) (nested_view q.x f)

    now : NowFit us g h
    now = now_inside kn q.x y q.nested sy inner (inputs_of rec)

    same_g : g ≡ with_inputs (inputs 0 s) (nested_view q.x f)
    same_g = laid_same q.inside code m shaped

    mode_g : g.control.ps.excm ≡ true
    mode_g = ap (λ (z : FrameState). z.control.ps.excm) same_g ∙ laid_excm q.inside

    pub mode_h : h.control.ps.excm ≡ true
    mode_h = ap (λ (p : Ps). p.excm) (sym now.control.even.ps) ∙ mode_g

    still_g : ltb 0 (pending_of g.control) ≡ false
    still_g = ap (λ (z : FrameState). ltb 0 (pending_of z.control)) same_g ∙ laid_quiet q.inside

    pub still_h : ltb 0 (pending_of h.control) ≡ false
    still_h = ap (λ n. ltb 0 n) (sym (same_pending g.control (with_pointer g.control.threadptr h.control) now.control.even)) ∙ still_g

    runs_g : g.control.waits ≡ false
    runs_g = ap (λ (z : FrameState). z.control.waits) same_g ∙ laid_runs q.inside

    pub runs_h : h.control.waits ≡ false
    runs_h = sym now.control.even.waits ∙ runs_g

    pc_g : s.control.pc ≡ g.control.pc
    pc_g = q.inside.even.pc

    pub pc_h : s.control.pc ≡ h.control.pc
    pc_h = pc_g ∙ now.control.even.pc

    count : length g.control.special ≡ 256
    count = laid_length f.control.special _ _ ∙ count_inside q shaped

    module _ (i : Insn) (len : ℕ) (at : fetch_at code s.control.pc ≡ Fetches i len) (d : Denied b fresh live kb i rec us h (fetched_step (Fetches i len) code rec.reply h)) (read_all : reads_none_in (Some q.x) i g ≡ false) where
      abbrev v : FrameTurn
      v = fetched_step (Fetches i len) code rec.reply h

      abbrev u : FrameTurn
      u = fetched_step (Fetches i len) code rec.reply g

      at_g : fetch_at code g.control.pc ≡ Fetches i len
      at_g = ap (fetch_at code) (sym pc_g) ∙ at

      at_h : fetch_at code h.control.pc ≡ Fetches i len
      at_h = ap (fetch_at code) (sym pc_h) ∙ at

      step_g : step_with_inputs code rec.reply g ≡ u
      step_g = step_fetches code rec.reply g still_g runs_g ∙ ap (λ z. fetched_step z code rec.reply g) at_g

      step_h : step_with_inputs code rec.reply h ≡ v
      step_h = step_fetches code rec.reply h still_h runs_h ∙ ap (λ z. fetched_step z code rec.reply h) at_h

      abbrev value : ℕ
      value = value_in rec.write

      framed : step_on code true rec f ≡ nested_insn i value q.x f u
      framed = step_inside code true rec f q.x q.nested ∙ (ap (λ (z : FrameTurn). nested_fetched (fetch_at code g.control.pc) value q.x f z) step_g ∙ ap (λ z. nested_fetched z value q.x f u) at_g)

      abbrev k : ℕ
      k = reply_mask kb rec.access

      abbrev turn_v : FrameTurn
      turn_v = nested_insn i value y us.frame v

      used : full_step code true rec kb us ≡ use_turn (step_insn v.kind (Fetches i len)) k us h turn_v
      used = use_insn_inside code rec kb us y sy i len at_h step_h

      reads_g : reads_none i g ≡ false
      reads_g = ap (λ (o : Option Nested). reads_none_in o i g) q.nested ∙ read_all

      quiet : NoneShown (insn_tests b false nowhere nowhere i rec g u) → breach_of b false code nowhere nowhere true rec f ≡ None
      quiet t =
          breach_inside b false code nowhere nowhere true rec f q.x q.nested
          ∙ (breach_fetches b false code nowhere nowhere rec g still_g runs_g
          ∙ (ap (λ z. first_shown (fetched_tests b false nowhere nowhere z rec g (step_with_inputs code rec.reply g))) at_g
          ∙ (ap (λ (z : FrameTurn). first_shown (insn_tests b false nowhere nowhere i rec g z)) step_g ∙ shown_none (insn_tests b false nowhere nowhere i rec g u) t)))

      pub conclude : {mask : ℕ} → RowStep i us g h mask u v → u.kind ≡ v.kind → Follows (use_turn (step_insn v.kind (Fetches i len)) k us h turn_v) (nested_insn i value q.x f u) → target
      conclude row kinds follows =
          let tests = inner_tests code len y d sy mode_h q.x q.nested inner.marks now row kinds reads_g in
          let next = inner_step code bytes b m s f suspended nowhere nowhere q.x q.nested q.inside shaped kn.unset.size inner.spread (quiet tests) in
          inner_use code bytes b good m s q shaped kn live own d.saves kb d.loads
          (subst (λ z. Follows z (step_on code true rec f)) (sym used) (subst (Follows (use_turn (step_insn v.kind (Fetches i len)) k us h turn_v)) (sym framed) follows)) next

      -- ---- RFI 5
      bare : (n j : ℕ) → get_or q.x.marks n None ≡ Some j → get_or us.masks.inner n 0 ≡ 0
      bare n j e = inner.seen.lacks n (q.inside.marks n j e).1

      ok : in_range i ≡ true
      ok = fetched_range code s.control.pc i len bytes at

      pub ends_target : ends_nested i ≡ true → target
      ends_target ends =
          let o : Ordinary i us g h (row_masks i us h).result u v = ends_ordinary now code i len rec.reply count ok ends in
          let o2 : Ordinary i us g h (result_mask us.masks.discipline i (first_word i us h) (second_word i us h) (special_operand i us h) us.masks.threadptr k) u v = subst (λ z. Ordinary i us g h z u v) (sym (ends_result us.masks.discipline i (first_word i us h) (second_word i us h) (special_operand i us h) us.masks.threadptr k ends)) o in
          let here = ends_follows kn q.x y q.nested sy inner (inputs_of rec) bare i k u v o2 (ends_moves i ends) (ends_silent code i len rec.reply h ends) in
          conclude (Executes o) (o.kind ∙ sym o.kind_too) (ends_turn us f q.x y i len k value value h u v o.kind_too ends here)

      -- ---- any other
      module _ (goes : ends_nested i ≡ false) where
        uses : Uses i us h
        uses = uses_known i us h d.unset

        numbers : (has_no_number us.frame.unset (special_reads i).0 ≡ false) × (has_no_number us.frame.unset (special_reads i).1 ≡ false)
        numbers =
            let a : (is_some us.frame.nested && ends_nested i) ≡ false = and_right _ _ goes in
            let c : (has_no_number us.frame.unset (special_reads i).0 || has_no_number us.frame.unset (special_reads i).1) ≡ false = ap (λ z. not z && (has_no_number us.frame.unset (special_reads i).0 || has_no_number us.frame.unset (special_reads i).1)) (sym a) ∙ uses.number in
            let e = or_parts (has_no_number us.frame.unset (special_reads i).0) (has_no_number us.frame.unset (special_reads i).1) c in
            (e.0, e.1)

        epc1 : (reads_lost false (special_reads i).0 ≡ false) × (reads_lost false (special_reads i).1 ≡ false)
        epc1 =
            let a : loses_epc1 (Some y) fresh i ≡ false = subst (λ (o : Option Nested). loses_epc1 o fresh i ≡ false) sy d.lost in
            let c = or_parts (reads_epc1 false i) _ a in
            let e = or_parts (reads_lost false (special_reads i).0) (reads_lost false (special_reads i).1) c.0 in
            (e.0, e.1)

        there : (o : Option ℕ) → has_no_number us.frame.unset o ≡ false → (n : ℕ) → o ≡ Some n → holds_marks n ≡ false → is_unset f.unset (Some n) ≡ false
        there o none n e plain = numbered kn (Some n) (subst (λ z. has_no_number us.frame.unset z ≡ false) e none) (λ j is. subst (λ z. holds_marks z ≡ false) (ap (λ (o : Option ℕ). unwrap_or o 0) is) plain)

        special_word_of : (o : Option ℕ) → reads_lost false o ≡ false → has_no_number us.frame.unset o ≡ false → value_of (special_of g.control) o < 2 ^ 32
        special_word_of o lost none = subst (λ (z : FrameState). value_of (special_of z.control) o < 2 ^ 32) (sym same_g) (special_small q shaped kn o lost (there o none))

        held : (o : Option ℕ) → reads_lost false o ≡ false → has_no_number us.frame.unset o ≡ false → IsHeld o (value_of (special_of g.control) o)
        held None lost none = refl
        held (Some n) lost none = λ is.
            let plain : holds_marks n ≡ false = subst (λ z. holds_marks z ≡ false) (sym is) refl in
            let a : special_of s.control n ≡ special_of (with_inputs (inputs 0 s) (nested_view q.x f)).control n = q.inside.even.special.at n (or_from (lost_of false n) (get_or f.unset n false) lost (there (Some n) none n refl plain)) in
            let c : special_of g.control n ≡ special_of s.control n = ap (λ (z : FrameState). special_of z.control n) same_g ∙ sym a in
            subst (λ z. z < 2 ^ 6) (sym c) (subst (λ j. special_of s.control j < 2 ^ 6) (sym is) shaped.control.shape.sar_fits)

        given : IsGivenAt i g
        given = record {
          range = ok;
          pc_word = subst (λ z. z < 2 ^ 32) pc_g shaped.control.pc;
          x_word = seen_small q shaped kn (reads i).0;
          y_word = seen_small q shaped kn (reads i).1;
          u_word = special_word_of (special_reads i).0 epc1.0 numbers.0;
          v_word = special_word_of (special_reads i).1 epc1.1 numbers.1;
          sar = shift_amount i (value_of (special_of g.control) (special_reads i).0) (held (special_reads i).0 epc1.0 numbers.0);
          fields = subst (λ (z : FrameState). IsPs z.control.ps) (sym same_g) (subst (λ (p : Ps). IsPs p) q.inside.even.ps shaped.control.ps);
          threadptr_word = subst (λ z. z < 2 ^ 32) q.inside.even.threadptr shaped.control.threadptr;
        }

        abbrev o : Outcome
        o = outcome_at code i (value_or_zero g.seen) g.control

        agree : OutcomesAgree us.masks.discipline i (row_masks i us h) o (outcome_at code i (value_or_zero h.seen) h.control)
        agree = row_agrees now rows masks code i given uses.used

        proper : EntersWord o
        proper n j e = let p : IsProper IsWord (Windowed (Enters n j)) = subst (IsProper IsWord) e (outcome_words code i g.control.pc _ _ _ _ g.control.ps g.control.threadptr bytes given) in p.1

        abbrev mask_of : ℕ → ℕ
        mask_of r = result_mask us.masks.discipline i (first_word i us h) (second_word i us h) (special_operand i us h) us.masks.threadptr r

        row : (r : ℕ) → ((e : Effect) → o ≡ Does e → r ≡ all_bits) → RowStep i us g h (mask_of r) u v
        row r full = row_step now code i count given.x_word len rec.reply r agree proper uses.used d.windowing (no_movsp code len y d sy mode_h) d.window_register full

        kinds_of : {mask : ℕ} → RowStep i us g h mask u v → u.kind ≡ v.kind
        kinds_of (Executes x) = x.kind ∙ sym x.kind_too
        kinds_of (Rests x why) = x.kind
        kinds_of (Pushes number _ n low entry size is small eu ev) = absurd (both_ways g.control.ps.excm low mode_g)
        kinds_of (Pops a0 low return_ eu ev) = absurd (both_ways g.control.ps.excm low mode_g)

        asked : rec.access ≡ (step_on code true rec f).access
        asked =
            let first : RowStep i us g h (mask_of all_bits) u v = row all_bits (λ e z. refl) in
            let tests = inner_tests code len y d sy mode_h q.x q.nested inner.marks now first (kinds_of first) reads_g in
            ⊎_elim
            (λ e. record_access code s (reply_now code m s) ∙ ends_access q.nested q.inside q.handling shaped e)
            (λ e. e.access)
            (inner_step code bytes b m s f suspended nowhere nowhere q.x q.nested q.inside shaped kn.unset.size inner.spread (quiet tests))

        no_access : (e : Effect) → o ≡ Does e → rec.access ≡ None
        no_access e z = asked ∙ (ap (λ (w : FrameTurn). w.access) framed ∙ (ap (λ (w : FrameTurn). w.access) (going_is i value q.x f u goes) ∙ ap (λ p. (done_in_frame p len rec.reply g).access) z))

        real_row : RowStep i us g h (mask_of k) u v
        real_row = row k (λ e z. ap (reply_mask kb) (no_access e z))

        abbrev mark : Option ℕ
        mark = mark_read i q.x.saved

        marks_read : reads_mark (Some q.x) i ≡ false
        marks_read =
            let a : reads_mark (Some y) i ≡ false = (or_parts (reads_mark (Some y) i) _ (subst (λ (o : Option Nested). (reads_mark o i || (reads_no_number i h || not (used_are_known us.masks.discipline i (first_word i us h) (second_word i us h)))) ≡ false) sy d.unset)).0 in
            let R : List (Option ℕ) → List (Option ℕ) → Bool = λ ms ss. not (moves_marks i) && (holds_mark ms (reads i).0 || (holds_mark ms (reads i).1 || (holds_mark ss (special_reads i).0 || holds_mark ss (special_reads i).1))) in
            ap (λ z. R z q.x.saved) inner.marks ∙ (ap (R y.marks) inner.saved ∙ a)

        by_row : RowStep i us g h (mask_of k) u v → Follows (use_turn (step_insn v.kind (Fetches i len)) k us h turn_v) (nested_insn i value q.x f u)
        by_row (Executes x) =
            goes_turn us f q.x y i len k value value h u v (Some i) (ap (λ z. step_insn z (Fetches i len)) x.kind_too ∙ executed_insn i len) goes inner.saved
            (goes_follows kn q.x y q.nested sy inner (inputs_of rec) bare i k value mark (λ j e. mark_gone code q kn i j k h e marks_read) u v x (visible_named i ok u.write x.narrow))
        by_row (Rests x (inl bad)) = absurd (both_ways (is_exception v.kind) (no_exception code len y d sy mode_h) (ap is_exception (sym x.kind) ∙ bad))
        by_row (Rests x (inr none)) = goes_turn us f q.x y i len k value value h u v None (x.idle (Fetches i len)) goes inner.saved (stops_follows kn q.x y q.nested sy inner (inputs_of rec) bare i value mark u v x none)
        by_row (Pushes number _ n low entry size is small eu ev) = absurd (both_ways g.control.ps.excm low mode_g)
        by_row (Pops a0 low return_ eu ev) = absurd (both_ways g.control.ps.excm low mode_g)

        pub goes_target : target
        goes_target = conclude real_row (kinds_of real_row) (by_row real_row)
