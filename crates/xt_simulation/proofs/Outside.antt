-- A judged step outside nested interrupts that shows no breach of uses, beside the machine of frames over a filling.
use Rattle.std.specs.Prelude.{is_some}
use Rattle.std.proofs.Common.{◌≡◌, ℕ, ◌*◌, ◌^◌, ◌<◌, ◌≤◌, Bool, true, false, ◌||◌, ◌&&◌, ltb, List, [], ◌∷◌, Option, Some, None, sym, ap, ◌∙◌, refl, arith, ⊎_elim, subst, length, cond, take, drop, get_or, replicate, ◌-◌}
use Rattle.std.proofs.lemmas.Bool.{cases_Bool, cond-false, cond-true, or_from, or_left, or_right}
use Rattle.std.proofs.Math.ListN.{set}
use Rattle.std.proofs.lemmas.List.{get_or-set_same, get_or-set_other, get_or-take, get_or_append_left, length-append, length-drop, length-replicate, length-take}
use Rattle.xt_isa.specs.declared.Insn.{Insn}
use Rattle.xt_isa.specs.Ranges.{in_range}
use Rattle.xt_special.specs.declared.ps.Ps.{Ps}
use Rattle.xt_special.specs.Numbers as number
use Rattle.xt_special.specs.Control.{special_of}
use Rattle.xt_special.specs.Interrupts.{pending_of}
use Rattle.xt_trace.specs.declared.record.RegWrite.{RegWrite}
use Rattle.xt_trace.specs.declared.record.StepKind.TheVariants as step
use Rattle.xt_trace.specs.declared.record.StepRecord.{StepRecord}
use Rattle.xt_map.specs.Code.{AreBytes}
use Rattle.xt_map.specs.Fetching.{Fetched, Fetches, Fails, SpellsNothing, fetch_at}
use Rattle.xt_map.proofs.Fetches.{fetched_range}
use Rattle.xt_rows.specs.declared.outcome.Outcome.{Outcome}
use Rattle.xt_rows.specs.declared.outcome.Outcome.TheVariants.{Windowed}
use Rattle.xt_rows.specs.declared.outcome.WindowStep.TheVariants.{Enters}
use Rattle.xt_rows.specs.Effects.{fetch_error, illegal_instruction}
use Rattle.xt_rows.specs.Kinds.{is_entry, is_movsp, is_return}
use Rattle.xt_rows.specs.RowLaws.{IsProper, IsWord}
use Rattle.xt_rows.specs.Operands.{reads, special_reads}
use Rattle.xt_rows.specs.Outcomes.{outcome_at}
use Rattle.xt_rows.specs.Settling.{settled_interrupt, settled_wait}
use Rattle.xt_rows.proofs.Proper.{outcome_words}
use Rattle.xt_exec.proofs.Specials.{level_small}
use Rattle.xt_frames.specs.declared.holes.Nested.{Nested}
use Rattle.xt_frames.specs.Frames.{Frame, FrameState, value_or_zero, seen_after_call, seen_after_write}
use Rattle.xt_frames.specs.FrameStep.{FrameTurn, Inputs, fetched_step, in_frame, with_inputs, step_with_inputs, return_in_frame, return_to_frame, entry_in_frame, exception_in_frame}
use Rattle.xt_frames.specs.Nesting.{current_in, turn_in, unset_after}
use Rattle.xt_frames.specs.Breaches.{Bounds, inputs_of, is_empty, has_no_caller}
use Rattle.xt_frames.proofs.Shown.{KeepsSp, keeps_sp}
use Rattle.xt_frames.proofs.StackSteps.{step_fetches, step_taken, step_waits}
use Rattle.xt_simulation.proofs.Evenly.{same_pending}
use Rattle.xt_uses.specs.Words.{is_whole}
use Rattle.xt_uses.specs.Known.{result_mask}
use Rattle.xt_uses.specs.UseBreaches.{laid_use, use_breach}
use Rattle.xt_uses.specs.UseState.{UseState, first_word, second_word, special_operand, visible_word}
use Rattle.xt_uses.specs.UseStep.{UseTurn, step_insn, fetched_movsp, full_step, insn_turn, movsp_of, reply_mask, stack_moved, turn_or, use_turn, value_step}
use Rattle.xt_uses.specs.UseLaws.{AgreeIn, OutcomesAgree, RepliesAgree, RowsAgree}
use Rattle.xt_uses.proofs.CutWords.{AreInputs, IsShapedFrame}
use Rattle.xt_uses.proofs.RowsWords.{result_word}
use Rattle.xt_uses.proofs.Wholes.{whole_value}
use Rattle.xt_simulation.specs.Knowing.{Follows, Knows, NowFit, with_pointer}
use Rattle.xt_simulation.proofs.Agreed.{Uses, sp_tested, uses_known}
use Rattle.xt_simulation.proofs.Calling.{pops_follows, pushes_follows}
use Rattle.xt_simulation.proofs.Following.{now_plain, ordinary_follows, quiet_follows, with_unset}
use Rattle.xt_simulation.proofs.MaskStep.{special_word_small, visible_word_small}
use Rattle.xt_simulation.proofs.MaskWords.{MaskWords, now_small}
use Rattle.xt_simulation.proofs.MovspJudged.{move_at, move_uses, move_word, use_moves}
use Rattle.xt_simulation.proofs.MovspStep.{move_follows, movsp}
use Rattle.xt_simulation.proofs.NestedTop.{executed_insn}
use Rattle.xt_simulation.proofs.Operands.{IsGivenAt, row_agrees, row_masks, word_fits}
use Rattle.xt_simulation.proofs.FetchedUses.{moves_denied, row_denied}
use Rattle.xt_simulation.proofs.PlainJudged.{no_move_fails, no_move_spells}
use Rattle.xt_simulation.proofs.PlainRow.{entry_one, entry_some, visible_named}
use Rattle.xt_simulation.proofs.PlainStep.{row_moves_none, use_plain}
use Rattle.xt_simulation.proofs.Rows.{EntersWord, Executes, Pops, Pushes, Quiet, Rests, RowStep, raise_quiet, result, taken_quiet, waits_quiet}
use Rattle.xt_simulation.proofs.Tests.{Denied, caller_row}
use Rattle.xt_simulation.proofs.Numbered.{Held, IsHeld}
use Rattle.xt_simulation.proofs.Replied.{replied_row}
use Rattle.xt_simulation.proofs.UseWords.{given_words, known_small, laid_words}

-- the machine of uses follows the step, and the frames are frames
pub record Goes (t : UseTurn) (u : FrameTurn) : Type 0 where
  pub follows : Follows t u
  pub held : Held u.after

-- a return has a caller
pub no_empty : (i : Insn) (g : FrameState) → is_return i ≡ true → has_no_caller i g ≡ false → g.frames ≡ [] → ⊥
no_empty i g return_ e none =
    let a : is_empty g.frames ≡ false = ap (λ b. b && is_empty g.frames) (sym return_) ∙ e in
    let z : true ≡ false = sym (ap is_empty none) ∙ a in
    absurd cc

popped_held : (frames : List Frame) (a0 : ℕ) (g : FrameState) → g.frames ≡ frames → IsHeld g.seen frames → Held (return_to_frame frames a0 g).after
popped_held [] a0 g e k = subst (IsHeld g.seen) (sym e) k
popped_held (c ∷ rest) a0 g e k =
    let moves = k.framed.0.moves in
    let keeps = k.framed.0.keeps in
    record {
      framed = k.framed.1;
      pointer = ap (λ (o : Option ℕ). is_some o) (get_or_append_left c.kept (take (16 - 4 * c.by) g.seen) None 1 (omega (arith, moves, keeps))) ∙ k.kept.0;
      kept = k.kept.1;
    }

pushed_held : (number value len : ℕ) (g : FrameState) → number ≡ 1 → length g.seen ≡ 16 → 0 < g.control.ps.callinc → g.control.ps.callinc ≤ 3 → Held g → Held (entry_in_frame number value len g).after
unfolding entry_in_frame
pushed_held number value len g one wide some three k =
    let n = g.control.ps.callinc in
    let l = length-take (4 * n) g.seen in
    let d = length-drop (4 * n) g.seen in
    let r = length-replicate {A = Option ℕ} (4 * n) None in
    let a = length-append (drop (4 * n) g.seen) (replicate (4 * n) None) in
    let at : get_or (set (seen_after_call g.seen n) number (Some value)) 1 None ≡ Some value = subst (λ z. get_or (set (seen_after_call g.seen n) z (Some value)) 1 None ≡ Some value) (sym one) (get_or-set_same (seen_after_call g.seen n) 1 (Some value) None (omega (arith, wide, d, r, a, three))) in
    record {
      framed = (record { moves = some; within = three; keeps = omega (arith, l, wide, three) }, k.framed);
      pointer = ap (λ (o : Option ℕ). is_some o) at;
      kept = (ap (λ (o : Option ℕ). is_some o) (get_or-take (4 * n) g.seen 1 None (omega (arith, some))) ∙ k.pointer, k.kept);
    }

back_held : (a0 : ℕ) (g : FrameState) → Held g → Held (return_in_frame a0 g).after
unfolding return_in_frame
back_held a0 g k = popped_held g.frames a0 g refl k

written_held : (o : Option RegWrite) (seen : List (Option ℕ)) (frames : List Frame) → KeepsSp o → IsHeld seen frames → IsHeld (seen_after_write o seen) frames
written_held None seen frames keeps k = k
written_held (Some w) seen frames keeps k = record {
  framed = k.framed;
  pointer = ap (λ (o : Option ℕ). is_some o) (get_or-set_other seen w.reg 1 (Some w.value) None (λ e. keeps (sym e))) ∙ k.pointer;
  kept = k.kept;
}

moved_held : (x len : ℕ) (g : FrameState) → length g.seen ≡ 16 → Held g → Held (stack_moved 1 x len g).after
moved_held x len g wide k = record {
  framed = k.framed;
  pointer = ap (λ (o : Option ℕ). is_some o) (get_or-set_same g.seen 1 (Some x) None (omega (arith, wide)));
  kept = k.kept;
}

module _ (rows : RowsAgree) (replies : RepliesAgree) (code : ℕ → ℕ) (bytes : AreBytes code) (b : Bounds) (fresh : Bool) (live : ℕ → Bool) (kb : ℕ → ℕ) (rec : StepRecord) (words : AreInputs (inputs_of rec))
    (reply value : ℕ) (mask_word : reply_mask kb rec.access < 2 ^ 32) (reply_word : reply < 2 ^ 32) (same : AgreeIn (reply_mask kb rec.access) reply rec.reply)
    (us : UseState) (sn : us.frame.nested ≡ None) (masks : MaskWords us.masks) {f : FrameState} (kn : Knows f us) (fn : f.nested ≡ None) (shaped : IsShapedFrame f) (held : Held f) where
  abbrev inp : Inputs
  inp = record (inputs_of rec) { reply = reply }

  abbrev h : FrameState
  h = with_inputs (inputs_of rec) us.frame

  abbrev g : FrameState
  g = with_inputs (inputs_of rec) f

  now : NowFit us g h
  now = now_plain kn fn sn (inputs_of rec)

  shaped_g : IsShapedFrame g
  shaped_g = laid_words (inputs_of rec) f words shaped

  abbrev k : ℕ
  k = reply_mask kb rec.access

  abbrev target : Type 0
  target = Goes (full_step code false rec kb us) (value_step code false value inp f)

  same_wait : pending_of g.control ≡ pending_of h.control
  same_wait = same_pending g.control (with_pointer g.control.threadptr h.control) now.control.even

  -- ---- the step of the frame state
  plain_step : movsp_of code g ≡ None → value_step code false value inp f ≡ with_unset (unset_after (step_with_inputs code reply g).kind (fetch_at code g.control.pc) f.unset) (step_with_inputs code reply g)
  unfolding value_step
  plain_step none =
      let U : Option FrameTurn → Option Nested → FrameTurn = λ z o. turn_or z (turn_in o code value inp f) in
      ap (U (movsp_of code g)) fn ∙ ap (λ z. U z None) none

  moves_step : (w : FrameTurn) → movsp_of code g ≡ Some w → value_step code false value inp f ≡ w
  unfolding value_step
  moves_step w some = ap (λ z. turn_or z (turn_in f.nested code value inp f)) some

  -- both are quiet
  quiet_goes : Quiet us g h (step_with_inputs code reply g) (step_with_inputs code rec.reply h) → movsp_of code h ≡ None → movsp_of code g ≡ None → target
  quiet_goes q none none_g =
      let v = step_with_inputs code rec.reply h in
      let u = step_with_inputs code reply g in
      let at = fetch_at code h.control.pc in
      let here : Follows (use_turn (step_insn v.kind at) k us h (with_unset (unset_after v.kind at us.frame.unset) v)) (with_unset (unset_after u.kind at f.unset) u) = quiet_follows kn fn sn (inputs_of rec) at k u v q in
      let at_same : fetch_at code g.control.pc ≡ at = ap (fetch_at code) now.control.even.pc in
      let there : Follows (use_turn (step_insn v.kind at) k us h (with_unset (unset_after v.kind at us.frame.unset) v)) (value_step code false value inp f) =
      subst (Follows (use_turn (step_insn v.kind at) k us h (with_unset (unset_after v.kind at us.frame.unset) v))) (sym (plain_step none_g ∙ ap (λ z. with_unset (unset_after u.kind z f.unset) u) at_same)) here in
      let after : Held u.after = subst (λ (z : FrameState). Held z) (sym q.is) held in
      record {
        follows = subst (λ z. Follows z (value_step code false value inp f)) (sym (use_plain code rec kb us sn none)) there;
        held = subst (λ (z : FrameTurn). Held z.after) (sym (plain_step none_g)) after;
      }

  move_free : (s : FrameState) → (ltb 0 (pending_of s.control) || s.control.waits) ≡ true → movsp_of code s ≡ None
  move_free s e = cond-true (is_some s.nested || (ltb 0 (pending_of s.control) || s.control.waits)) None (fetched_movsp (fetch_at code s.control.pc) s) (or_right _ _ e)

  -- ---- an interrupt
  taken : ltb 0 (pending_of h.control) ≡ true → target
  taken pends =
      let yes_g : ltb 0 (pending_of g.control) ≡ true = ap (λ n. ltb 0 n) same_wait ∙ pends in
      let level = pending_of g.control in
      let small : level ≤ 5 = level_small (special_of g.control number.interrupt) (special_of g.control number.intenable) g.control.ps in
      let eg : step_with_inputs code reply g ≡ in_frame (settled_interrupt level g.control) rec.reply g = step_taken code reply g yes_g in
      let eh : step_with_inputs code rec.reply h ≡ in_frame (settled_interrupt level h.control) rec.reply h = step_taken code rec.reply h pends ∙ ap (λ n. in_frame (settled_interrupt n h.control) rec.reply h) (sym same_wait) in
      let q : Quiet us g h (step_with_inputs code reply g) (step_with_inputs code rec.reply h) = subst (λ (z : FrameTurn). Quiet us g h z (step_with_inputs code rec.reply h)) (sym eg) (subst (Quiet us g h (in_frame (settled_interrupt level g.control) rec.reply g)) (sym eh) (taken_quiet now level rec.reply (omega arith))) in
      quiet_goes q (move_free h (or_left _ _ pends)) (move_free g (or_left _ _ yes_g))

  -- ---- a turn of waiting
  waiting : ltb 0 (pending_of h.control) ≡ false → h.control.waits ≡ true → target
  waiting none w =
      let no_g : ltb 0 (pending_of g.control) ≡ false = ap (λ n. ltb 0 n) same_wait ∙ none in
      let w_g : g.control.waits ≡ true = now.control.even.waits ∙ w in
      let eg : step_with_inputs code reply g ≡ in_frame (settled_wait g.control) rec.reply g = step_waits code reply g no_g w_g in
      let eh = step_waits code rec.reply h none w in
      let q : Quiet us g h (step_with_inputs code reply g) (step_with_inputs code rec.reply h) = subst (λ (z : FrameTurn). Quiet us g h z (step_with_inputs code rec.reply h)) (sym eg) (subst (Quiet us g h (in_frame (settled_wait g.control) rec.reply g)) (sym eh) (waits_quiet now rec.reply)) in
      quiet_goes q (move_free h (or_right _ _ w)) (move_free g (or_right _ _ w_g))

  -- ---- an instruction is fetched
  module _ (still : ltb 0 (pending_of h.control) ≡ false) (awake : h.control.waits ≡ false) where
    still_g : ltb 0 (pending_of g.control) ≡ false
    still_g = ap (λ n. ltb 0 n) same_wait ∙ still

    awake_g : g.control.waits ≡ false
    awake_g = now.control.even.waits ∙ awake

    at_g : (at : Fetched) → fetch_at code h.control.pc ≡ at → fetch_at code g.control.pc ≡ at
    at_g at e = ap (fetch_at code) now.control.even.pc ∙ e

    step_g : (at : Fetched) → fetch_at code h.control.pc ≡ at → step_with_inputs code reply g ≡ fetched_step at code reply g
    step_g at e = step_fetches code reply g still_g awake_g ∙ ap (λ z. fetched_step z code reply g) (at_g at e)

    step_h : (at : Fetched) → fetch_at code h.control.pc ≡ at → step_with_inputs code rec.reply h ≡ fetched_step at code rec.reply h
    step_h at e = step_fetches code rec.reply h still awake ∙ ap (λ z. fetched_step z code rec.reply h) e

    no_move : (s : FrameState) (at : Fetched) → fetch_at code s.control.pc ≡ at → fetched_movsp at s ≡ None → movsp_of code s ≡ None
    no_move s at e none = by (is_some s.nested || (ltb 0 (pending_of s.control) || s.control.waits))
      where
        by : (t : Bool) → cond t None (fetched_movsp (fetch_at code s.control.pc) s) ≡ None
        by true = refl
        by false = ap (λ z. fetched_movsp z s) e ∙ none

    -- nothing is
    fails : (at : Fetched) → fetch_at code h.control.pc ≡ at → ((x : FrameState) → fetched_movsp at x ≡ None) → (cause : ℕ) (addr : Option ℕ) → ((n : ℕ) (x : FrameState) → fetched_step at code n x ≡ exception_in_frame cause addr x) → target
    fails at e none cause addr raise =
        let eg = step_g at e ∙ raise reply g in
        let eh = step_h at e ∙ raise rec.reply h in
        let q : Quiet us g h (step_with_inputs code reply g) (step_with_inputs code rec.reply h) = subst (λ (z : FrameTurn). Quiet us g h z (step_with_inputs code rec.reply h)) (sym eg) (subst (Quiet us g h (exception_in_frame cause addr g)) (sym eh) (raise_quiet now cause addr)) in
        quiet_goes q (no_move h at e (none h)) (no_move g at (at_g at e) (none g))

    -- MOVSP
    moves : (q len : ℕ) {v : FrameTurn} → fetch_at code h.control.pc ≡ Fetches (movsp 1 q) len → Denied b fresh live kb (movsp 1 q) rec us h v → target
    moves q len e d =
        let uses : Uses (movsp 1 q) us h = uses_known (movsp 1 q) us h d.unset in
        let whole : is_whole (first_word (movsp 1 q) us h) ≡ true = move_uses us.masks.discipline 1 q us h (second_word (movsp 1 q) us h) uses.used in
        let w : is_whole (visible_word us h (Some q)) ≡ true = ap is_whole (sym (move_word 1 q us h)) ∙ whole in
        let x = value_or_zero g.seen q in
        let x_word : x < 2 ^ 32 = (given_word q) in
        let x_known : value_or_zero us.frame.seen q ≡ x = whole_value x (visible_word us h (Some q)) (word_fits now (Some q)) x_word w in
        let turn_v : FrameTurn = stack_moved 1 (value_or_zero h.seen q) len h in
        let turn_u : FrameTurn = stack_moved 1 x len g in
        let moves_h : movsp_of code h ≡ Some turn_v = some_move h (ap (λ (o : Option Nested). is_some o) sn) still awake e in
        let moves_g : movsp_of code g ≡ Some turn_u = some_move g (ap (λ (o : Option Nested). is_some o) fn) still_g awake_g (at_g (Fetches (movsp 1 q) len) e) in
        let same_use : full_step code false rec kb us ≡ insn_turn (movsp 1 q) k us h turn_v = use_moves code rec kb us turn_v sn moves_h ∙ (ap (λ z. use_turn (step_insn step.Insn z) k us h turn_v) e ∙ ap (λ z. use_turn z k us h turn_v) (executed_insn (movsp 1 q) len)) in
        let here : Follows (insn_turn (movsp 1 q) k us h turn_v) turn_u = move_follows kn fn sn (inputs_of rec) q len x x_known x_word whole shaped.control.count k in
        record {
          follows = subst (λ z. Follows z (value_step code false value inp f)) (sym same_use) (subst (Follows (insn_turn (movsp 1 q) k us h turn_v)) (sym (moves_step turn_u moves_g)) here);
          held = subst (λ (z : FrameTurn). Held z.after) (sym (moves_step turn_u moves_g)) (moved_held x len g kn.seen.size held);
        }
      where
        given_word : (q : ℕ) → value_or_zero g.seen q < 2 ^ 32
        given_word q = known_small g.seen q shaped_g.seen

        some_move : (s : FrameState) → is_some s.nested ≡ false → ltb 0 (pending_of s.control) ≡ false → s.control.waits ≡ false → fetch_at code s.control.pc ≡ Fetches (movsp 1 q) len → movsp_of code s ≡ Some (stack_moved 1 (value_or_zero s.seen q) len s)
        some_move s n a w e =
            let none : (is_some s.nested || (ltb 0 (pending_of s.control) || s.control.waits)) ≡ false = or_from _ _ n (or_from _ _ a w) in
            cond-false (is_some s.nested || (ltb 0 (pending_of s.control) || s.control.waits)) None (fetched_movsp (fetch_at code s.control.pc) s) none ∙ (ap (λ z. fetched_movsp z s) e ∙ move_at 1 q len s)

    -- any other row
    module _ (i : Insn) (len : ℕ) (e : fetch_at code h.control.pc ≡ Fetches i len) (no_movsp : is_movsp i ≡ false) (d : Denied b fresh live kb i rec us h (fetched_step (Fetches i len) code rec.reply h)) where
      abbrev v : FrameTurn
      v = fetched_step (Fetches i len) code rec.reply h

      abbrev u : FrameTurn
      u = fetched_step (Fetches i len) code reply g

      ok : in_range i ≡ true
      ok = fetched_range code h.control.pc i len bytes e

      uses : Uses i us h
      uses = uses_known i us h d.unset

      given : IsGivenAt i g
      given = given_words g shaped_g i ok

      abbrev o : Outcome
      o = outcome_at code i (value_or_zero g.seen) g.control

      agree : OutcomesAgree us.masks.discipline i (row_masks i us h) o (outcome_at code i (value_or_zero h.seen) h.control)
      agree = row_agrees now rows (now_small us masks) code i given uses.used

      proper : EntersWord o
      proper n j q = let p : IsProper IsWord (Windowed (Enters n j)) = subst (IsProper IsWord) q (outcome_words code i g.control.pc _ _ _ _ g.control.ps g.control.threadptr bytes given) in p.1

      small_result : result_mask us.masks.discipline i (first_word i us h) (second_word i us h) (special_operand i us h) us.masks.threadptr k < 2 ^ 32
      small_result = result_word (first_word i us h) (second_word i us h) (visible_word_small us h (reads i).0 masks) (visible_word_small us h (reads i).1 masks) us.masks.discipline i ok (special_operand i us h) us.masks.threadptr k (special_word_small us h (special_reads i).0 masks) masks.threadptr mask_word

      row : RowStep i us g h (result now code i shaped_g.control.count given.x_word k) u v
      row = replied_row replies now code i shaped_g.control.count given.x_word k reply rec.reply mask_word reply_word words.reply same small_result len agree proper uses.used d.windowing no_movsp d.window_register

      three : g.control.ps.callinc ≤ 3
      three = let c = shaped_g.control.ps.callinc_fits in omega (arith, c)

      calls_same : g.control.ps.callinc ≡ h.control.ps.callinc
      calls_same = ap (λ (p : Ps). p.callinc) now.control.even.ps

      keeps_a1 : is_entry i ≡ false → KeepsSp u.write
      keeps_a1 none = keeps_sp i rec.write u.write none no_movsp (sp_tested kn.frames row rec.write d.written)

      abbrev turn_u : FrameTurn
      turn_u = with_unset (unset_after u.kind (Fetches i len) f.unset) u

      abbrev turn_v : FrameTurn
      turn_v = with_unset (unset_after v.kind (Fetches i len) us.frame.unset) v

      by_row : RowStep i us g h (result now code i shaped_g.control.count given.x_word k) u v → Goes (use_turn (step_insn v.kind (Fetches i len)) k us h turn_v) turn_u
      by_row (Executes x) = record {
        follows = ordinary_follows kn fn sn (inputs_of rec) i len k u v x (visible_named i ok u.write x.narrow) (keeps_a1 x.no_entry);
        held = subst (λ (z : FrameState). Held z) (sym x.is) (written_held u.write g.seen g.frames (keeps_a1 x.no_entry) held);
      }
      by_row (Rests x why) = record {
        follows = quiet_follows kn fn sn (inputs_of rec) (Fetches i len) k u v x;
        held = subst (λ (z : FrameState). Held z) (sym x.is) held;
      }
      by_row (Pushes number value n low entry size is small eu ev) =
          let z = entry_some i number size h is d.opens in
          let q = calls_same in
          let some : 0 < g.control.ps.callinc = omega (arith, z, q) in
          record {
            follows = pushes_follows kn sn (inputs_of rec) now.control i entry number value n (entry_one i number size b h is d.size) small some three len k u v eu ev;
            held = subst (λ (w : FrameTurn). Held w.after) (sym eu) (pushed_held number value n g (entry_one i number size b h is d.size) kn.seen.size some three held);
          }
      by_row (Pops a0 low return_ eu ev) = record {
        follows = pops_follows kn sn (inputs_of rec) now.control i return_ a0 len held.framed (no_empty i g return_ (caller_row i us.masks.kept g h kn.frames d.caller)) k u v eu ev;
        held = subst (λ (w : FrameTurn). Held w.after) (sym eu) (back_held a0 g held);
      }

      same_use : full_step code false rec kb us ≡ use_turn (step_insn v.kind (Fetches i len)) k us h turn_v
      same_use =
          let U : Fetched → FrameTurn → UseTurn = λ z w. use_turn (step_insn w.kind z) k us h (with_unset (unset_after w.kind z us.frame.unset) w) in
          use_plain code rec kb us sn (no_move h (Fetches i len) e (row_moves_none i len h no_movsp)) ∙ (ap (U (fetch_at code h.control.pc)) (step_h (Fetches i len) e) ∙ ap (λ z. U z v) e)

      same_step : value_step code false value inp f ≡ turn_u
      same_step =
          let W : Fetched → FrameTurn → FrameTurn = λ z w. with_unset (unset_after w.kind z f.unset) w in
          plain_step (no_move g (Fetches i len) (at_g (Fetches i len) e) (row_moves_none i len g no_movsp)) ∙ (ap (W (fetch_at code g.control.pc)) (step_g (Fetches i len) e) ∙ ap (λ z. W z u) (at_g (Fetches i len) e))

      row_goes : target
      row_goes = subst (λ z. Goes z (value_step code false value inp f)) (sym same_use) (subst (Goes (use_turn (step_insn v.kind (Fetches i len)) k us h turn_v)) (sym same_step) (by_row row))

    by_fetch : (at : Fetched) → fetch_at code h.control.pc ≡ at → laid_use b fresh code live kb rec us h ≡ None → target
    by_fetch (Fails a) e none = fails (Fails a) e (no_move_fails a) fetch_error (Some a) (λ n x. refl)
    by_fetch SpellsNothing e none = fails SpellsNothing e no_move_spells illegal_instruction None (λ n x. refl)
    by_fetch (Fetches i len) e none =
        let d = row_denied b fresh code live kb rec us h still awake none i len e in
        ⊎_elim
        (λ is. let q = moves_denied i is d in moves q.0 len (e ∙ ap (λ j. Fetches j len) q.1.0) q.1.1)
        (λ isnt. row_goes i len e isnt d)
        (cases_Bool (is_movsp i))

  pub outside_goes : use_breach b fresh code live kb false rec us ≡ None → target
  outside_goes none =
      let none_h : laid_use b fresh code live kb rec us h ≡ None = ap (λ (o : Option Nested). laid_use b fresh code live kb rec us (with_inputs (inputs_of rec) (current_in o us.frame))) (sym sn) ∙ none in
      ⊎_elim
      taken
      (λ still. ⊎_elim (λ w. waiting still w) (λ w. by_fetch still w (fetch_at code h.control.pc) refl none_h) (cases_Bool h.control.waits))
      (cases_Bool (ltb 0 (pending_of h.control)))
