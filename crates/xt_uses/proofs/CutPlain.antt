-- A step of the machine of uses outside nested interrupts keeps its values cut.
use Rattle.std.proofs.Common.{◌≡◌, ℕ, ◌+◌, ◌*◌, ◌≤◌, ℤ, Bool, true, false, cond, ltb, ◌||◌, List, [], ◌∷◌, Option, Some, None, take, get_or, refl, sym, ◌∙◌, ⊎_elim, subst, arith}
use Rattle.std.proofs.Math.ListN.{set}
use Rattle.std.proofs.lemmas.Bool.{both_ways, cases_Bool, cond-false, cond-true, or_from, or_left, or_right}
use Rattle.std.proofs.lemmas.Option.{none-some}
use Rattle.std.proofs.lemmas.List.{length-set}
use Rattle.xt_isa.specs.declared.Insn.{Insn}
use Rattle.xt_isa.specs.declared.Insn.TheVariants as insn
use Rattle.xt_isa.specs.declared.shift.Shift.TheVariants as shift
use Rattle.xt_isa.specs.declared.control.Control.TheVariants as control
use Rattle.xt_map.specs.declared.access.Access.{Access}
use Rattle.xt_special.specs.Access.{SpecialWrites, no_set, no_sets, set_to, with_sets}
use Rattle.xt_special.specs.Control.{Control}
use Rattle.xt_special.specs.Exceptions.{after_exception}
use Rattle.xt_special.specs.Interrupts.{after_interrupt, pending_of}
use Rattle.xt_special.specs.Timers.{after_tick}
use Rattle.xt_trace.specs.declared.record.RegWrite.{RegWrite}
use Rattle.xt_trace.specs.declared.record.StepKind.TheVariants as kind
use Rattle.xt_trace.specs.declared.record.StepRecord.{StepRecord}
use Rattle.xt_map.specs.Fetching.{Fetched, Fetches, Fails, SpellsNothing, fetch_at}
use Rattle.xt_rows.specs.declared.outcome.Effect.{Effect}
use Rattle.xt_rows.specs.declared.outcome.Flow.TheVariants.{Falls}
use Rattle.xt_rows.specs.declared.outcome.Outcome.{Outcome}
use Rattle.xt_rows.specs.declared.outcome.Outcome.TheVariants.{Does, Raises, Asks, Stops, Windowed}
use Rattle.xt_rows.specs.declared.outcome.WindowStep.TheVariants.{Enters, Returns, EndsOverflow, EndsUnderflow, Rotates, MovesStack, Reads, Sets, Exchanges}
use Rattle.xt_rows.specs.Effects.{illegal_instruction, no_change, write_to}
use Rattle.xt_rows.specs.Kinds.{Fits, IsReturn, SetsOne, is_entry, is_movsp, is_return, is_windowing, moved_to, names_window_register}
use Rattle.xt_rows.specs.RowLaws.{AsksWith}
use Rattle.xt_rows.specs.Operands.{reads}
use Rattle.xt_rows.specs.Outcomes.{outcome_at, value_of}
use Rattle.xt_rows.specs.Settling.{after_effect, settled_interrupt, settled_wait}
use Rattle.xt_rows.proofs.Fitting.{outcome_alone, outcome_fits}
use Rattle.xt_frames.specs.Frames.{Frame, FrameState, value_or_zero, seen_after_call, seen_after_return, seen_after_write}
use Rattle.xt_frames.specs.FrameStep.{FrameTurn, Inputs, done_in_frame, fetched_step, in_frame, with_inputs, step_with_inputs, return_in_frame, return_to_frame, entry_in_frame, exception_in_frame}
use Rattle.xt_frames.specs.Marks.{holds_marks, unset_by}
use Rattle.xt_frames.specs.Nesting.{unset_after}
use Rattle.xt_frames.proofs.StackSteps.{step_fetches, step_taken, step_waits, turn_if}
use Rattle.xt_uses.specs.Words.{masked}
use Rattle.xt_uses.specs.Known.{result_mask}
use Rattle.xt_uses.specs.UseState.{ValidityBits, UseState, first_word, second_word, special_operand, visible_word}
use Rattle.xt_uses.specs.UseStep.{UseTurn, bits_after_call, step_insn, fetched_movsp, frames_moved, movsp_of, bits_after_return, turn_or, use_turn}
use Rattle.xt_frames.specs.Breaches.{Bounds}
use Rattle.xt_frames.proofs.Shown.{NoneShown}
use Rattle.xt_uses.specs.UseBreaches.{breaks_stack, fetched_uses, laid_use, swaps_unknown, uses_unknown}
use Rattle.xt_uses.proofs.CutTests.{unused, uses_shown}
use Rattle.xt_uses.proofs.CutControl.{Keeps, Spared, keeps_effect, keeps_exception, keeps_flow, keeps_interrupt, keeps_same, keeps_tick, spared_same, spared_set}
use Rattle.xt_uses.proofs.CutLists.{cut_value}
use Rattle.xt_rows.proofs.Pointer.{LeavesPointer, pointer_kept, pointer_left}
use Rattle.xt_uses.proofs.CutRows.{marks_saved, moved_value}
use Rattle.xt_uses.proofs.CutStates.{Cut, IsCut, cut_called, cut_ended, cut_pointer, cut_register, cut_returned, cut_spared, cut_special, cut_unset}
use Rattle.xt_uses.proofs.WholeLists.{held}
use Rattle.xt_uses.proofs.WholePlain.{entry_is, level_small, no_movsp, no_return, returns_is}
use Rattle.xt_uses.proofs.WholeStates.{special_high}

-- ---- rows that move no special register and leave THREADPTR
pub record IsCalm (i : Insn) : Type 0 where
  pub moved : moved_to i ≡ None
  pub pointer : (x t : ℕ) → pointer_left i x t ≡ t

entry_calm : (number : ℕ) (size : ℤ) → IsCalm (insn.Control (control.Entry number size))
unfolding moved_to pointer_left
entry_calm number size = record { moved = refl; pointer = λ x t. refl }

movsp_calm : (t s : ℕ) → IsCalm (insn.Shift (shift.Movsp t s))
unfolding moved_to pointer_left
movsp_calm t s = record { moved = refl; pointer = λ x p. refl }

return_calm : (i : Insn) → IsReturn i → IsCalm i
unfolding moved_to pointer_left
return_calm i h = ⊎_elim
    (λ e. subst IsCalm (sym e) (record { moved = refl; pointer = λ x t. refl }))
    (λ e. subst IsCalm (sym e) (record { moved = refl; pointer = λ x t. refl }))
    h

movsp_is : (t s : ℕ) → (is_entry (insn.Shift (shift.Movsp t s)) ≡ false) × (is_return (insn.Shift (shift.Movsp t s)) ≡ false)
unfolding is_entry is_return
movsp_is t s = (refl, refl)

record IsMovsp (i : Insn) : Type 0 where
  t : ℕ
  s : ℕ
  is : i ≡ insn.Shift (shift.Movsp t s)

as_movsp : (i : Insn) → is_movsp i ≡ true → IsMovsp i
unfolding is_movsp
as_movsp (insn.Shift (shift.Movsp t s)) e = record { t = t; s = s; is = refl }
as_movsp _ e = absurd cc

pub none_moved : (o : Option (ℕ × ℕ)) → o ≡ None → (n : ℕ) → SetsOne o n no_sets
none_moved None e n = (tt, tt, tt)
none_moved (Some p) e n = absurd (none-some p (sym e))

module _ (seen : List (Option ℕ)) (frames : List Frame) (control : Control) (unset : List Bool) (m : ValidityBits) (w : Cut seen frames control.special unset control.threadptr None control.waits m) (inp : Inputs) where
  abbrev f : FrameState
  f = record { seen = seen; frames = frames; control = control; unset = unset; nested = None }

  abbrev g : FrameState
  g = with_inputs inp f

  abbrev s : UseState
  s = record { frame = f; masks = m }

  abbrev turned : Fetched → FrameTurn → FrameTurn
  turned at v = record v { after = record v.after { unset = unset_after v.kind at unset } }

  abbrev Leaves : Fetched → ℕ → FrameTurn → Type 0
  Leaves at r u = (let t : UseTurn = use_turn (step_insn u.kind at) r s g u in IsCut t.after.frame t.after.masks)

  laid_cut : Cut seen frames g.control.special unset control.threadptr None control.waits m
  laid_cut = cut_spared w g.control.special (spared_set control.special _ 226 inp.interrupt refl (spared_set control.special control.special 234 inp.ccount refl (spared_same control.special))) control.threadptr refl

  -- ---- no instruction is executed
  kept_cut : (c : Control) → Keeps g.control c → Cut seen frames c.special unset c.threadptr None c.waits m
  kept_cut c k = cut_ended (cut_spared laid_cut c.special k.special c.threadptr k.threadptr) c.waits

  level_apart : (level n : ℕ) → level ≤ 5 → holds_marks n ≡ true → get_or (set (set unset (176 + level) false) (192 + level) false) n false ≡ get_or unset n false
  level_apart level n small h =
      let high = special_high n h in
      held (set unset (176 + level) false) (192 + level) n false false (λ b. b ≡ get_or unset n false) (λ e. absurd (omega (arith, e, small, high)))
      (held unset (176 + level) n false false (λ b. b ≡ get_or unset n false) (λ e. absurd (omega (arith, e, small, high))) refl)

  takes : (at : Fetched) (level reply r : ℕ) → level ≤ 5 → Leaves at r (turned at (in_frame (settled_interrupt level g.control) reply g))
  unfolding step_insn
  takes at level reply r small =
      let c : Control = after_tick (after_interrupt level g.control) in
      let k = kept_cut c (keeps_tick g.control (after_interrupt level g.control) (keeps_interrupt level g.control small)) in
      cut_ended (cut_unset k (set (set unset (176 + level) false) (192 + level) false) (length-set (set unset (176 + level) false) (192 + level) false ∙ (length-set unset (176 + level) false ∙ w.holes)) (λ n h. level_apart level n small h)) c.waits

  waits : (at : Fetched) (reply r : ℕ) → Leaves at r (turned at (in_frame (settled_wait g.control) reply g))
  unfolding step_insn
  waits at reply r = kept_cut (after_tick g.control) (keeps_tick g.control g.control (keeps_same g.control))

  raises : (at : Fetched) (cause : ℕ) (address : Option ℕ) (r : ℕ) → Leaves at r (turned at (exception_in_frame cause address g))
  unfolding step_insn
  raises at cause address r = kept_cut (after_tick (after_exception cause address g.control)) (keeps_tick g.control (after_exception cause address g.control) (keeps_exception cause address g.control))

  stops : (at : Fetched) (len reply r : ℕ) → Leaves at r (turned at (done_in_frame Stops len reply g))
  unfolding step_insn
  stops at len reply r = kept_cut (after_tick g.control) (keeps_tick g.control g.control (keeps_same g.control))

  -- ---- an instruction is executed
  module _ (i : Insn) (len r : ℕ) where
    abbrev x : ℕ
    x = value_of (value_or_zero seen) (reads i).0

    abbrev given : ℕ
    given = (first_word i s g).mask

    abbrev mask : ℕ
    mask = result_mask m.discipline i (first_word i s g) (second_word i s g) (special_operand i s g) m.threadptr r

    operand_cut : (o : Option ℕ) → masked (visible_word s g o).mask (value_of (value_or_zero seen) o) ≡ value_of (value_or_zero seen) o
    operand_cut None = refl
    operand_cut (Some k) = cut_value seen m.seen w.seen_cut k

    abbrev wrote : Option RegWrite → Option Access → Control → List (Option ℕ) → List Frame → List Bool → FrameTurn
    wrote write access c old olds holes = record {
      kind = kind.Insn;
      write = write;
      access = access;
      after = record { seen = seen_after_write write old; frames = olds; control = c; unset = holes; nested = None };
    }

    -- what it gives to special registers and THREADPTR
    record Gives (sets : SpecialWrites) (c : Control) : Type 0 where
      one : (n : ℕ) → holds_marks n ≡ true → SetsOne (moved_to i) n sets
      value : (p : ℕ × ℕ) → moved_to i ≡ Some p → holds_marks p.1 ≡ true → sets ≡ (set_to p.1 x, no_set, no_set)
      special : Spared (with_sets sets g.control.special) c.special
      pointer : c.threadptr ≡ pointer_left i x control.threadptr

    writes : (write : Option RegWrite) (access : Option Access) (c : Control) (old : List (Option ℕ)) (olds : List Frame) (sets : SpecialWrites) → Gives sets c
        → Cut old olds g.control.special unset control.threadptr None control.waits (frames_moved i control.ps.callinc m)
        → Leaves (Fetches i len) r (wrote write access c old olds (unset_by (moved_to i) [] unset))
    unfolding step_insn
    writes write access c old olds sets k y =
        let one = cut_special y (moved_to i) given x sets (operand_cut (reads i).0) k.one k.value in
        let two = cut_register (cut_pointer one i given x (operand_cut (reads i).0)) write mask in
        cut_ended (cut_spared two c.special k.special c.threadptr k.pointer) c.waits

    calm_gives : IsCalm i → (c : Control) → Keeps g.control c → Gives no_sets c
    calm_gives calm c k = record {
      one = λ n h. none_moved (moved_to i) calm.moved n;
      value = λ p e. absurd (none-some p (sym calm.moved ∙ e));
      special = k.special;
      pointer = k.threadptr ∙ sym (calm.pointer x control.threadptr);
    }

    unmoved : is_entry i ≡ false → is_return i ≡ false → Cut seen frames g.control.special unset control.threadptr None control.waits (frames_moved i control.ps.callinc m)
    unmoved e n = subst
        (λ k. Cut seen frames g.control.special unset control.threadptr None control.waits k)
        (sym (cond-false (is_entry i) (bits_after_call control.ps.callinc m) (cond (is_return i) (bits_after_return m.kept m) m) e ∙ cond-false (is_return i) (bits_after_return m.kept m) m n))
        laid_cut

    entered : is_entry i ≡ true → frames_moved i control.ps.callinc m ≡ bits_after_call control.ps.callinc m
    entered e = cond-true (is_entry i) (bits_after_call control.ps.callinc m) (cond (is_return i) (bits_after_return m.kept m) m) e

    left : is_entry i ≡ false → is_return i ≡ true → frames_moved i control.ps.callinc m ≡ bits_after_return m.kept m
    left e n = cond-false (is_entry i) (bits_after_call control.ps.callinc m) (cond (is_return i) (bits_after_return m.kept m) m) e ∙ cond-true (is_return i) (bits_after_return m.kept m) m n

    pushes : (number value : ℕ) → is_entry i ≡ true → IsCalm i → Leaves (Fetches i len) r (turned (Fetches i len) (entry_in_frame number value len g))
    unfolding entry_in_frame
    pushes number value e calm = writes (write_to number value) None _ (seen_after_call seen control.ps.callinc) (record { by = control.ps.callinc; kept = take (4 * control.ps.callinc) seen } ∷ frames) no_sets
        (calm_gives calm _ (keeps_tick g.control _ (keeps_flow Falls len g.control)))
        (subst (λ k. Cut (seen_after_call seen control.ps.callinc) (record { by = control.ps.callinc; kept = take (4 * control.ps.callinc) seen } ∷ frames) g.control.special unset control.threadptr None control.waits k) (sym (entered e)) (cut_called laid_cut control.ps.callinc))

    pops : (fs : List Frame) → frames ≡ fs → (a0 : ℕ) → is_entry i ≡ false → is_return i ≡ true → IsCalm i → Leaves (Fetches i len) r (turned (Fetches i len) (return_to_frame fs a0 g))
    pops [] e a0 n h calm = raises (Fetches i len) illegal_instruction None r
    pops (k ∷ rest) e a0 n h calm = writes None None _ (seen_after_return k.kept seen k.by) rest no_sets
        (calm_gives calm _ (keeps_tick g.control _ (record { special = spared_same g.control.special; threadptr = refl })))
        (subst (λ q. Cut (seen_after_return k.kept seen k.by) rest g.control.special unset control.threadptr None control.waits q) (sym (left n h)) (cut_returned (subst (λ fs. Cut seen fs g.control.special unset control.threadptr None control.waits m) e laid_cut)))

    effect_gives : (e : Effect) → ((n : ℕ) → holds_marks n ≡ true → SetsOne (moved_to i) n e.sets) → ((p : ℕ × ℕ) → moved_to i ≡ Some p → holds_marks p.1 ≡ true → e.sets ≡ (set_to p.1 x, no_set, no_set)) → e.threadptr ≡ pointer_left i x control.threadptr
        → Gives e.sets (after_tick (after_effect e len g.control))
    effect_gives e one value pointer =
        let k = keeps_effect e len g.control in
        record { one = one; value = value; special = k.special; pointer = k.threadptr ∙ pointer }

    done : (code : ℕ → ℕ) (reply : ℕ) (o : Outcome) → outcome_at code i (value_or_zero seen) g.control ≡ o → Fits i o → is_windowing i ≡ false → names_window_register i ≡ false → is_movsp i ≡ false → Leaves (Fetches i len) r (turned (Fetches i len) (done_in_frame o len reply g))
    unfolding return_in_frame
    done code reply (Does e) q fits a b c =
        let p : LeavesPointer (pointer_left i x control.threadptr) (Does e) = subst (λ o. LeavesPointer (pointer_left i x control.threadptr) o) q (pointer_kept code i control.pc x _ _ _ g.control.ps control.threadptr) in
        writes e.write None _ seen frames e.sets
        (effect_gives e (λ n h. fits.1 n (marks_saved n h)) (λ k is h. moved_value code i k control.pc x _ _ _ g.control.ps control.threadptr e is h q) p)
        (unmoved fits.2 (no_return code i (value_or_zero seen) g.control (Does e) q (λ h. h)))
    done code reply (Raises cause address) q fits a b c = raises (Fetches i len) cause address r
    done code reply (Asks access awaited e) q fits a b c =
        let p : LeavesPointer (pointer_left i x control.threadptr) (Asks access awaited e) = subst (λ o. LeavesPointer (pointer_left i x control.threadptr) o) q (pointer_kept code i control.pc x _ _ _ g.control.ps control.threadptr) in
        let k : e ≡ no_change g.control.ps control.threadptr = subst (λ o. AsksWith (no_change g.control.ps control.threadptr) o) q (outcome_alone code i control.pc _ _ _ _ g.control.ps control.threadptr) in
        writes _ _ _ seen frames e.sets
        (effect_gives e (λ n h. subst (λ (d : Effect). SetsOne (moved_to i) n d.sets) (sym k) (none_moved (moved_to i) fits.1 n)) (λ j is h. absurd (none-some j (sym fits.1 ∙ is))) p)
        (unmoved fits.2 (no_return code i (value_or_zero seen) g.control (Asks access awaited e) q (λ h. h)))
    done code reply Stops q fits a b c = stops (Fetches i len) len reply r
    done code reply (Windowed (Enters number value)) q fits a b c =
        let P : FrameTurn → Type 0 = λ v. Leaves (Fetches i len) r (turned (Fetches i len) v) in
        turn_if P g.control.ps.excm (exception_in_frame illegal_instruction None g) (entry_in_frame number value len g) (raises (Fetches i len) illegal_instruction None r)
        (pushes number value (entry_is i number fits.0 fits.1) (subst IsCalm (sym fits.1) (entry_calm number fits.0)))
    done code reply (Windowed (Returns a0)) q fits a b c =
        let P : FrameTurn → Type 0 = λ v. Leaves (Fetches i len) r (turned (Fetches i len) v) in
        let is = returns_is i fits in
        turn_if P g.control.ps.excm (exception_in_frame illegal_instruction None g) (return_to_frame frames a0 g) (raises (Fetches i len) illegal_instruction None r) (pops frames refl a0 is.1 is.0 (return_calm i fits))
    done code reply (Windowed (EndsOverflow epc1)) q fits a b c = absurd (both_ways _ a fits)
    done code reply (Windowed (EndsUnderflow epc1)) q fits a b c = absurd (both_ways _ a fits)
    done code reply (Windowed (Rotates n)) q fits a b c = absurd (both_ways _ a fits)
    done code reply (Windowed (MovesStack number value)) q fits a b c = absurd (both_ways _ c fits)
    done code reply (Windowed (Reads register number)) q fits a b c = absurd (both_ways _ b fits)
    done code reply (Windowed (Sets register value)) q fits a b c = absurd (both_ways _ b fits)
    done code reply (Windowed (Exchanges register number value)) q fits a b c = absurd (both_ways _ b fits)

  -- MOVSP
  moves_stack : (t k len r reply : ℕ) (code : ℕ → ℕ) → Leaves (Fetches (insn.Shift (shift.Movsp t k)) len) r (turn_or (fetched_movsp (Fetches (insn.Shift (shift.Movsp t k)) len) g) (turned (Fetches (insn.Shift (shift.Movsp t k)) len) (fetched_step (Fetches (insn.Shift (shift.Movsp t k)) len) code reply g)))
  unfolding fetched_movsp moved_to
  moves_stack t k len r reply code =
      let i : Insn = insn.Shift (shift.Movsp t k) in
      let calm = movsp_calm t k in
      let is = movsp_is t k in
      let e : Effect = record (no_change g.control.ps control.threadptr) { write = write_to t (value_or_zero seen k) } in
      writes i len r (write_to t (value_or_zero seen k)) None _ seen frames e.sets
      (effect_gives i len r e (λ n h. none_moved (moved_to i) calm.moved n) (λ p same h. absurd (none-some p (sym calm.moved ∙ same))) (sym (calm.pointer (x i len r) control.threadptr)))
      (unmoved i len r is.0 is.1)

  -- ---- what is fetched
  module _ (code : ℕ → ℕ) (b : Bounds) (fresh : Bool) (live : ℕ → Bool) (bytes : ℕ → ℕ) (rec : StepRecord) (r : ℕ) where
    fetches : (at : Fetched) (reply : ℕ) → NoneShown (fetched_uses b fresh live bytes at rec s g (fetched_step at code reply g)) → Leaves at r (turn_or (fetched_movsp at g) (turned at (fetched_step at code reply g)))
    unfolding fetched_movsp
    fetches (Fails address) reply none = raises (Fails address) _ _ r
    fetches SpellsNothing reply none = raises SpellsNothing _ _ r
    fetches (Fetches i len) reply none =
        let o = unused b fresh live rec g (fetched_step (Fetches i len) code reply g) i (uses_unknown i s g) (swaps_unknown bytes rec.access) (breaks_stack b.range i rec.kind g) none in
        ⊎_elim
        (λ moves.
        let q = as_movsp i moves in
        subst (λ j. Leaves (Fetches j len) r (turn_or (fetched_movsp (Fetches j len) g) (turned (Fetches j len) (fetched_step (Fetches j len) code reply g)))) (sym q.is) (moves_stack q.t q.s len r reply code))
        (λ stays.
        subst (λ k. Leaves (Fetches i len) r (turn_or k (turned (Fetches i len) (fetched_step (Fetches i len) code reply g)))) (sym (no_movsp i len g stays))
        (done i len r code reply (outcome_at code i (value_or_zero seen) g.control) refl (outcome_fits code i g.control.pc _ _ _ _ g.control.ps g.control.threadptr) o.windowing o.window_register stays))
        (cases_Bool (is_movsp i))

    abbrev at : Fetched
    at = fetch_at code control.pc

    pub plain_cut : laid_use b fresh code live bytes rec s g ≡ None → Leaves at r (turn_or (movsp_of code g) (turned at (step_with_inputs code rec.reply g)))
    plain_cut none = ⊎_elim
        (λ level.
        let busy = or_left (ltb 0 (pending_of g.control)) control.waits level in
        subst (λ o. Leaves at r (turn_or o (turned at (step_with_inputs code rec.reply g)))) (sym (cond-true (ltb 0 (pending_of g.control) || control.waits) None (fetched_movsp at g) busy))
        (subst (λ v. Leaves at r (turned at v)) (sym (step_taken code rec.reply g level)) (takes at (pending_of g.control) rec.reply r (level_small _ _ _))))
        (λ quiet. ⊎_elim
        (λ idle.
        let busy = or_right (ltb 0 (pending_of g.control)) control.waits idle in
        subst (λ o. Leaves at r (turn_or o (turned at (step_with_inputs code rec.reply g)))) (sym (cond-true (ltb 0 (pending_of g.control) || control.waits) None (fetched_movsp at g) busy))
        (subst (λ v. Leaves at r (turned at v)) (sym (step_waits code rec.reply g quiet idle)) (waits at rec.reply r)))
        (λ runs.
        let free = or_from (ltb 0 (pending_of g.control)) control.waits quiet runs in
        subst (λ o. Leaves at r (turn_or o (turned at (step_with_inputs code rec.reply g)))) (sym (cond-false (ltb 0 (pending_of g.control) || control.waits) None (fetched_movsp at g) free))
        (subst (λ v. Leaves at r (turn_or (fetched_movsp at g) (turned at v))) (sym (step_fetches code rec.reply g quiet runs))
        (fetches at rec.reply (uses_shown code b fresh live bytes rec s g quiet runs none))))
        (cases_Bool control.waits))
        (cases_Bool (ltb 0 (pending_of g.control)))
