-- A step outside nested interrupts that shows no breach of the stack discipline.
use Rattle.std.proofs.Common.{◌≡◌, ℕ, ◌+◌, ◌*◌, ◌≤◌, ℤ, Bool, true, false, cond, ltb, ◌||◌, List, [], ◌∷◌, Option, None, take, get_or, refl, sym, ap, ◌∙◌, ⊎_elim, subst, arith}
use Rattle.std.proofs.Math.ListN.{set}
use Rattle.std.proofs.lemmas.Bool.{both_ways, cases_Bool, cond-false, cond-true, or_parts, false_from_ne_true}
use Rattle.std.proofs.lemmas.List.{length-set}
use Rattle.xt_isa.specs.declared.Insn.{Insn}
use Rattle.xt_isa.specs.declared.Insn.TheVariants as insn
use Rattle.xt_isa.specs.declared.shift.Shift.TheVariants as shift
use Rattle.xt_isa.specs.declared.control.Control.TheVariants as control
use Rattle.xt_isa.specs.declared.control.ReturnName.TheVariants as ReturnName
use Rattle.xt_isa.specs.declared.density.Density.TheVariants as density
use Rattle.xt_isa.specs.declared.density.BareName.TheVariants as BareName
use Rattle.xt_map.specs.declared.access.Access.{Access}
use Rattle.xt_special.specs.declared.ps.Ps.{Ps}
use Rattle.xt_special.specs.Control.{Control}
use Rattle.xt_special.specs.Interrupts.{pending_level, pending_of}
use Rattle.xt_trace.specs.declared.record.RegWrite.{RegWrite}
use Rattle.xt_trace.specs.declared.record.StepKind.TheVariants as kind
use Rattle.xt_trace.specs.declared.record.StepRecord.{StepRecord}
use Rattle.xt_map.specs.Fetching.{Fetched, Fetches, Fails, SpellsNothing, fetch_at}
use Rattle.xt_rows.specs.declared.outcome.Outcome.{Outcome}
use Rattle.xt_rows.specs.declared.outcome.Outcome.TheVariants.{Does, Raises, Asks, Stops, Windowed}
use Rattle.xt_rows.specs.declared.outcome.WindowStep.TheVariants.{Enters, Returns, EndsOverflow, EndsUnderflow, Rotates, MovesStack, Reads, Sets, Exchanges}
use Rattle.xt_rows.specs.Effects.{illegal_instruction}
use Rattle.xt_rows.specs.Kinds.{Fits, IsReturn, is_entry, is_movsp, is_return, moved_to}
use Rattle.xt_rows.specs.Outcomes.{outcome, control_outcome, density_outcome, outcome_at}
use Rattle.xt_rows.specs.Settling.{settled_interrupt, settled_wait}
use Rattle.xt_rows.proofs.Fitting.{outcome_fits}
use Rattle.xt_frames.specs.Frames.{Frame, FrameState, value_or_zero, seen_after_call, seen_after_return, seen_after_write}
use Rattle.xt_frames.specs.FrameStep.{FrameTurn, Inputs, done_in_frame, fetched_step, in_frame, with_inputs, step_with_inputs, return_in_frame, return_to_frame, entry_in_frame, exception_in_frame}
use Rattle.xt_frames.specs.Marks.{holds_marks, unset_by}
use Rattle.xt_frames.specs.Nesting.{unset_after}
use Rattle.xt_frames.specs.Breaches.{Bounds, fetched_tests, first_shown, laid_breach, loads_stale, touches_save_area}
use Rattle.xt_frames.proofs.Shown.{NoneShown, Sound, none_shown, sound}
use Rattle.xt_frames.proofs.StackSteps.{breach_fetches, step_fetches, step_taken, step_waits, turn_if}
use Rattle.xt_uses.specs.Disciplines.{Lenient}
use Rattle.xt_uses.specs.Words.{Word, all_bits}
use Rattle.xt_uses.specs.UseState.{ValidityBits, UseState, first_word}
use Rattle.xt_uses.specs.UseStep.{bits_after_call, step_insn, fetched_movsp, frames_moved, masks_past, movsp_of, pointer_written, bits_after_return, special_written, use_turn, visible_written}
use Rattle.xt_uses.proofs.WholeLists.{AreWords, held}
use Rattle.xt_uses.proofs.WholeStates.{Whole, special_high, whole_called, whole_ended, whole_pointer, whole_returned, whole_special, whole_unset, whole_visible}
use Rattle.xt_uses.proofs.WholeSteps.{IsRead, Steps, insn_steps, operands_whole, other_steps}

-- ---- kinds of rows
pub level_small : (interrupt enabled : ℕ) (ps : Ps) → pending_level interrupt enabled ps ≤ 5
unfolding pending_level
level_small interrupt enabled ps = five _ _ _
  where
    five : (a b d : Bool) → cond a 5 (cond b 3 (cond d 1 0)) ≤ 5
    five true b d = omega arith
    five false true d = omega arith
    five false false true = omega arith
    five false false false = omega arith

abbrev pub IsReturning : Outcome → Type 0
IsReturning (Windowed (Returns a0)) = Unit {0}
IsReturning o = ⊥

return_outcome : (code : ℕ → ℕ) (i : Insn) (pc x y u v : ℕ) (ps : Ps) (t : ℕ) → is_return i ≡ true → IsReturning (outcome code i pc x y u v ps t)
unfolding is_return outcome control_outcome density_outcome
return_outcome code (insn.Control (control.Return ReturnName.Retw)) pc x y u v ps t e = tt
return_outcome code (insn.Density (density.Bare BareName.Retw)) pc x y u v ps t e = tt
return_outcome code _ pc x y u v ps t e = absurd cc

-- no row but RETW returns
pub no_return : (code : ℕ → ℕ) (i : Insn) (ar : ℕ → ℕ) (c : Control) (o : Outcome) → outcome_at code i ar c ≡ o → (IsReturning o → ⊥) → is_return i ≡ false
no_return code i ar c o e h = false_from_ne_true (is_return i) (λ r. h (subst IsReturning e (return_outcome code i c.pc _ _ _ _ c.ps c.threadptr r)))

pub returns_is : (i : Insn) → IsReturn i → (is_return i ≡ true) × (is_entry i ≡ false)
unfolding is_return is_entry
returns_is i h = ⊎_elim
    (λ e. subst (λ j. (is_return j ≡ true) × (is_entry j ≡ false)) (sym e) (refl, refl))
    (λ e. subst (λ j. (is_return j ≡ true) × (is_entry j ≡ false)) (sym e) (refl, refl))
    h

pub entry_is : (i : Insn) (number : ℕ) (size : ℤ) → i ≡ insn.Control (control.Entry number size) → is_entry i ≡ true
unfolding is_entry
entry_is i number size e = subst (λ j. is_entry j ≡ true) (sym e) refl

pub no_movsp : (i : Insn) (len : ℕ) (f : FrameState) → is_movsp i ≡ false → fetched_movsp (Fetches i len) f ≡ None
unfolding is_movsp fetched_movsp
no_movsp (insn.Shift (shift.Movsp t s)) len f e = absurd cc
no_movsp _ len f e = refl

-- none of the tests of the instruction that is fetched is shown
pub tests_shown : (code : ℕ → ℕ) (b : Bounds) (fresh : Bool) (live stale : ℕ → Bool) (rec : StepRecord) (g : FrameState)
    → ltb 0 (pending_of g.control) ≡ false → g.control.waits ≡ false → laid_breach b fresh code live stale rec g ≡ None
    → NoneShown (fetched_tests b fresh live stale (fetch_at code g.control.pc) rec g (fetched_step (fetch_at code g.control.pc) code rec.reply g))
tests_shown code b fresh live stale rec g quiet runs none =
    let u = step_fetches code rec.reply g quiet runs in
    let h0 : first_shown (fetched_tests b fresh live stale (fetch_at code g.control.pc) rec g (step_with_inputs code rec.reply g)) ≡ None = sym (breach_fetches b fresh code live stale rec g quiet runs) ∙ none in
    none_shown (fetched_tests b fresh live stale (fetch_at code g.control.pc) rec g (fetched_step (fetch_at code g.control.pc) code rec.reply g))
    (subst (λ v. first_shown (fetched_tests b fresh live stale (fetch_at code g.control.pc) rec g v) ≡ None) u h0)

module _ (seen : List (Option ℕ)) (frames : List Frame) (control : Control) (unset : List Bool) (m : ValidityBits) (w : Whole seen frames unset None control.waits m) (inp : Inputs) where
  abbrev f : FrameState
  f = record { seen = seen; frames = frames; control = control; unset = unset; nested = None }

  abbrev g : FrameState
  g = with_inputs inp f

  abbrev s : UseState
  s = record { frame = f; masks = m }

  -- the step that leaves this, but for the special registers that have no number
  abbrev turned : Fetched → FrameTurn → FrameTurn
  turned at v = record v { after = record v.after { unset = unset_after v.kind at unset } }

  abbrev Holds : Fetched → ℕ → FrameTurn → Type 0
  Holds at reply v = AreWords v.after.seen → Steps f at (turned at v) (use_turn (step_insn v.kind at) reply s g (turned at v))

  -- ---- no instruction is executed
  level_apart : (level n : ℕ) → level ≤ 5 → holds_marks n ≡ true → get_or (set (set unset (176 + level) false) (192 + level) false) n false ≡ get_or unset n false
  level_apart level n small h =
      let high = special_high n h in
      held (set unset (176 + level) false) (192 + level) n false false (λ b. b ≡ get_or unset n false) (λ e. absurd (omega (arith, e, small, high)))
      (held unset (176 + level) n false false (λ b. b ≡ get_or unset n false) (λ e. absurd (omega (arith, e, small, high))) refl)

  takes : (at : Fetched) (level reply r : ℕ) → level ≤ 5 → Holds at r (in_frame (settled_interrupt level g.control) reply g)
  unfolding step_insn
  takes at level reply r small words = other_steps f at (turned at (in_frame (settled_interrupt level g.control) reply g)) m
      (whole_ended (whole_unset w (set (set unset (176 + level) false) (192 + level) false) (length-set (set unset (176 + level) false) (192 + level) false ∙ (length-set unset (176 + level) false ∙ w.holes)) (λ n h. level_apart level n small h)) _)

  waits : (at : Fetched) (reply r : ℕ) → Holds at r (in_frame (settled_wait g.control) reply g)
  unfolding step_insn
  waits at reply r words = other_steps f at (turned at (in_frame (settled_wait g.control) reply g)) m (whole_ended w _)

  raises : (at : Fetched) (cause : ℕ) (address : Option ℕ) (r : ℕ) → Holds at r (exception_in_frame cause address g)
  unfolding step_insn
  raises at cause address r words = other_steps f at (turned at (exception_in_frame cause address g)) m (whole_ended w _)

  stops : (at : Fetched) (len reply r : ℕ) → Holds at r (done_in_frame Stops len reply g)
  unfolding step_insn
  stops at len reply r words = other_steps f at (turned at (done_in_frame Stops len reply g)) m (whole_ended w _)

  -- ---- an instruction is executed
  module _ (lenient : m.discipline ≡ Lenient) (i : Insn) (len r : ℕ) (read : IsRead i s g) (known_reply : r ≡ all_bits) where
    -- it writes this register of these
    abbrev wrote : Option RegWrite → Option Access → Control → List (Option ℕ) → List Frame → FrameTurn
    wrote write access c old olds = record {
      kind = kind.Insn;
      write = write;
      access = access;
      after = record { seen = seen_after_write write old; frames = olds; control = c; unset = unset; nested = None };
    }

    writes : (write : Option RegWrite) (access : Option Access) (c : Control) (old : List (Option ℕ)) (olds : List Frame)
        → Whole old olds unset None control.waits (frames_moved i control.ps.callinc m) → Holds (Fetches i len) r (wrote write access c old olds)
    unfolding step_insn
    writes write access c old olds x words = insn_steps f (Fetches i len) m lenient g i r (turned (Fetches i len) (wrote write access c old olds)) read w.threadptr known_reply words tt past
      where
        given : (first_word i s g).mask ≡ all_bits
        given = ap (λ (a : Word). a.mask) read.first

        past : Whole (seen_after_write write old) olds (unset_by (moved_to i) [] unset) None c.waits (masks_past i all_bits s g (turned (Fetches i len) (wrote write access c old olds)))
        past = subst
            (λ k. Whole (seen_after_write write old) olds (unset_by (moved_to i) [] unset) None c.waits (visible_written false write all_bits (pointer_written i k (special_written (moved_to i) k (frames_moved i control.ps.callinc m)))))
            (sym given)
            (whole_ended (whole_visible (whole_pointer (whole_special x (moved_to i)) i) write) c.waits)

    unmoved : is_entry i ≡ false → is_return i ≡ false → Whole seen frames unset None control.waits (frames_moved i control.ps.callinc m)
    unmoved e n = subst
        (λ k. Whole seen frames unset None control.waits k)
        (sym (cond-false (is_entry i) (bits_after_call control.ps.callinc m) (cond (is_return i) (bits_after_return m.kept m) m) e ∙ cond-false (is_return i) (bits_after_return m.kept m) m n))
        w

    entered : is_entry i ≡ true → frames_moved i control.ps.callinc m ≡ bits_after_call control.ps.callinc m
    entered e = cond-true (is_entry i) (bits_after_call control.ps.callinc m) (cond (is_return i) (bits_after_return m.kept m) m) e

    left : is_entry i ≡ false → is_return i ≡ true → frames_moved i control.ps.callinc m ≡ bits_after_return m.kept m
    left e n = cond-false (is_entry i) (bits_after_call control.ps.callinc m) (cond (is_return i) (bits_after_return m.kept m) m) e ∙ cond-true (is_return i) (bits_after_return m.kept m) m n

    pushes : (number value : ℕ) → is_entry i ≡ true → Holds (Fetches i len) r (entry_in_frame number value len g)
    unfolding entry_in_frame
    pushes number value e = writes _ _ _ (seen_after_call seen control.ps.callinc) (record { by = control.ps.callinc; kept = take (4 * control.ps.callinc) seen } ∷ frames)
        (subst (λ k. Whole (seen_after_call seen control.ps.callinc) (record { by = control.ps.callinc; kept = take (4 * control.ps.callinc) seen } ∷ frames) unset None control.waits k) (sym (entered e)) (whole_called w control.ps.callinc))

    pops : (fs : List Frame) → frames ≡ fs → (a0 : ℕ) → is_entry i ≡ false → is_return i ≡ true → Holds (Fetches i len) r (return_to_frame fs a0 g)
    pops [] e a0 n h = raises (Fetches i len) illegal_instruction None r
    pops (k ∷ rest) e a0 n h = writes None None _ (seen_after_return k.kept seen k.by) rest
        (subst (λ q. Whole (seen_after_return k.kept seen k.by) rest unset None control.waits q) (sym (left n h)) (whole_returned (subst (λ fs. Whole seen fs unset None control.waits m) e w)))

    done : (b : Bounds) (fresh : Bool) (live stale : ℕ → Bool) (rec : StepRecord) (v : FrameTurn) (code : ℕ → ℕ) (reply : ℕ) (o : Outcome)
        → outcome_at code i (value_or_zero seen) g.control ≡ o → Fits i o → Sound b fresh live stale i rec g v → Holds (Fetches i len) r (done_in_frame o len reply g)
    unfolding return_in_frame
    done b fresh live stale rec v code reply (Does e) q fits o = writes e.write None _ seen frames (unmoved fits.2 (no_return code i (value_or_zero seen) g.control (Does e) q (λ h. h)))
    done b fresh live stale rec v code reply (Raises cause address) q fits o = raises (Fetches i len) cause address r
    done b fresh live stale rec v code reply (Asks access awaited e) q fits o = writes _ _ _ seen frames (unmoved fits.2 (no_return code i (value_or_zero seen) g.control (Asks access awaited e) q (λ h. h)))
    done b fresh live stale rec v code reply Stops q fits o = stops (Fetches i len) len reply r
    done b fresh live stale rec v code reply (Windowed (Enters number value)) q fits o =
        let P : FrameTurn → Type 0 = λ v. Holds (Fetches i len) r v in
        turn_if P g.control.ps.excm (exception_in_frame illegal_instruction None g) (entry_in_frame number value len g) (raises (Fetches i len) illegal_instruction None r) (pushes number value (entry_is i number fits.0 fits.1))
    done b fresh live stale rec v code reply (Windowed (Returns a0)) q fits o =
        let P : FrameTurn → Type 0 = λ v. Holds (Fetches i len) r v in
        let is = returns_is i fits in
        turn_if P g.control.ps.excm (exception_in_frame illegal_instruction None g) (return_to_frame frames a0 g) (raises (Fetches i len) illegal_instruction None r) (pops frames refl a0 is.1 is.0)
    done b fresh live stale rec v code reply (Windowed (EndsOverflow epc1)) q fits o = absurd (both_ways _ o.windowing fits)
    done b fresh live stale rec v code reply (Windowed (EndsUnderflow epc1)) q fits o = absurd (both_ways _ o.windowing fits)
    done b fresh live stale rec v code reply (Windowed (Rotates n)) q fits o = absurd (both_ways _ o.windowing fits)
    done b fresh live stale rec v code reply (Windowed (MovesStack number value)) q fits o = absurd (both_ways _ o.movsp fits)
    done b fresh live stale rec v code reply (Windowed (Reads register number)) q fits o = absurd (both_ways _ o.window_register fits)
    done b fresh live stale rec v code reply (Windowed (Sets register value)) q fits o = absurd (both_ways _ o.window_register fits)
    done b fresh live stale rec v code reply (Windowed (Exchanges register number value)) q fits o = absurd (both_ways _ o.window_register fits)

  -- ---- what is fetched
  module _ (code : ℕ → ℕ) (b : Bounds) (fresh : Bool) (live stale : ℕ → Bool) (rec : StepRecord) (r : ℕ) (told : loads_stale live stale rec.access ≡ false → touches_save_area live rec.access ≡ false → r ≡ all_bits) where
    fetches : m.discipline ≡ Lenient → (at : Fetched) (reply : ℕ) → NoneShown (fetched_tests b fresh live stale at rec g (fetched_step at code reply g)) → Holds at r (fetched_step at code reply g)
    fetches lenient (Fails address) reply none = raises (Fails address) _ _ r
    fetches lenient SpellsNothing reply none = raises SpellsNothing _ _ r
    fetches lenient (Fetches i len) reply none =
        let o = sound b fresh live stale i rec g (fetched_step (Fetches i len) code reply g) none in
        let read = operands_whole s g lenient i w.seen_masks w.special o.unset in
        done lenient i len r read (told o.loads o.saves) b fresh live stale rec (fetched_step (Fetches i len) code reply g) code reply (outcome_at code i (value_or_zero seen) g.control) refl (outcome_fits code i g.control.pc _ _ _ _ g.control.ps g.control.threadptr) o

    pub plain_holds : m.discipline ≡ Lenient → laid_breach b fresh code live stale rec g ≡ None → Holds (fetch_at code control.pc) r (step_with_inputs code rec.reply g)
    plain_holds lenient none = ⊎_elim
        (λ level. subst (Holds (fetch_at code control.pc) r) (sym (step_taken code rec.reply g level)) (takes (fetch_at code control.pc) (pending_of g.control) rec.reply r (level_small _ _ _)))
        (λ quiet. ⊎_elim
        (λ idle. subst (Holds (fetch_at code control.pc) r) (sym (step_waits code rec.reply g quiet idle)) (waits (fetch_at code control.pc) rec.reply r))
        (λ runs. subst (Holds (fetch_at code control.pc) r) (sym (step_fetches code rec.reply g quiet runs)) (fetches lenient (fetch_at code control.pc) rec.reply (tests_shown code b fresh live stale rec g quiet runs none)))
        (cases_Bool control.waits))
        (cases_Bool (ltb 0 (pending_of g.control)))

    -- and MOVSP, which is a breach, is not executed
    moves_nothing : (at : Fetched) (reply : ℕ) → NoneShown (fetched_tests b fresh live stale at rec g (fetched_step at code reply g)) → fetched_movsp at g ≡ None
    unfolding fetched_movsp
    moves_nothing (Fails address) reply none = refl
    moves_nothing SpellsNothing reply none = refl
    moves_nothing (Fetches i len) reply none = no_movsp i len g (sound b fresh live stale i rec g (fetched_step (Fetches i len) code reply g) none).movsp

    pub plain_movsp : laid_breach b fresh code live stale rec g ≡ None → movsp_of code g ≡ None
    plain_movsp none = ⊎_elim
        (λ busy. cond-true (ltb 0 (pending_of g.control) || control.waits) None (fetched_movsp (fetch_at code control.pc) g) busy)
        (λ free.
        let parts = or_parts (ltb 0 (pending_of g.control)) control.waits free in
        cond-false (ltb 0 (pending_of g.control) || control.waits) None (fetched_movsp (fetch_at code control.pc) g) free ∙ moves_nothing (fetch_at code control.pc) rec.reply (tests_shown code b fresh live stale rec g parts.0 parts.1 none))
        (cases_Bool (ltb 0 (pending_of g.control) || control.waits))
