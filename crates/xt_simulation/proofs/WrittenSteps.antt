-- A step outside nested interrupts that reads only what was written: all bits are known of what it writes and stores.
use Rattle.std.proofs.Common.{◌≡◌, ℕ, suc, ◌+◌, ◌*◌, Bool, true, false, cond, ltb, not, ◌&&◌, ◌||◌, List, [], ◌∷◌, Option, Some, None, length, take, get_or, refl, sym, ap, ◌∙◌, ⊎_elim, subst, arith}
use Rattle.std.proofs.Math.ListN.{set}
use Rattle.std.proofs.lemmas.Bool.{and_from, and_parts, and_right, both_ways, cases_Bool, cond-false, cond-true, cond_both, false_from_ne_true, ltb-true, lt-ltb, not_from_true, or_cases, or_from, or_left, or_right}
use Rattle.std.proofs.lemmas.Option.{none-some, same_Some}
use Rattle.xt_isa.specs.declared.Insn.{Insn}
use Rattle.xt_isa.specs.declared.Insn.TheVariants as insn
use Rattle.xt_isa.specs.declared.shift.Shift.TheVariants as shift
use Rattle.xt_map.specs.declared.access.Access.{Access}
use Rattle.xt_special.specs.Control.{Control}
use Rattle.xt_special.specs.Interrupts.{pending_of}
use Rattle.xt_trace.specs.declared.record.RegWrite.{RegWrite}
use Rattle.xt_trace.specs.declared.record.StepKind.TheVariants as kind
use Rattle.xt_trace.specs.declared.record.StepRecord.{StepRecord}
use Rattle.xt_map.specs.Fetching.{Fetched, Fetches, Fails, SpellsNothing, fetch_at}
use Rattle.xt_rows.specs.declared.outcome.Outcome.{Outcome}
use Rattle.xt_rows.specs.declared.outcome.Outcome.TheVariants.{Does, Raises, Asks, Stops, Windowed}
use Rattle.xt_rows.specs.declared.outcome.WindowStep.TheVariants.{Enters, Returns, EndsOverflow, EndsUnderflow, Rotates, MovesStack, Reads, Sets, Exchanges}
use Rattle.xt_rows.specs.Effects.{illegal_instruction, write_to}
use Rattle.xt_rows.specs.Kinds.{Fits, is_entry, is_movsp, is_return, is_windowing, moved_to, names_window_register}
use Rattle.xt_rows.specs.Operands.{reads, special_reads}
use Rattle.xt_rows.specs.Outcomes.{outcome_at}
use Rattle.xt_rows.specs.RowLaws.{IsRegister}
use Rattle.xt_rows.specs.Settling.{settled_interrupt, settled_wait}
use Rattle.xt_rows.proofs.Fitting.{outcome_fits}
use Rattle.xt_frames.specs.declared.kinds.BreachKind.{BreachKind}
use Rattle.xt_frames.specs.declared.kinds.BreachKind.TheVariants as breach
use Rattle.xt_frames.specs.Frames.{Frame, FrameState, value_or_zero, seen_after_call, seen_after_return, seen_after_write, windows_moved}
use Rattle.xt_frames.specs.FrameStep.{FrameTurn, Inputs, done_in_frame, fetched_step, in_frame, with_inputs, step_with_inputs, return_in_frame, return_to_frame, entry_in_frame, exception_in_frame}
use Rattle.xt_frames.specs.Marks.{holds_marks, unset_by}
use Rattle.xt_frames.specs.Nesting.{unset_after}
use Rattle.xt_frames.specs.Breaches.{Bounds, first_shown, insn_tests, other_tests, return_tests, vector_test}
use Rattle.xt_frames.proofs.Shown.{NoneShown}
use Rattle.xt_frames.proofs.StackSteps.{step_fetches, step_taken, step_waits, turn_if}
use Rattle.xt_uses.specs.declared.words.Word.{Word}
use Rattle.xt_uses.specs.Words.{all_bits, whole_word}
use Rattle.xt_uses.specs.Used.{counted_bits, holds_owb}
use Rattle.xt_uses.specs.Known.{result_mask}
use Rattle.xt_uses.specs.UseState.{ValidityBits, UseState, first_word, second_word, special_operand, special_word, visible_word}
use Rattle.xt_uses.specs.UseStep.{UseTurn, bits_after_call, bits_after_return, cut_turn, cut_write, fetched_movsp, frames_moved, leave_results, left_after, masks_past, movsp_of, pointer_written, special_written, step_insn, turn_or, use_turn, visible_written}
use Rattle.xt_uses.specs.UseBreaches.{breaks_stack, fetched_return_use, fetched_uses, has_no_number, laid_use, nowhere, reads_no_number, swaps_unknown, underflows, use_tests, uses_unknown}
use Rattle.xt_uses.proofs.CutTests.{unused, uses_shown}
use Rattle.xt_uses.proofs.Owb.{counts_all}
use Rattle.xt_uses.proofs.Returning.{left_holds, no_return_left}
use Rattle.xt_uses.proofs.WholeLists.{held}
use Rattle.xt_uses.proofs.WholePlain.{entry_is, no_movsp, no_return, returns_is}
use Rattle.xt_uses.proofs.WholeSteps.{IsSeen, used_true}
use Rattle.xt_simulation.specs.WrittenFirst.{IsOther, IsWritten, is_kept, is_register, reads_owb, written_past}
use Rattle.xt_simulation.proofs.WrittenRows.{other_shown, result_known}
use Rattle.xt_simulation.proofs.WrittenMasks.{Known, known_called, known_fewer, known_left, known_pointer, known_returned, known_special, known_unset, known_visible, returned, still}

-- ---- what an instruction reads was written
pub record Reading (written : ℕ → Bool) (f : FrameState) (i : Insn) : Type 0 where
  pub first : IsWritten written f (reads i).0
  pub second : IsWritten written f (reads i).1
  pub first_there : IsRegister (reads i).0
  pub second_there : IsRegister (reads i).1
  pub owb : reads_owb i ≡ false

-- ---- what a step leaves
abbrev pub IsKnown : (ℕ → Bool) → UseState → Type 0
IsKnown written a = Known written a.frame.frames a.frame.unset a.masks × (a.frame.nested ≡ None)

-- `after` is the state after the step t of f
pub record Passes (written : ℕ → Bool) (f : FrameState) (t : UseTurn) (after : UseState) : Type 0 where
  pub known : IsKnown (written_past f t.turn written) after
  pub stored : t.stored ≡ all_bits
  pub mask : t.mask ≡ all_bits

cut_register : (u : FrameState) (mask : ℕ) (o : Option RegWrite) (c : ℕ) → is_register u (cut_write mask o) c ≡ is_register u o c
cut_register u mask None c = refl
cut_register u mask (Some w) c = refl

-- it writes a register of these, and what counts is among these
past_kept : (f u v : FrameState) (o p : Option RegWrite) (written kept : ℕ → Bool) (c : ℕ) → is_register v p c ≡ is_register u o c → (is_kept f v c ≡ true → written c ≡ true → kept c ≡ true)
    → (is_register v p c || (is_kept f v c && written c)) ≡ true → (is_register u o c || kept c) ≡ true
past_kept f u v o p written kept c same h e = ⊎_elim
    (λ own. or_left (is_register u o c) (kept c) (sym same ∙ own))
    (λ old. let parts = and_parts (is_kept f v c) (written c) old in or_right (is_register u o c) (kept c) (h parts.0 parts.1))
    (or_cases (is_register v p c) (is_kept f v c && written c) e)

more_not_less : (n : ℕ) → ltb (suc n) n ≡ false
more_not_less n = false_from_ne_true (ltb (suc n) n) (λ e. let l = ltb-true (suc n) n e in omega (arith, l))

kept_called : (frames : List Frame) (k : Frame) (c : ℕ)
    → cond (ltb (length frames) (length (k ∷ frames))) (ltb c (4 * windows_moved frames + 16)) (cond (ltb (length (k ∷ frames)) (length frames)) (still (4 * windows_moved frames) c) true) ≡ true
    → ltb c (4 * windows_moved frames + 16) ≡ true
kept_called frames k c e =
    sym (cond-true (ltb (length frames) (length (k ∷ frames))) (ltb c (4 * windows_moved frames + 16)) (cond (ltb (length (k ∷ frames)) (length frames)) (still (4 * windows_moved frames) c) true) (lt-ltb (length frames) (suc (length frames)) (omega arith))) ∙ e

kept_returned : (fs : List Frame) (k : Frame) (rest : List Frame) → fs ≡ k ∷ rest → (c : ℕ)
    → cond (ltb (length fs) (length rest)) (ltb c (4 * windows_moved fs + 16)) (cond (ltb (length rest) (length fs)) (still (4 * windows_moved fs) c) true) ≡ true
    → still (4 * windows_moved (k ∷ rest)) c ≡ true
kept_returned fs k rest e c h =
    let n : ℕ = length rest in
    let first : ℕ = 4 * windows_moved (k ∷ rest) in
    let there : cond (ltb (suc n) n) (ltb c (first + 16)) (cond (ltb n (suc n)) (still first c) true) ≡ true =
    subst (λ gs. cond (ltb (length gs) n) (ltb c (4 * windows_moved gs + 16)) (cond (ltb n (length gs)) (still (4 * windows_moved gs) c) true) ≡ true) e h in
    sym (cond-false (ltb (suc n) n) (ltb c (first + 16)) (cond (ltb n (suc n)) (still first c) true) (more_not_less n) ∙ cond-true (ltb n (suc n)) (still first c) true (lt-ltb n (suc n) (omega arith))) ∙ there

movsp_is : (t s : ℕ) → (is_entry (insn.Shift (shift.Movsp t s)) ≡ false) × (is_return (insn.Shift (shift.Movsp t s)) ≡ false)
unfolding is_entry is_return
movsp_is t s = (refl, refl)

record IsMovsp (i : Insn) : Type 0 where
  t : ℕ
  s : ℕ
  is : i ≡ insn.Shift (shift.Movsp t s)

as_movsp : (i : Insn) → is_movsp i ≡ true → IsMovsp i
unfolding is_movsp
as_movsp (insn.Shift (shift.Movsp t s)) e = record { t = t; s = s; is = refl }
as_movsp _ e = absurd cc

vector_other : (b : Bounds) (g : FrameState) (found : BreachKind) → first_shown (vector_test b g ∷ []) ≡ Some found → IsOther found
vector_other b g found e = by_test (vector_test b g).shown e
  where
    by_test : (shown : Bool) → cond shown (Some breach.VectorEntered) None ≡ Some found → IsOther found
    by_test true e = subst IsOther (same_Some breach.VectorEntered found e) tt
    by_test false e = absurd (none-some found e)

module _ (seen : List (Option ℕ)) (frames : List Frame) (control : Control) (unset : List Bool) (m : ValidityBits) (written : ℕ → Bool) (w : Known written frames unset m) (inp : Inputs) where
  abbrev f : FrameState
  f = record { seen = seen; frames = frames; control = control; unset = unset; nested = None }

  abbrev g : FrameState
  g = with_inputs inp f

  abbrev s : UseState
  s = record { frame = f; masks = m }

  abbrev turned : Fetched → FrameTurn → FrameTurn
  turned at v = record v { after = record v.after { unset = unset_after v.kind at unset } }

  abbrev Leaves : Fetched → ℕ → FrameTurn → Type 0
  Leaves at r u = (let t : UseTurn = use_turn (step_insn u.kind at) r s g u in Passes written f t (left_after (step_insn t.turn.kind at) s t.after))

  -- ---- no instruction is executed
  kept_all : (u : FrameState) (c : ℕ) → (is_register u None c || (is_kept f u c && written c)) ≡ true → written c ≡ true
  kept_all u c e = (and_parts (is_kept f u c) (written c) e).1

  stays : (u : FrameState) (other : List Bool) → ((n : ℕ) → get_or other n false ≡ false) → Known (λ c. is_register u None c || (is_kept f u c && written c)) frames other m
  stays u other h = known_fewer (known_unset w other h) (λ c. is_register u None c || (is_kept f u c && written c)) (λ c e. kept_all u c e)

  none_lost : (level n : ℕ) → get_or (set (set unset (176 + level) false) (192 + level) false) n false ≡ false
  none_lost level n =
      held (set unset (176 + level) false) (192 + level) n false false (λ b. b ≡ false) (λ e. refl)
      (held unset (176 + level) n false false (λ b. b ≡ false) (λ e. refl) (w.numbers n))

  takes : (at : Fetched) (level reply r : ℕ) → Leaves at r (turned at (in_frame (settled_interrupt level g.control) reply g))
  unfolding step_insn
  takes at level reply r = record { known = (stays (turned at (in_frame (settled_interrupt level g.control) reply g)).after (set (set unset (176 + level) false) (192 + level) false) (none_lost level), refl); stored = refl; mask = refl }

  waits : (at : Fetched) (reply r : ℕ) → Leaves at r (turned at (in_frame (settled_wait g.control) reply g))
  unfolding step_insn
  waits at reply r = record { known = (stays (turned at (in_frame (settled_wait g.control) reply g)).after unset w.numbers, refl); stored = refl; mask = refl }

  raises : (at : Fetched) (cause : ℕ) (address : Option ℕ) (r : ℕ) → Leaves at r (turned at (exception_in_frame cause address g))
  unfolding step_insn
  raises at cause address r = record { known = (stays (turned at (exception_in_frame cause address g)).after unset w.numbers, refl); stored = refl; mask = refl }

  stops : (at : Fetched) (len reply r : ℕ) → Leaves at r (turned at (done_in_frame Stops len reply g))
  unfolding step_insn
  stops at len reply r = record { known = (stays (turned at (done_in_frame Stops len reply g)).after unset w.numbers, refl); stored = refl; mask = refl }

  -- ---- operands
  visible_known : (o : Option ℕ) → IsWritten written f o → IsRegister o → visible_word s g o ≡ whole_word (visible_word s g o).value
  visible_known None e l = refl
  visible_known (Some i) e l = λ j. record { value = value_or_zero seen i; mask = w.seen i l e j }

  pub seen_known : (i : Insn) → Reading written f i → IsSeen i s g
  seen_known i o = record { first = visible_known (reads i).0 o.first o.first_there; second = visible_known (reads i).1 o.second o.second_there }

  special_known : (i : Insn) (n : ℕ) → (special_reads i).0 ≡ Some n → holds_owb n ≡ false → (special_operand i s g).mask ≡ all_bits
  special_known i n e owb =
      ap (λ o. (special_word s g o).mask) e
      ∙ cond_both (holds_marks n) (get_or m.special n 0) (counted_bits m.discipline n) (λ k. k ≡ all_bits) (λ h. w.special n h) (λ h. counts_all m.discipline n owb)

  mask_known : (i : Insn) (r : ℕ) → Reading written f i → r ≡ all_bits → result_mask m.discipline i (first_word i s g) (second_word i s g) (special_operand i s g) m.threadptr r ≡ all_bits
  mask_known i r o e =
      let q = seen_known i o in
      (λ j. result_mask m.discipline i (q.first j) (q.second j) (special_operand i s g) (w.pointer j) (e j))
      ∙ result_known m.discipline i (first_word i s g).value (second_word i s g).value (special_operand i s g) o.owb (special_known i)

  -- ---- an instruction is executed
  module _ (i : Insn) (len r : ℕ) (o : Reading written f i) (known_reply : r ≡ all_bits) where
    abbrev mask : ℕ
    mask = result_mask m.discipline i (first_word i s g) (second_word i s g) (special_operand i s g) m.threadptr r

    abbrev wrote : Option RegWrite → Option Access → Control → List (Option ℕ) → List Frame → FrameTurn
    wrote write access c old olds = record {
      kind = kind.Insn;
      write = write;
      access = access;
      after = record { seen = seen_after_write write old; frames = olds; control = c; unset = unset_by (moved_to i) [] unset; nested = None };
    }

    given : (first_word i s g).mask ≡ all_bits
    given = ap (λ (a : Word). a.mask) (seen_known i o).first

    -- the masks after it
    module _ (write : Option RegWrite) (access : Option Access) (c : Control) (old : List (Option ℕ)) (olds : List Frame) (kept : ℕ → Bool) (y : Known kept olds unset (frames_moved i control.ps.callinc m)) where
      abbrev u : FrameTurn
      u = wrote write access c old olds

      past : Known (λ n. is_register u.after write n || kept n) olds (unset_by (moved_to i) [] unset) (masks_past i mask s g u)
      past = subst
          (λ k. Known (λ n. is_register u.after write n || kept n) olds (unset_by (moved_to i) [] unset) (visible_written false write k (pointer_written i (first_word i s g).mask (special_written (moved_to i) (first_word i s g).mask (frames_moved i control.ps.callinc m)))))
          (sym (mask_known i r o known_reply))
          (subst
          (λ k. Known (λ n. is_register u.after write n || kept n) olds (unset_by (moved_to i) [] unset) (visible_written false write all_bits (pointer_written i k (special_written (moved_to i) k (frames_moved i control.ps.callinc m)))))
          (sym given)
          (known_visible (known_pointer (known_special y (moved_to i)) i) u.after refl write))

      module _ (h : (n : ℕ) → is_kept f u.after n ≡ true → written n ≡ true → kept n ≡ true) where
        fewer : Known (written_past f (cut_turn mask u) written) olds (unset_by (moved_to i) [] unset) (masks_past i mask s g u)
        fewer = known_fewer past (written_past f (cut_turn mask u) written) (λ n e. past_kept f u.after (cut_turn mask u).after write (cut_write mask write) written kept n (cut_register (cut_turn mask u).after mask write n) (h n) e)

        stored_known : (second_word i s g).mask ≡ all_bits
        stored_known = ap (λ (a : Word). a.mask) (seen_known i o).second

        -- of a row that is no return
        writes : is_return i ≡ false → Leaves (Fetches i len) r u
        unfolding step_insn
        writes n =
            let t : UseTurn = use_turn (Some i) r s g u in
            subst (λ a. Passes written f t a) (sym (no_return_left i s t.after n)) (record { known = (fewer, refl); stored = stored_known; mask = mask_known i r o known_reply })

        -- and of a return, which leaves its caller the results
        gives : (k : Frame) (rest : List Frame) → frames ≡ k ∷ rest → olds ≡ rest → ((n : ℕ) → written_past f (cut_turn mask u) written n ≡ true → still (4 * windows_moved (k ∷ rest)) n ≡ true) → Leaves (Fetches i len) r u
        unfolding step_insn
        gives k rest e q v =
            let t : UseTurn = use_turn (Some i) r s g u in
            let P : UseState → Type 0 = λ a. Passes written f t a in
            left_holds P (Some i) s t.after
            (record { known = (fewer, refl); stored = stored_known; mask = mask_known i r o known_reply })
            (subst (λ fs. P (leave_results fs t.after)) (sym e) (record {
              known = (known_left (written_past f (cut_turn mask u) written) k olds (λ n b. subst (λ gs. still (4 * windows_moved (k ∷ gs)) n ≡ true) (sym q) (v n b)) fewer, refl);
              stored = stored_known;
              mask = mask_known i r o known_reply;
            }))

    unmoved : is_entry i ≡ false → is_return i ≡ false → Known written frames unset (frames_moved i control.ps.callinc m)
    unmoved e n = subst
        (λ k. Known written frames unset k)
        (sym (cond-false (is_entry i) (bits_after_call control.ps.callinc m) (cond (is_return i) (bits_after_return m.kept m) m) e ∙ cond-false (is_return i) (bits_after_return m.kept m) m n))
        w

    entered : is_entry i ≡ true → frames_moved i control.ps.callinc m ≡ bits_after_call control.ps.callinc m
    entered e = cond-true (is_entry i) (bits_after_call control.ps.callinc m) (cond (is_return i) (bits_after_return m.kept m) m) e

    left : is_entry i ≡ false → is_return i ≡ true → frames_moved i control.ps.callinc m ≡ bits_after_return m.kept m
    left e n = cond-false (is_entry i) (bits_after_call control.ps.callinc m) (cond (is_return i) (bits_after_return m.kept m) m) e ∙ cond-true (is_return i) (bits_after_return m.kept m) m n

    pushes : (number value : ℕ) → is_entry i ≡ true → is_return i ≡ false → Leaves (Fetches i len) r (turned (Fetches i len) (entry_in_frame number value len g))
    unfolding entry_in_frame
    pushes number value e n = writes (write_to number value) None _ (seen_after_call seen control.ps.callinc) (record { by = control.ps.callinc; kept = take (4 * control.ps.callinc) seen } ∷ frames)
        (λ c. ltb c (4 * windows_moved frames + 16) && written c)
        (subst (λ k. Known (λ c. ltb c (4 * windows_moved frames + 16) && written c) (record { by = control.ps.callinc; kept = take (4 * control.ps.callinc) seen } ∷ frames) unset k) (sym (entered e)) (known_called w control.ps.callinc (take (4 * control.ps.callinc) seen)))
        (λ c k v. and_from (ltb c (4 * windows_moved frames + 16)) (written c) (kept_called frames (record { by = control.ps.callinc; kept = take (4 * control.ps.callinc) seen }) c k) v)
        n

    pops : (fs : List Frame) → frames ≡ fs → (a0 : ℕ) → is_entry i ≡ false → is_return i ≡ true → Leaves (Fetches i len) r (turned (Fetches i len) (return_to_frame fs a0 g))
    pops [] e a0 n h = raises (Fetches i len) illegal_instruction None r
    pops (k ∷ rest) e a0 n h = gives None None _ (seen_after_return k.kept seen k.by) rest
        (returned written (4 * windows_moved (k ∷ rest)))
        (subst (λ q. Known (returned written (4 * windows_moved (k ∷ rest))) rest unset q) (sym (left n h)) (known_returned (subst (λ fs. Known written fs unset m) e w)))
        (λ c kept v. and_from (still (4 * windows_moved (k ∷ rest)) c) (written c) (kept_returned frames k rest e c kept) v)
        k rest e refl
        (λ c v. kept_returned frames k rest e c (and_parts (is_kept f (record f { frames = rest }) c) (written c) v).0)

    done : (code : ℕ → ℕ) (reply : ℕ) (x : Outcome) → outcome_at code i (value_or_zero seen) g.control ≡ x → Fits i x → is_windowing i ≡ false → names_window_register i ≡ false → is_movsp i ≡ false → Leaves (Fetches i len) r (turned (Fetches i len) (done_in_frame x len reply g))
    unfolding return_in_frame
    done code reply (Does e) q fits a b c =
        let n = no_return code i (value_or_zero seen) g.control (Does e) q (λ h. h) in
        writes e.write None _ seen frames written (unmoved fits.2 n) (λ c k v. v) n
    done code reply (Raises cause address) q fits a b c = raises (Fetches i len) cause address r
    done code reply (Asks access awaited e) q fits a b c =
        let n = no_return code i (value_or_zero seen) g.control (Asks access awaited e) q (λ h. h) in
        writes _ _ _ seen frames written (unmoved fits.2 n) (λ c k v. v) n
    done code reply Stops q fits a b c = stops (Fetches i len) len reply r
    done code reply (Windowed (Enters number value)) q fits a b c =
        let P : FrameTurn → Type 0 = λ v. Leaves (Fetches i len) r (turned (Fetches i len) v) in
        turn_if P g.control.ps.excm (exception_in_frame illegal_instruction None g) (entry_in_frame number value len g) (raises (Fetches i len) illegal_instruction None r)
        (pushes number value (entry_is i number fits.0 fits.1) (no_return code i (value_or_zero seen) g.control (Windowed (Enters number value)) q (λ h. h)))
    done code reply (Windowed (Returns a0)) q fits a b c =
        let P : FrameTurn → Type 0 = λ v. Leaves (Fetches i len) r (turned (Fetches i len) v) in
        let is = returns_is i fits in
        turn_if P g.control.ps.excm (exception_in_frame illegal_instruction None g) (return_to_frame frames a0 g) (raises (Fetches i len) illegal_instruction None r) (pops frames refl a0 is.1 is.0)
    done code reply (Windowed (EndsOverflow epc1)) q fits a b c = absurd (both_ways _ a fits)
    done code reply (Windowed (EndsUnderflow epc1)) q fits a b c = absurd (both_ways _ a fits)
    done code reply (Windowed (Rotates n)) q fits a b c = absurd (both_ways _ a fits)
    done code reply (Windowed (MovesStack number value)) q fits a b c = absurd (both_ways _ c fits)
    done code reply (Windowed (Reads register number)) q fits a b c = absurd (both_ways _ b fits)
    done code reply (Windowed (Sets register value)) q fits a b c = absurd (both_ways _ b fits)
    done code reply (Windowed (Exchanges register number value)) q fits a b c = absurd (both_ways _ b fits)

  -- MOVSP
  moves_stack : (t k len r reply : ℕ) (code : ℕ → ℕ) → Reading written f (insn.Shift (shift.Movsp t k)) → r ≡ all_bits
      → Leaves (Fetches (insn.Shift (shift.Movsp t k)) len) r (turn_or (fetched_movsp (Fetches (insn.Shift (shift.Movsp t k)) len) g) (turned (Fetches (insn.Shift (shift.Movsp t k)) len) (fetched_step (Fetches (insn.Shift (shift.Movsp t k)) len) code reply g)))
  unfolding fetched_movsp moved_to
  moves_stack t k len r reply code o e =
      let i : Insn = insn.Shift (shift.Movsp t k) in
      let is = movsp_is t k in
      writes i len r o e (write_to t (value_or_zero seen k)) None _ seen frames written (unmoved i len r o e is.0 is.1) (λ c k v. v) is.1

  -- ---- what is fetched
  module _ (code : ℕ → ℕ) (b : Bounds) (fresh : Bool) (live : ℕ → Bool) (bytes : ℕ → ℕ) (rec : StepRecord) (r : ℕ) (known_reply : r ≡ all_bits) where
    fetches : (at : Fetched) (reply : ℕ) → ((i : Insn) (len : ℕ) → at ≡ Fetches i len → Reading written f i) → NoneShown (fetched_uses b fresh live bytes at rec s g (fetched_step at code reply g))
        → Leaves at r (turn_or (fetched_movsp at g) (turned at (fetched_step at code reply g)))
    unfolding fetched_movsp
    fetches (Fails address) reply reads none = raises (Fails address) _ _ r
    fetches SpellsNothing reply reads none = raises SpellsNothing _ _ r
    fetches (Fetches i len) reply reads none =
        let o = reads i len refl in
        let q = unused b fresh live rec g (fetched_step (Fetches i len) code reply g) i (uses_unknown i s g) (swaps_unknown bytes rec.access) (breaks_stack b.range i rec.kind g) none in
        ⊎_elim
        (λ moves.
        let j = as_movsp i moves in
        subst (λ k. Reading written f k → Leaves (Fetches k len) r (turn_or (fetched_movsp (Fetches k len) g) (turned (Fetches k len) (fetched_step (Fetches k len) code reply g)))) (sym j.is) (λ p. moves_stack j.t j.s len r reply code p known_reply) o)
        (λ stays.
        subst (λ k. Leaves (Fetches i len) r (turn_or k (turned (Fetches i len) (fetched_step (Fetches i len) code reply g)))) (sym (no_movsp i len g stays))
        (done i len r o known_reply code reply (outcome_at code i (value_or_zero seen) g.control) refl (outcome_fits code i g.control.pc _ _ _ _ g.control.ps g.control.threadptr) q.windowing q.window_register stays))
        (cases_Bool (is_movsp i))

    abbrev at : Fetched
    at = fetch_at code control.pc

    abbrev busy : Bool
    busy = ltb 0 (pending_of g.control) || g.control.waits

    pub plain_passes : ((i : Insn) (len : ℕ) → at ≡ Fetches i len → busy ≡ false → Reading written f i) → laid_use b fresh code live bytes rec s g ≡ None → Leaves at r (turn_or (movsp_of code g) (turned at (step_with_inputs code rec.reply g)))
    plain_passes reads none = ⊎_elim
        (λ level.
        let is = or_left (ltb 0 (pending_of g.control)) control.waits level in
        subst (λ o. Leaves at r (turn_or o (turned at (step_with_inputs code rec.reply g)))) (sym (cond-true busy None (fetched_movsp at g) is))
        (subst (λ v. Leaves at r (turned at v)) (sym (step_taken code rec.reply g level)) (takes at (pending_of g.control) rec.reply r)))
        (λ quiet. ⊎_elim
        (λ idle.
        let is = or_right (ltb 0 (pending_of g.control)) control.waits idle in
        subst (λ o. Leaves at r (turn_or o (turned at (step_with_inputs code rec.reply g)))) (sym (cond-true busy None (fetched_movsp at g) is))
        (subst (λ v. Leaves at r (turned at v)) (sym (step_waits code rec.reply g quiet idle)) (waits at rec.reply r)))
        (λ runs.
        let free = or_from (ltb 0 (pending_of g.control)) control.waits quiet runs in
        subst (λ o. Leaves at r (turn_or o (turned at (step_with_inputs code rec.reply g)))) (sym (cond-false busy None (fetched_movsp at g) free))
        (subst (λ v. Leaves at r (turn_or (fetched_movsp at g) (turned at v))) (sym (step_fetches code rec.reply g quiet runs))
        (fetches at rec.reply (λ i len e. reads i len e free) (uses_shown code b fresh live bytes rec s g quiet runs none))))
        (cases_Bool control.waits))
        (cases_Bool (ltb 0 (pending_of g.control)))

  -- ---- what the step shows
  number_there : (n : Option ℕ) → has_no_number unset n ≡ false
  number_there None = refl
  number_there (Some n) = and_right (not (holds_marks n)) (get_or unset n false) (w.numbers n)

  pub uses_known : (i : Insn) → Reading written f i → uses_unknown i s g ≡ false
  uses_known i o =
      or_from (reads_no_number i g) _
      (or_from (has_no_number unset (special_reads i).0) _ (number_there (special_reads i).0) (number_there (special_reads i).1))
      (not_from_true _ (used_true s g i (seen_known i o)))

  module _ (code : ℕ → ℕ) (b : Bounds) (fresh : Bool) (live : ℕ → Bool) (bytes : ℕ → ℕ) (rec : StepRecord) (found : BreachKind) (swaps : swaps_unknown bytes rec.access ≡ false) where
    fetched_other : (at : Fetched) (v : FrameTurn) → ((i : Insn) (len : ℕ) → at ≡ Fetches i len → Reading written f i) → first_shown (fetched_uses b fresh live bytes at rec s g v) ≡ Some found → IsOther found
    fetched_other (Fails address) v reads e = other_shown (other_tests b live nowhere rec g v) false found (ap (λ k. first_shown (use_tests false k false (other_tests b live nowhere rec g v))) (sym swaps) ∙ e)
    fetched_other SpellsNothing v reads e = other_shown (other_tests b live nowhere rec g v) false found (ap (λ k. first_shown (use_tests false k false (other_tests b live nowhere rec g v))) (sym swaps) ∙ e)
    fetched_other (Fetches i len) v reads e =
        let tests = insn_tests b fresh live nowhere i rec g v in
        let unset = uses_known i (reads i len refl) in
        other_shown tests (breaks_stack b.range i rec.kind g) found ((λ j. first_shown (use_tests (sym unset j) (sym swaps j) (breaks_stack b.range i rec.kind g) tests)) ∙ e)

    pub laid_other : ((i : Insn) (len : ℕ) → fetch_at code control.pc ≡ Fetches i len → (ltb 0 (pending_of g.control) || g.control.waits) ≡ false → Reading written f i) → laid_use b fresh code live bytes rec s g ≡ Some found → IsOther found
    unfolding laid_use
    laid_other reads e = ⊎_elim
        (λ busy. vector_other b g found (sym (cond-true (ltb 0 (pending_of g.control) || g.control.waits) (first_shown (vector_test b g ∷ [])) _ busy) ∙ e))
        (λ free. fetched_other (fetch_at code control.pc) (step_with_inputs code rec.reply g) (λ i len at. reads i len at free)
        (sym (cond-false (ltb 0 (pending_of g.control) || g.control.waits) (first_shown (vector_test b g ∷ [])) _ free) ∙ e))
        (cases_Bool (ltb 0 (pending_of g.control) || g.control.waits))

  -- and the record of an underflow
  module _ (code : ℕ → ℕ) (rec : StepRecord) (found : BreachKind) where
    fetched_return : (at : Fetched) → ((i : Insn) (len : ℕ) → at ≡ Fetches i len → Reading written f i) → fetched_return_use at s g ≡ Some found → IsOther found
    fetched_return (Fails address) reads e = absurd (none-some found e)
    fetched_return SpellsNothing reads e = absurd (none-some found e)
    fetched_return (Fetches i len) reads e = ⊎_elim
        (λ is. other_shown (return_tests i g) false found
        (ap (λ k. first_shown (use_tests k false false (return_tests i g))) (sym (uses_known i (reads i len refl)))
        ∙ (sym (cond-true (is_return i) (first_shown (use_tests (uses_unknown i s g) false false (return_tests i g))) None is) ∙ e)))
        (λ no. absurd (none-some found (sym (cond-false (is_return i) (first_shown (use_tests (uses_unknown i s g) false false (return_tests i g))) None no) ∙ e)))
        (cases_Bool (is_return i))

    pub window_other : ((i : Insn) (len : ℕ) → fetch_at code control.pc ≡ Fetches i len → Reading written f i) → cond (underflows rec.kind) (fetched_return_use (fetch_at code control.pc) s g) None ≡ Some found → IsOther found
    window_other reads e = ⊎_elim
        (λ is. fetched_return (fetch_at code control.pc) reads (sym (cond-true (underflows rec.kind) (fetched_return_use (fetch_at code control.pc) s g) None is) ∙ e))
        (λ no. absurd (none-some found (sym (cond-false (underflows rec.kind) (fetched_return_use (fetch_at code control.pc) s g) None no) ∙ e)))
        (cases_Bool (underflows rec.kind))
