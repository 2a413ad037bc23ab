-- Two states that agree in what is known make turns that agree in what is known then.
use Rattle.std.proofs.Common.{◌≡◌, ℕ, zero, suc, ◌%◌, Bool, true, false, cond, eqb, nat_lt, ◌&&◌, ◌||◌, not, Option, Some, None, List, slice_index, bit_and, refl, sym, ap, ◌∙◌, subst, ⊎_elim}
use Rattle.std.proofs.lemmas.Bool.{and_parts, true≢false}
use Rattle.xt_isa.specs.declared.Insn.{Insn}
use Rattle.xt_isa.specs.declared.Insn.TheVariants as insn
use Rattle.xt_isa.specs.declared.control.Control.TheVariants as control
use Rattle.xt_isa.specs.declared.control.ReturnName.TheVariants as ReturnName
use Rattle.xt_isa.specs.declared.density.Density.TheVariants as density
use Rattle.xt_isa.specs.declared.density.BareName.TheVariants as BareName
use Rattle.xt_isa.specs.Ranges.{in_range}
use Rattle.xt_special.specs.declared.ps.Ps.{Ps}
use Rattle.xt_special.specs.Control.{special_of}
use Rattle.xt_special.specs.Interrupts.{after_interrupt, pending_level, pending_of}
use Rattle.xt_window.specs.Ring.{bit, visible, without_bit}
use Rattle.xt_window.specs.Moves.{base_after_return, behind, is_bad}
use Rattle.xt_trace.specs.declared.record.StepKind.{StepKind}
use Rattle.xt_trace.specs.declared.record.StepKind.TheVariants as kind
use Rattle.xt_map.specs.Code.{AreBytes}
use Rattle.xt_map.specs.Fetching.{Fetched, Fetches, Fails, SpellsNothing, fetch_at}
use Rattle.xt_map.proofs.Fetches.{fetched_range}
use Rattle.xt_rows.specs.declared.outcome.Outcome.{Outcome}
use Rattle.xt_rows.specs.declared.outcome.Outcome.TheVariants.{Does, Raises, Asks, Stops, Windowed}
use Rattle.xt_rows.specs.declared.outcome.WindowStep.{WindowStep}
use Rattle.xt_rows.specs.declared.outcome.WindowStep.TheVariants.{Enters, Returns, EndsOverflow, EndsUnderflow, Rotates, MovesStack, Reads, Sets, Exchanges}
use Rattle.xt_rows.specs.Effects.{write_to}
use Rattle.xt_rows.specs.Kinds.{Fits, is_return}
use Rattle.xt_rows.specs.Operands.{reads, special_reads}
use Rattle.xt_rows.specs.Outcomes.{outcome_at}
use Rattle.xt_rows.specs.Settling.{return_pc, return_size, settled_interrupt, settled_wait}
use Rattle.xt_rows.proofs.Fitting.{outcome_fits}
use Rattle.xt_exec.specs.State.{State}
use Rattle.xt_exec.specs.Turn.{Planned, entry_turn, fall_through, fetched_turn, has_windows, in_window, is_illegal, moved_stack, outcome_turn, overflow, planned_turn, raises, resuming_turn, return_turn, turn_or_overflow, underflow, window_check, window_step, window_turn}
use Rattle.xt_uses.specs.declared.discipline.Discipline.TheVariants.{Lenient}
use Rattle.xt_uses.specs.declared.words.Word.{Word}
use Rattle.xt_uses.specs.Words.{all_bits, and_word, is_whole, whole_word}
use Rattle.xt_uses.specs.Used.{control_used, density_used, used_are_known}
use Rattle.xt_uses.specs.UseStep.{step_insn}
use Rattle.xt_uses.proofs.RowsReplies.{outcome_masked}
use Rattle.xt_uses.proofs.RowsUsed.{and_known}
use Rattle.xt_simulation.specs.Knowledge.{Knowledge, register_word, special_word, first_word, second_word, first_special, second_special}
use Rattle.xt_simulation.specs.TurnUses.{common_used, insn_used, is_known, kind_used, row_used, specials_used, window_used}
use Rattle.xt_simulation.proofs.Likes.{whole_is}
use Rattle.xt_simulation.proofs.Controls.{Commons, interrupt_agrees}
use Rattle.xt_simulation.proofs.Readings.{Two, other, register_equal, register_same, special_same}
use Rattle.xt_simulation.proofs.SecretRows.{rows}
use Rattle.xt_simulation.proofs.Sends.{Sends, outcome_sends}
use Rattle.xt_simulation.proofs.SecretPlans.{Agrees, at_start, idle, outcome_plans, overflows, raised}

-- ---- kinds of turns

-- of a turn that comes to what is fetched
abbrev Runs : StepKind → Type 0
Runs (kind.Interrupt level) = ⊥
Runs kind.Wait = ⊥
Runs _ = Unit {0}

-- and enters no window exception
abbrev Plain : StepKind → Type 0
Plain (kind.Interrupt level) = ⊥
Plain kind.Wait = ⊥
Plain (kind.Window vector) = ⊥
Plain _ = Unit {0}

plain_runs : (k : StepKind) → Plain k → Runs k
plain_runs kind.Insn h = tt
plain_runs (kind.Window vector) h = tt
plain_runs (kind.Exc cause) h = tt
plain_runs (kind.Interrupt level) h = h
plain_runs kind.Wait h = h
plain_runs kind.Stop h = tt

moved_plain : (number value len : ℕ) (s : State) → Plain (moved_stack number value len s).kind
unfolding moved_stack
moved_plain number value len s = by_test (eqb (behind s.start s.base) 0)
  where
    by_test : (b : Bool) → Plain (cond b (raises 5 s) (window_step (write_to number value) (fall_through len s))).kind
    by_test true = tt
    by_test false = tt

returned_runs : (a0 : ℕ) (s : State) → Runs (return_turn a0 s).kind
unfolding return_turn underflow
returned_runs a0 s = by_test (bit s.start (base_after_return s.base (return_size a0)))
  where
    back : Planned
    back = window_step None (record s { base = base_after_return s.base (return_size a0); start = without_bit s.start s.base; control = record s.control { pc = return_pc s.control.pc a0 } })

    by_test : (b : Bool) → Runs (cond b back (underflow (return_size a0) s)).kind
    by_test true = tt
    by_test false = tt

step_plain : (i : Insn) (step : WindowStep) (len : ℕ) (s : State) → Fits i (Windowed step) → is_return i ≡ false → Plain (window_turn step len s).kind
unfolding entry_turn resuming_turn is_return
step_plain i (Enters number value) len s f other = tt
step_plain i (Returns a0) len s f other = absurd (⊎_elim (λ e. true≢false (ap is_return (sym e) ∙ other)) (λ e. true≢false (ap is_return (sym e) ∙ other)) f)
step_plain i (EndsOverflow epc1) len s f other = tt
step_plain i (EndsUnderflow epc1) len s f other = tt
step_plain i (Rotates n) len s f other = tt
step_plain i (MovesStack number value) len s f other = moved_plain number value len s
step_plain i (Reads register number) len s f other = tt
step_plain i (Sets register value) len s f other = tt
step_plain i (Exchanges register number value) len s f other = tt

outcome_plain : (i : Insn) (o : Outcome) (len : ℕ) (s : State) → Fits i o → is_return i ≡ false → Plain (outcome_turn o len s).kind
outcome_plain i (Does e) len s f other = tt
outcome_plain i (Raises cause address) len s f other = tt
outcome_plain i (Asks a x e) len s f other = tt
outcome_plain i Stops len s f other = tt
outcome_plain i (Windowed step) len s f other = step_plain i step len s f other

step_runs : (step : WindowStep) (len : ℕ) (s : State) → Runs (window_turn step len s).kind
unfolding entry_turn resuming_turn
step_runs (Enters number value) len s = tt
step_runs (Returns a0) len s = returned_runs a0 s
step_runs (EndsOverflow epc1) len s = tt
step_runs (EndsUnderflow epc1) len s = tt
step_runs (Rotates n) len s = tt
step_runs (MovesStack number value) len s = plain_runs (moved_stack number value len s).kind (moved_plain number value len s)
step_runs (Reads register number) len s = tt
step_runs (Sets register value) len s = tt
step_runs (Exchanges register number value) len s = tt

outcome_runs : (o : Outcome) (len : ℕ) (s : State) → Runs (outcome_turn o len s).kind
outcome_runs (Does e) len s = tt
outcome_runs (Raises cause address) len s = tt
outcome_runs (Asks a x e) len s = tt
outcome_runs Stops len s = tt
outcome_runs (Windowed step) len s = step_runs step len s

checked_runs : (distance : ℕ) (code : ℕ → ℕ) (i : Insn) (len : ℕ) (s : State) → Runs (turn_or_overflow distance code i len s).kind
unfolding overflow
checked_runs zero code i len s = outcome_runs (outcome_at code i (visible s.regs s.base) s.control) len s
checked_runs (suc distance) code i len s = tt

-- ---- what a turn that executes, raises or stops uses

none_whole : is_whole (whole_word 0) ≡ true
none_whole = refl

plain_used : (k : StepKind) (i : Insn) (len : ℕ) (m : Knowledge) (s : State) → Plain k → kind_used k (Fetches i len) m s ≡ true → insn_used i m s ≡ true
unfolding kind_used
plain_used kind.Insn i len m s p h = h
plain_used (kind.Window vector) i len m s p h = absurd p
plain_used (kind.Exc cause) i len m s p h = h
plain_used (kind.Interrupt level) i len m s p h = absurd p
plain_used kind.Wait i len m s p h = absurd p
plain_used kind.Stop i len m s p h = h

-- RETW uses a0, whatever it comes to
return_row : (i : Insn) (m : Knowledge) (s : State) → is_return i ≡ true → (row_used i (first_word i m s) (second_word i m s) ≡ is_whole (register_word m s (Some 0))) × (specials_used i (first_special i m s) (second_special i m s) ≡ true)
unfolding is_return row_used used_are_known control_used density_used specials_used reads special_reads
return_row (insn.Control (control.Return ReturnName.Retw)) m s h = (refl, refl)
return_row (insn.Density (density.Bare BareName.Retw)) m s h = (refl, refl)
return_row _ m s h = absurd (true≢false (sym h))

return_used : (i : Insn) (m : Knowledge) (s : State) → is_return i ≡ true → is_whole (register_word m s (Some 0)) ≡ true → insn_used i m s ≡ true
return_used i m s is w = let r = return_row i m s is in λ j. (r.0 ∙ w) j && r.1 j

window_known : (i : Insn) (m : Knowledge) (s : State) → is_return i ≡ true → window_used i m s ≡ true → is_whole (register_word m s (Some 0)) ≡ true
window_known i m s is h = sym (ap (λ (b : Bool). not b || is_whole (register_word m s (Some 0))) is) ∙ h

insn_known : (i : Insn) (m : Knowledge) (s : State) → is_return i ≡ true → insn_used i m s ≡ true → is_whole (register_word m s (Some 0)) ≡ true
insn_known i m s is h = sym (return_row i m s is).0 ∙ (and_parts (row_used i (first_word i m s) (second_word i m s)) (specials_used i (first_special i m s) (second_special i m s)) h).0

return_known : (k : StepKind) (i : Insn) (len : ℕ) (m : Knowledge) (s : State) → is_return i ≡ true → Runs k → kind_used k (Fetches i len) m s ≡ true → is_whole (register_word m s (Some 0)) ≡ true
unfolding kind_used
return_known kind.Insn i len m s is r h = insn_known i m s is h
return_known (kind.Window vector) i len m s is r h = window_known i m s is h
return_known (kind.Exc cause) i len m s is r h = insn_known i m s is h
return_known (kind.Interrupt level) i len m s is r h = absurd r
return_known kind.Wait i len m s is r h = absurd r
return_known kind.Stop i len m s is r h = insn_known i m s is h

-- ---- the interrupt that is taken

same_pending : (v e w f : ℕ) (ps : Ps) → bit_and v e ≡ bit_and w f → pending_level v e ps ≡ pending_level w f ps
unfolding pending_level
same_pending v e w f ps same = rw same refl

-- ---- two states

module _ (code : ℕ → ℕ) (bytes : AreBytes code) (m : Knowledge) (s : State) (rs ys : List ℕ) (k : ℕ) (h : Two m s rs ys k) (common : common_used m s ≡ true) where
  abbrev t : State
  t = other s rs ys k

  abbrev interrupts : Word
  interrupts = special_word m s (Some 226)

  abbrev enabled : Word
  enabled = special_word m s (Some 228)

  parts : (is_whole (and_word interrupts enabled) ≡ true) × (is_known m s 231 ≡ true) × (is_known m s 0 ≡ true) × (is_known m s 1 ≡ true) × (is_known m s 2 ≡ true)
  parts =
      let a = and_parts (is_whole (and_word interrupts enabled)) (is_known m s 231 && (is_known m s 0 && (is_known m s 1 && is_known m s 2))) common in
      let b = and_parts (is_known m s 231) (is_known m s 0 && (is_known m s 1 && is_known m s 2)) a.1 in
      let c = and_parts (is_known m s 0) (is_known m s 1 && is_known m s 2) b.1 in
      let d = and_parts (is_known m s 1) (is_known m s 2) c.1 in
      (a.0, b.0, c.0, d.0, d.1)

  all_of : (n : ℕ) → is_known m s n ≡ true → m.special n ≡ all_bits
  all_of n w = whole_is (m.special n) (h.masks.special n) (special_word m s (Some n)) refl w

  pub known : Commons m.special
  known = record { vecbase = all_of 231 parts.1; lbeg = all_of 0 parts.2; lend = all_of 1 parts.3; lcount = all_of 2 parts.4 }

  pending : pending_of s.control ≡ pending_of t.control
  pending =
      let same_i = special_same m s rs ys k h (Some 226) in
      let same_e = special_same m s rs ys k h (Some 228) in
      let mine : bit_and (special_of s.control 226) (special_of s.control 228) ≡ bit_and interrupts.value enabled.value =
      and_known (special_of s.control 226) (special_of s.control 228) interrupts enabled refl refl (h.first.control.words 226) (h.first.control.words 228) parts.0 in
      let theirs : bit_and (slice_index ys 226) (slice_index ys 228) ≡ bit_and (special_word m t (Some 226)).value (special_word m t (Some 228)).value =
      and_known (slice_index ys 226) (slice_index ys 228) (special_word m t (Some 226)) (special_word m t (Some 228)) refl refl (h.second.control.words 226) (h.second.control.words 228)
      (sym (λ j. is_whole (and_word (same_i j) (same_e j))) ∙ parts.0) in
      same_pending (special_of s.control 226) (special_of s.control 228) (slice_index ys 226) (slice_index ys 228) s.control.ps
      (mine ∙ ((λ j. bit_and (same_i j).value (same_e j).value) ∙ sym theirs))

  -- ---- an instruction

  illegal_same : (i : Insn) → (is_return i ≡ true → visible s.regs s.base 0 ≡ visible rs s.base 0) → is_illegal i s ≡ is_illegal i t
  unfolding is_illegal is_return
  illegal_same (insn.Control (control.Entry number size)) e = refl
  illegal_same (insn.Control (control.Return ReturnName.Retw)) e = ap (λ (a0 : ℕ). is_bad s.start s.base (return_size a0) || not (has_windows s.control.ps)) (e refl)
  illegal_same (insn.Density (density.Bare BareName.Retw)) e = ap (λ (a0 : ℕ). is_bad s.start s.base (return_size a0) || not (has_windows s.control.ps)) (e refl)
  illegal_same _ e = refl

  abbrev Agree : Option Insn → Planned → Planned → Type 0
  Agree o p q = Agrees m s rs ys k h known o p q

  executed : (i : Insn) (len : ℕ) → in_range i ≡ true → insn_used i m s ≡ true
      → Agree (step_insn (outcome_turn (outcome_at code i (visible s.regs s.base) s.control) len s).kind (Fetches i len)) (outcome_turn (outcome_at code i (visible s.regs s.base) s.control) len s)
      (outcome_turn (outcome_at code i (visible rs s.base) t.control) len t)
  executed i len ok used =
      let row = (and_parts (row_used i (first_word i m s) (second_word i m s)) (specials_used i (first_special i m s) (second_special i m s)) used).0 in
      outcome_plans m s rs ys k h known code i len (outcome_at code i (visible s.regs s.base) s.control) (outcome_at code i (visible rs s.base) t.control) ((second_word i m s).value % 256)
      (outcome_fits code i s.control.pc _ _ _ _ s.control.ps s.control.threadptr)
      (λ reply. outcome_masked Lenient code i (first_word i m s) (second_word i m s) (first_special i m s) m.threadptr reply s.control.pc _ _ _ _ s.control.ps s.control.threadptr)
      (outcome_sends m h.masks s h.first code i row)
      (subst (λ (w : Word). Sends (w.value % 256) (outcome_at code i (visible rs s.base) t.control)) (sym (register_same m s rs ys k h (reads i).1))
      (outcome_sends m h.masks t h.second code i (sym (λ j. row_used i (register_same m s rs ys k h (reads i).0 j) (register_same m s rs ys k h (reads i).1 j)) ∙ row)))
      (rows code m s rs ys k h i ok used)

  checked : (distance : ℕ) (i : Insn) (len : ℕ) → in_range i ≡ true → (distance ≡ 0 → insn_used i m s ≡ true)
      → Agree (step_insn (turn_or_overflow distance code i len s).kind (Fetches i len)) (turn_or_overflow distance code i len s) (turn_or_overflow distance code i len t)
  unfolding step_insn overflow
  checked zero i len ok used = executed i len ok (used refl)
  checked (suc distance) i len ok used = overflows m s rs ys k h known (suc distance)

  -- ---- what is fetched

  abbrev chosen : Bool → Insn → ℕ → State → Planned
  chosen b i len u = cond b (raises 0 u) (turn_or_overflow (window_check i u) code i len u)

  legal : (i : Insn) (len : ℕ) (b : Bool) → in_range i ≡ true → (r : Bool) → is_return i ≡ r → kind_used (chosen b i len s).kind (Fetches i len) m s ≡ true
      → Agree (step_insn (chosen b i len s).kind (Fetches i len)) (chosen b i len s) (chosen b i len t)
  unfolding step_insn
  legal i len true ok r is used = raised m s rs ys k h known 0 None
  legal i len false ok true is used =
      checked (window_check i s) i len ok (λ e. return_used i m s is (return_known (chosen false i len s).kind i len m s is (checked_runs (window_check i s) code i len s) used))
  legal i len false ok false is used =
      checked (window_check i s) i len ok
      (λ e. plain_used (chosen false i len s).kind i len m s
      (subst (λ (distance : ℕ). Plain (turn_or_overflow distance code i len s).kind) (sym e)
      (outcome_plain i (outcome_at code i (visible s.regs s.base) s.control) len s (outcome_fits code i s.control.pc _ _ _ _ s.control.ps s.control.threadptr) is)) used)

  chosen_runs : (i : Insn) (len : ℕ) (b : Bool) → Runs (chosen b i len s).kind
  chosen_runs i len true = tt
  chosen_runs i len false = checked_runs (window_check i s) code i len s

  fetched : (f : Fetched) → ((i : Insn) (len : ℕ) → f ≡ Fetches i len → in_range i ≡ true) → kind_used (fetched_turn f code s).kind f m s ≡ true
      → Agree (step_insn (fetched_turn f code s).kind f) (fetched_turn f code s) (fetched_turn f code t)
  unfolding step_insn
  fetched (Fails address) ok used = raised m s rs ys k h known 2 (Some address)
  fetched SpellsNothing ok used = raised m s rs ys k h known 0 None
  fetched (Fetches i len) ok used =
      subst (λ (b : Bool). Agree (step_insn (chosen (is_illegal i s) i len s).kind (Fetches i len)) (chosen (is_illegal i s) i len s) (chosen b i len t))
      (illegal_same i (λ is. register_equal m s rs ys k h (Some 0) (return_known (chosen (is_illegal i s) i len s).kind i len m s is (chosen_runs i len (is_illegal i s)) used)))
      (legal i len (is_illegal i s) (ok i len refl) (is_return i) refl used)

  -- ---- the turn

  abbrev at_pc : Fetched
  at_pc = fetch_at code s.control.pc

  pub planned : kind_used (planned_turn code s).kind at_pc m s ≡ true → Agree (step_insn (planned_turn code s).kind at_pc) (planned_turn code s) (planned_turn code t)
  unfolding planned_turn step_insn
  planned used =
      subst (λ (l : ℕ). Agree (step_insn (body (pending_of s.control) s).kind at_pc) (body (pending_of s.control) s) (body l t)) pending
      (by_tests (nat_lt 0 (pending_of s.control)) s.control.waits used)
    where
      choice : Bool → Bool → ℕ → State → Planned
      choice b w l u = cond b (in_window (settled_interrupt l u.control) u) (cond w (in_window (settled_wait u.control) u) (fetched_turn (fetch_at code u.control.pc) code u))

      body : ℕ → State → Planned
      body l u = choice (nat_lt 0 l) u.control.waits l u

      by_tests : (b w : Bool) → kind_used (choice b w (pending_of s.control) s).kind at_pc m s ≡ true
          → Agree (step_insn (choice b w (pending_of s.control) s).kind at_pc) (choice b w (pending_of s.control) s) (choice b w (pending_of s.control) t)
      by_tests true w used =
          idle m s rs ys k h known (kind.Interrupt (pending_of s.control)) s.base s.start (after_interrupt (pending_of s.control) s.control) (after_interrupt (pending_of s.control) t.control)
          (interrupt_agrees m.special m.threadptr known s.control t.control (at_start m s rs ys k h known) (pending_of s.control))
      by_tests false true used = idle m s rs ys k h known kind.Wait s.base s.start s.control t.control (at_start m s rs ys k h known)
      by_tests false false used = fetched at_pc (λ i len e. fetched_range code s.control.pc i len bytes e) used
