-- A turn from states that are equal but for time.
use Rattle.std.proofs.Common.{◌≡◌, ℕ, zero, suc, ◌+◌, ◌-◌, ◌*◌, ◌%◌, ◌^◌, ◌⊎◌, Bool, true, false, cond, eqb, nat_lt, not, ◌&&◌, ◌||◌, Option, Some, None, List, bit_and, refl, sym, ap, ◌∙◌, subst, inl, inr, ⊎_elim}
use Rattle.std.proofs.lemmas.Bool.{eqb-true, or_parts, true≢false}
use Rattle.xt_isa.specs.declared.Insn.{Insn}
use Rattle.xt_isa.specs.declared.Insn.TheVariants as insn
use Rattle.xt_isa.specs.declared.control.Control.TheVariants as control
use Rattle.xt_isa.specs.declared.control.ReturnName.TheVariants as ReturnName
use Rattle.xt_isa.specs.declared.density.Density.TheVariants as density
use Rattle.xt_isa.specs.declared.density.BareName.TheVariants as BareName
use Rattle.xt_isa.specs.declared.system.System.TheVariants as system
use Rattle.xt_isa.specs.declared.system.SpecialName.TheVariants as SpecialName
use Rattle.xt_special.specs.Control.{Control, special_of}
use Rattle.xt_special.specs.Access.{SpecialWrites, with_sets}
use Rattle.xt_special.specs.Timers.{after_tick}
use Rattle.xt_special.specs.Interrupts.{pending_of}
use Rattle.xt_special.specs.Exceptions.{after_exception}
use Rattle.xt_window.specs.Ring.{bit, visible, with_bit, without_bit, size_at}
use Rattle.xt_window.specs.Moves.{base_after_call, base_after_return, base_rotated, behind}
use Rattle.xt_trace.specs.declared.record.RegWrite.{RegWrite}
use Rattle.xt_trace.specs.declared.record.StepKind.{StepKind}
use Rattle.xt_trace.specs.declared.record.StepKind.TheVariants as kind
use Rattle.xt_rows.specs.declared.outcome.Effect.{Effect}
use Rattle.xt_rows.specs.declared.outcome.Flow.TheVariants.{Falls}
use Rattle.xt_rows.specs.declared.outcome.WindowRegister.{WindowRegister}
use Rattle.xt_rows.specs.declared.outcome.WindowRegister.TheVariants as window
use Rattle.xt_rows.specs.declared.outcome.WindowStep.{WindowStep}
use Rattle.xt_rows.specs.declared.outcome.WindowStep.TheVariants.{Enters, Returns, EndsOverflow, EndsUnderflow, Rotates, MovesStack, Reads, Sets, Exchanges}
use Rattle.xt_rows.specs.declared.outcome.Outcome.{Outcome}
use Rattle.xt_rows.specs.declared.outcome.Outcome.TheVariants.{Does, Raises, Asks, Stops, Windowed}
use Rattle.xt_rows.specs.Effects.{no_change, window_register, exchanges_special, reads_special, write_to}
use Rattle.xt_rows.specs.Operands.{changes_interrupt, reads, special_reads}
use Rattle.xt_rows.specs.Outcomes.{outcome, outcome_at, system_outcome, value_of}
use Rattle.xt_rows.specs.Settling.{after_flow, settled_interrupt, settled_wait}
use Rattle.xt_map.specs.Code.{AreBytes}
use Rattle.xt_map.specs.Fetching.{Fetched, Fetches, Fails, SpellsNothing, fetch_at}
use Rattle.xt_map.proofs.Fetches.{fetched_range}
use Rattle.xt_exec.specs.State.{State}
use Rattle.xt_exec.specs.Turn.{Planned, turn_or_overflow, outcome_turn, entry_turn, fetched_turn, in_window, is_illegal, moved_stack, overflow, planned_turn, raises, resuming_turn, return_pc, return_size, return_turn, underflow, window_check, window_exception, window_step, window_turn}
use Rattle.xt_timeless.specs.Time.{executes, fetches_time, reads_time, special_without_time, timer_bits, uses_time, without_time}
use Rattle.xt_timeless.specs.Alike.{AreAlike, Clocks, Compare, Difference, Timers, IsRanged, fetches_difference, reads_difference}
use Rattle.xt_timeless.specs.TimeLaws.{AreSame, TimeIsUsedByBoth, TurnsKeepTimeOut}
use Rattle.xt_timeless.proofs.Lists.{alike_sym, cleared_alike, same_cleared}
use Rattle.xt_timeless.proofs.Keeping.{IsKept, kept, kept_effect, kept_exception, kept_flow, kept_interrupt, kept_pending, kept_tick, kept_window, sets_alike, with_special}
use Rattle.xt_timeless.proofs.Same.{AreAlikeOutcomes, outcomes_alike}

-- ---- states

pub record IsKeptState (gap : Difference) (s t : State) : Type 0 where
  pub list : List ℕ
  pub alike : AreAlike gap s.control.special list
  pub is : t ≡ record s { control = with_special s.control list }

kept_state : {gap : Difference} → (s : State) (c d : Control) → IsKept gap c d → IsKeptState gap (record s { control = c }) (record s { control = d })
kept_state s c d k = record { list = k.list; alike = k.alike; is = ap (λ (x : Control). let t : State = record s { control = x } in t) k.is }

pub record AreKept (gap : Difference) (p q : Planned) : Type 0 where
  pub kind : p.kind ≡ q.kind
  pub write : p.write ≡ q.write
  pub access : p.access ≡ q.access
  pub awaited : p.awaited ≡ q.awaited
  pub after : IsKeptState gap p.after q.after

step_kept : {gap : Difference} → (write : Option RegWrite) (s : State) (c d : Control) → IsKept gap c d → AreKept gap (window_step write (record s { control = c })) (window_step write (record s { control = d }))
step_kept write s c d k = record { kind = refl; write = refl; access = refl; awaited = refl; after = kept_state s (after_tick c) (after_tick d) (kept_tick c d k) }

module _ {gap : Difference} (s : State) (ys : List ℕ) (a : AreAlike gap s.control.special ys) where
  falls_kept : (len : ℕ) → IsKept gap (after_flow Falls len s.control) (after_flow Falls len (with_special s.control ys))
  falls_kept len = kept_flow s.control ys a Falls len

  raises_kept : (cause : ℕ) (address : Option ℕ) → IsKeptState gap (record s { control = after_tick (after_exception cause address s.control) }) (record s { control = after_tick (after_exception cause address (with_special s.control ys)) })
  raises_kept cause address = kept_state s _ _ (kept_tick _ _ (kept_exception s.control ys a cause address))

  raised_kept : (cause : ℕ) → AreKept gap (raises cause s) (raises cause (record s { control = with_special s.control ys }))
  raised_kept cause = record { kind = refl; write = refl; access = refl; awaited = refl; after = raises_kept cause None }

  exception_kept : (vector base : ℕ) → AreKept gap (window_exception vector base s) (window_exception vector base (record s { control = with_special s.control ys }))
  exception_kept vector base = record {
    kind = refl;
    write = refl;
    access = refl;
    awaited = refl;
    after = kept_state (record s { base = base }) _ _ (kept_tick _ _ (kept_window s.control ys a s.base vector));
  }

  overflow_kept : (distance : ℕ) → AreKept gap (overflow distance s) (overflow distance (record s { control = with_special s.control ys }))
  unfolding overflow
  overflow_kept distance = exception_kept (2 * (size_at s.start (s.base + distance) - 1)) (base_after_call s.base distance)

  underflow_kept : (size : ℕ) → AreKept gap (underflow size s) (underflow size (record s { control = with_special s.control ys }))
  unfolding underflow
  underflow_kept size = exception_kept (2 * (size - 1) + 1) (base_after_return s.base size)

  -- ---- steps of windows

  entered_kept : (number value len : ℕ) → AreKept gap (entry_turn number value len s) (entry_turn number value len (record s { control = with_special s.control ys }))
  unfolding entry_turn
  entered_kept number value len =
      let base = base_after_call s.base s.control.ps.callinc in
      step_kept (write_to number value) (record s { base = base; start = with_bit s.start base }) _ _ (falls_kept len)

  returned_kept : (a0 : ℕ) → AreKept gap (return_turn a0 s) (return_turn a0 (record s { control = with_special s.control ys }))
  unfolding return_turn
  returned_kept a0 = by_test (bit s.start (base_after_return s.base (return_size a0)))
    where
      back : State → Planned
      back u = window_step None (record u {
        base = base_after_return s.base (return_size a0);
        start = without_bit s.start s.base;
        control = record u.control { pc = return_pc s.control.pc a0 };
      })

      by_test : (b : Bool) → AreKept gap (cond b (back s) (underflow (return_size a0) s))
          (cond b (back (record s { control = with_special s.control ys })) (underflow (return_size a0) (record s { control = with_special s.control ys })))
      by_test true =
          step_kept None (record s { base = base_after_return s.base (return_size a0); start = without_bit s.start s.base }) (record s.control { pc = return_pc s.control.pc a0 }) _
          (kept (record s.control { pc = return_pc s.control.pc a0 }) ys a)
      by_test false = underflow_kept (return_size a0)

  resumed_kept : (start epc1 : ℕ) → AreKept gap (resuming_turn start epc1 s) (resuming_turn start epc1 (record s { control = with_special s.control ys }))
  unfolding resuming_turn
  resumed_kept start epc1 =
      step_kept None (record s { base = s.control.ps.owb; start = start }) (record s.control { pc = epc1; ps = record s.control.ps { excm = false } }) _
      (kept (record s.control { pc = epc1; ps = record s.control.ps { excm = false } }) ys a)

  moved_kept : (number value len : ℕ) → AreKept gap (moved_stack number value len s) (moved_stack number value len (record s { control = with_special s.control ys }))
  unfolding moved_stack
  moved_kept number value len = by_test (eqb (behind s.start s.base) 0)
    where
      moved : Control → Planned
      moved c = window_step (write_to number value) (record s { control = c })

      by_test : (b : Bool)
          → AreKept gap (cond b (raises 5 s) (moved (after_flow Falls len s.control)))
          (cond b (raises 5 (record s { control = with_special s.control ys })) (moved (after_flow Falls len (with_special s.control ys))))
      by_test true = raised_kept 5
      by_test false = step_kept (write_to number value) s _ _ (falls_kept len)

  windowed_kept : (step : WindowStep) (len : ℕ) → AreKept gap (window_turn step len s) (window_turn step len (record s { control = with_special s.control ys }))
  windowed_kept (Enters number value) len = entered_kept number value len
  windowed_kept (Returns a0) len = returned_kept a0
  windowed_kept (EndsOverflow epc1) len = resumed_kept (without_bit s.start s.base) epc1
  windowed_kept (EndsUnderflow epc1) len = resumed_kept (with_bit s.start s.base) epc1
  windowed_kept (Rotates n) len = step_kept None (record s { base = base_rotated s.base n }) _ _ (falls_kept len)
  windowed_kept (MovesStack number value) len = moved_kept number value len
  windowed_kept (Reads window.Base number) len = step_kept (write_to number s.base) s _ _ (falls_kept len)
  windowed_kept (Reads window.Start number) len = step_kept (write_to number s.start) s _ _ (falls_kept len)
  windowed_kept (Sets window.Base value) len = step_kept None (record s { base = value % 2 ^ 4 }) _ _ (falls_kept len)
  windowed_kept (Sets window.Start value) len = step_kept None (record s { start = value % 2 ^ 16 }) _ _ (falls_kept len)
  windowed_kept (Exchanges window.Base number value) len = step_kept (write_to number s.base) (record s { base = value % 2 ^ 4 }) _ _ (falls_kept len)
  windowed_kept (Exchanges window.Start number value) len = step_kept (write_to number s.start) (record s { start = value % 2 ^ 16 }) _ _ (falls_kept len)

  -- ---- outcomes

  does_kept : (e : Effect) (sets : SpecialWrites) (len : ℕ) → AreAlike gap (with_sets e.sets s.control.special) (with_sets sets ys)
      → AreKept gap (outcome_turn (Does e) len s) (outcome_turn (Does (record e { sets = sets })) len (record s { control = with_special s.control ys }))
  does_kept e sets len al = record {
    kind = refl;
    write = refl;
    access = refl;
    awaited = refl;
    after = kept_state s _ _ (kept_tick _ _ (kept_effect e sets len s.control ys al));
  }

  outcome_kept : (o : Outcome) (len : ℕ) → AreKept gap (outcome_turn o len s) (outcome_turn o len (record s { control = with_special s.control ys }))
  outcome_kept (Does e) len = does_kept e e.sets len (sets_alike e.sets s.control.special ys a)
  outcome_kept (Raises cause address) len = record { kind = refl; write = refl; access = refl; awaited = refl; after = raises_kept cause address }
  outcome_kept (Asks access awaited e) len = record {
    kind = refl;
    write = refl;
    access = refl;
    awaited = refl;
    after = kept_state s _ _ (kept_tick _ _ (kept_effect e e.sets len s.control ys (sets_alike e.sets s.control.special ys a)));
  }
  outcome_kept Stops len = record { kind = refl; write = refl; access = refl; awaited = refl; after = kept_state s _ _ (kept_tick _ _ (kept s.control ys a)) }
  outcome_kept (Windowed step) len = windowed_kept step len

  done_kept : (o p : Outcome) (len : ℕ) → AreAlikeOutcomes gap s.control.special ys o p → AreKept gap (outcome_turn o len s) (outcome_turn p len (record s { control = with_special s.control ys }))
  done_kept o p len h =
      ⊎_elim
      (λ (e : o ≡ p). subst (λ (q : Outcome). AreKept gap (outcome_turn o len s) (outcome_turn q len (record s { control = with_special s.control ys }))) e (outcome_kept o len))
      (λ (d : (e : Effect) × (sets : SpecialWrites) × (o ≡ Does e) × (p ≡ Does (record e { sets = sets })) × AreAlike gap (with_sets e.sets s.control.special) (with_sets sets ys)).
      subst (λ (q : Outcome). AreKept gap (outcome_turn q len s) (outcome_turn p len (record s { control = with_special s.control ys }))) (sym d.2)
      (subst (λ (q : Outcome). AreKept gap (outcome_turn (Does d.0) len s) (outcome_turn q len (record s { control = with_special s.control ys }))) (sym d.3) (does_kept d.0 d.1 len d.4)))
      h

-- ---- an instruction that reads a register of time is executed, where it comes to that

pub time_kind : (code : ℕ → ℕ) (i : Insn) (registers : ℕ → ℕ) (c : Control) (len : ℕ) (s : State) → reads_time i ≡ true → (outcome_turn (outcome_at code i registers c) len s).kind ≡ kind.Insn
unfolding outcome system_outcome special_reads
time_kind code (insn.System (system.Special SpecialName.Rsr t n)) registers c len s h = by_register (window_register n)
  where
    by_register : (r : Option WindowRegister) → (outcome_turn (reads_special r t n (value_of (special_of c) (Some n)) (no_change c.ps c.threadptr)) len s).kind ≡ kind.Insn
    by_register None = refl
    by_register (Some w) = refl
time_kind code (insn.System (system.Special SpecialName.Xsr t n)) registers c len s h = by_register (window_register n)
  where
    i : Insn
    i = insn.System (system.Special SpecialName.Xsr t n)

    by_register : (r : Option WindowRegister)
        → (outcome_turn (exchanges_special r t n (value_of registers (reads i).0) (value_of (special_of c) (Some n)) (value_of (special_of c) (changes_interrupt n)) (no_change c.ps c.threadptr)) len s).kind ≡ kind.Insn
    by_register None = refl
    by_register (Some w) = refl
time_kind code _ registers c len s h = absurd (true≢false (sym h))

-- ---- the stages of a turn

-- both execute an instruction, if they read time
abbrev pub AreExecuted : Difference → Planned → Planned → Type 0
AreExecuted Timers p q = (p.kind ≡ kind.Insn) × (q.kind ≡ kind.Insn)
AreExecuted Clocks p q = (p.kind ≡ kind.Insn) × (q.kind ≡ kind.Insn)
AreExecuted Compare p q = Unit {0}

-- the turns are the same but for what may differ, or an instruction is executed that reads it
abbrev pub Stage : Difference → Bool → Planned → Planned → Type 0
Stage gap reads p q = AreKept gap p q ⊎ (AreExecuted gap p q × (reads ≡ true))

illegal_same : (i : Insn) (s : State) (ys : List ℕ) → is_illegal i s ≡ is_illegal i (record s { control = with_special s.control ys })
unfolding is_illegal
illegal_same (insn.Control (control.Entry number size)) s ys = refl
illegal_same (insn.Control (control.Return ReturnName.Retw)) s ys = refl
illegal_same (insn.Density (density.Bare BareName.Retw)) s ys = refl
illegal_same _ s ys = refl

module _ {gap : Difference} (code : ℕ → ℕ) (s : State) (ys : List ℕ) (a : AreAlike gap s.control.special ys) where
  executed : (by : Difference) (i : Insn) (len : ℕ) → reads_difference by i ≡ true
      → AreExecuted by (outcome_turn (outcome_at code i (visible s.regs s.base) s.control) len s)
      (outcome_turn (outcome_at code i (visible s.regs s.base) (with_special s.control ys)) len (record s { control = with_special s.control ys }))
  executed Timers i len h =
      (time_kind code i (visible s.regs s.base) s.control len s h, time_kind code i (visible s.regs s.base) (with_special s.control ys) len (record s { control = with_special s.control ys }) h)
  executed Clocks i len h =
      (time_kind code i (visible s.regs s.base) s.control len s h, time_kind code i (visible s.regs s.base) (with_special s.control ys) len (record s { control = with_special s.control ys }) h)
  executed Compare i len h = tt

  done_stage : (i : Insn) (len : ℕ) (b : Bool) → reads_difference gap i ≡ b → IsRanged gap i
      → Stage gap b (outcome_turn (outcome_at code i (visible s.regs s.base) s.control) len s)
      (outcome_turn (outcome_at code i (visible s.regs s.base) (with_special s.control ys)) len (record s { control = with_special s.control ys }))
  done_stage i len false h ok =
      inl (done_kept s ys a (outcome_at code i (visible s.regs s.base) s.control) (outcome_at code i (visible s.regs s.base) (with_special s.control ys)) len
      (outcomes_alike code (visible s.regs s.base) s.control ys a i ok h))
  done_stage i len true h ok = inr (executed gap i len h, refl)

  checked_stage : (distance : ℕ) (i : Insn) (len : ℕ) → IsRanged gap i → Stage gap (reads_difference gap i) (turn_or_overflow distance code i len s) (turn_or_overflow distance code i len (record s { control = with_special s.control ys }))
  checked_stage zero i len ok = done_stage i len (reads_difference gap i) refl ok
  checked_stage (suc distance) i len ok = inl (overflow_kept s ys a (suc distance))

  fetched_stage : (f : Fetched) → ((i : Insn) (len : ℕ) → f ≡ Fetches i len → IsRanged gap i)
      → Stage gap (fetches_difference gap f) (fetched_turn f code s) (fetched_turn f code (record s { control = with_special s.control ys }))
  fetched_stage (Fails address) ok = inl (record { kind = refl; write = refl; access = refl; awaited = refl; after = raises_kept s ys a 2 (Some address) })
  fetched_stage SpellsNothing ok = inl (raised_kept s ys a 0)
  fetched_stage (Fetches i len) ok =
      subst (λ (b : Bool). Stage gap (reads_difference gap i) (choice (is_illegal i s) s) (choice b (record s { control = with_special s.control ys }))) (illegal_same i s ys) (by_test (is_illegal i s))
    where
      choice : Bool → State → Planned
      choice b u = cond b (raises 0 u) (turn_or_overflow (window_check i s) code i len u)

      by_test : (b : Bool) → Stage gap (reads_difference gap i) (choice b s) (choice b (record s { control = with_special s.control ys }))
      by_test true = inl (raised_kept s ys a 0)
      by_test false = checked_stage (window_check i s) i len (ok i len refl)

  pub planned_stage : ((i : Insn) (len : ℕ) → fetch_at code s.control.pc ≡ Fetches i len → IsRanged gap i) → pending_of s.control ≡ pending_of (with_special s.control ys)
      → Stage gap (fetches_difference gap (fetch_at code s.control.pc)) (planned_turn code s) (planned_turn code (record s { control = with_special s.control ys }))
  unfolding planned_turn
  planned_stage ranged same =
      subst (λ (l : ℕ). Stage gap time (body (pending_of s.control) s) (body l (record s { control = with_special s.control ys }))) same
      (by_tests (nat_lt 0 (pending_of s.control)) s.control.waits)
    where
      time : Bool
      time = fetches_difference gap (fetch_at code s.control.pc)

      choice : Bool → Bool → ℕ → State → Planned
      choice b w l u = cond b (in_window (settled_interrupt l u.control) u) (cond w (in_window (settled_wait u.control) u) (fetched_turn (fetch_at code s.control.pc) code u))

      body : ℕ → State → Planned
      body l u = choice (nat_lt 0 l) s.control.waits l u

      by_tests : (b w : Bool) → Stage gap time (choice b w (pending_of s.control) s) (choice b w (pending_of s.control) (record s { control = with_special s.control ys }))
      by_tests true w = inl (record {
        kind = refl;
        write = refl;
        access = refl;
        awaited = refl;
        after = kept_state s _ _ (kept_tick _ _ (kept_interrupt s.control ys a (pending_of s.control)));
      })
      by_tests false true = inl (record { kind = refl; write = refl; access = refl; awaited = refl; after = kept_state s _ _ (kept_tick _ _ (kept s.control ys a)) })
      by_tests false false = fetched_stage (fetch_at code s.control.pc) ranged

-- ---- time is left out

kept_same : (p q : Planned) → AreKept Clocks p q → AreSame p q
kept_same p q k =
    let list = k.after.list in
    let put : List ℕ → State = λ l. record p.after { control = with_special p.after.control l } in
    record {
      kind = k.kind;
      write = k.write;
      access = k.access;
      awaited = k.awaited;
      after = ap put (same_cleared p.after.control.special list k.after.alike) ∙ sym (ap without_time k.after.is);
    }

same_sym : (p q : Planned) → AreSame p q → AreSame q p
same_sym p q h = record { kind = sym h.kind; write = sym h.write; access = sym h.access; awaited = sym h.awaited; after = sym h.after }

same_trans : (p q r : Planned) → AreSame p q → AreSame q r → AreSame p r
same_trans p q r h k = record { kind = h.kind ∙ k.kind; write = h.write ∙ k.write; access = h.access ∙ k.access; awaited = h.awaited ∙ k.awaited; after = h.after ∙ k.after }

-- a state beside the same without time
module _ (code : ℕ → ℕ) (bytes : AreBytes code) (s : State) where
  cleared : AreAlike Clocks s.control.special (special_without_time s.control.special)
  cleared = alike_sym (special_without_time s.control.special) s.control.special (cleared_alike s.control.special)

  both_use : (b : Bool) → eqb (bit_and (special_of s.control 228) timer_bits) 0 ≡ b → uses_time code s ≡ uses_time code (without_time s)
  both_use b h =
      let e : bit_and (special_of s.control 228) timer_bits ≡ bit_and (special_of (without_time s).control 228) timer_bits = ap (λ (v : ℕ). bit_and v timer_bits) (cleared.same 228 refl) in
      ap (λ (v : ℕ). not (eqb v 0) || (executes (planned_turn code s).kind && f)) e ∙ by_test b (ap (λ (v : ℕ). eqb v 0) (sym e) ∙ h)
    where
      f : Bool
      f = fetches_time (fetch_at code s.control.pc)

      m : Bool
      m = eqb (bit_and (special_of (without_time s).control 228) timer_bits) 0

      kinds : Stage Clocks f (planned_turn code s) (planned_turn code (without_time s)) → (executes (planned_turn code s).kind && f) ≡ (executes (planned_turn code (without_time s)).kind && f)
      kinds st = ⊎_elim
          (λ (k : AreKept Clocks (planned_turn code s) (planned_turn code (without_time s))). ap (λ (d : StepKind). executes d && f) k.kind)
          (λ (k : AreExecuted Clocks (planned_turn code s) (planned_turn code (without_time s)) × (f ≡ true)). ap (λ (d : StepKind). executes d && f) (k.0.0 ∙ sym k.0.1))
          st

      by_test : (b : Bool) → m ≡ b → (not m || (executes (planned_turn code s).kind && f)) ≡ (not m || (executes (planned_turn code (without_time s)).kind && f))
      by_test true g =
          let none = eqb-true (bit_and (special_of s.control 228) timer_bits) 0 (ap (λ (v : ℕ). eqb (bit_and v timer_bits) 0) (cleared.same 228 refl) ∙ g) in
          ap (λ (z : Bool). not m || z) (kinds (planned_stage code s (special_without_time s.control.special) cleared (λ i len e. fetched_range code s.control.pc i len bytes e) (kept_pending s.control (special_without_time s.control.special) cleared none)))
      by_test false g = ap (λ (k : Bool). not k || (executes (planned_turn code s).kind && f)) g ∙ sym (ap (λ (k : Bool). not k || (executes (planned_turn code (without_time s)).kind && f)) g)

  pub uses_alike : uses_time code s ≡ uses_time code (without_time s)
  uses_alike = both_use (eqb (bit_and (special_of s.control 228) timer_bits) 0) refl

  pub turns_alike : uses_time code s ≡ false → AreSame (planned_turn code s) (planned_turn code (without_time s))
  turns_alike free =
      let parts = or_parts (not (eqb (bit_and (special_of s.control 228) timer_bits) 0)) (executes (planned_turn code s).kind && fetches_time (fetch_at code s.control.pc)) free in
      let none = eqb-true (bit_and (special_of s.control 228) timer_bits) 0 (not_false (eqb (bit_and (special_of s.control 228) timer_bits) 0) parts.0) in
      ⊎_elim
      (λ (k : AreKept Clocks (planned_turn code s) (planned_turn code (without_time s))). kept_same (planned_turn code s) (planned_turn code (without_time s)) k)
      (λ (k : AreExecuted Clocks (planned_turn code s) (planned_turn code (without_time s)) × (fetches_time (fetch_at code s.control.pc) ≡ true)).
      let g : true ≡ false = sym (λ i. executes (k.0.0 i) && k.1 i) ∙ parts.1 in
      absurd (true≢false g))
      (planned_stage code s (special_without_time s.control.special) cleared (λ i len e. fetched_range code s.control.pc i len bytes e) (kept_pending s.control (special_without_time s.control.special) cleared none))
    where
      not_false : (b : Bool) → not b ≡ false → b ≡ true
      not_false true h = refl
      not_false false h = absurd (true≢false h)

pub time_is_used_by_both : TimeIsUsedByBoth
time_is_used_by_both code s t bytes e = uses_alike code bytes s ∙ ap (uses_time code) e ∙ sym (uses_alike code bytes t)

pub turns_keep_time_out : TurnsKeepTimeOut
turns_keep_time_out code s t bytes e free =
    let free_t = sym (time_is_used_by_both code s t bytes e) ∙ free in
    let left = turns_alike code bytes s free in
    let right = same_sym (planned_turn code t) (planned_turn code (without_time t)) (turns_alike code bytes t free_t) in
    same_trans (planned_turn code s) (planned_turn code (without_time s)) (planned_turn code t) left
    (subst (λ (u : State). AreSame (planned_turn code u) (planned_turn code t)) (sym e) right)
