-- What EPC1 holds after a turn that enters a vector of level 1.
use Rattle.std.proofs.Common.{◌≡◌, ◌≢◌, ℕ, zero, suc, ◌+◌, ◌-◌, ◌*◌, ◌%◌, ◌^◌, ◌<◌, Bool, true}
use Rattle.std.proofs.Common.{false, cond, eqb, nat_lt, not, ◌&&◌, Option, Some, None, List, length}
use Rattle.std.proofs.Common.{slice_index, slice_set, bit_or, refl, sym, ap, ◌∙◌, subst, arith}
use Rattle.std.proofs.lemmas.Bool.{and_parts, eqb-true, true≢false}
use Rattle.std.proofs.lemmas.List.{get_or-set_other, get_or-set_same, length-set}
use Rattle.xt_isa.specs.declared.Insn.{Insn}
use Rattle.xt_special.specs.declared.ps.Ps.{Ps}
use Rattle.xt_special.specs.Control.{Control, special_of}
use Rattle.xt_special.specs.Timers.{after_tick, ticked_special, with_timer}
use Rattle.xt_special.specs.Exceptions.{after_double, after_exception, after_general, with_address}
use Rattle.xt_special.specs.Interrupts.{after_high_level, after_interrupt, pending_of}
use Rattle.xt_window.specs.Ring.{bit, size_at, visible, with_bit, without_bit}
use Rattle.xt_window.specs.Moves.{base_after_call, base_after_return, behind}
use Rattle.xt_trace.specs.declared.record.StepKind.{StepKind}
use Rattle.xt_trace.specs.declared.record.StepKind.TheVariants as kind
use Rattle.xt_trace.specs.declared.record.RegWrite.{RegWrite}
use Rattle.xt_map.specs.Fetching.{Fetched, Fetches, Fails, SpellsNothing, fetch_at}
use Rattle.xt_rows.specs.declared.outcome.WindowRegister.TheVariants as window
use Rattle.xt_rows.specs.declared.outcome.WindowStep.{WindowStep}
use Rattle.xt_rows.specs.declared.outcome.WindowStep.TheVariants.{Enters, Returns, EndsOverflow}
use Rattle.xt_rows.specs.declared.outcome.WindowStep.TheVariants.{EndsUnderflow, Rotates}
use Rattle.xt_rows.specs.declared.outcome.WindowStep.TheVariants.{MovesStack, Reads, Sets}
use Rattle.xt_rows.specs.declared.outcome.WindowStep.TheVariants.{Exchanges}
use Rattle.xt_rows.specs.declared.outcome.Outcome.{Outcome}
use Rattle.xt_rows.specs.declared.outcome.Outcome.TheVariants.{Does, Raises, Asks, Stops, Windowed}
use Rattle.xt_rows.specs.Effects.{write_to}
use Rattle.xt_rows.specs.Outcomes.{outcome_at}
use Rattle.xt_rows.specs.Settling.{settled_interrupt, settled_wait}
use Rattle.xt_moments.specs.MomentLaws.{enters}
use Rattle.xt_exec.specs.State.{State}
use Rattle.xt_exec.specs.Turn.{Planned, entry_turn, fall_through, fetched_turn, in_window}
use Rattle.xt_exec.specs.Turn.{is_illegal, moved_stack, outcome_turn, overflow, planned_turn}
use Rattle.xt_exec.specs.Turn.{raises, resuming_turn, return_turn, return_size, turn}
use Rattle.xt_exec.specs.Turn.{turn_or_overflow, return_pc, underflow, window_check}
use Rattle.xt_exec.specs.Turn.{window_exception, window_step, window_turn, with_write}
use Rattle.xt_exec.specs.Turn.{write_with_reply}

-- ---- the tick

timer_at : (timer mask : ℕ) (xs : List ℕ) → slice_index (with_timer timer mask xs) 177
    ≡ slice_index xs 177
timer_at timer mask xs = by_test (eqb (slice_index xs (240 + timer)) (slice_index xs 234))
  where
    by_test : (b : Bool) → slice_index (cond b (slice_set xs 226 (bit_or
        (slice_index xs 226) mask)) xs) 177 ≡ slice_index xs 177
    by_test true = get_or-set_other xs 226 177 (bit_or (slice_index xs 226) mask) 0 (λ e. omega
        (arith, e))
    by_test false = refl

ticked_at : (xs : List ℕ) → slice_index (ticked_special xs) 177 ≡ slice_index xs 177
unfolding ticked_special
ticked_at xs =
    let counted = slice_set xs 234 ((slice_index xs 234 + 1) % 2 ^ 32) in
    let one = with_timer 0 (2 ^ 6) counted in
    let two = with_timer 1 (2 ^ 15) one in
    timer_at 2 (2 ^ 16) two ∙ timer_at 1 (2 ^ 15) one ∙ timer_at 0 (2 ^ 6) counted
    ∙ get_or-set_other xs 234 177 ((slice_index xs 234 + 1) % 2 ^ 32) 0 (λ e. omega (arith, e))

-- ---- entries

put_at : (xs : List ℕ) (pc : ℕ) → 177 < length xs → slice_index (slice_set xs 177 pc) 177 ≡ pc
put_at xs pc long = get_or-set_same xs 177 pc 0 long

address_at : (address : Option ℕ) (xs : List ℕ) → slice_index (with_address address xs) 177
    ≡ slice_index xs 177
address_at None xs = refl
address_at (Some x) xs = get_or-set_other xs 238 177 x 0 (λ e. omega (arith, e))

entered_at : (cause : ℕ) (address : Option ℕ) (xs : List ℕ) (pc : ℕ) → 177 < length xs
    → slice_index (with_address address (slice_set (slice_set xs 177 pc) 232 cause)) 177 ≡ pc
entered_at cause address xs pc long =
    address_at address (slice_set (slice_set xs 177 pc) 232 cause)
    ∙ get_or-set_other (slice_set xs 177 pc) 232 177 cause 0 (λ e. omega (arith, e))
    ∙ put_at xs pc long

module _ (c : Control) (long : 177 < length c.special) (plain : c.ps.excm ≡ false) where
  pub exception_at : (cause : ℕ) (address : Option ℕ) → slice_index
      (after_exception cause address c).special 177 ≡ c.pc
  unfolding after_exception
  exception_at cause address =
      ap (λ (b : Bool). special_of (cond b (after_double cause address c)
      (after_general cause address c)) 177) plain
      ∙ entered_at cause address c.special c.pc long

  interrupt_at : (level : ℕ) → eqb level 1 ≡ true → slice_index
      (after_interrupt level c).special 177 ≡ c.pc
  unfolding after_interrupt
  interrupt_at level one =
      ap (λ (b : Bool). special_of (cond b (after_exception 4 None c)
      (after_high_level level c)) 177) one
      ∙ exception_at 4 None

-- ---- a turn

not_true : (b : Bool) → not b ≡ true → b ≡ false
not_true true e = sym e
not_true false e = refl

module _ (s : State) (long : 177 < length s.control.special) where
  -- if it is such a turn
  abbrev Puts : Planned → Type 0
  Puts p = enters p.kind s.control.ps ≡ true → special_of p.after.control 177 ≡ s.control.pc

  never : (p : Planned) → enters p.kind s.control.ps ≡ false → Puts p
  never p none e = absurd (true≢false (sym e ∙ none))

  raised : (cause : ℕ) (address : Option ℕ) (p : Planned) → p.kind ≡ kind.Exc cause
      → p.after.control.special ≡ ticked_special (after_exception cause address s.control).special
      → Puts p
  raised cause address p is after e =
      let plain = not_true s.control.ps.excm (sym (ap (λ (k : StepKind). enters k s.control.ps) is)
      ∙ e) in
      ap (λ (l : List ℕ). slice_index l 177) after ∙ ticked_at
      (after_exception cause address s.control).special ∙ exception_at s.control long plain
      cause address

  raises_puts : (cause : ℕ) → Puts (raises cause s)
  raises_puts cause = raised cause None (raises cause s) refl refl

  window_puts : (vector base : ℕ) → Puts (window_exception vector base s)
  window_puts vector base e = ticked_at (slice_set s.control.special 177 s.control.pc)
      ∙ put_at s.control.special s.control.pc long

  overflow_puts : (distance : ℕ) → Puts (overflow distance s)
  unfolding overflow
  overflow_puts distance = window_puts (2 * (size_at s.start (s.base + distance) - 1))
      (base_after_call s.base distance)

  underflow_puts : (size : ℕ) → Puts (underflow size s)
  unfolding underflow
  underflow_puts size = window_puts (2 * (size - 1) + 1) (base_after_return s.base size)

  return_puts : (a0 : ℕ) → Puts (return_turn a0 s)
  unfolding return_turn
  return_puts a0 = by_test (bit s.start (base_after_return s.base (return_size a0)))
    where
      back : Planned
      back = window_step None (record s {
        base = base_after_return s.base (return_size a0);
        start = without_bit s.start s.base;
        control = record s.control { pc = return_pc s.control.pc a0 };
      })

      by_test : (b : Bool) → Puts (cond b back (underflow (return_size a0) s))
      by_test true = never back refl
      by_test false = underflow_puts (return_size a0)

  moved_puts : (number value len : ℕ) → Puts (moved_stack number value len s)
  unfolding moved_stack
  moved_puts number value len = by_test (eqb (behind s.start s.base) 0)
    where
      by_test : (b : Bool) → Puts (cond b (raises 5 s) (window_step (write_to number value)
          (fall_through len s)))
      by_test true = raises_puts 5
      by_test false = never (window_step (write_to number value) (fall_through len s)) refl

  entry_puts : (number value len : ℕ) → Puts (entry_turn number value len s)
  unfolding entry_turn
  entry_puts number value len =
      let base = base_after_call s.base s.control.ps.callinc in
      never (window_step (write_to number value) (record (fall_through len s) {
        base = base;
        start
            = with_bit s.start base;
      })) refl

  resuming_puts : (start epc1 : ℕ) → Puts (resuming_turn start epc1 s)
  unfolding resuming_turn
  resuming_puts start epc1 =
      never (window_step None (record s {
        base = s.control.ps.owb;
        start = start;
        control = record s.control { pc = epc1; ps = record s.control.ps { excm = false } };
      })) refl

  windowed_puts : (step : WindowStep) (len : ℕ) → Puts (window_turn step len s)
  windowed_puts (Enters number value) len = entry_puts number value len
  windowed_puts (Returns a0) len = return_puts a0
  windowed_puts (EndsOverflow epc1) len = resuming_puts (without_bit s.start s.base) epc1
  windowed_puts (EndsUnderflow epc1) len = resuming_puts (with_bit s.start s.base) epc1
  windowed_puts (Rotates n) len = never (window_turn (Rotates n) len s) refl
  windowed_puts (MovesStack number value) len = moved_puts number value len
  windowed_puts (Reads register number) len = never (window_turn (Reads register number) len s) refl
  windowed_puts (Sets register value) len = never (window_turn (Sets register value) len s) refl
  windowed_puts (Exchanges register number value) len = never (window_turn
      (Exchanges register number value) len s) refl

  outcome_puts : (o : Outcome) (len : ℕ) → Puts (outcome_turn o len s)
  outcome_puts (Does e) len = never (outcome_turn (Does e) len s) refl
  outcome_puts (Raises cause address) len = raised cause address (outcome_turn
      (Raises cause address) len s) refl refl
  outcome_puts (Asks access awaited e) len = never (outcome_turn (Asks access awaited e) len s) refl
  outcome_puts Stops len = never (outcome_turn Stops len s) refl
  outcome_puts (Windowed step) len = windowed_puts step len

  module _ (code : ℕ → ℕ) where
    checked_puts : (distance : ℕ) (i : Insn) (len : ℕ) → Puts
        (turn_or_overflow distance code i len s)
    checked_puts zero i len = outcome_puts (outcome_at code i (visible s.regs s.base) s.control) len
    checked_puts (suc distance) i len = overflow_puts (suc distance)

    fetched_puts : (f : Fetched) → Puts (fetched_turn f code s)
    fetched_puts (Fails address) = raised 2 (Some address) (fetched_turn
        (Fails address) code s) refl refl
    fetched_puts SpellsNothing = raises_puts 0
    fetched_puts (Fetches i len) = by_test (is_illegal i s)
      where
        by_test : (b : Bool) → Puts (cond b (raises 0 s) (turn_or_overflow
            (window_check i s) code i len s))
        by_test true = raises_puts 0
        by_test false = checked_puts (window_check i s) i len

    planned_puts : Puts (planned_turn code s)
    unfolding planned_turn
    planned_puts = by_tests (nat_lt 0 (pending_of s.control)) s.control.waits
      where
        level : ℕ
        level = pending_of s.control

        taken : Puts (in_window (settled_interrupt (pending_of s.control) s.control) s)
        taken e =
            let parts = and_parts (eqb (pending_of s.control) 1) (not s.control.ps.excm) e in
            ticked_at (after_interrupt (pending_of s.control) s.control).special
            ∙ interrupt_at s.control long (not_true s.control.ps.excm parts.1)
            (pending_of s.control) parts.0

        by_tests : (b w : Bool)
            → Puts (cond b (in_window (settled_interrupt (pending_of s.control) s.control) s)
            (cond w (in_window (settled_wait s.control) s) (fetched_turn
            (fetch_at code s.control.pc) code s)))
        by_tests true w = taken
        by_tests false true = never (in_window (settled_wait s.control) s) refl
        by_tests false false = fetched_puts (fetch_at code s.control.pc)

    written_at : (w : Option RegWrite) (u : State) → special_of (with_write w u).control 177
        ≡ special_of u.control 177
    written_at None u = refl
    written_at (Some w) u = refl

    -- where a turn enters a vector of level 1, EPC1 is its program counter
    pub turn_puts : (reply : ℕ) → enters (planned_turn code s).kind s.control.ps ≡ true
        → special_of (turn code s reply).1.control 177 ≡ s.control.pc
    unfolding turn
    turn_puts reply e =
        written_at (write_with_reply (planned_turn code s).write
        (planned_turn code s).awaited reply) (planned_turn code s).after ∙ planned_puts e
