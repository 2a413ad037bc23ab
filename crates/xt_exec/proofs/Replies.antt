-- A turn that asks for no access awaits no reply.
use Rattle.std.proofs.Common.{◌≡◌, ℕ, zero, suc, Bool, true, false, cond, eqb, nat_lt, Option, Some, None, refl}
use Rattle.xt_isa.specs.declared.Insn.{Insn}
use Rattle.xt_map.specs.declared.access.Access.{Access}
use Rattle.xt_special.specs.Interrupts.{pending_of}
use Rattle.xt_trace.specs.declared.record.StepRecord.{StepRecord}
use Rattle.xt_window.specs.Ring.{visible, bit, without_bit}
use Rattle.xt_window.specs.Moves.{base_after_return, behind}
use Rattle.xt_rows.specs.declared.outcome.ReplyTarget.{ReplyTarget}
use Rattle.xt_rows.specs.declared.outcome.WindowStep.{WindowStep}
use Rattle.xt_rows.specs.declared.outcome.WindowStep.TheVariants.{Enters, Returns, EndsOverflow, EndsUnderflow, Rotates, MovesStack, Reads, Sets, Exchanges}
use Rattle.xt_rows.specs.declared.outcome.Outcome.{Outcome}
use Rattle.xt_rows.specs.declared.outcome.Outcome.TheVariants.{Does, Raises, Asks, Stops, Windowed}
use Rattle.xt_map.specs.Fetching.{Fetched, Fetches, Fails, SpellsNothing, fetch_at}
use Rattle.xt_rows.specs.Effects.{illegal_instruction, no_caller_window, write_to}
use Rattle.xt_rows.specs.Outcomes.{outcome_at}
use Rattle.xt_rows.specs.Settling.{settled_interrupt, settled_wait}
use Rattle.xt_special.specs.Control.{special_of}
use Rattle.xt_special.specs.Numbers as number
use Rattle.xt_exec.specs.State.{State}
use Rattle.xt_exec.specs.Turn.{Planned, planned_turn, demand, turn, in_window, raises, overflow, underflow, entry_turn, return_turn, resuming_turn, moved_stack, window_turn, outcome_turn, turn_or_overflow, is_illegal, window_check, fetched_turn, window_step, fall_through, return_size, return_pc, write_with_reply, with_write, reply_where}

abbrev Awaits : Planned → Type 0
Awaits p = p.access ≡ None → p.awaited ≡ None

returned_awaits : (a0 : ℕ) (s : State) → Awaits (return_turn a0 s)
unfolding return_turn underflow
returned_awaits a0 s = by_test (bit s.start (base_after_return s.base (return_size a0)))
  where
    by_test : (b : Bool) → Awaits (cond b (window_step None (record s { base = base_after_return s.base (return_size a0); start = without_bit s.start s.base; control = record s.control { pc = return_pc s.control.pc a0 } })) (underflow (return_size a0) s))
    by_test true none = refl
    by_test false none = refl

moved_awaits : (number value len : ℕ) (s : State) → Awaits (moved_stack number value len s)
unfolding moved_stack
moved_awaits number value len s = by_test (eqb (behind s.start s.base) 0)
  where
    by_test : (b : Bool) → Awaits (cond b (raises no_caller_window s) (window_step (write_to number value) (fall_through len s)))
    by_test true none = refl
    by_test false none = refl

windowed_awaits : (w : WindowStep) (len : ℕ) (s : State) → Awaits (window_turn w len s)
unfolding entry_turn resuming_turn
windowed_awaits (Enters number value) len s none = refl
windowed_awaits (Returns a0) len s none = returned_awaits a0 s none
windowed_awaits (EndsOverflow epc1) len s none = refl
windowed_awaits (EndsUnderflow epc1) len s none = refl
windowed_awaits (Rotates n) len s none = refl
windowed_awaits (MovesStack number value) len s none = moved_awaits number value len s none
windowed_awaits (Reads register number) len s none = refl
windowed_awaits (Sets register value) len s none = refl
windowed_awaits (Exchanges register number value) len s none = refl

done_awaits : (o : Outcome) (len : ℕ) (s : State) → Awaits (outcome_turn o len s)
done_awaits (Does e) len s none = refl
done_awaits (Raises cause address) len s none = refl
done_awaits (Asks access awaited e) len s none = absurd cc
done_awaits Stops len s none = refl
done_awaits (Windowed w) len s none = windowed_awaits w len s none

checked_awaits : (distance : ℕ) (code : ℕ → ℕ) (i : Insn) (len : ℕ) (s : State) → Awaits (turn_or_overflow distance code i len s)
unfolding overflow
checked_awaits zero code i len s none = done_awaits (outcome_at code i (visible s.regs s.base) s.control) len s none
checked_awaits (suc distance) code i len s none = refl

fetched_awaits : (f : Fetched) (code : ℕ → ℕ) (s : State) → Awaits (fetched_turn f code s)
fetched_awaits (Fails address) code s none = refl
fetched_awaits SpellsNothing code s none = refl
fetched_awaits (Fetches i len) code s none = by_test (is_illegal i s) none
  where
    by_test : (b : Bool) → Awaits (cond b (raises illegal_instruction s) (turn_or_overflow (window_check i s) code i len s))
    by_test true none = refl
    by_test false none = checked_awaits (window_check i s) code i len s none

planned_awaits : (code : ℕ → ℕ) (s : State) → Awaits (planned_turn code s)
unfolding planned_turn
planned_awaits code s = by_tests (nat_lt 0 (pending_of s.control)) s.control.waits
  where
    by_tests : (b c : Bool) → Awaits (cond b (in_window (settled_interrupt (pending_of s.control) s.control) s) (cond c (in_window (settled_wait s.control) s) (fetched_turn (fetch_at code s.control.pc) code s)))
    by_tests true c none = refl
    by_tests false true none = refl
    by_tests false false none = fetched_awaits (fetch_at code s.control.pc) code s none

-- a turn, by what it awaits and asks for
abbrev made : Planned → State → Option ReplyTarget → Option Access → ℕ → StepRecord × State
made p s awaited access reply =
    let write = write_with_reply p.write awaited reply in (
      record {
        pc = s.control.pc;
        kind = p.kind;
        write = write;
        access = access;
        reply = reply_where access reply;
        ccount = special_of s.control number.ccount;
        owb = s.control.ps.owb;
        interrupt = special_of s.control number.interrupt;
      },
      with_write write p.after,
    )

no_reply : (p : Planned) (s : State) (a b : ℕ) (awaited : Option ReplyTarget) (access : Option Access) → awaited ≡ None → access ≡ None
    → made p s awaited access a ≡ made p s awaited access b
no_reply p s a b None None e f = refl
no_reply p s a b (Some w) access e f = absurd cc
no_reply p s a b None (Some x) e f = absurd cc

pub ignored : (code : ℕ → ℕ) (s : State) (a b : ℕ) → demand code s ≡ None → turn code s a ≡ turn code s b
unfolding turn demand
ignored code s a b none =
    no_reply (planned_turn code s) s a b (planned_turn code s).awaited (planned_turn code s).access (planned_awaits code s none) none
