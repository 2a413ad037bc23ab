-- What a turn asks for is an access that the bus serves.
use Rattle.std.proofs.Common.{ℕ, zero, suc, Bool, true, false, cond, eqb, ltb}
use Rattle.xt_isa.specs.declared.Insn.{Insn}
use Rattle.xt_special.specs.Interrupts.{pending_of}
use Rattle.xt_window.specs.Ring.{visible, bit}
use Rattle.xt_window.specs.Moves.{base_after_return, behind}
use Rattle.xt_rows.specs.declared.outcome.Outcome.{Outcome}
use Rattle.xt_rows.specs.declared.outcome.Outcome.TheVariants.{Does, Raises, Asks, Stops, Windowed}
use Rattle.xt_rows.specs.declared.outcome.WindowStep.TheVariants.{Enters, Returns, EndsOverflow, EndsUnderflow, Rotates, MovesStack, Reads, Sets, Exchanges}
use Rattle.xt_map.specs.Fetching.{Fetched, Fetches, Fails, SpellsNothing, fetch_at}
use Rattle.xt_rows.specs.Effects.{write_to, no_caller_window, illegal_instruction}
use Rattle.xt_rows.specs.Kinds.{Fits}
use Rattle.xt_rows.specs.Outcomes.{outcome_at}
use Rattle.xt_rows.specs.Settling.{settled_interrupt, settled_wait}
use Rattle.xt_rows.proofs.Fitting.{outcome_fits}
use Rattle.xt_exec.specs.State.{State}
use Rattle.xt_exec.specs.TurnLaws.{IsServed, DemandsAreServed}
use Rattle.xt_exec.specs.Turn.{Planned, planned_turn, demand, in_window, raises, overflow, underflow, window_step, entry_turn, return_turn, resuming_turn, moved_stack, return_size, fall_through, is_illegal, window_check, outcome_turn, turn_or_overflow, fetched_turn}

if_served : (b : Bool) (p q : Planned) → IsServed p.access → IsServed q.access → IsServed (cond b p q).access
if_served true p q x y = x
if_served false p q x y = y

overflow_served : (k : ℕ) (s : State) → IsServed (overflow k s).access
unfolding overflow
overflow_served k s = tt

done_served : (i : Insn) (o : Outcome) (len : ℕ) (s : State) → Fits i o → IsServed (outcome_turn o len s).access
unfolding entry_turn return_turn resuming_turn moved_stack underflow
done_served i (Does e) len s f = tt
done_served i (Raises cause addr) len s f = tt
done_served i (Asks access awaited e) len s f = f.3
done_served i Stops len s f = tt
done_served i (Windowed (Enters number value)) len s f = tt
done_served i (Windowed (Returns a0)) len s f = if_served (bit s.start (base_after_return s.base (return_size a0))) _ _ tt tt
done_served i (Windowed (EndsOverflow epc1)) len s f = tt
done_served i (Windowed (EndsUnderflow epc1)) len s f = tt
done_served i (Windowed (Rotates n)) len s f = tt
done_served i (Windowed (MovesStack number value)) len s f = if_served (eqb (behind s.start s.base) 0) (raises no_caller_window s) (window_step (write_to number value) (fall_through len s)) tt tt
done_served i (Windowed (Reads register number)) len s f = tt
done_served i (Windowed (Sets register value)) len s f = tt
done_served i (Windowed (Exchanges register number value)) len s f = tt

checked_served : (k : ℕ) (code : ℕ → ℕ) (i : Insn) (len : ℕ) (s : State) → IsServed (turn_or_overflow k code i len s).access
checked_served zero code i len s = done_served i (outcome_at code i (visible s.regs s.base) s.control) len s (outcome_fits code i s.control.pc _ _ _ _ s.control.ps s.control.threadptr)
checked_served (suc k) code i len s = overflow_served (suc k) s

fetched_served : (at : Fetched) (code : ℕ → ℕ) (s : State) → IsServed (fetched_turn at code s).access
fetched_served (Fails address) code s = tt
fetched_served SpellsNothing code s = tt
fetched_served (Fetches i len) code s = if_served (is_illegal i s) (raises illegal_instruction s) (turn_or_overflow (window_check i s) code i len s) tt (checked_served (window_check i s) code i len s)

pub demand_served : DemandsAreServed
unfolding demand planned_turn
demand_served code s =
    if_served (ltb 0 (pending_of s.control)) (in_window (settled_interrupt (pending_of s.control) s.control) s) (cond s.control.waits (in_window (settled_wait s.control) s) (fetched_turn (fetch_at code s.control.pc) code s)) tt
    (if_served s.control.waits (in_window (settled_wait s.control) s) (fetched_turn (fetch_at code s.control.pc) code s) tt (fetched_served (fetch_at code s.control.pc) code s))
