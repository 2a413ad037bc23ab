-- A turn that makes an access moves no window.
use Rattle.std.proofs.Common.{◌≡◌, ℕ, zero, suc, Bool, true, false, Option, Some, None, List, [], ◌++◌, cond, eqb, ltb, refl, ap, ◌∙◌, eq-eqb, codes}
use Rattle.xt_isa.specs.declared.Insn.{Insn}
use Rattle.xt_map.specs.declared.access.Access.{Access}
use Rattle.xt_special.specs.Interrupts.{pending_of}
use Rattle.xt_window.specs.Ring.{visible, bit}
use Rattle.xt_window.specs.Moves.{base_after_return, behind}
use Rattle.xt_trace.specs.declared.record.RegWrite.{RegWrite}
use Rattle.xt_rows.specs.declared.outcome.Outcome.{Outcome}
use Rattle.xt_rows.specs.declared.outcome.Outcome.TheVariants.{Does, Raises, Asks, Stops, Windowed}
use Rattle.xt_rows.specs.declared.outcome.WindowStep.TheVariants.{Enters, Returns, EndsOverflow, EndsUnderflow, Rotates, MovesStack, Reads, Sets, Exchanges}
use Rattle.xt_map.specs.Fetching.{Fetched, Fetches, Fails, SpellsNothing, fetch_at}
use Rattle.xt_rows.specs.Effects.{write_to, no_caller_window, illegal_instruction}
use Rattle.xt_rows.specs.Outcomes.{outcome_at}
use Rattle.xt_rows.specs.Settling.{Settled, settled_interrupt, settled_wait}
use Rattle.xt_exec.specs.State.{State}
use Rattle.xt_exec.specs.Turn.{Planned, planned_turn, demand, turn, in_window, raises, overflow, underflow, window_step, entry_turn, return_turn, resuming_turn, moved_stack, return_size, fall_through, is_illegal, window_check, outcome_turn, turn_or_overflow, fetched_turn, with_write, write_with_reply}
use Rattle.xt_events.specs.declared.told.Window.{Window}
use Rattle.xt_events.specs.Lines.{bare_line, fetched_text, turn_text, window_of, window_text}
use Rattle.xt_judged.specs.RaceLines.{PrintsAsTrace}

-- a plan with an access leaves the windows as they are
abbrev Stays : State → Planned → Type 0
Stays s p = (a : Access) → p.access ≡ Some a → window_of p.after ≡ window_of s

if_stays : (s : State) (b : Bool) (p q : Planned) → Stays s p → Stays s q → Stays s (cond b p q)
if_stays s true p q x y = x
if_stays s false p q x y = y

here_stays : (t : Settled) (s : State) → Stays s (in_window t s)
here_stays t s a some = refl

overflow_stays : (k : ℕ) (s : State) → Stays s (overflow k s)
unfolding overflow
overflow_stays k s a some = absurd cc

done_stays : (o : Outcome) (len : ℕ) (s : State) → Stays s (outcome_turn o len s)
unfolding entry_turn return_turn resuming_turn moved_stack underflow
done_stays (Does e) len s = λ a some. refl
done_stays (Raises cause addr) len s = λ a some. refl
done_stays (Asks access awaited e) len s = λ a some. refl
done_stays Stops len s = λ a some. refl
done_stays (Windowed (Enters number value)) len s = λ a some. absurd cc
done_stays (Windowed (Returns a0)) len s =
    if_stays s (bit s.start (base_after_return s.base (return_size a0))) _ _ (λ a some. absurd cc) (λ a some. absurd cc)
done_stays (Windowed (EndsOverflow epc1)) len s = λ a some. absurd cc
done_stays (Windowed (EndsUnderflow epc1)) len s = λ a some. absurd cc
done_stays (Windowed (Rotates n)) len s = λ a some. absurd cc
done_stays (Windowed (MovesStack number value)) len s =
    if_stays s (eqb (behind s.start s.base) 0) (raises no_caller_window s) (window_step (write_to number value) (fall_through len s))
    (λ a some. refl) (λ a some. absurd cc)
done_stays (Windowed (Reads register number)) len s = λ a some. absurd cc
done_stays (Windowed (Sets register value)) len s = λ a some. absurd cc
done_stays (Windowed (Exchanges register number value)) len s = λ a some. absurd cc

checked_stays : (k : ℕ) (code : ℕ → ℕ) (i : Insn) (len : ℕ) (s : State) → Stays s (turn_or_overflow k code i len s)
checked_stays zero code i len s = done_stays (outcome_at code i (visible s.regs s.base) s.control) len s
checked_stays (suc k) code i len s = overflow_stays (suc k) s

fetched_stays : (at : Fetched) (code : ℕ → ℕ) (s : State) → Stays s (fetched_turn at code s)
fetched_stays (Fails address) code s = λ a some. refl
fetched_stays SpellsNothing code s = λ a some. refl
fetched_stays (Fetches i len) code s =
    if_stays s (is_illegal i s) (raises illegal_instruction s) (turn_or_overflow (window_check i s) code i len s)
    (λ a some. refl) (checked_stays (window_check i s) code i len s)

plan_stays : (code : ℕ → ℕ) (s : State) → Stays s (planned_turn code s)
unfolding planned_turn
plan_stays code s =
    let runs = fetched_turn (fetch_at code s.control.pc) code s in
    let waits = in_window (settled_wait s.control) s in
    if_stays s (ltb 0 (pending_of s.control)) (in_window (settled_interrupt (pending_of s.control) s.control) s) (cond s.control.waits waits runs)
    (here_stays (settled_interrupt (pending_of s.control) s.control) s)
    (if_stays s s.control.waits waits runs (here_stays (settled_wait s.control) s) (fetched_stays (fetch_at code s.control.pc) code s))

write_stays : (w : Option RegWrite) (s : State) → window_of (with_write w s) ≡ window_of s
write_stays None s = refl
write_stays (Some w) s = refl

turn_stays : (code : ℕ → ℕ) (s : State) (reply : ℕ) (a : Access) → demand code s ≡ Some a → window_of (turn code s reply).1 ≡ window_of s
unfolding demand turn
turn_stays code s reply a some =
    let p = planned_turn code s in
    write_stays (write_with_reply p.write p.awaited reply) p.after ∙ plan_stays code s a some

-- so its line says nothing of them
same_text : (w : Window) → window_text w w ≡ []
same_text w =
    let base : eqb w.base w.base ≡ true = eq-eqb w.base w.base refl in
    let start : eqb w.start w.start ≡ true = eq-eqb w.start w.start refl in
    rw (base, start) refl

pub prints_as_trace : PrintsAsTrace
unfolding turn_text
prints_as_trace code s a reply core number next some =
    let r = (turn code s reply).0 in
    let silent : window_text (window_of s) (window_of (turn code s reply).1) ≡ [] =
    ap (λ (w : Window). window_text (window_of s) w) (turn_stays code s reply a some) ∙ same_text (window_of s) in
    ap (λ (l : List ℕ). bare_line core number r ++ fetched_text (fetch_at code r.pc) r.pc ++ l ++ codes "\n") silent
