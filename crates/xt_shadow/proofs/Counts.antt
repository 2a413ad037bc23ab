-- A turn leaves as many special registers as there were, in both machines; and a step outside nested interrupts leaves each with a number.
use Rattle.std.proofs.Common.{◌≡◌, ℕ, zero, suc, ◌+◌, ◌-◌, ◌*◌, Bool, true, false, cond, eqb, ltb, List, [], ◌∷◌, Option, Some, None, sym, ap, ◌∙◌, refl, arith, ⊎_elim, length, get_or, replicate}
use Rattle.std.proofs.Math.ListN.{set}
use Rattle.std.proofs.lemmas.Bool.{cases_lt}
use Rattle.std.proofs.lemmas.List.{get_or-replicate, get_or_past, length-replicate, length-set, set-get_or}
use Rattle.xt_special.specs.declared.writes.SpecialWrite.{SpecialWrite}
use Rattle.xt_special.specs.Access.{with_set, with_sets}
use Rattle.xt_special.specs.Control.{Control, ps_word}
use Rattle.xt_special.specs.Exceptions.{after_double, after_exception, after_general, with_address}
use Rattle.xt_special.specs.Interrupts.{after_high_level, after_interrupt, interrupt_cause, pending_of}
use Rattle.xt_special.specs.Timers.{after_tick}
use Rattle.xt_special.specs.WindowExceptions.{after_window_exception}
use Rattle.xt_special.proofs.Kept.{ticked_length}
use Rattle.xt_trace.specs.declared.record.RegWrite.{RegWrite}
use Rattle.xt_trace.specs.declared.record.StepKind.{StepKind}
use Rattle.xt_trace.specs.declared.record.StepKind.TheVariants as kind
use Rattle.xt_trace.specs.declared.record.StepRecord.{StepRecord}
use Rattle.xt_isa.specs.declared.Insn.{Insn}
use Rattle.xt_map.specs.Fetching.{Fetched, Fetches, Fails, SpellsNothing, fetch_at}
use Rattle.xt_rows.specs.declared.outcome.Effect.{Effect}
use Rattle.xt_rows.specs.declared.outcome.Flow.{Flow}
use Rattle.xt_rows.specs.declared.outcome.Flow.TheVariants.{Falls, Goes}
use Rattle.xt_rows.specs.declared.outcome.Outcome.{Outcome}
use Rattle.xt_rows.specs.declared.outcome.Outcome.TheVariants.{Does, Raises, Asks, Stops, Windowed}
use Rattle.xt_rows.specs.declared.outcome.WindowRegister.TheVariants as window
use Rattle.xt_rows.specs.declared.outcome.WindowStep.{WindowStep}
use Rattle.xt_rows.specs.declared.outcome.WindowStep.TheVariants.{Enters, Returns, EndsOverflow, EndsUnderflow, Rotates, MovesStack, Reads, Sets, Exchanges}
use Rattle.xt_rows.specs.Kinds.{moved_to}
use Rattle.xt_rows.specs.Outcomes.{outcome_at}
use Rattle.xt_rows.specs.Settling.{after_effect, after_flow, after_outcome, return_pc}
use Rattle.xt_window.specs.Ring.{bit, size_at, visible}
use Rattle.xt_window.specs.Moves.{base_after_call, base_after_return, behind}
use Rattle.xt_exec.specs.State.{State}
use Rattle.xt_exec.specs.Turn.{Planned, entry_turn, fetched_turn, is_illegal, moved_stack, outcome_turn, overflow, planned_turn, resuming_turn, return_size, return_turn, turn, turn_or_overflow, underflow, window_check, window_turn, with_write}
use Rattle.xt_frames.specs.Frames.{Frame, FrameState, all_set, value_or_zero}
use Rattle.xt_frames.specs.FrameStep.{FrameTurn, Inputs, done_in_frame, entry_in_frame, fetched_step, return_in_frame, return_to_frame, step_with_inputs, windowed_in_frame, with_inputs}
use Rattle.xt_frames.specs.Marks.{unset_by}
use Rattle.xt_frames.specs.Nesting.{unset_after}
use Rattle.xt_frames.specs.Breaches.{inputs_of}
use Rattle.xt_frames.specs.Judging.{step_on}
use Rattle.xt_frames.proofs.Inside.{step_plain}
use Rattle.xt_frames.proofs.Lengths.{laid_stays}
use Rattle.xt_frames.proofs.StackSteps.{turn_if}

abbrev pub count : Control → ℕ
count c = length c.special

-- ---- the control state
if_count : (b : Bool) (c d : Control) (n : ℕ) → count c ≡ n → count d ≡ n → count (cond b c d) ≡ n
if_count true c d n p q = p
if_count false c d n p q = q

one_count : (w : Option SpecialWrite) (xs : List ℕ) → length (with_set w xs) ≡ length xs
one_count None xs = refl
one_count (Some w) xs = length-set xs w.number w.value

flow_count : (flow : Flow) (len : ℕ) (c : Control) → count (after_flow flow len c) ≡ count c
flow_count (Goes target) len c = refl
flow_count Falls len c = if_count _ _ _ (count c) (length-set c.special 2 _) refl

tick_count : (c : Control) → count (after_tick c) ≡ count c
tick_count c = ticked_length c.special

effect_count : (e : Effect) (len : ℕ) (c : Control) → count (after_effect e len c) ≡ count c
unfolding after_effect
effect_count e len c =
    flow_count e.flow len (record { pc = c.pc; special = with_sets e.sets c.special; ps = e.ps; threadptr = e.threadptr; waits = e.waits })
    ∙ (one_count e.sets.2 (with_set e.sets.1 (with_set e.sets.0 c.special)) ∙ (one_count e.sets.1 (with_set e.sets.0 c.special) ∙ one_count e.sets.0 c.special))

address_count : (a : Option ℕ) (xs : List ℕ) → length (with_address a xs) ≡ length xs
address_count None xs = refl
address_count (Some a) xs = length-set xs 238 a

two_count : (xs : List ℕ) (j k v w : ℕ) → length (set (set xs j v) k w) ≡ length xs
two_count xs j k v w = length-set (set xs j v) k w ∙ length-set xs j v

exception_count : (cause : ℕ) (a : Option ℕ) (c : Control) → count (after_exception cause a c) ≡ count c
unfolding after_exception
exception_count cause a c =
    if_count c.ps.excm (after_double cause a c) (after_general cause a c) (count c)
    (address_count a _ ∙ two_count c.special 192 232 c.pc cause)
    (address_count a _ ∙ two_count c.special 177 232 c.pc cause)

interrupt_count : (level : ℕ) (c : Control) → count (after_interrupt level c) ≡ count c
unfolding after_interrupt
interrupt_count level c =
    if_count (eqb level 1) (after_exception interrupt_cause None c) (after_high_level level c) (count c)
    (exception_count interrupt_cause None c)
    (two_count c.special (176 + level) (192 + level) c.pc (ps_word c.ps))

pub outcome_count : (o : Outcome) (len : ℕ) (c : Control) → count (after_outcome o len c).control ≡ count c
outcome_count (Does e) len c = tick_count (after_effect e len c) ∙ effect_count e len c
outcome_count (Raises cause address) len c = tick_count (after_exception cause address c) ∙ exception_count cause address c
outcome_count (Asks a w e) len c = tick_count (after_effect e len c) ∙ effect_count e len c
outcome_count Stops len c = tick_count c
outcome_count (Windowed step) len c = tick_count c

raised_count : (cause : ℕ) (a : Option ℕ) (c : Control) → count (after_tick (after_exception cause a c)) ≡ count c
raised_count cause a c = tick_count (after_exception cause a c) ∙ exception_count cause a c

taken_count : (level : ℕ) (c : Control) → count (after_tick (after_interrupt level c)) ≡ count c
taken_count level c = tick_count (after_interrupt level c) ∙ interrupt_count level c

-- ---- the processor
abbrev Keeps : State → Planned → Type 0
Keeps s p = count p.after.control ≡ count s.control

if_keeps : (s : State) (b : Bool) (p q : Planned) → Keeps s p → Keeps s q → Keeps s (cond b p q)
if_keeps s true p q x y = x
if_keeps s false p q x y = y

window_count : (base vector : ℕ) (c : Control) → count (after_tick (after_window_exception base vector c)) ≡ count c
window_count base vector c = tick_count (after_window_exception base vector c) ∙ length-set c.special 177 c.pc

overflow_keeps : (distance : ℕ) (s : State) → Keeps s (overflow distance s)
unfolding overflow
overflow_keeps distance s = window_count (base_after_call s.base distance) (2 * (size_at s.start (s.base + distance) - 1)) s.control

entry_keeps : (number value len : ℕ) (s : State) → Keeps s (entry_turn number value len s)
unfolding entry_turn
entry_keeps number value len s = tick_count (after_flow Falls len s.control) ∙ flow_count Falls len s.control

underflow_keeps : (size : ℕ) (s : State) → Keeps s (underflow size s)
unfolding underflow
underflow_keeps size s = window_count (base_after_return s.base size) (2 * (size - 1) + 1) s.control

return_keeps : (a0 : ℕ) (s : State) → Keeps s (return_turn a0 s)
unfolding return_turn
return_keeps a0 s = if_keeps s (bit s.start (base_after_return s.base (return_size a0))) _ _ (tick_count (record s.control { pc = return_pc s.control.pc a0 })) (underflow_keeps (return_size a0) s)

resuming_keeps : (start epc1 : ℕ) (s : State) → Keeps s (resuming_turn start epc1 s)
unfolding resuming_turn
resuming_keeps start epc1 s = tick_count (record s.control { pc = epc1; ps = record s.control.ps { excm = false } })

moved_keeps : (number value len : ℕ) (s : State) → Keeps s (moved_stack number value len s)
unfolding moved_stack
moved_keeps number value len s = if_keeps s (eqb (behind s.start s.base) 0) _ _ (raised_count 5 None s.control) (tick_count (after_flow Falls len s.control) ∙ flow_count Falls len s.control)

falls_count : (len : ℕ) (c : Control) → count (after_tick (after_flow Falls len c)) ≡ count c
falls_count len c = tick_count (after_flow Falls len c) ∙ flow_count Falls len c

step_keeps : (step : WindowStep) (len : ℕ) (s : State) → Keeps s (window_turn step len s)
step_keeps (Enters number value) len s = entry_keeps number value len s
step_keeps (Returns a0) len s = return_keeps a0 s
step_keeps (EndsOverflow epc1) len s = resuming_keeps _ epc1 s
step_keeps (EndsUnderflow epc1) len s = resuming_keeps _ epc1 s
step_keeps (Rotates n) len s = falls_count len s.control
step_keeps (MovesStack number value) len s = moved_keeps number value len s
step_keeps (Reads register number) len s = falls_count len s.control
step_keeps (Sets window.Base value) len s = falls_count len s.control
step_keeps (Sets window.Start value) len s = falls_count len s.control
step_keeps (Exchanges window.Base number value) len s = falls_count len s.control
step_keeps (Exchanges window.Start number value) len s = falls_count len s.control

outcome_keeps : (o : Outcome) (len : ℕ) (s : State) → Keeps s (outcome_turn o len s)
outcome_keeps (Does e) len s = outcome_count (Does e) len s.control
outcome_keeps (Raises cause address) len s = outcome_count (Raises cause address) len s.control
outcome_keeps (Asks a w e) len s = outcome_count (Asks a w e) len s.control
outcome_keeps Stops len s = outcome_count Stops len s.control
outcome_keeps (Windowed step) len s = step_keeps step len s

checked_keeps : (distance : ℕ) (code : ℕ → ℕ) (i : Insn) (len : ℕ) (s : State) → Keeps s (turn_or_overflow distance code i len s)
checked_keeps zero code i len s = outcome_keeps (outcome_at code i (visible s.regs s.base) s.control) len s
checked_keeps (suc distance) code i len s = overflow_keeps (suc distance) s

fetched_keeps : (f : Fetched) (code : ℕ → ℕ) (s : State) → Keeps s (fetched_turn f code s)
fetched_keeps (Fails address) code s = raised_count 2 (Some address) s.control
fetched_keeps SpellsNothing code s = raised_count 0 None s.control
fetched_keeps (Fetches i len) code s = if_keeps s (is_illegal i s) _ _ (raised_count 0 None s.control) (checked_keeps (window_check i s) code i len s)

planned_keeps : (code : ℕ → ℕ) (s : State) → Keeps s (planned_turn code s)
unfolding planned_turn
planned_keeps code s =
    if_keeps s (ltb 0 (pending_of s.control)) _ _ (taken_count (pending_of s.control) s.control)
    (if_keeps s s.control.waits _ _ (tick_count s.control) (fetched_keeps (fetch_at code s.control.pc) code s))

write_count : (w : Option RegWrite) (s : State) → count (with_write w s).control ≡ count s.control
write_count None s = refl
write_count (Some w) s = refl

pub turn_count : (code : ℕ → ℕ) (s t : State) (reply : ℕ) (rec : StepRecord) → ◌≡◌ {A = StepRecord × State} (rec, t) (turn code s reply) → count t.control ≡ count s.control
unfolding turn
turn_count code s t reply rec e = ap (λ (x : StepRecord × State). count x.1.control) e ∙ (write_count _ (planned_turn code s).after ∙ planned_keeps code s)

-- ---- the frames
abbrev KeepsCount : FrameState → FrameTurn → Type 0
KeepsCount g u = count u.after.control ≡ count g.control

from_count : (frames : List Frame) (a0 : ℕ) (g : FrameState) → KeepsCount g (return_to_frame frames a0 g)
from_count [] a0 g = raised_count 0 None g.control
from_count (f ∷ rest) a0 g = tick_count (record g.control { pc = return_pc g.control.pc a0 })

popped_count : (a0 : ℕ) (g : FrameState) → KeepsCount g (return_in_frame a0 g)
unfolding return_in_frame
popped_count a0 g = from_count g.frames a0 g

pushed_count : (number value len : ℕ) (g : FrameState) → KeepsCount g (entry_in_frame number value len g)
unfolding entry_in_frame
pushed_count number value len g = falls_count len g.control

windowed_count : (step : WindowStep) (len reply : ℕ) (g : FrameState) → KeepsCount g (windowed_in_frame step len reply g)
windowed_count (Enters number value) len reply g = turn_if (KeepsCount g) g.control.ps.excm _ _ (raised_count 0 None g.control) (pushed_count number value len g)
windowed_count (Returns a0) len reply g = turn_if (KeepsCount g) g.control.ps.excm _ _ (raised_count 0 None g.control) (popped_count a0 g)
windowed_count (EndsOverflow epc1) len reply g = tick_count g.control
windowed_count (EndsUnderflow epc1) len reply g = tick_count g.control
windowed_count (Rotates n) len reply g = tick_count g.control
windowed_count (MovesStack number value) len reply g = tick_count g.control
windowed_count (Reads register number) len reply g = tick_count g.control
windowed_count (Sets register value) len reply g = tick_count g.control
windowed_count (Exchanges register number value) len reply g = tick_count g.control

done_count : (o : Outcome) (len reply : ℕ) (g : FrameState) → KeepsCount g (done_in_frame o len reply g)
done_count (Does e) len reply g = outcome_count (Does e) len g.control
done_count (Raises cause address) len reply g = outcome_count (Raises cause address) len g.control
done_count (Asks a w e) len reply g = outcome_count (Asks a w e) len g.control
done_count Stops len reply g = outcome_count Stops len g.control
done_count (Windowed step) len reply g = windowed_count step len reply g

fetched_count : (at : Fetched) (code : ℕ → ℕ) (reply : ℕ) (g : FrameState) → KeepsCount g (fetched_step at code reply g)
fetched_count (Fetches i len) code reply g = done_count (outcome_at code i (value_or_zero g.seen) g.control) len reply g
fetched_count (Fails address) code reply g = raised_count 2 (Some address) g.control
fetched_count SpellsNothing code reply g = raised_count 0 None g.control

pub laid_count : (code : ℕ → ℕ) (reply : ℕ) (g : FrameState) → KeepsCount g (step_with_inputs code reply g)
unfolding step_with_inputs
laid_count code reply g =
    turn_if (KeepsCount g) (ltb 0 (pending_of g.control)) _ _ (taken_count (pending_of g.control) g.control)
    (turn_if (KeepsCount g) g.control.waits _ _ (tick_count g.control) (fetched_count (fetch_at code g.control.pc) code reply g))

pub inputs_count : (inp : Inputs) (f : FrameState) → count (with_inputs inp f).control ≡ count f.control
inputs_count inp f = two_count f.control.special 234 226 inp.ccount inp.interrupt

-- ---- numbers
-- each special register has one
pub has_number : (k : ℕ) → get_or all_set k false ≡ false
unfolding all_set
has_number k = ⊎_elim
    (λ within. get_or-replicate 256 k false false within)
    (λ past. get_or_past (replicate 256 false) k false (let l = length-replicate {A = Bool} 256 false in omega (arith, l, past)))
    (cases_lt k 256)

cleared : (k : ℕ) → set all_set k false ≡ all_set
cleared k = sym (ap (λ (b : Bool). set all_set k b) (has_number k)) ∙ set-get_or all_set k false

by_none : (o : Option (ℕ × ℕ)) → unset_by o [] all_set ≡ all_set
by_none None = refl
by_none (Some p) = cleared p.1

pub after_none : (k : StepKind) (at : Fetched) → unset_after k at all_set ≡ all_set
after_none (kind.Interrupt level) at = ap (λ (l : List Bool). set l (192 + level) false) (cleared (176 + level)) ∙ cleared (192 + level)
after_none kind.Insn (Fetches i len) = by_none (moved_to i)
after_none kind.Insn (Fails address) = refl
after_none kind.Insn SpellsNothing = refl
after_none (kind.Exc cause) at = refl
after_none (kind.Window vector) at = refl
after_none kind.Wait at = refl
after_none kind.Stop at = refl

-- ---- a step outside nested interrupts
module _ (code : ℕ → ℕ) (rec : StepRecord) (f : FrameState) (plain : f.nested ≡ None) where
  abbrev g : FrameState
  g = with_inputs (inputs_of rec) f

  abbrev u : FrameTurn
  u = step_with_inputs code rec.reply g

  pub nested_none : (step_on code false rec f).after.nested ≡ None
  nested_none = ap (λ (t : FrameTurn). t.after.nested) (step_plain code rec f plain) ∙ ((laid_stays code rec.reply g).0 ∙ plain)

  pub numbers_all : f.unset ≡ all_set → (step_on code false rec f).after.unset ≡ all_set
  numbers_all all =
      ap (λ (t : FrameTurn). t.after.unset) (step_plain code rec f plain)
      ∙ (ap (λ (l : List Bool). unset_after u.kind (fetch_at code g.control.pc) l) all ∙ after_none u.kind (fetch_at code g.control.pc))

  pub count_same : count (step_on code false rec f).after.control ≡ count f.control
  count_same = ap (λ (t : FrameTurn). count t.after.control) (step_plain code rec f plain) ∙ (laid_count code rec.reply g ∙ inputs_count (inputs_of rec) f)
