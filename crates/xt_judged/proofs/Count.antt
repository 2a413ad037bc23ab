-- No step of the machine with unbounded frames changes how many special registers there are.
use Rattle.std.proofs.Common.{◌≡◌, ℕ, ◌+◌, ◌-◌, ◌%◌, ◌^◌, Bool, true, false, cond, eqb, nat_lt, Option, Some, None, List, [], ◌∷◌, length, slice_index, slice_set, bit_or, refl, ◌∙◌}
use Rattle.std.proofs.lemmas.List.{length-set}
use Rattle.xt_special.specs.Access.{with_set}
use Rattle.xt_special.specs.Control.{Control, ps_word, special_of}
use Rattle.xt_special.specs.Exceptions.{after_double, after_exception, after_general, with_address}
use Rattle.xt_special.specs.Interrupts.{after_high_level, after_interrupt, pending_of}
use Rattle.xt_special.specs.Timers.{ticked_special, with_timer}
use Rattle.xt_special.specs.declared.writes.SpecialWrite.{SpecialWrite}
use Rattle.xt_special.specs.Looping.{loops_back}
use Rattle.xt_trace.specs.declared.record.StepRecord.{StepRecord}
use Rattle.xt_map.specs.Fetching.{Fetched, Fetches, Fails, SpellsNothing, fetch_at}
use Rattle.xt_rows.specs.Effects.{fetch_error, illegal_instruction}
use Rattle.xt_rows.specs.Outcomes.{outcome_at}
use Rattle.xt_rows.specs.Settling.{after_effect, after_flow, after_outcome, settled_interrupt, settled_wait}
use Rattle.xt_rows.specs.declared.outcome.Effect.{Effect}
use Rattle.xt_rows.specs.declared.outcome.Flow.{Flow}
use Rattle.xt_rows.specs.declared.outcome.Flow.TheVariants.{Falls, Goes}
use Rattle.xt_rows.specs.declared.outcome.Outcome.{Outcome}
use Rattle.xt_rows.specs.declared.outcome.Outcome.TheVariants.{Asks, Does, Raises, Stops, Windowed}
use Rattle.xt_rows.specs.declared.outcome.WindowStep.{WindowStep}
use Rattle.xt_rows.specs.declared.outcome.WindowStep.TheVariants.{Enters, Returns}
use Rattle.xt_frames.specs.declared.holes.Nested.{Nested}
use Rattle.xt_frames.specs.Breaches.{inputs_of}
use Rattle.xt_frames.specs.Frames.{Frame, FrameState, value_or_zero}
use Rattle.xt_frames.specs.FrameStep.{FrameTurn, Inputs, done_in_frame, entry_in_frame, exception_in_frame, fetched_step, in_frame, return_in_frame, return_to_frame, step_with_inputs, windowed_in_frame, with_inputs}
use Rattle.xt_frames.specs.Judging.{step_on, value_in}
use Rattle.xt_frames.specs.Marks.{mark_read, marked_write, unset_written}
use Rattle.xt_frames.specs.Nesting.{begins, ends_nested, nested_after, nested_entry, nested_fetched, nested_view, turn_in, with_kept_frame}

-- ---- the control state

timer : (n mask : ℕ) (xs : List ℕ) → length (with_timer n mask xs) ≡ length xs
timer n mask xs = by_test (eqb (slice_index xs (240 + n)) (slice_index xs 234))
  where
    by_test : (b : Bool) → length (cond b (slice_set xs 226 (bit_or (slice_index xs 226) mask)) xs) ≡ length xs
    by_test true = length-set xs 226 (bit_or (slice_index xs 226) mask)
    by_test false = refl

ticked : (xs : List ℕ) → length (ticked_special xs) ≡ length xs
unfolding ticked_special
ticked xs =
    let a = slice_set xs 234 ((slice_index xs 234 + 1) % 2 ^ 32) in
    let b = with_timer 0 (2 ^ 6) a in
    let c = with_timer 1 (2 ^ 15) b in
    timer 2 (2 ^ 16) c ∙ (timer 1 (2 ^ 15) b ∙ (timer 0 (2 ^ 6) a ∙ length-set xs 234 ((slice_index xs 234 + 1) % 2 ^ 32)))

address : (a : Option ℕ) (xs : List ℕ) → length (with_address a xs) ≡ length xs
address None xs = refl
address (Some a) xs = length-set xs 238 a

entered : (place cause : ℕ) (a : Option ℕ) (c : Control) → length (with_address a (slice_set (slice_set c.special place c.pc) 232 cause)) ≡ length c.special
entered place cause a c =
    let xs = slice_set c.special place c.pc in
    address a (slice_set xs 232 cause) ∙ (length-set xs 232 cause ∙ length-set c.special place c.pc)

exception : (cause : ℕ) (a : Option ℕ) (c : Control) → length (after_exception cause a c).special ≡ length c.special
unfolding after_exception
exception cause a c = by_test c.ps.excm
  where
    by_test : (b : Bool) → length (cond b (after_double cause a c) (after_general cause a c)).special ≡ length c.special
    by_test true = entered 192 cause a c
    by_test false = entered 177 cause a c

interrupt : (level : ℕ) (c : Control) → length (after_interrupt level c).special ≡ length c.special
unfolding after_interrupt
interrupt level c = by_test (eqb level 1)
  where
    by_test : (b : Bool) → length (cond b (after_exception 4 None c) (after_high_level level c)).special ≡ length c.special
    by_test true = exception 4 None c
    by_test false = length-set (slice_set c.special (176 + level) c.pc) (192 + level) (ps_word c.ps) ∙ length-set c.special (176 + level) c.pc

flow : (w : Flow) (len : ℕ) (c : Control) → length (after_flow w len c).special ≡ length c.special
flow (Goes target) len c = refl
flow Falls len c = by_test (loops_back (special_of c 1) (special_of c 2) c.ps.excm ((c.pc + len) % 2 ^ 32))
  where
    by_test : (b : Bool) → length (cond b (record c { pc = special_of c 0; special = slice_set c.special 2 (special_of c 2 - 1) }) (record c { pc = (c.pc + len) % 2 ^ 32 })).special ≡ length c.special
    by_test true = length-set c.special 2 (special_of c 2 - 1)
    by_test false = refl

one_set : (w : Option SpecialWrite) (xs : List ℕ) → length (with_set w xs) ≡ length xs
one_set None xs = refl
one_set (Some w) xs = length-set xs w.number w.value

effect : (e : Effect) (len : ℕ) (c : Control) → length (after_effect e len c).special ≡ length c.special
unfolding after_effect
effect e len c =
    let a = with_set e.sets.0 c.special in
    let b = with_set e.sets.1 a in
    flow e.flow len (record { pc = c.pc; special = with_set e.sets.2 b; ps = e.ps; threadptr = e.threadptr; waits = e.waits })
    ∙ (one_set e.sets.2 b ∙ (one_set e.sets.1 a ∙ one_set e.sets.0 c.special))

outcome : (o : Outcome) (len : ℕ) (c : Control) → length (after_outcome o len c).control.special ≡ length c.special
outcome (Does e) len c = ticked (after_effect e len c).special ∙ effect e len c
outcome (Raises cause a) len c = ticked (after_exception cause a c).special ∙ exception cause a c
outcome (Asks access awaited e) len c = ticked (after_effect e len c).special ∙ effect e len c
outcome Stops len c = ticked c.special
outcome (Windowed step) len c = ticked c.special

-- ---- a step of a state over which the inputs are laid

abbrev count : FrameState → ℕ
count f = length f.control.special

chosen : (b : Bool) (n : ℕ) (u v : FrameTurn) → count u.after ≡ n → count v.after ≡ n → count (cond b u v).after ≡ n
chosen true n u v h k = h
chosen false n u v h k = k

raised : (cause : ℕ) (a : Option ℕ) (f : FrameState) → count (exception_in_frame cause a f).after ≡ count f
raised cause a f = ticked (after_exception cause a f.control).special ∙ exception cause a f.control

entry : (number value len : ℕ) (f : FrameState) → count (entry_in_frame number value len f).after ≡ count f
unfolding entry_in_frame
entry number value len f = ticked (after_flow Falls len f.control).special ∙ flow Falls len f.control

back_to : (fs : List Frame) (a0 : ℕ) (f : FrameState) → count (return_to_frame fs a0 f).after ≡ count f
back_to [] a0 f = raised illegal_instruction None f
back_to (g ∷ rest) a0 f = ticked f.control.special

back : (a0 : ℕ) (f : FrameState) → count (return_in_frame a0 f).after ≡ count f
unfolding return_in_frame
back a0 f = back_to f.frames a0 f

windowed : (step : WindowStep) (len reply : ℕ) (f : FrameState) → count (windowed_in_frame step len reply f).after ≡ count f
windowed (Enters number value) len reply f =
    chosen f.control.ps.excm (count f) (exception_in_frame illegal_instruction None f) (entry_in_frame number value len f) (raised illegal_instruction None f) (entry number value len f)
windowed (Returns a0) len reply f =
    chosen f.control.ps.excm (count f) (exception_in_frame illegal_instruction None f) (return_in_frame a0 f) (raised illegal_instruction None f) (back a0 f)
windowed step len reply f = outcome (Windowed step) len f.control

done : (o : Outcome) (len reply : ℕ) (f : FrameState) → count (done_in_frame o len reply f).after ≡ count f
done (Windowed step) len reply f = windowed step len reply f
done o len reply f = outcome o len f.control

fetched : (at : Fetched) (code : ℕ → ℕ) (reply : ℕ) (f : FrameState) → count (fetched_step at code reply f).after ≡ count f
fetched (Fails a) code reply f = raised fetch_error (Some a) f
fetched SpellsNothing code reply f = raised illegal_instruction None f
fetched (Fetches i len) code reply f = done (outcome_at code i (value_or_zero f.seen) f.control) len reply f

laid : (code : ℕ → ℕ) (reply : ℕ) (f : FrameState) → count (step_with_inputs code reply f).after ≡ count f
unfolding step_with_inputs
laid code reply f =
    let level = pending_of f.control in
    let waits = in_frame (settled_wait f.control) reply f in
    let step = fetched_step (fetch_at code f.control.pc) code reply f in
    chosen (nat_lt 0 level) (count f) (in_frame (settled_interrupt level f.control) reply f) (cond f.control.waits waits step)
    (ticked (after_interrupt level f.control).special ∙ interrupt level f.control)
    (chosen f.control.waits (count f) waits step (ticked f.control.special) (fetched (fetch_at code f.control.pc) code reply f))

-- ---- a step on the inputs of a record

inputs : (inp : Inputs) (f : FrameState) → count (with_inputs inp f) ≡ count f
inputs inp f = length-set (slice_set f.control.special 234 inp.ccount) 226 inp.interrupt ∙ length-set f.control.special 234 inp.ccount

inside : (at : Fetched) (value : ℕ) (x : Nested) (f : FrameState) (u : FrameTurn) → count (nested_fetched at value x f u).after ≡ count u.after
inside (Fails a) value x f u = refl
inside SpellsNothing value x f u = refl
inside (Fetches i len) value x f u =
    let mark = mark_read i x.saved in
    chosen (ends_nested i) (count u.after)
    (record u { after = record (with_kept_frame f u.after) { nested = None } })
    (record u {
      write = marked_write mark value u.write;
      after = record (with_kept_frame f u.after) { unset = unset_written i x.marks f.unset; nested = Some (nested_after i mark x u) };
    }) refl refl

turn : (n : Option Nested) (code : ℕ → ℕ) (value : ℕ) (inp : Inputs) (f : FrameState) → count (turn_in n code value inp f).after ≡ count f
turn None code value inp f = laid code inp.reply (with_inputs inp f) ∙ inputs inp f
turn (Some x) code value inp f =
    let g = with_inputs inp (nested_view x f) in
    inside (fetch_at code g.control.pc) value x f (step_with_inputs code inp.reply g) ∙ (laid code inp.reply g ∙ inputs inp (nested_view x f))

begun : (inp : Inputs) (f : FrameState) → count (nested_entry (with_inputs inp f)).after ≡ count f
begun inp f =
    let g = with_inputs inp f in
    ticked (after_interrupt 5 g.control).special ∙ (interrupt 5 g.control ∙ inputs inp f)

pub count_kept : (code : ℕ → ℕ) (nested : Bool) (rec : StepRecord) (f : FrameState) → length (step_on code nested rec f).after.control.special ≡ length f.control.special
count_kept code nested rec f =
    let inp = inputs_of rec in
    chosen (begins nested rec.kind f) (count f) (nested_entry (with_inputs inp f)) (turn_in f.nested code (value_in rec.write) inp f) (begun inp f) (turn f.nested code (value_in rec.write) inp f)
