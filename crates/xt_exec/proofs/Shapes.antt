-- A turn keeps the shape of a state.
use Rattle.std.proofs.Common.{◌≡◌, ℕ, zero, suc, ◌+◌, ◌-◌, ◌*◌, ◌%◌, ◌^◌, ◌<◌, ◌≤◌, ℤ, pos, negsuc, Bool, true, false, cond, nat_lt, eqb, Option, Some, None, slice_index, slice_set, replicate, refl, ◌∙◌, arith}
use Rattle.std.proofs.lemmas.List.{length-set, length-replicate, get_or-replicate}
use Rattle.std.proofs.lemmas.Nat.{or_lt, and_le_l}
use Rattle.std.proofs.lemmas.Bool.Decides.{nat_tests}
use Rattle.std.proofs.Math.Nat.{pow-le-pow_right}
use Rattle.xt_isa.specs.declared.Insn.{Insn}
use Rattle.xt_isa.specs.declared.Insn.TheVariants as insn
use Rattle.xt_isa.specs.declared.three.Three.TheVariants as three
use Rattle.xt_isa.specs.declared.shift.Shift.TheVariants as shift
use Rattle.xt_isa.specs.Ranges.{in_range}
use Rattle.xt_isa.specs.Spelling.{spelled_insn, fields_at, length_of}
use Rattle.xt_isa.proofs.Ranged.{spelled_at_in_range}
use Rattle.xt_map.specs.Regions.{region_of, is_executable}
use Rattle.xt_special.specs.Control.{Control, special_of}
use Rattle.xt_special.specs.Interrupts.{pending_of}
use Rattle.xt_special.specs.Timers.{after_tick}
use Rattle.xt_special.specs.Exceptions.{after_exception}
use Rattle.xt_special.specs.Opening.{no_special, opening_special}
use Rattle.xt_special.specs.WindowExceptions.{after_window_exception}
use Rattle.xt_window.specs.Ring.{place, visible, bit, with_bit, without_bit, size_at, cleared_regs}
use Rattle.xt_window.specs.Moves.{base_after_call, base_after_return, base_rotated, behind}
use Rattle.xt_trace.specs.declared.record.RegWrite.{RegWrite}
use Rattle.xt_rows.specs.declared.outcome.ReplyTarget.{ReplyTarget}
use Rattle.xt_rows.specs.declared.outcome.Flow.TheVariants.{Falls}
use Rattle.xt_rows.specs.declared.outcome.WindowRegister.{WindowRegister}
use Rattle.xt_rows.specs.declared.outcome.WindowRegister.TheVariants as window
use Rattle.xt_rows.specs.declared.outcome.WindowStep.{WindowStep}
use Rattle.xt_rows.specs.declared.outcome.WindowStep.TheVariants.{Enters, Returns, EndsOverflow, EndsUnderflow, Rotates, MovesStack, Reads, Sets, Exchanges}
use Rattle.xt_rows.specs.declared.outcome.Outcome.{Outcome}
use Rattle.xt_rows.specs.declared.outcome.Outcome.TheVariants.{Does, Raises, Asks, Stops, Windowed}
use Rattle.xt_map.specs.Code.{AreBytes}
use Rattle.xt_map.specs.Fetching.{Fetched, Fetches, Fails, SpellsNothing, fetch_at, fetched_past, fetched_length, unfetchable, read_as, can_fetch}
use Rattle.xt_rows.specs.Effects.{illegal_instruction, no_caller_window, fetch_error, write_to}
use Rattle.xt_rows.specs.Operands.{reads, special_reads}
use Rattle.xt_rows.specs.Outcomes.{outcome_at, value_of}
use Rattle.xt_rows.specs.Settling.{settled_interrupt, settled_wait, after_flow}
use Rattle.xt_rows.specs.RowLaws.{IsWord, IsProper, IsProperStep, IsProperWrite, IsProperAddress, IsShiftAmount}
use Rattle.xt_rows.proofs.Bounds.{extended_small}
use Rattle.xt_rows.proofs.Proper.{outcome_words}
use Rattle.xt_exec.specs.State.{State, opening_regs, opening_state, prid_of}
use Rattle.xt_exec.specs.Turn.{Planned, planned_turn, turn, in_window, raises, overflow, underflow, window_exception, entry_turn, return_turn, resuming_turn, moved_stack, window_turn, outcome_turn, turn_or_overflow, is_illegal, window_check, fetched_turn, window_step, fall_through, return_size, return_pc, window_value, with_window_value, write_with_reply, with_write}
use Rattle.xt_exec.specs.TurnLaws.{IsShapedControl, IsShaped}
use Rattle.xt_exec.proofs.Specials.{words_set, IsShapedSpecial, set_shaped, ticked_shaped, exception_shaped, interrupt_shaped, level_small, window_shaped, flow_shaped, effect_shaped}

-- ---- states

with_control : (s : State) (c : Control) → IsShaped s → IsShapedControl c → IsShaped (record s { control = c })
with_control s c f g = record { count = f.count; words = f.words; base = f.base; start = f.start; control = g }

with_windows : (s : State) (base start : ℕ) (c : Control) → base < 16 → start < 2 ^ 16 → IsShaped s → IsShapedControl c
    → IsShaped (record { regs = s.regs; base = base; start = start; control = c })
with_windows s base start c p q f g = record { count = f.count; words = f.words; base = p; start = q; control = g }

-- the first half of a turn: the state that it leaves, and what it writes
record IsShapedPlan (p : Planned) : Type 0 where
  after : IsShaped p.after
  write : IsProperWrite (λ n. IsWord n) p.write

-- ---- bits of WINDOWSTART

one_bit : (w : ℕ) → 2 ^ (w % 16) < 2 ^ 16
one_bit w =
    let low : w % 16 ≤ 15 = omega arith in
    let h : 2 ^ (w % 16) ≤ 2 ^ 15 = pow-le-pow_right (omega arith) low in
    omega arith

with_bit_small : (start w : ℕ) → start < 2 ^ 16 → with_bit start w < 2 ^ 16
unfolding with_bit
with_bit_small start w h = or_lt 16 start (2 ^ (w % 16)) h (one_bit w)

without_bit_small : (start w : ℕ) → start < 2 ^ 16 → without_bit start w < 2 ^ 16
unfolding without_bit
without_bit_small start w h = omega (arith, and_le_l start (2 ^ 16 - 1 - 2 ^ (w % 16)))

-- ---- window exceptions

window_exception_shaped : (vector base : ℕ) (s : State) → vector < 6 → base < 16 → IsShaped s → IsShapedPlan (window_exception vector base s)
window_exception_shaped vector base s p q f = record {
  after = with_windows s base s.start (after_tick (after_window_exception s.base vector s.control)) q f.start f (ticked_shaped _ (window_shaped s.base vector s.control f.base p f.control));
  write = tt;
}

size_small : (start w : ℕ) → (size_at start w ≤ 3) × (1 ≤ size_at start w)
unfolding size_at
size_small start w = by_tests (bit start (w + 1)) (bit start (w + 2))
  where
    by_tests : (b c : Bool) → (cond b 1 (cond c 2 3) ≤ 3) × (1 ≤ cond b 1 (cond c 2 3))
    by_tests true c = (omega arith, omega arith)
    by_tests false true = (omega arith, omega arith)
    by_tests false false = (omega arith, omega arith)

overflow_shaped : (distance : ℕ) (s : State) → IsShaped s → IsShapedPlan (overflow distance s)
unfolding overflow
overflow_shaped distance s f =
    window_exception_shaped (2 * (size_at s.start (s.base + distance) - 1)) (base_after_call s.base distance) s
    (let h = (size_small s.start (s.base + distance)).0 in omega arith) (omega arith) f

underflow_shaped : (size : ℕ) (s : State) → size < 4 → IsShaped s → IsShapedPlan (underflow size s)
unfolding underflow
underflow_shaped size s h f = window_exception_shaped (2 * (size - 1) + 1) (base_after_return s.base size) s (omega arith) (omega arith) f

-- ---- exceptions, interrupts and waiting

raises_shaped : (cause : ℕ) (address : Option ℕ) (s : State) → cause < 64 → IsProperAddress address → IsShaped s
    → IsShaped (record s { control = after_tick (after_exception cause address s.control) })
raises_shaped cause address s p a f = with_control s _ f (ticked_shaped _ (exception_shaped cause address s.control p a f.control))

raised : (cause : ℕ) (s : State) → cause < 64 → IsShaped s → IsShapedPlan (raises cause s)
raised cause s p f = record { after = raises_shaped cause None s p tt f; write = tt }

-- ---- instructions that move the window or look at the windows

step_shaped : (write : Option RegWrite) (s : State) → IsProperWrite (λ n. IsWord n) write → IsShaped s → IsShapedPlan (window_step write s)
step_shaped write s p f = record { after = with_control s _ f (ticked_shaped s.control f.control); write = p }

falls_shaped : (len : ℕ) (s : State) → IsShaped s → IsShaped (fall_through len s)
falls_shaped len s f = with_control s _ f (flow_shaped Falls len s.control tt f.control)

entered_shaped : (number value len : ℕ) (s : State) → number < 16 → IsWord value → IsShaped s → IsShapedPlan (entry_turn number value len s)
unfolding entry_turn
entered_shaped number value len s p q f =
    let base = base_after_call s.base s.control.ps.callinc in
    step_shaped (write_to number value) _ (p, q)
    (with_windows s base (with_bit s.start base) (after_flow Falls len s.control) (omega arith) (with_bit_small s.start base f.start) f (flow_shaped Falls len s.control tt f.control))

to_pc : (c : Control) (pc : ℕ) → IsWord pc → IsShapedControl c → IsShapedControl (record c { pc = pc })
to_pc c pc p f = record { pc = p; count = f.count; words = f.words; shape = f.shape; ps = f.ps; threadptr = f.threadptr }

returned_shaped : (a0 : ℕ) (s : State) → IsWord a0 → IsShaped s → IsShapedPlan (return_turn a0 s)
unfolding return_turn
returned_shaped a0 s p f = by_test (bit s.start (base_after_return s.base (return_size a0)))
  where
    by_test : (b : Bool) → IsShapedPlan (cond b (window_step None (record s { base = base_after_return s.base (return_size a0); start = without_bit s.start s.base; control = record s.control { pc = return_pc s.control.pc a0 } })) (underflow (return_size a0) s))
    by_test true =
        step_shaped None _ tt
        (with_windows s (base_after_return s.base (return_size a0)) (without_bit s.start s.base) (record s.control { pc = return_pc s.control.pc a0 })
        (omega arith) (without_bit_small s.start s.base f.start) f (to_pc s.control (return_pc s.control.pc a0) (let w : s.control.pc < 2 ^ 32 = f.control.pc in omega arith) f.control))
    by_test false = underflow_shaped (return_size a0) s (omega arith) f

resumed_shaped : (start epc1 : ℕ) (s : State) → start < 2 ^ 16 → IsWord epc1 → IsShaped s → IsShapedPlan (resuming_turn start epc1 s)
unfolding resuming_turn
resumed_shaped start epc1 s p q f =
    let g = f.control in
    step_shaped None _ tt
    (with_windows s s.control.ps.owb start (record s.control { pc = epc1; ps = record s.control.ps { excm = false } }) g.ps.owb_fits p f
    (record { pc = q; count = g.count; words = g.words; shape = g.shape; ps = record { intlevel_fits = g.ps.intlevel_fits; ring_fits = g.ps.ring_fits; owb_fits = g.ps.owb_fits; callinc_fits = g.ps.callinc_fits }; threadptr = g.threadptr }))

rotated_small : (base : ℕ) (n : ℤ) → base_rotated base n < 16
rotated_small base (pos n) = omega arith
rotated_small base (negsuc n) = omega arith

moved_shaped : (number value len : ℕ) (s : State) → number < 16 → IsWord value → IsShaped s → IsShapedPlan (moved_stack number value len s)
unfolding moved_stack
moved_shaped number value len s p q f = by_test (eqb (behind s.start s.base) 0)
  where
    by_test : (b : Bool) → IsShapedPlan (cond b (raises no_caller_window s) (window_step (write_to number value) (fall_through len s)))
    by_test true = raised no_caller_window s (omega arith) f
    by_test false = step_shaped (write_to number value) _ (p, q) (falls_shaped len s f)

value_small : (register : WindowRegister) (s : State) → IsShaped s → IsWord (window_value register s)
value_small window.Base s f = let h = f.base in omega arith
value_small window.Start s f = let h = f.start in omega arith

with_value_shaped : (register : WindowRegister) (value : ℕ) (s : State) → IsShaped s → IsShaped (with_window_value register value s)
with_value_shaped window.Base value s f = with_windows s (value % 2 ^ 4) s.start s.control (omega arith) f.start f f.control
with_value_shaped window.Start value s f = with_windows s s.base (value % 2 ^ 16) s.control f.base (omega arith) f f.control

windowed_shaped : (w : WindowStep) (len : ℕ) (s : State) → IsProperStep w → IsShaped s → IsShapedPlan (window_turn w len s)
windowed_shaped (Enters number value) len s p f = entered_shaped number value len s p.0 p.1 f
windowed_shaped (Returns a0) len s p f = returned_shaped a0 s p f
windowed_shaped (EndsOverflow epc1) len s p f = resumed_shaped (without_bit s.start s.base) epc1 s (without_bit_small s.start s.base f.start) p f
windowed_shaped (EndsUnderflow epc1) len s p f = resumed_shaped (with_bit s.start s.base) epc1 s (with_bit_small s.start s.base f.start) p f
windowed_shaped (Rotates n) len s p f =
    step_shaped None _ tt (with_windows s (base_rotated s.base n) s.start (after_flow Falls len s.control) (rotated_small s.base n) f.start f (flow_shaped Falls len s.control tt f.control))
windowed_shaped (MovesStack number value) len s p f = moved_shaped number value len s p.0 p.1 f
windowed_shaped (Reads register number) len s p f = step_shaped (write_to number (window_value register s)) _ (p, value_small register s f) (falls_shaped len s f)
windowed_shaped (Sets register value) len s p f = step_shaped None _ tt (with_value_shaped register value (fall_through len s) (falls_shaped len s f))
windowed_shaped (Exchanges register number value) len s p f =
    step_shaped (write_to number (window_value register s)) _ (p.0, value_small register s f) (with_value_shaped register value (fall_through len s) (falls_shaped len s f))

-- ---- one instruction

done_shaped : (o : Outcome) (len : ℕ) (s : State) → IsProper (λ n. IsWord n) o → IsShaped s → IsShapedPlan (outcome_turn o len s)
done_shaped (Does e) len s p f = record { after = with_control s _ f (ticked_shaped _ (effect_shaped e len s.control p f.control)); write = p.write }
done_shaped (Raises cause address) len s p f = record { after = raises_shaped cause address s p.0 p.1 f; write = tt }
done_shaped (Asks access awaited e) len s p f = record { after = with_control s _ f (ticked_shaped _ (effect_shaped e len s.control p.2 f.control)); write = tt }
done_shaped Stops len s p f = record { after = with_control s _ f (ticked_shaped s.control f.control); write = tt }
done_shaped (Windowed w) len s p f = windowed_shaped w len s p f

value_word : (g : ℕ → ℕ) (o : Option ℕ) → ((k : ℕ) → IsWord (g k)) → IsWord (value_of g o)
value_word g None words = omega arith
value_word g (Some k) words = words k

amount : (i : Insn) (g : ℕ → ℕ) → g 3 < 2 ^ 6 → IsShiftAmount i (value_of g (special_reads i).0)
unfolding special_reads
amount (insn.Three (three.Src r s t)) g h = h
amount (insn.Three _) g h = omega arith
amount (insn.Shift (shift.ShiftRight name r t)) g h = h
amount (insn.Shift (shift.Sll r s)) g h = h
amount (insn.Shift _) g h = omega arith
amount (insn.Memory i) g h = tt
amount (insn.Control i) g h = tt
amount (insn.System i) g h = tt
amount (insn.Density i) g h = tt
amount (insn.Boolean i) g h = tt

outcome_shaped : (code : ℕ → ℕ) (i : Insn) (s : State) → AreBytes code → in_range i ≡ true → IsShaped s
    → IsProper (λ n. IsWord n) (outcome_at code i (visible s.regs s.base) s.control)
outcome_shaped code i s bytes ok f =
    outcome_words code i s.control.pc _ _ _ _ s.control.ps s.control.threadptr bytes
    (record {
      range = ok;
      pc_word = f.control.pc;
      x_word = value_word (visible s.regs s.base) (reads i).0 (λ k. f.words (place s.base k));
      y_word = value_word (visible s.regs s.base) (reads i).1 (λ k. f.words (place s.base k));
      u_word = value_word (special_of s.control) (special_reads i).0 f.control.words;
      v_word = value_word (special_of s.control) (special_reads i).1 f.control.words;
      sar = amount i (special_of s.control) f.control.shape.sar_fits;
      fields = f.control.ps;
      threadptr_word = f.control.threadptr;
    })

checked_shaped : (distance : ℕ) (code : ℕ → ℕ) (i : Insn) (len : ℕ) (s : State) → AreBytes code → in_range i ≡ true → IsShaped s → IsShapedPlan (turn_or_overflow distance code i len s)
checked_shaped zero code i len s bytes ok f = done_shaped (outcome_at code i (visible s.regs s.base) s.control) len s (outcome_shaped code i s bytes ok f) f
checked_shaped (suc distance) code i len s bytes ok f = overflow_shaped (suc distance) s f

-- ---- fetching

executable_small : (a : ℕ) → is_executable (region_of a) ≡ true → a + 4 < 2 ^ 32
unfolding region_of
executable_small a h = grind (arith, nat_tests)

unfetchable_word : (a n b : ℕ) → a < 2 ^ 32 → unfetchable a n ≡ Some b → IsWord b
unfetchable_word a zero b p e = absurd cc
unfetchable_word a (suc n) b p e =
    by_test (can_fetch a) refl (λ can same. unfetchable_word (a + 1) n b (let small = executable_small a can in omega arith) same) e
  where
    by_test : (t : Bool) → can_fetch a ≡ t → (can_fetch a ≡ true → unfetchable (a + 1) n ≡ Some b → IsWord b)
        → cond t (unfetchable (a + 1) n) (Some a) ≡ Some b → IsWord b
    by_test true can behind same = behind can same
    by_test false can behind same = let is : a ≡ b = cc in omega (arith, is)

read_spelled : (x : Option Insn) (len : ℕ) (i : Insn) (n : ℕ) → read_as x len ≡ Fetches i n → Some i ≡ x
read_spelled None len i n e = absurd cc
read_spelled (Some j) len i n e = cc

IsGood : (ℕ → ℕ) → Fetched → Type 0
IsGood code (Fetches i len) = in_range i ≡ true
IsGood code (Fails address) = IsWord address
IsGood code SpellsNothing = Unit {0}

fetched_good : (code : ℕ → ℕ) (pc : ℕ) → AreBytes code → IsWord pc → IsGood code (fetch_at code pc)
unfolding fetch_at IsGood
fetched_good code pc bytes p = by_test (unfetchable pc (fetched_length code pc)) refl
  where
    read : (x : Option Insn) → x ≡ spelled_insn (fields_at (code pc) (code (pc + 1)) (code (pc + 2))) → IsGood code (read_as x (length_of (code pc)))
    read None e = tt
    read (Some i) e = spelled_at_in_range (code pc) (code (pc + 1)) (code (pc + 2)) i (bytes pc) (bytes (pc + 1)) (bytes (pc + 2)) e

    by_test : (o : Option ℕ) → unfetchable pc (fetched_length code pc) ≡ o → IsGood code (fetched_past o code pc)
    by_test None e = read (spelled_insn (fields_at (code pc) (code (pc + 1)) (code (pc + 2)))) refl
    by_test (Some a) e = unfetchable_word pc (fetched_length code pc) a p e

fetched_shaped : (g : Fetched) (code : ℕ → ℕ) (s : State) → AreBytes code → IsGood code g → IsShaped s → IsShapedPlan (fetched_turn g code s)
unfolding IsGood
fetched_shaped (Fails address) code s bytes good f = record { after = raises_shaped fetch_error (Some address) s (omega arith) good f; write = tt }
fetched_shaped SpellsNothing code s bytes good f = raised illegal_instruction s (omega arith) f
fetched_shaped (Fetches i len) code s bytes good f = by_test (is_illegal i s)
  where
    by_test : (b : Bool) → IsShapedPlan (cond b (raises illegal_instruction s) (turn_or_overflow (window_check i s) code i len s))
    by_test true = raised illegal_instruction s (omega arith) f
    by_test false = checked_shaped (window_check i s) code i len s bytes good f

-- ---- one turn

planned_shaped : (code : ℕ → ℕ) (s : State) → AreBytes code → IsShaped s → IsShapedPlan (planned_turn code s)
unfolding planned_turn
planned_shaped code s bytes f = by_tests (nat_lt 0 (pending_of s.control)) s.control.waits
  where
    by_tests : (b c : Bool) → IsShapedPlan (cond b (in_window (settled_interrupt (pending_of s.control) s.control) s) (cond c (in_window (settled_wait s.control) s) (fetched_turn (fetch_at code s.control.pc) code s)))
    by_tests true c = record { after = with_control s _ f (ticked_shaped _ (interrupt_shaped (pending_of s.control) s.control (level_small _ _ _) f.control)); write = tt }
    by_tests false true = record { after = with_control s _ f (ticked_shaped s.control f.control); write = tt }
    by_tests false false = fetched_shaped (fetch_at code s.control.pc) code s bytes (fetched_good code s.control.pc bytes f.control.pc) f

-- of the write that is made no more than its value is needed
IsWordWrite : Option RegWrite → Type 0
IsWordWrite None = Unit {0}
IsWordWrite (Some w) = IsWord w.value

word_write : (write : Option RegWrite) (awaited : Option ReplyTarget) (reply : ℕ) → IsProperWrite (λ n. IsWord n) write → IsWord reply → IsWordWrite (write_with_reply write awaited reply)
unfolding IsWordWrite
word_write None None reply p q = tt
word_write (Some w) None reply p q = p.1
word_write write (Some a) reply p q = extended_small a.signed reply q

write_shaped : (write : Option RegWrite) (s : State) → IsWordWrite write → IsShaped s → IsShaped (with_write write s)
unfolding IsWordWrite
write_shaped None s p f = f
write_shaped (Some w) s p f = record {
  count = length-set s.regs (place s.base w.reg) w.value ∙ f.count;
  words = words_set s.regs (place s.base w.reg) w.value f.words p;
  base = f.base;
  start = f.start;
  control = f.control;
}

pub turn_shaped : (code : ℕ → ℕ) (s : State) (reply : ℕ) → AreBytes code → IsShaped s → IsWord reply → IsShaped (turn code s reply).1
unfolding turn
turn_shaped code s reply bytes f small =
    let p = planned_shaped code s bytes f in
    write_shaped (write_with_reply (planned_turn code s).write (planned_turn code s).awaited reply) (planned_turn code s).after
    (word_write (planned_turn code s).write (planned_turn code s).awaited reply p.write small) p.after

-- ---- the opening

zeros_word : (n k : ℕ) → IsWord (slice_index (replicate n 0) k)
zeros_word zero k = omega arith
zeros_word (suc n) zero = omega arith
zeros_word (suc n) (suc k) = zeros_word n k

prid_word : (core : ℕ) → IsWord (prid_of core)
prid_word zero = omega arith
prid_word (suc n) = omega arith

special_opens : (prid vecbase : ℕ) → IsWord prid → IsWord vecbase → vecbase % 2 ^ 10 ≡ 0 → IsShapedSpecial (opening_special prid vecbase)
unfolding opening_special no_special
special_opens prid vecbase p q aligned =
    set_shaped (slice_set (replicate 256 0) 235 prid) 231 vecbase (record { as_sar = λ e. absurd (omega arith); as_vecbase = λ e. aligned }) q
    (set_shaped (replicate 256 0) 235 prid (record { as_sar = λ e. absurd (omega arith); as_vecbase = λ e. absurd (omega arith) }) p
    (record {
      count = length-replicate {A = ℕ} 256 0;
      words = zeros_word 256;
      shape = record { sar_fits = let h = get_or-replicate {A = ℕ} 256 3 0 0 (omega arith) in omega (arith, h); vecbase_aligned = let h = get_or-replicate {A = ℕ} 256 231 0 0 (omega arith) in omega (arith, h) };
    }))

pub opening_shaped : (core pc vecbase stack_end : ℕ) → IsWord pc → vecbase % 2 ^ 10 ≡ 0 → IsWord vecbase → 64 ≤ stack_end → IsWord stack_end
    → IsShaped (opening_state core pc vecbase stack_end)
unfolding opening_state opening_regs cleared_regs
opening_shaped core pc vecbase stack_end p aligned q r t =
    let special = special_opens (prid_of core) vecbase (prid_word core) q aligned in
    record {
      count = length-set (slice_set (replicate 64 0) 1 (stack_end - 64)) 8 (2 ^ 31) ∙ length-set (replicate 64 0) 1 (stack_end - 64) ∙ length-replicate {A = ℕ} 64 0;
      words = words_set (slice_set (replicate 64 0) 1 (stack_end - 64)) 8 (2 ^ 31) (words_set (replicate 64 0) 1 (stack_end - 64) (zeros_word 64) (omega arith)) (omega arith);
      base = omega arith;
      start = omega arith;
      control = record {
        pc = p;
        count = special.count;
        words = special.words;
        shape = special.shape;
        ps = record { intlevel_fits = omega arith; ring_fits = omega arith; owb_fits = omega arith; callinc_fits = omega arith };
        threadptr = omega arith;
      };
    }
