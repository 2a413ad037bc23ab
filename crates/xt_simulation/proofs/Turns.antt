-- What the processor's turn is at an instruction of a handler.
use Rattle.std.proofs.Common.{◌≡◌, ℕ, ◌+◌, ◌*◌, ◌%◌, ◌^◌, ◌<◌, ◌≤◌, ◌⊎◌, inl, inr, ⊎_elim, ℤ, pos, negsuc, Bool, true, false, ◌&&◌, cond, eqb, ltb, refl, sym, ◌∙◌, ap, arith, Some, None, subst}
use Rattle.std.specs.Prelude.{unsigned_abs, max}
use Rattle.std.proofs.Math.ListN.{set}
use Rattle.std.proofs.lemmas.Option.{cond_some}
use Rattle.std.proofs.lemmas.Bool.{both_ways, cond-false, cond_both, and_parts, and_right, eq-eqb, eqb-true, false_from_ne_true, le-ltb, lt-ltb, ltb-true, true≢false}
use Rattle.xt_isa.specs.declared.Insn.{Insn}
use Rattle.xt_isa.specs.declared.Insn.TheVariants as insn
use Rattle.xt_isa.specs.declared.memory.WindowName.{WindowName}
use Rattle.xt_isa.specs.declared.memory.WindowName.TheVariants as window
use Rattle.xt_isa.specs.declared.memory.Memory.TheVariants as memory
use Rattle.xt_isa.specs.declared.system.System.TheVariants as system
use Rattle.xt_isa.specs.declared.system.WaitName.TheVariants as wait
use Rattle.xt_isa.specs.declared.system.ExceptionReturnName.TheVariants as return
use Rattle.xt_isa.specs.declared.density.Density.TheVariants as density
use Rattle.xt_isa.specs.declared.density.BareName.TheVariants as narrow
use Rattle.xt_isa.specs.Ranges.{in_range, two_registers, window_within}
use Rattle.xt_map.specs.declared.access.Kind.TheVariants.{Load, Store}
use Rattle.xt_map.specs.declared.contents.MemoryContents.{MemoryContents}
use Rattle.xt_map.specs.Memory.{HasSizes, byte_at}
use Rattle.xt_special.specs.declared.ps.Ps.{Ps}
use Rattle.xt_special.specs.Numbers as number
use Rattle.xt_special.specs.Control.{Control, special_of}
use Rattle.xt_special.specs.Timers.{after_tick}
use Rattle.xt_special.specs.Interrupts.{current_level, pending_level, pending_of}
use Rattle.xt_special.specs.Looping.{loops_back}
use Rattle.xt_window.specs.Ring.{place, visible, ahead, with_bit, without_bit}
use Rattle.xt_trace.specs.declared.record.StepKind.TheVariants as kind
use Rattle.xt_rows.specs.declared.outcome.Flow.TheVariants.{Falls}
use Rattle.xt_rows.specs.declared.outcome.Outcome.{Outcome}
use Rattle.xt_rows.specs.declared.outcome.Outcome.TheVariants.{Does, Asks, Windowed}
use Rattle.xt_rows.specs.declared.outcome.WindowStep.TheVariants.{EndsOverflow, EndsUnderflow}
use Rattle.xt_map.specs.Fetching.{Fetches, fetch_at}
use Rattle.xt_rows.specs.Numbers.{plus, loaded_value}
use Rattle.xt_rows.specs.Operands.{reads, special_reads}
use Rattle.xt_rows.specs.Effects.{no_change, loads, stores, illegal_instruction}
use Rattle.xt_rows.specs.Outcomes.{outcome, memory_outcome, system_outcome, density_outcome, outcome_at}
use Rattle.xt_rows.specs.Settling.{after_flow, after_effect}
use Rattle.xt_exec.specs.State.{State}
use Rattle.xt_exec.specs.Turn.{Planned, planned_turn, demand, write_with_reply, with_write, raises, has_windows, looks, window_check, is_illegal, outcome_turn, turn_or_overflow, fetched_turn, resuming_turn}
use Rattle.xt_exec.proofs.Finished.{turn_fetches, turn_taken}
use Rattle.xt_frames.specs.Nesting.{is_nesting, nested_level}
use Rattle.xt_handlers.specs.declared.stretch.HandlerInsn.{HandlerInsn}
use Rattle.xt_handlers.specs.declared.stretch.HandlerInsn.TheVariants.{L32e, S32e, Nop, Rfwo, Rfwu, Foreign}
use Rattle.xt_handlers.specs.Spelled.{step_of_insn}
use Rattle.xt_handlers.specs.Running.{is_access, with_word, machine_after_step, MayAccess}
use Rattle.xt_handlers.specs.Machines.{Machine, address, word_at}
use Rattle.xt_simulation.specs.Steps.{reply_at, memory_after_step, reply_now, state_now, memory_now}
use Rattle.xt_simulation.specs.Handling.{machine}
use Rattle.xt_simulation.proofs.Plans.{plan_asks, plan_state}
use Rattle.xt_simulation.proofs.Words.{loads_ask, stores_ask, word_replied, word_stored, load_keeps}

-- ---- an instruction, by what it is to a handler
pub data Shown : Insn → HandlerInsn → Type 0 where
  load : {t s : ℕ} {offset : ℤ} → Shown (insn.Memory (memory.Window window.L32e t s offset)) (L32e t s (unsigned_abs offset))
  store : {t s : ℕ} {offset : ℤ} → Shown (insn.Memory (memory.Window window.S32e t s offset)) (S32e t s (unsigned_abs offset))
  wide_nop : Shown (insn.System (system.Wait wait.Nop)) Nop
  narrow_nop : Shown (insn.Density (density.Bare narrow.Nop)) Nop
  ends_overflow : Shown (insn.System (system.ExceptionReturn return.Rfwo)) Rfwo
  ends_underflow : Shown (insn.System (system.ExceptionReturn return.Rfwu)) Rfwu
  other : {i : Insn} → Shown i Foreign

pub shown : (i : Insn) → Shown i (step_of_insn i)
unfolding step_of_insn
shown (insn.Memory (memory.Window window.L32e t s offset)) = load
shown (insn.Memory (memory.Window window.S32e t s offset)) = store
shown (insn.System (system.Wait wait.Nop)) = wide_nop
shown (insn.Density (density.Bare narrow.Nop)) = narrow_nop
shown (insn.System (system.ExceptionReturn return.Rfwo)) = ends_overflow
shown (insn.System (system.ExceptionReturn return.Rfwu)) = ends_underflow
shown _ = other

-- ---- within a handler no interrupt but a nested one is taken, no window is checked, and no loop goes back
abbrev level_of : Bool → Bool → Bool → ℕ
level_of a b c = cond a 5 (cond b 3 (cond c 1 0))

first_of : (a b c : Bool) → (level_of a (b && false) (c && false) ≡ 5) ⊎ (level_of a (b && false) (c && false) ≡ 0)
first_of true b c = inl refl
first_of false true true = inr refl
first_of false true false = inr refl
first_of false false true = inr refl
first_of false false false = inr refl

-- exception mode masks the levels up to 3
five_or_none : (interrupt enabled : ℕ) (ps : Ps) → ps.excm ≡ true → (pending_level interrupt enabled ps ≡ 5) ⊎ (pending_level interrupt enabled ps ≡ 0)
unfolding pending_level
five_or_none interrupt enabled ps e =
    let three : ltb (max ps.intlevel 3) 3 ≡ false = le-ltb (max ps.intlevel 3) 3 (omega arith) in
    let one : ltb (max ps.intlevel 3) 1 ≡ false = le-ltb (max ps.intlevel 3) 1 (omega arith) in
    rw (e, three, one) (first_of _ _ _)

pub quiet_level : (code : ℕ → ℕ) (s : State) → s.control.ps.excm ≡ true → is_nesting (planned_turn code s).kind ≡ false → ltb 0 (pending_of s.control) ≡ false
quiet_level code s e h = ⊎_elim
    (λ five.
    let taken = turn_taken code s (lt-ltb 0 (pending_of s.control) (omega (arith, five))) in
    let is : is_nesting (planned_turn code s).kind ≡ eqb (pending_of s.control) 5 = ap (λ (p : Planned). is_nesting p.kind) taken in
    absurd (both_ways _ h (is ∙ eq-eqb (pending_of s.control) 5 five)))
    (λ none. ap (ltb 0) none)
    (five_or_none (special_of s.control number.interrupt) (special_of s.control number.intenable) s.control.ps e)

-- an interrupt of level 1 is taken outside exception mode
pub low_level : (c : Control) → eqb (pending_of c) 1 ≡ true → c.ps.excm ≡ false
low_level c h = false_from_ne_true c.ps.excm (λ e.
    let one = eqb-true (pending_of c) 1 h in
    ⊎_elim (λ five. omega (arith, five, one)) (λ none. omega (arith, none, one))
    (five_or_none (special_of c number.interrupt) (special_of c number.intenable) c.ps e))

-- nor is one in a nested interrupt
all_masked : (a b c : Bool) → level_of (a && false) (b && false) (c && false) ≡ 0
all_masked a b c =
    let x = and_right a false refl in
    let y = and_right b false refl in
    let z = and_right c false refl in
    rw (x, y, z) refl

none_above : (interrupt enabled : ℕ) (ps : Ps) → 5 ≤ current_level ps → pending_level interrupt enabled ps ≡ 0
unfolding pending_level
none_above interrupt enabled ps high =
    let five : ltb (current_level ps) 5 ≡ false = le-ltb (current_level ps) 5 high in
    let three : ltb (current_level ps) 3 ≡ false = le-ltb (current_level ps) 3 (omega arith) in
    let one : ltb (current_level ps) 1 ≡ false = le-ltb (current_level ps) 1 (omega arith) in
    rw (five, three, one) (all_masked _ _ _)

pub quiet_nested : (c : Control) → c.ps.intlevel ≡ nested_level → ltb 0 (pending_of c) ≡ false
quiet_nested c is =
    ap (ltb 0) (none_above (special_of c number.interrupt) (special_of c number.intenable) c.ps
    (cond_both c.ps.excm (max c.ps.intlevel 3) c.ps.intlevel (λ n. 5 ≤ n) (λ e. omega (arith, is)) (λ e. omega (arith, is))))

no_windows : (ps : Ps) → ps.excm ≡ true → has_windows ps ≡ false
no_windows ps e = rw e (and_right ps.woe false refl)

no_check : (i : Insn) (s : State) → s.control.ps.excm ≡ true → window_check i s ≡ 0
no_check i s e = cond-false (has_windows s.control.ps) (ahead s.start s.base (looks i s.control.ps)) 0 (no_windows s.control.ps e)

stays : (lend lcount next : ℕ) → loops_back lend lcount true next ≡ false
unfolding loops_back
stays lend lcount next = and_right (eqb next lend) _ refl

pub falls_on : (c : Control) (len : ℕ) → c.ps.excm ≡ true → after_flow Falls len c ≡ record c { pc = (c.pc + len) % 2 ^ 32 }
falls_on c len e =
    let n : loops_back (special_of c number.lend) (special_of c number.lcount) c.ps.excm ((c.pc + len) % 2 ^ 32) ≡ false = rw e (stays (special_of c number.lend) (special_of c number.lcount) ((c.pc + len) % 2 ^ 32)) in
    cond-false (loops_back (special_of c number.lend) (special_of c number.lcount) c.ps.excm ((c.pc + len) % 2 ^ 32)) _ _ n

pub calm_effect : (c : Control) (len : ℕ) → c.ps.excm ≡ true → c.waits ≡ false → after_effect (no_change c.ps c.threadptr) len c ≡ record c { pc = (c.pc + len) % 2 ^ 32 }
unfolding after_effect
calm_effect c len e w = falls_on (record c { waits = false }) len e ∙ rw w refl

-- ---- the turn, where no interrupt is taken
module _ (code : ℕ → ℕ) (s : State) (low : s.control.ps.excm ≡ true) (untaken : ltb 0 (pending_of s.control) ≡ false) (running : s.control.waits ≡ false) where
  pub turn_does : (i : Insn) (len : ℕ) → fetch_at code s.control.pc ≡ Fetches i len → is_illegal i s ≡ false → planned_turn code s ≡ outcome_turn (outcome_at code i (visible s.regs s.base) s.control) len s
  turn_does i len at legal =
      turn_fetches code s untaken running
      ∙ (ap (λ f. fetched_turn f code s) at
      ∙ (cond-false (is_illegal i s) (raises illegal_instruction s) (turn_or_overflow (window_check i s) code i len s) legal
      ∙ ap (λ k. turn_or_overflow k code i len s) (no_check i s low)))

  turn_settles : (i : Insn) (len : ℕ) (o : Outcome) → fetch_at code s.control.pc ≡ Fetches i len → is_illegal i s ≡ false → outcome_at code i (visible s.regs s.base) s.control ≡ o → planned_turn code s ≡ outcome_turn o len s
  turn_settles i len o at legal is = turn_does i len at legal ∙ ap (λ o. outcome_turn o len s) is

-- ---- addresses
within_means : (offset : ℤ) → window_within offset ≡ true → (x : ℕ) → plus x offset ≡ address x (unsigned_abs offset)
unfolding window_within plus address
within_means (pos n) h x = absurd (true≢false (sym h))
within_means (negsuc n) h x = let small = ltb-true n 64 (and_parts (eqb ((n + 1) % 4) 0) (ltb n 64) h).1 in omega arith

pub loads_at : (t s : ℕ) (offset : ℤ) (name : WindowName) → in_range (insn.Memory (memory.Window name t s offset)) ≡ true → (x : ℕ) → plus x offset ≡ address x (unsigned_abs offset)
loads_at t s offset name h x = within_means offset (and_parts (two_registers t s) (window_within offset) h).1 x

-- ---- an instruction that is not the ending
-- the state and memory after it are those of the small machine, and PC goes on
pub record Turned (code : ℕ → ℕ) (m : MemoryContents) (s : State) (len : ℕ) (next : Machine) : Type 0 where
  pub kind : (planned_turn code s).kind ≡ kind.Insn
  pub after : state_now code m s ≡ record { regs = next.ring; base = s.base; start = s.start; control = after_tick (record s.control { pc = (s.control.pc + len) % 2 ^ 32 }) }
  pub bytes : (a : ℕ) → byte_at (memory_now code m s) a ≡ next.bytes a

module _ (code : ℕ → ℕ) (m : MemoryContents) (s : State) (low : s.control.ps.excm ≡ true) (untaken : ltb 0 (pending_of s.control) ≡ false) (running : s.control.waits ≡ false) (len : ℕ) where
  load_outcome : (t r : ℕ) (offset : ℤ) → in_range (insn.Memory (memory.Window window.L32e t r offset)) ≡ true → is_access (address (visible s.regs s.base r) (unsigned_abs offset)) ≡ true
      → outcome_at code (insn.Memory (memory.Window window.L32e t r offset)) (visible s.regs s.base) s.control ≡ Asks (record { addr = address (visible s.regs s.base r) (unsigned_abs offset); size = 4; kind = Load }) (Some (record { number = t; signed = false })) (no_change s.control.ps s.control.threadptr)
  unfolding outcome memory_outcome reads special_reads
  load_outcome t r offset range may =
      ap (λ a. loads code 4 false t a (no_change s.control.ps s.control.threadptr)) (loads_at t r offset window.L32e range (visible s.regs s.base r))
      ∙ loads_ask code t (address (visible s.regs s.base r) (unsigned_abs offset)) (no_change s.control.ps s.control.threadptr) may

  store_outcome : (t r : ℕ) (offset : ℤ) → in_range (insn.Memory (memory.Window window.S32e t r offset)) ≡ true → is_access (address (visible s.regs s.base r) (unsigned_abs offset)) ≡ true
      → outcome_at code (insn.Memory (memory.Window window.S32e t r offset)) (visible s.regs s.base) s.control ≡ Asks (record { addr = address (visible s.regs s.base r) (unsigned_abs offset); size = 4; kind = Store (visible s.regs s.base t % 2 ^ (8 * 4)) }) None (no_change s.control.ps s.control.threadptr)
  unfolding outcome memory_outcome reads special_reads
  store_outcome t r offset range may =
      ap (λ a. stores 4 (visible s.regs s.base t) a (no_change s.control.ps s.control.threadptr)) (loads_at t r offset window.S32e range (visible s.regs s.base r))
      ∙ stores_ask (visible s.regs s.base t) (address (visible s.regs s.base r) (unsigned_abs offset)) (no_change s.control.ps s.control.threadptr) may

  wide_outcome : outcome_at code (insn.System (system.Wait wait.Nop)) (visible s.regs s.base) s.control ≡ Does (no_change s.control.ps s.control.threadptr)
  unfolding outcome system_outcome reads special_reads
  wide_outcome = refl

  narrow_outcome : outcome_at code (insn.Density (density.Bare narrow.Nop)) (visible s.regs s.base) s.control ≡ Does (no_change s.control.ps s.control.threadptr)
  unfolding outcome density_outcome reads special_reads
  narrow_outcome = refl

  load_legal : (t r : ℕ) (offset : ℤ) (name : WindowName) → is_illegal (insn.Memory (memory.Window name t r offset)) s ≡ false
  unfolding is_illegal
  load_legal t r offset name = refl

  wide_legal : is_illegal (insn.System (system.Wait wait.Nop)) s ≡ false
  unfolding is_illegal
  wide_legal = refl

  narrow_legal : is_illegal (insn.Density (density.Bare narrow.Nop)) s ≡ false
  unfolding is_illegal
  narrow_legal = refl

  -- the planned turn tells the state and the memory
  pub from_plan : (p : Planned) (next : Machine) → planned_turn code s ≡ p → p.kind ≡ kind.Insn
      → with_write (write_with_reply p.write p.awaited (reply_at m p.access)) p.after ≡ record { regs = next.ring; base = s.base; start = s.start; control = after_tick (record s.control { pc = (s.control.pc + len) % 2 ^ 32 }) }
      → ((a : ℕ) → byte_at (memory_after_step m p.access) a ≡ next.bytes a) → Turned code m s len next
  from_plan p next is k after bytes =
      let d : demand code s ≡ p.access = plan_asks code s p is in
      record {
        kind = ap (λ (p : Planned). p.kind) is ∙ k;
        after = plan_state code s p is (reply_now code m s) ∙ (ap (λ o. with_write (write_with_reply p.write p.awaited (reply_at m o)) p.after) d ∙ after);
        bytes = λ a. ap (λ o. byte_at (memory_after_step m o) a) d ∙ bytes a;
      }

  calm : after_effect (no_change s.control.ps s.control.threadptr) len s.control ≡ record s.control { pc = (s.control.pc + len) % 2 ^ 32 }
  calm = calm_effect s.control len low running

  load_turn : (t r : ℕ) (offset : ℤ) (next : Machine) → fetch_at code s.control.pc ≡ Fetches (insn.Memory (memory.Window window.L32e t r offset)) len → in_range (insn.Memory (memory.Window window.L32e t r offset)) ≡ true
      → is_access (address (visible s.regs s.base r) (unsigned_abs offset)) ≡ true → machine_after_step (L32e t r (unsigned_abs offset)) (machine m s) ≡ Some next → Turned code m s len next
  unfolding loaded_value
  load_turn t r offset next at range may is =
      let a : ℕ = address (visible s.regs s.base r) (unsigned_abs offset) in
      let o : Outcome = Asks (record { addr = a; size = 4; kind = Load }) (Some (record { number = t; signed = false })) (no_change s.control.ps s.control.threadptr) in
      let p = turn_settles code s low untaken running (insn.Memory (memory.Window window.L32e t r offset)) len o at (load_legal t r offset window.L32e) (load_outcome t r offset range may) in
      let to : Machine = record { ring = set s.regs (place s.base t) (word_at (byte_at m) a); base = s.base; bytes = byte_at m } in
      let n : to ≡ next = (cond_some (is_access a) to next is).1 in
      let v = word_replied m a may in
      subst (Turned code m s len) n (from_plan (outcome_turn o len s) to p refl (rw (v, calm) refl) (λ x. ap (λ n. byte_at n x) (load_keeps m a 4)))

  store_turn : (t r : ℕ) (offset : ℤ) (next : Machine) → fetch_at code s.control.pc ≡ Fetches (insn.Memory (memory.Window window.S32e t r offset)) len → in_range (insn.Memory (memory.Window window.S32e t r offset)) ≡ true
      → is_access (address (visible s.regs s.base r) (unsigned_abs offset)) ≡ true → visible s.regs s.base t < 2 ^ 32 → HasSizes m → machine_after_step (S32e t r (unsigned_abs offset)) (machine m s) ≡ Some next → Turned code m s len next
  store_turn t r offset next at range may small sizes is =
      let a : ℕ = address (visible s.regs s.base r) (unsigned_abs offset) in
      let v : ℕ = visible s.regs s.base t in
      let o : Outcome = Asks (record { addr = a; size = 4; kind = Store (v % 2 ^ (8 * 4)) }) None (no_change s.control.ps s.control.threadptr) in
      let p = turn_settles code s low untaken running (insn.Memory (memory.Window window.S32e t r offset)) len o at (load_legal t r offset window.S32e) (store_outcome t r offset range may) in
      let to : Machine = record { ring = s.regs; base = s.base; bytes = with_word (byte_at m) a v } in
      let n : to ≡ next = (cond_some (is_access a) to next is).1 in
      subst (Turned code m s len) n (from_plan (outcome_turn o len s) to p refl (rw calm refl) (λ x. word_stored m a v x sizes may small))

  nop_turn : (i : Insn) (next : Machine) → fetch_at code s.control.pc ≡ Fetches i len → is_illegal i s ≡ false → outcome_at code i (visible s.regs s.base) s.control ≡ Does (no_change s.control.ps s.control.threadptr)
      → machine_after_step Nop (machine m s) ≡ Some next → Turned code m s len next
  nop_turn i next at legal does is =
      let o : Outcome = Does (no_change s.control.ps s.control.threadptr) in
      let p = turn_settles code s low untaken running i len o at legal does in
      let n : machine m s ≡ next = (let q : Some (machine m s) ≡ Some next = is in cc) in
      subst (Turned code m s len) n (from_plan (outcome_turn o len s) (machine m s) p refl (rw calm refl) (λ x. refl))

  pub turned : (i : Insn) (step : HandlerInsn) (next : Machine) → Shown i step → fetch_at code s.control.pc ≡ Fetches i len → in_range i ≡ true → MayAccess step (machine m s) → ((k : ℕ) → visible s.regs s.base k < 2 ^ 32) → HasSizes m
      → machine_after_step step (machine m s) ≡ Some next → Turned code m s len next
  turned i step next (load {t = t} {s = r} {offset = offset}) at range may small sizes is = load_turn t r offset next at range may is
  turned i step next (store {t = t} {s = r} {offset = offset}) at range may small sizes is = store_turn t r offset next at range may (small t) sizes is
  turned i step next wide_nop at range may small sizes is = nop_turn (insn.System (system.Wait wait.Nop)) next at wide_legal wide_outcome is
  turned i step next narrow_nop at range may small sizes is = nop_turn (insn.Density (density.Bare narrow.Nop)) next at narrow_legal narrow_outcome is
  turned i step next ends_overflow at range may small sizes is = absurd cc
  turned i step next ends_underflow at range may small sizes is = absurd cc
  turned i step next other at range may small sizes is = absurd cc

  -- ---- the ending
  overflow_ends : fetch_at code s.control.pc ≡ Fetches (insn.System (system.ExceptionReturn return.Rfwo)) len → planned_turn code s ≡ resuming_turn (without_bit s.start s.base) (special_of s.control (number.epc 1)) s
  unfolding outcome system_outcome reads special_reads is_illegal
  overflow_ends at = turn_settles code s low untaken running (insn.System (system.ExceptionReturn return.Rfwo)) len (Windowed (EndsOverflow (special_of s.control (number.epc 1)))) at refl refl

  underflow_ends : fetch_at code s.control.pc ≡ Fetches (insn.System (system.ExceptionReturn return.Rfwu)) len → planned_turn code s ≡ resuming_turn (with_bit s.start s.base) (special_of s.control (number.epc 1)) s
  unfolding outcome system_outcome reads special_reads is_illegal
  underflow_ends at = turn_settles code s low untaken running (insn.System (system.ExceptionReturn return.Rfwu)) len (Windowed (EndsUnderflow (special_of s.control (number.epc 1)))) at refl refl

  pub record Ended (start : ℕ) : Type 0 where
    pub kind : (planned_turn code s).kind ≡ kind.Insn
    pub after : state_now code m s ≡ record { regs = s.regs; base = s.control.ps.owb; start = start; control = after_tick (record s.control { pc = special_of s.control (number.epc 1); ps = record s.control.ps { excm = false } }) }
    pub memory : memory_now code m s ≡ m

  from_ending : (start : ℕ) → planned_turn code s ≡ resuming_turn start (special_of s.control (number.epc 1)) s → Ended start
  unfolding resuming_turn
  from_ending start is =
      let d : demand code s ≡ None = plan_asks code s _ is in
      record {
        kind = ap (λ (p : Planned). p.kind) is;
        after = plan_state code s _ is (reply_now code m s);
        memory = ap (memory_after_step m) d;
      }

  pub ends_with_rfwo : fetch_at code s.control.pc ≡ Fetches (insn.System (system.ExceptionReturn return.Rfwo)) len → Ended (without_bit s.start s.base)
  ends_with_rfwo at = from_ending (without_bit s.start s.base) (overflow_ends at)

  pub ends_with_rfwu : fetch_at code s.control.pc ≡ Fetches (insn.System (system.ExceptionReturn return.Rfwu)) len → Ended (with_bit s.start s.base)
  ends_with_rfwu at = from_ending (with_bit s.start s.base) (underflow_ends at)
