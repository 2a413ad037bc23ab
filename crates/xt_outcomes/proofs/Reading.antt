-- A turn looks at no register but those that its instruction reads.
use Rattle.std.proofs.Common.{◌≡◌, ℕ, zero, suc, Bool, true, false, cond, eqb, not, ◌||◌, Option, Some, None, List, refl, ap, ◌∙◌}
use Rattle.std.specs.Prelude.{nat_lt}
use Rattle.xt_isa.specs.declared.Insn.{Insn}
use Rattle.xt_isa.specs.declared.Insn.TheVariants as insn
use Rattle.xt_isa.specs.declared.control.Control.TheVariants as control
use Rattle.xt_isa.specs.declared.control.ReturnName.TheVariants as ReturnName
use Rattle.xt_isa.specs.declared.density.Density.TheVariants as density
use Rattle.xt_isa.specs.declared.density.BareName.TheVariants as BareName
use Rattle.xt_special.specs.Control.{Control, special_of}
use Rattle.xt_special.specs.Interrupts.{pending_of}
use Rattle.xt_special.specs.Numbers as number
use Rattle.xt_window.specs.Ring.{bit, visible, without_bit}
use Rattle.xt_window.specs.Moves.{base_after_return, behind, is_bad}
use Rattle.xt_trace.specs.declared.record.StepRecord.{StepRecord}
use Rattle.xt_rows.specs.declared.outcome.Outcome.{Outcome}
use Rattle.xt_rows.specs.declared.outcome.Outcome.TheVariants.{Does, Raises, Asks, Stops, Windowed}
use Rattle.xt_rows.specs.declared.outcome.WindowRegister.TheVariants as window
use Rattle.xt_rows.specs.declared.outcome.WindowStep.{WindowStep}
use Rattle.xt_rows.specs.declared.outcome.WindowStep.TheVariants.{Enters, Returns, EndsOverflow, EndsUnderflow, Rotates, MovesStack, Reads, Sets, Exchanges}
use Rattle.xt_map.specs.Fetching.{Fetched, Fetches, Fails, SpellsNothing, fetch_at}
use Rattle.xt_rows.specs.Effects.{illegal_instruction, no_caller_window, write_to}
use Rattle.xt_rows.specs.Operands.{reads}
use Rattle.xt_rows.specs.Outcomes.{outcome_at, value_of}
use Rattle.xt_rows.specs.RowLaws.{AgreeAt, AgreeOn}
use Rattle.xt_rows.specs.Settling.{return_pc, return_size, settled_interrupt, settled_wait, write_with_reply}
use Rattle.xt_exec.specs.State.{State}
use Rattle.xt_exec.specs.Turn.{Planned, demand, entry_turn, fall_through, fetched_turn, has_windows, in_window, is_illegal, moved_stack, outcome_turn, overflow, planned_turn, raises, reply_where, resuming_turn, return_turn, turn, turn_or_overflow, underflow, window_check, window_step, window_turn, with_write}
use Rattle.xt_outcomes.specs.Dead.{reads_of}

-- the same turn with other registers after it
abbrev pub with_regs : List ℕ → Planned → Planned
with_regs R p = record p { after = record p.after { regs = R } }

when_with : (R : List ℕ) (b : Bool) (x y : Planned) → cond b (with_regs R x) (with_regs R y) ≡ with_regs R (cond b x y)
when_with R true x y = refl
when_with R false x y = refl

same_value : (f g : ℕ → ℕ) (o : Option ℕ) → AgreeAt f g o → value_of f o ≡ value_of g o
same_value f g None h = refl
same_value f g (Some number) h = h

same_outcome : (code : ℕ → ℕ) (i : Insn) (f g : ℕ → ℕ) (c : Control) → AgreeOn f g (reads i) → outcome_at code i f c ≡ outcome_at code i g c
same_outcome code i f g c h =
    let x = same_value f g (reads i).0 h.0 in
    let y = same_value f g (reads i).1 h.1 in
    cc

module _ (R : List ℕ) where
  abbrev other : State → State
  other s = record s { regs = R }

  window_with : (step : WindowStep) (len : ℕ) (s : State) → window_turn step len (other s) ≡ with_regs R (window_turn step len s)
  unfolding entry_turn return_turn resuming_turn moved_stack underflow
  window_with (Enters number value) len s = refl
  window_with (Returns a0) len s =
      let base = base_after_return s.base (return_size a0) in
      when_with R (bit s.start base)
      (window_step None (record s { base = base; start = without_bit s.start s.base; control = record s.control { pc = return_pc s.control.pc a0 } }))
      (underflow (return_size a0) s)
  window_with (EndsOverflow epc1) len s = refl
  window_with (EndsUnderflow epc1) len s = refl
  window_with (Rotates n) len s = refl
  window_with (MovesStack number value) len s =
      when_with R (eqb (behind s.start s.base) 0) (raises no_caller_window s) (window_step (write_to number value) (fall_through len s))
  window_with (Reads window.Base number) len s = refl
  window_with (Reads window.Start number) len s = refl
  window_with (Sets window.Base value) len s = refl
  window_with (Sets window.Start value) len s = refl
  window_with (Exchanges window.Base number value) len s = refl
  window_with (Exchanges window.Start number value) len s = refl

  outcome_with : (o : Outcome) (len : ℕ) (s : State) → outcome_turn o len (other s) ≡ with_regs R (outcome_turn o len s)
  outcome_with (Does e) len s = refl
  outcome_with (Raises cause address) len s = refl
  outcome_with (Asks access target e) len s = refl
  outcome_with Stops len s = refl
  outcome_with (Windowed step) len s = window_with step len s

  -- the registers that the instruction reads are the same
  module _ (code : ℕ → ℕ) (s : State) where
    abbrev Agree : Insn → Type 0
    Agree i = AgreeOn (visible R s.base) (visible s.regs s.base) (reads i)

    same_return : visible R s.base 0 ≡ visible s.regs s.base 0
        → (is_bad s.start s.base (return_size (visible R s.base 0)) || not (has_windows s.control.ps)) ≡ (is_bad s.start s.base (return_size (visible s.regs s.base 0)) || not (has_windows s.control.ps))
    same_return e = ap (λ (n : ℕ). is_bad s.start s.base (return_size n) || not (has_windows s.control.ps)) e

    same_illegal : (i : Insn) → Agree i → is_illegal i (other s) ≡ is_illegal i s
    unfolding is_illegal reads
    same_illegal (insn.Control (control.Entry number size)) h = refl
    same_illegal (insn.Control (control.Return ReturnName.Retw)) h = same_return h.0
    same_illegal (insn.Density (density.Bare BareName.Retw)) h = same_return h.0
    same_illegal _ h = refl

    checked_with : (n : ℕ) (i : Insn) (len : ℕ) → Agree i → turn_or_overflow n code i len (other s) ≡ with_regs R (turn_or_overflow n code i len s)
    unfolding overflow
    checked_with zero i len h =
        ap (λ (o : Outcome). outcome_turn o len (other s)) (same_outcome code i (visible R s.base) (visible s.regs s.base) s.control h)
        ∙ outcome_with (outcome_at code i (visible s.regs s.base) s.control) len s
    checked_with (suc n) i len h = refl

    fetched_with : (f : Fetched) → AgreeOn (visible R s.base) (visible s.regs s.base) (reads_of f) → fetched_turn f code (other s) ≡ with_regs R (fetched_turn f code s)
    fetched_with (Fails address) h = refl
    fetched_with SpellsNothing h = refl
    fetched_with (Fetches i len) h =
        (λ j. cond (same_illegal i h j) (raises illegal_instruction (other s)) (checked_with (window_check i s) i len h j))
        ∙ when_with R (is_illegal i s) (raises illegal_instruction s) (turn_or_overflow (window_check i s) code i len s)

    pub planned_with : AgreeOn (visible R s.base) (visible s.regs s.base) (reads_of (fetch_at code s.control.pc)) → planned_turn code (other s) ≡ with_regs R (planned_turn code s)
    unfolding planned_turn
    planned_with h =
        let level = pending_of s.control in
        ap (λ (p : Planned). cond (nat_lt 0 level) (in_window (settled_interrupt level s.control) (other s)) (cond s.control.waits (in_window (settled_wait s.control) (other s)) p)) (fetched_with (fetch_at code s.control.pc) h)
        ∙ ap (λ (p : Planned). cond (nat_lt 0 level) (in_window (settled_interrupt level s.control) (other s)) p) (when_with R s.control.waits (in_window (settled_wait s.control) s) (fetched_turn (fetch_at code s.control.pc) code s))
        ∙ when_with R (nat_lt 0 level) (in_window (settled_interrupt level s.control) s) (cond s.control.waits (in_window (settled_wait s.control) s) (fetched_turn (fetch_at code s.control.pc) code s))

    -- the record of the turn is the same, and the state after it but for registers
    pub turn_with : (reply : ℕ) → AgreeOn (visible R s.base) (visible s.regs s.base) (reads_of (fetch_at code s.control.pc))
        → turn code (other s) reply ≡ ((turn code s reply).0, with_write (turn code s reply).0.write (record (planned_turn code s).after { regs = R }))
    unfolding turn demand
    turn_with reply h =
        let e = planned_with h in
        let make : Planned → StepRecord × State = λ p. let write = write_with_reply p.write p.awaited reply in (
          record {
            pc = s.control.pc;
            kind = p.kind;
            write = write;
            access = p.access;
            reply = reply_where p.access reply;
            ccount = special_of s.control number.ccount;
            owb = s.control.ps.owb;
            interrupt = special_of s.control number.interrupt;
          },
          with_write write p.after,
        ) in
        ap make e

agrees : (f : ℕ → ℕ) (o : Option ℕ) → AgreeAt f f o
agrees f None = tt
agrees f (Some number) = refl

-- a turn changes no register but the one that it writes
pub regs_stay : (code : ℕ → ℕ) (s : State) → (planned_turn code s).after.regs ≡ s.regs
regs_stay code s =
    let o = reads_of (fetch_at code s.control.pc) in
    let f = visible s.regs s.base in
    ap (λ (p : Planned). p.after.regs) (planned_with s.regs code s (agrees f o.0, agrees f o.1))
