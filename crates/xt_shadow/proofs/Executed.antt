-- The turn of an instruction that no breach names, where it is executed.
use Rattle.std.proofs.Common.{◌≡◌, ℕ, ℤ, zero, suc, ◌<◌, ◌≤◌, Bool, true, false, cond, ltb, Option, Some, None, inl, inr, sym, ap, ◌∙◌, refl, arith, subst}
use Rattle.std.proofs.lemmas.Bool.{cond-false, true≢false}
use Rattle.xt_isa.specs.declared.Insn.{Insn}
use Rattle.xt_isa.specs.declared.Insn.TheVariants as insn
use Rattle.xt_isa.specs.declared.control.Control.TheVariants as control
use Rattle.xt_isa.specs.declared.shift.Shift.TheVariants as shift
use Rattle.xt_isa.specs.Ranges.{in_range}
use Rattle.xt_map.specs.declared.access.Access.{Access}
use Rattle.xt_special.specs.Control.{special_of}
use Rattle.xt_special.specs.Interrupts.{pending_of}
use Rattle.xt_window.specs.Ring.{visible}
use Rattle.xt_trace.specs.declared.record.RegWrite.{RegWrite}
use Rattle.xt_trace.specs.declared.record.StepKind.TheVariants as kind
use Rattle.xt_trace.specs.declared.record.StepRecord.{StepRecord}
use Rattle.xt_map.specs.Fetching.{Fetches, fetch_at}
use Rattle.xt_rows.specs.declared.outcome.ReplyTarget.{ReplyTarget}
use Rattle.xt_rows.specs.declared.outcome.Effect.{Effect}
use Rattle.xt_rows.specs.declared.outcome.WindowStep.{WindowStep}
use Rattle.xt_rows.specs.declared.outcome.WindowStep.TheVariants.{Enters, Returns, EndsOverflow, EndsUnderflow, Rotates, MovesStack, Reads, Sets, Exchanges}
use Rattle.xt_rows.specs.declared.outcome.Outcome.{Outcome}
use Rattle.xt_rows.specs.declared.outcome.Outcome.TheVariants.{Does, Raises, Asks, Stops, Windowed}
use Rattle.xt_rows.specs.Effects.{no_change}
use Rattle.xt_rows.specs.Kinds.{AllSpare, AwaitsNamed, Fits, FitsStep, IsReturn, SetsOne, WritesNamed, is_movsp, is_return}
use Rattle.xt_rows.specs.Operands.{highest_register}
use Rattle.xt_rows.specs.Outcomes.{outcome_at}
use Rattle.xt_rows.specs.RowLaws.{AsksWith, IsAny, IsProperWrite}
use Rattle.xt_rows.specs.Settling.{after_outcome, write_with_reply}
use Rattle.xt_rows.proofs.Fitting.{outcome_alone, outcome_fits}
use Rattle.xt_rows.proofs.Registers.{names_registers}
use Rattle.xt_exec.specs.State.{State}
use Rattle.xt_exec.specs.Turn.{Planned, fetched_turn, in_window, is_illegal, outcome_turn, overflow, planned_turn, raises, turn, turn_or_overflow, window_check, with_write}
use Rattle.xt_frames.specs.Breaches.{may_write_sp}
use Rattle.xt_frames.specs.Quick.{IsCommon}

-- what comes of it: an effect, or an access with the rest of its effect
pub data Makes (o : Outcome) (e : Effect) : Type 0 where
  does : o ≡ Does e → Makes o e
  asks : (a : Access) (w : Option ReplyTarget) → o ≡ Asks a w e → Makes o e

-- ---- an instruction that no breach names moves no window
no_entry : (i : Insn) (number : ℕ) (size : ℤ) → may_write_sp i ≡ false → i ≡ insn.Control (control.Entry number size) → ⊥
unfolding may_write_sp
no_entry i number size h e = true≢false (sym (ap may_write_sp e) ∙ h)

no_movsp : (i : Insn) → may_write_sp i ≡ false → is_movsp i ≡ true → ⊥
unfolding may_write_sp is_movsp
no_movsp (insn.Shift (shift.Movsp t s)) h e = true≢false h
no_movsp _ h e = true≢false (sym e)

no_return : (i : Insn) → is_return i ≡ false → IsReturn i → ⊥
unfolding is_return
no_return i h (inl e) = true≢false (sym (ap is_return e) ∙ h)
no_return i h (inr e) = true≢false (sym (ap is_return e) ∙ h)

no_step : (i : Insn) (step : WindowStep) → IsCommon i → FitsStep i step → ⊥
no_step i (Enters number value) c f = no_entry i number f.0 c.stack f.1
no_step i (Returns a0) c f = no_return i c.return f
no_step i (EndsOverflow epc1) c f = true≢false (sym f ∙ c.windowing)
no_step i (EndsUnderflow epc1) c f = true≢false (sym f ∙ c.windowing)
no_step i (Rotates n) c f = true≢false (sym f ∙ c.windowing)
no_step i (MovesStack number value) c f = no_movsp i c.stack f
no_step i (Reads register number) c f = true≢false (sym f ∙ c.register)
no_step i (Sets register value) c f = true≢false (sym f ∙ c.register)
no_step i (Exchanges register number value) c f = true≢false (sym f ∙ c.register)

-- ---- its turn, where it is executed
module _ (code : ℕ → ℕ) (i : Insn) (len : ℕ) (s : State) (c : IsCommon i) where
  abbrev pub outcome_of : Outcome
  outcome_of = outcome_at code i (visible s.regs s.base) s.control

  fits : Fits i outcome_of
  fits = outcome_fits code i _ _ _ _ _ _ _

  by_outcome : (o : Outcome) → Fits i o → (outcome_turn o len s).kind ≡ kind.Insn → (e : Effect) × Makes o e × (outcome_turn o len s ≡ in_window (after_outcome o len s.control) s)
  by_outcome (Does e) f k = (e, does refl, refl)
  by_outcome (Raises cause address) f k = absurd cc
  by_outcome (Asks a w e) f k = (e, asks a w refl, refl)
  by_outcome Stops f k = absurd cc
  by_outcome (Windowed step) f k = absurd (no_step i step c f)

  abbrev Runs : Planned → Type 0
  Runs p = p.kind ≡ kind.Insn → (e : Effect) × Makes outcome_of e × (p ≡ in_window (after_outcome outcome_of len s.control) s)

  by_check : (distance : ℕ) → Runs (turn_or_overflow distance code i len s)
  unfolding overflow
  by_check zero k = by_outcome outcome_of fits k
  by_check (suc distance) k = absurd cc

  by_legal : (b : Bool) (p : Planned) → Runs p → Runs (cond b (raises 0 s) p)
  by_legal true p r k = absurd cc
  by_legal false p r k = r k

  pub executed : Runs (fetched_turn (Fetches i len) code s)
  executed = by_legal (is_illegal i s) (turn_or_overflow (window_check i s) code i len s) (by_check (window_check i s))

  by_form : (o : Outcome) (e : Effect) → Makes o e → Fits i o → AsksWith (no_change s.control.ps s.control.threadptr) o → AllSpare 177 e.sets
  by_form o e (does is) f a =
      let g : Fits i (Does e) = subst (Fits i) is f in
      subst (λ (m : Option (ℕ × ℕ)). SetsOne m 177 e.sets) c.moves (g.1 177 refl)
  by_form o e (asks access w is) f a =
      let same : e ≡ no_change s.control.ps s.control.threadptr = subst (AsksWith (no_change s.control.ps s.control.threadptr)) is a in
      subst (λ (x : Effect). AllSpare 177 x.sets) (sym same) (tt, tt, tt)

  -- it leaves EPC1 as it is
  pub spares : (e : Effect) → Makes outcome_of e → AllSpare 177 e.sets
  spares e m = by_form outcome_of e m fits (outcome_alone code i _ _ _ _ _ _ _)

  -- it writes a register that there is
  module _ (ok : in_range i ≡ true) (reply : ℕ) where
    named : (n : ℕ) → n ≤ highest_register i → n < 16
    named n le = let h = names_registers i ok in omega arith

    write_named : (w : Option RegWrite) → WritesNamed i w → IsProperWrite IsAny w
    write_named None h = tt
    write_named (Some w) h = (named w.reg h, tt)

    reply_named : (w : Option ReplyTarget) → AwaitsNamed i w → IsProperWrite IsAny (write_with_reply None w reply)
    reply_named None h = tt
    reply_named (Some a) h = (named a.number h, tt)

    by_write : (o : Outcome) (e : Effect) → Makes o e → Fits i o → IsProperWrite IsAny (write_with_reply (after_outcome o len s.control).write (after_outcome o len s.control).awaited reply)
    by_write o e (does is) f =
        let g : Fits i (Does e) = subst (Fits i) is f in
        subst (λ (x : Outcome). IsProperWrite IsAny (write_with_reply (after_outcome x len s.control).write (after_outcome x len s.control).awaited reply)) (sym is) (write_named e.write g.0)
    by_write o e (asks access w is) f =
        let g : Fits i (Asks access w e) = subst (Fits i) is f in
        subst (λ (x : Outcome). IsProperWrite IsAny (write_with_reply (after_outcome x len s.control).write (after_outcome x len s.control).awaited reply)) (sym is) (reply_named w g.0)

    pub writes_proper : (e : Effect) → Makes outcome_of e → IsProperWrite IsAny (write_with_reply (after_outcome outcome_of len s.control).write (after_outcome outcome_of len s.control).awaited reply)
    writes_proper e m = by_write outcome_of e m fits

-- ---- the record and the state after it
pub record Ran (o : Outcome) (len : ℕ) (s t : State) (rec : StepRecord) : Type 0 where
  pub write : rec.write ≡ write_with_reply (after_outcome o len s.control).write (after_outcome o len s.control).awaited rec.reply
  pub control : t.control ≡ (after_outcome o len s.control).control

write_control : (w : Option RegWrite) (s : State) → (with_write w s).control ≡ s.control
write_control None s = refl
write_control (Some w) s = refl

planned_is : (code : ℕ → ℕ) (s : State) (i : Insn) (len : ℕ) → pending_of s.control ≡ 0 → s.control.waits ≡ false → fetch_at code s.control.pc ≡ Fetches i len → planned_turn code s ≡ fetched_turn (Fetches i len) code s
unfolding planned_turn
planned_is code s i len quiet goes at =
    cond-false (ltb 0 (pending_of s.control)) _ _ (ap (ltb 0) quiet)
    ∙ (cond-false s.control.waits _ _ goes ∙ ap (λ x. fetched_turn x code s) at)

pub kind_is : (code : ℕ → ℕ) (s t : State) (rec : StepRecord) → ◌≡◌ {A = StepRecord × State} (rec, t) (turn code s rec.reply) → rec.kind ≡ (planned_turn code s).kind
unfolding turn
kind_is code s t rec e = ap (λ (x : StepRecord × State). x.0.kind) e

written_is : (code : ℕ → ℕ) (s t : State) (rec : StepRecord) → ◌≡◌ {A = StepRecord × State} (rec, t) (turn code s rec.reply) → rec.write ≡ write_with_reply (planned_turn code s).write (planned_turn code s).awaited rec.reply
unfolding turn
written_is code s t rec e = ap (λ (x : StepRecord × State). x.0.write) e

after_is : (code : ℕ → ℕ) (s t : State) (rec : StepRecord) → ◌≡◌ {A = StepRecord × State} (rec, t) (turn code s rec.reply) → t.control ≡ (planned_turn code s).after.control
unfolding turn
after_is code s t rec e = ap (λ (x : StepRecord × State). x.1.control) e ∙ write_control _ (planned_turn code s).after

-- what is kept of the state before the turn
pub record Headed (s : State) (rec : StepRecord) : Type 0 where
  pub ccount : rec.ccount ≡ special_of s.control 234
  pub interrupt : rec.interrupt ≡ special_of s.control 226
  pub owb : rec.owb ≡ s.control.ps.owb

pub headed : (code : ℕ → ℕ) (s t : State) (rec : StepRecord) → ◌≡◌ {A = StepRecord × State} (rec, t) (turn code s rec.reply) → Headed s rec
unfolding turn
headed code s t rec e = record {
  ccount = ap (λ (x : StepRecord × State). x.0.ccount) e;
  interrupt = ap (λ (x : StepRecord × State). x.0.interrupt) e;
  owb = ap (λ (x : StepRecord × State). x.0.owb) e;
}

-- an executed instruction, of which this comes
pub record Ran_of (code : ℕ → ℕ) (i : Insn) (len : ℕ) (s t : State) (rec : StepRecord) : Type 0 where
  pub e : Effect
  pub makes : Makes (outcome_at code i (visible s.regs s.base) s.control) e
  pub ran : Ran (outcome_at code i (visible s.regs s.base) s.control) len s t rec

pub ran_of : (code : ℕ → ℕ) (i : Insn) (len : ℕ) (s t : State) (rec : StepRecord) → IsCommon i → pending_of s.control ≡ 0 → s.control.waits ≡ false → fetch_at code s.control.pc ≡ Fetches i len
    → ◌≡◌ {A = StepRecord × State} (rec, t) (turn code s rec.reply) → rec.kind ≡ kind.Insn → Ran_of code i len s t rec
ran_of code i len s t rec c quiet goes at made insn =
    let o = outcome_at code i (visible s.regs s.base) s.control in
    let plan = planned_is code s i len quiet goes at in
    let k : (fetched_turn (Fetches i len) code s).kind ≡ kind.Insn = ap (λ (p : Planned). p.kind) (sym plan) ∙ (sym (kind_is code s t rec made) ∙ insn) in
    let x = executed code i len s c k in
    let whole : planned_turn code s ≡ in_window (after_outcome o len s.control) s = plan ∙ x.2 in
    record {
      e = x.0;
      makes = x.1;
      ran = record {
        write = written_is code s t rec made ∙ ap (λ (p : Planned). write_with_reply p.write p.awaited rec.reply) whole;
        control = after_is code s t rec made ∙ ap (λ (p : Planned). p.after.control) whole;
      };
    }
