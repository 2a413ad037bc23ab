-- RFI 5 of a nested interrupt, with the marks as they stood at its beginning: the window handler goes on.
use Rattle.std.proofs.Common.{◌≡◌, ℕ, true, false, ltb, List, get_or, Option, Some, None, sym, ap, ◌∙◌, refl, arith, ⊎_elim, subst}
use Rattle.std.proofs.lemmas.Bool.{cases_eq, cond-true, and_parts, eqb-true}
use Rattle.std.proofs.lemmas.List.{ext_get_or}
use Rattle.xt_isa.specs.declared.Insn.{Insn}
use Rattle.xt_isa.specs.declared.Insn.TheVariants as insn
use Rattle.xt_isa.specs.declared.system.System.TheVariants as system
use Rattle.xt_map.specs.declared.contents.MemoryContents.{MemoryContents}
use Rattle.xt_special.specs.Numbers as number
use Rattle.xt_special.specs.Control.{Control, special_of, ps_of}
use Rattle.xt_special.specs.Shape.{IsPs}
use Rattle.xt_special.specs.Timers.{after_tick}
use Rattle.xt_special.specs.Interrupts.{pending_of}
use Rattle.xt_special.proofs.Kept.{ticked_other}
use Rattle.xt_special.proofs.PsWords.{of_word_of_fields}
use Rattle.xt_window.specs.Ring.{place, visible}
use Rattle.xt_trace.specs.declared.record.StepKind.TheVariants as kind
use Rattle.xt_trace.specs.declared.record.StepRecord.{StepRecord}
use Rattle.xt_rows.specs.declared.outcome.Effect.{Effect}
use Rattle.xt_rows.specs.declared.outcome.Flow.TheVariants.{Goes}
use Rattle.xt_rows.specs.declared.outcome.Outcome.{Outcome}
use Rattle.xt_rows.specs.declared.outcome.Outcome.TheVariants.{Does}
use Rattle.xt_rows.specs.Effects.{no_change}
use Rattle.xt_rows.specs.Numbers.{natural}
use Rattle.xt_rows.specs.Operands.{reads, special_reads}
use Rattle.xt_rows.specs.Outcomes.{outcome, system_outcome, outcome_at}
use Rattle.xt_rows.specs.Settling.{after_effect}
use Rattle.xt_map.specs.Code.{AreBytes}
use Rattle.xt_map.specs.Fetching.{Fetched, Fetches, Fails, SpellsNothing, fetch_at}
use Rattle.xt_exec.specs.State.{State}
use Rattle.xt_exec.specs.TurnLaws.{IsShaped}
use Rattle.xt_exec.specs.Turn.{planned_turn, demand, turn, outcome_turn, is_illegal}
use Rattle.xt_frames.specs.declared.holes.Nested.{Nested}
use Rattle.xt_frames.specs.Frames.{FrameState, value_or_zero}
use Rattle.xt_frames.specs.FrameStep.{FrameTurn, done_in_frame, fetched_step, with_inputs, step_with_inputs}
use Rattle.xt_frames.specs.Marks.{are_own_marks, is_mark}
use Rattle.xt_frames.specs.Nesting.{ends_nested, nested_level, nested_view, with_kept_frame, nested_fetched, nested_insn}
use Rattle.xt_frames.specs.HandlerSteps.{fetched_returns}
use Rattle.xt_frames.specs.Breaches.{Bounds, inputs_of}
use Rattle.xt_frames.specs.Judging.{step_on, value_in}
use Rattle.xt_frames.proofs.Inside.{step_inside}
use Rattle.xt_frames.proofs.StackSteps.{step_fetches}
use Rattle.xt_simulation.specs.Relation.{inputs}
use Rattle.xt_simulation.specs.InHandlers.{as_left}
use Rattle.xt_simulation.specs.Steps.{reply_now, record_now, state_now}
use Rattle.xt_simulation.specs.Handling.{Handling}
use Rattle.xt_simulation.specs.Nested.{IsInside, resumed_state}
use Rattle.xt_simulation.proofs.Evenly.{same_ticked}
use Rattle.xt_simulation.proofs.Carried.{Carries, carried}
use Rattle.xt_simulation.proofs.Inner.{Ends, laid_quiet, laid_runs, laid_same}
use Rattle.xt_simulation.proofs.Laid.{laid_after, laid_other}
use Rattle.xt_simulation.proofs.Judges.{shaped_silent}
use Rattle.xt_simulation.proofs.Plans.{plan_asks, plan_kind, plan_state, plan_write}
use Rattle.xt_simulation.proofs.Turns.{quiet_nested, turn_does}
use Rattle.xt_simulation.proofs.Taken.{beside}

-- ---- the instruction
abbrev pub back : Control → Effect
back c = record (no_change c.ps c.threadptr) { ps = ps_of (special_of c 197); flow = Goes (special_of c 181) }

abbrev pub back_control : Control → Control
back_control c = record c { pc = special_of c 181; ps = ps_of (special_of c 197); waits = false }

back_outcome : (code : ℕ → ℕ) (i : Insn) (registers : ℕ → ℕ) (c : Control) → ends_nested i ≡ true → outcome_at code i registers c ≡ Does (back c)
unfolding ends_nested outcome system_outcome reads special_reads
back_outcome code (insn.System (system.Rfi level)) registers c e =
    ap (λ n. Does (record (no_change c.ps c.threadptr) { ps = ps_of (special_of c (number.eps n)); flow = Goes (special_of c (number.epc n)) })) (eqb-true (natural level) 5 e)
back_outcome code _ registers c e = absurd cc

rfi_legal : (i : Insn) (s : State) → ends_nested i ≡ true → is_illegal i s ≡ false
unfolding ends_nested is_illegal
rfi_legal (insn.System (system.Rfi level)) s e = refl
rfi_legal _ s e = absurd cc

-- ---- the processor's turn
module _ (code : ℕ → ℕ) (s : State) (low : s.control.ps.excm ≡ true) (level : s.control.ps.intlevel ≡ nested_level) (running : s.control.waits ≡ false) where
  back_plan : (i : Insn) (len : ℕ) → fetch_at code s.control.pc ≡ Fetches i len → ends_nested i ≡ true → planned_turn code s ≡ outcome_turn (Does (back s.control)) len s
  back_plan i len at ends =
      turn_does code s low (quiet_nested s.control level) running i len at (rfi_legal i s ends)
      ∙ ap (λ (o : Outcome). outcome_turn o len s) (back_outcome code i (visible s.regs s.base) s.control ends)

  pub back_at : (at : Fetched) → fetch_at code s.control.pc ≡ at → fetched_returns at ≡ true → (len : ℕ) × (planned_turn code s ≡ outcome_turn (Does (back s.control)) len s)
  back_at (Fetches i len) at ends = (len, back_plan i len at ends)
  back_at (Fails address) at ends = absurd cc
  back_at SpellsNothing at ends = absurd cc

pub back_state : (code : ℕ → ℕ) (s : State) (reply len : ℕ) → planned_turn code s ≡ outcome_turn (Does (back s.control)) len s → (turn code s reply).1 ≡ record s { control = after_tick (back_control s.control) }
unfolding after_effect
back_state code s reply len is = plan_state code s (outcome_turn (Does (back s.control)) len s) is reply

-- ---- the frame machine's step
abbrev pub given_back : FrameState → FrameState → FrameState
given_back f g = record (with_kept_frame f (record g { control = after_tick (back_control g.control) })) { nested = None }

abbrev back_turn : FrameState → FrameState → FrameTurn
back_turn f g = record { kind = kind.Insn; write = None; access = None; after = given_back f g }

back_laid : (code : ℕ → ℕ) (reply : ℕ) (i : Insn) (len : ℕ) (g : FrameState) → ends_nested i ≡ true → ltb 0 (pending_of g.control) ≡ false → g.control.waits ≡ false → fetch_at code g.control.pc ≡ Fetches i len
    → step_with_inputs code reply g ≡ done_in_frame (Does (back g.control)) len reply g
back_laid code reply i len g ends quiet running at =
    step_fetches code reply g quiet running
    ∙ (ap (λ (x : Fetched). fetched_step x code reply g) at
    ∙ ap (λ (o : Outcome). done_in_frame o len reply g) (back_outcome code i (value_or_zero g.seen) g.control ends))

back_insn : (i : Insn) (value : ℕ) (x : Nested) (f g : FrameState) (len reply : ℕ) → ends_nested i ≡ true → nested_insn i value x f (done_in_frame (Does (back g.control)) len reply g) ≡ back_turn f g
unfolding after_effect
back_insn i value x f g len reply ends = cond-true (ends_nested i) _ _ ends

back_step : (code : ℕ → ℕ) (rec : StepRecord) (i : Insn) (len : ℕ) (f : FrameState) (x : Nested) (g : FrameState) → f.nested ≡ Some x → with_inputs (inputs_of rec) (nested_view x f) ≡ g
    → ends_nested i ≡ true → ltb 0 (pending_of g.control) ≡ false → g.control.waits ≡ false → fetch_at code g.control.pc ≡ Fetches i len → step_on code true rec f ≡ back_turn f g
back_step code rec i len f x g e same ends quiet running at =
    let value = value_in rec.write in
    step_inside code true rec f x e
    ∙ (ap (λ (g : FrameState). nested_fetched (fetch_at code g.control.pc) value x f (step_with_inputs code rec.reply g)) same
    ∙ (ap (λ (h : Fetched). nested_fetched h value x f (step_with_inputs code rec.reply g)) at
    ∙ (ap (λ (u : FrameTurn). nested_insn i value x f u) (back_laid code rec.reply i len g ends quiet running at)
    ∙ back_insn i value x f g len rec.reply ends)))

-- ---- the registers
mark_at : (k : ℕ) (o : Option ℕ) → is_mark k o ≡ true → o ≡ Some k
mark_at k None e = absurd cc
mark_at k (Some mark) e = ap Some (eqb-true mark k e)

-- a1 is no spare register: no step of a nested interrupt writes it
record HasOwn (marks : List (Option ℕ)) : Type 0 where
  first : get_or marks 0 None ≡ Some 0
  third : get_or marks 2 None ≡ Some 2
  fourth : get_or marks 3 None ≡ Some 3

own_marks_at : (marks : List (Option ℕ)) → are_own_marks marks ≡ true → HasOwn marks
own_marks_at marks e =
    let a = and_parts (is_mark 0 (get_or marks 0 None)) _ e in
    let b = and_parts (is_mark 1 (get_or marks 1 None)) _ a.1 in
    let c = and_parts (is_mark 2 (get_or marks 2 None)) (is_mark 3 (get_or marks 3 None)) b.1 in
    record { first = mark_at 0 (get_or marks 0 None) a.0; third = mark_at 2 (get_or marks 2 None) c.0; fourth = mark_at 3 (get_or marks 3 None) c.1 }

module _ {suspended s : State} {f : FrameState} {x : Nested} (h : IsInside suspended s f x) (own : are_own_marks x.marks ≡ true) where
  own_register : (k : ℕ) → get_or x.marks k None ≡ Some k → (p : ℕ) → p ≡ place s.base k → get_or s.regs p 0 ≡ get_or suspended.regs p 0
  own_register k e p at =
      ap (λ q. get_or s.regs q 0) at
      ∙ ((h.marks k k e).0
      ∙ sym (ap (λ q. get_or suspended.regs q 0) (at ∙ ap (λ b. place b k) h.base)))

  same_register : (p : ℕ) → get_or s.regs p 0 ≡ get_or suspended.regs p 0
  same_register p =
      let o = own_marks_at x.marks own in
      ⊎_elim
      (λ at. own_register 0 o.first p at)
      (λ not_first. ⊎_elim
      (λ at. own_register 2 o.third p at)
      (λ not_third. ⊎_elim
      (λ at. own_register 3 o.fourth p at)
      (λ not_fourth. h.others p (λ spare. ⊎_elim not_first (λ more. ⊎_elim not_third not_fourth more) spare))
      (cases_eq p (place s.base 3)))
      (cases_eq p (place s.base 2)))
      (cases_eq p (place s.base 0))

  pub same_regs : s.regs ≡ suspended.regs
  same_regs = ext_get_or 0 s.regs suspended.regs h.size (λ p within. same_register p)

-- ---- the relation
-- PS of a window handler is one that a word holds
handler_ps : {code : ℕ → ℕ} {b : Bounds} {m : MemoryContents} {s : State} {f : FrameState} {before : State} {opened : ℕ → ℕ} → Handling code b m s f before opened → IsPs s.control.ps
handler_ps {before = before} h =
    let p = h.shaped.control.ps in
    let fits : IsPs (record before.control.ps { owb = before.base; excm = true }) = record { intlevel_fits = p.intlevel_fits; ring_fits = p.ring_fits; owb_fits = h.shaped.base; callinc_fits = p.callinc_fits } in
    subst IsPs (sym h.control.ps) fits

pub back_ps : {code : ℕ → ℕ} {b : Bounds} {m : MemoryContents} {s : State} {f : FrameState} {before : State} {opened : ℕ → ℕ} {suspended : State} {x : Nested} → IsInside suspended s f x → Handling code b m (resumed_state suspended s) f before opened → ps_of (special_of s.control 197) ≡ suspended.control.ps
back_ps {suspended = suspended} h handling = ap ps_of h.eps ∙ of_word_of_fields suspended.control.ps (handler_ps handling)

module _ {code : ℕ → ℕ} {b : Bounds} {m : MemoryContents} {s : State} {f : FrameState} {before : State} {opened : ℕ → ℕ} {suspended : State} {x : Nested} (nested : f.nested ≡ Some x) (h : IsInside suspended s f x) (handling : Handling code b m (resumed_state suspended s) f before opened) (shaped : IsShaped s) (e : Ends code s x) where
  abbrev g : FrameState
  g = with_inputs (inputs 0 s) (nested_view x f)

  abbrev returned : State
  returned = record s { control = after_tick (back_control s.control) }

  plan : planned_turn code s ≡ outcome_turn (Does (back s.control)) e.len s
  plan = back_plan code s h.mode h.level h.running e.i e.len e.at e.ends

  pub ends_step : step_on code true (record_now code m s) f ≡ back_turn f g
  ends_step = back_step code (record_now code m s) e.i e.len f x g nested (laid_same h code m shaped) e.ends (laid_quiet h) (laid_runs h) (ap (fetch_at code) (sym h.even.pc) ∙ e.at)

  ends_carries : IsShaped returned → Carries b (resumed_state suspended s) returned f (given_back f g)
  ends_carries t =
      let l = beside handling in
      record {
        regs = same_regs h e.own;
        base = refl;
        start = refl;
        pc = h.epc;
        ps = back_ps h handling;
        epc1 = ticked_other s.control.special 177 (λ z. omega arith) (λ z. omega arith);
        running = refl;
        special = laid_after (same_ticked s.control.special g.control.special h.even.special);
        threadptr = h.even.threadptr;
        awake = refl;
        count = t.control.count;
        words = t.control.words;
        shape = t.control.shape;
        pointer = t.control.threadptr;
        vectors = ticked_other g.control.special 231 (λ z. omega arith) (λ z. omega arith) ∙ (laid_other f.control.special (special_of s.control 234) (special_of s.control 226) 231 (λ z. omega arith) (λ z. omega arith) ∙ l.vectors);
        seen = refl;
        frames = refl;
        framed_pc = refl;
        framed_ps = λ owb. refl;
      }

  pub ends_shaped : AreBytes code → IsShaped (state_now code m s)
  ends_shaped bytes = shaped_silent code m s bytes shaped (plan_asks code s (outcome_turn (Does (back s.control)) e.len s) plan)

  pub ends_handling : AreBytes code → Handling code b m (state_now code m s) (step_on code true (record_now code m s) f).after (as_left before s (state_now code m s)) opened
  ends_handling bytes =
      let state : state_now code m s ≡ returned = back_state code s (reply_now code m s) e.len plan in
      let P : State → Type 0 = λ t. IsShaped t in
      let Q : State → Type 0 = λ t. Handling code b m t (step_on code true (record_now code m s) f).after (as_left before s t) opened in
      let R : FrameTurn → Type 0 = λ u. Handling code b m returned u.after (as_left before s returned) opened in
      subst Q (sym state) (subst R (sym ends_step) (carried (ends_carries (subst P state (ends_shaped bytes))) handling))

  pub ends_nothing : (step_on code true (record_now code m s) f).after.nested ≡ None
  ends_nothing = ap (λ (u : FrameTurn). u.after.nested) ends_step

  pub ends_kind : (record_now code m s).kind ≡ (step_on code true (record_now code m s) f).kind
  ends_kind = plan_kind code s (outcome_turn (Does (back s.control)) e.len s) plan (reply_now code m s) ∙ sym (ap (λ (u : FrameTurn). u.kind) ends_step)

  pub ends_write : (record_now code m s).write ≡ (step_on code true (record_now code m s) f).write
  ends_write = plan_write code s (outcome_turn (Does (back s.control)) e.len s) plan (reply_now code m s) ∙ sym (ap (λ (u : FrameTurn). u.write) ends_step)

  pub ends_access : demand code s ≡ (step_on code true (record_now code m s) f).access
  ends_access = plan_asks code s (outcome_turn (Does (back s.control)) e.len s) plan ∙ sym (ap (λ (u : FrameTurn). u.access) ends_step)

  pub ends_seen : (step_on code true (record_now code m s) f).after.seen ≡ f.seen
  ends_seen = ap (λ (u : FrameTurn). u.after.seen) ends_step

  pub ends_frames : (step_on code true (record_now code m s) f).after.frames ≡ f.frames
  ends_frames = ap (λ (u : FrameTurn). u.after.frames) ends_step
