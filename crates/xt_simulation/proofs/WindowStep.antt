-- The record of a window exception that shows no breach of uses enters handler steps: a0 is filled, since RETW reads it.
use Rattle.std.proofs.Common.{◌≡◌, ℕ, ◌^◌, ◌<◌, Bool, true, false, List, Option, Some, None, sym, ap, ◌∙◌, refl, arith, ⊎_elim, subst, cond}
use Rattle.std.proofs.lemmas.Bool.{cases_Bool, cond-false, cond-true, false≢true, or_from}
use Rattle.xt_isa.specs.declared.Insn.{Insn}
use Rattle.xt_isa.specs.declared.Insn.TheVariants as insn
use Rattle.xt_isa.specs.declared.control.Control.TheVariants as control
use Rattle.xt_isa.specs.declared.control.ReturnName.TheVariants as ReturnName
use Rattle.xt_isa.specs.declared.density.Density.TheVariants as density
use Rattle.xt_isa.specs.declared.density.BareName.TheVariants as BareName
use Rattle.xt_map.specs.declared.contents.MemoryContents.{MemoryContents}
use Rattle.xt_map.specs.Memory.{byte_at}
use Rattle.xt_window.specs.Ring.{visible}
use Rattle.xt_trace.specs.declared.record.StepKind.{StepKind}
use Rattle.xt_trace.specs.declared.record.StepKind.TheVariants as step
use Rattle.xt_trace.specs.declared.record.StepRecord.{StepRecord}
use Rattle.xt_map.specs.Fetching.{Fetched, Fetches, Fails, SpellsNothing, fetch_at}
use Rattle.xt_rows.specs.Kinds.{is_return}
use Rattle.xt_rows.specs.Operands.{reads, special_reads}
use Rattle.xt_rows.specs.Outcomes.{value_of}
use Rattle.xt_exec.specs.State.{State}
use Rattle.xt_exec.specs.TurnLaws.{IsShaped}
use Rattle.xt_exec.specs.Turn.{planned_turn, turn}
use Rattle.xt_frames.specs.declared.holes.Nested.{Nested}
use Rattle.xt_frames.specs.Frames.{Frame, FrameState, value_or_zero}
use Rattle.xt_frames.specs.FrameStep.{with_inputs}
use Rattle.xt_frames.specs.Nesting.{current_in}
use Rattle.xt_frames.specs.Breaches.{Bounds, fetched_return_breach, first_shown, inputs_of, is_unset, is_underflow, lacks, reads_none, reads_none_in, return_tests, window_breach}
use Rattle.xt_frames.proofs.Shown.{NoneShown, none_shown}
use Rattle.xt_simulation.specs.Cores.{Related}
use Rattle.xt_simulation.specs.Handling.{Somewhere}
use Rattle.xt_simulation.specs.Relation.{inputs, lost_at}
use Rattle.xt_simulation.specs.Steps.{record_now, reply_now}
use Rattle.xt_simulation.proofs.Judges.{same_laid}
use Rattle.xt_uses.specs.UseBreaches.{fetched_return_use, underflows, use_tests, uses_unknown, window_use}
use Rattle.xt_uses.specs.UseState.{UseState}
use Rattle.xt_simulation.specs.Knowing.{Knows, NowFit}
use Rattle.xt_simulation.proofs.Agreed.{return_whole, uses_known}
use Rattle.xt_simulation.proofs.Filled.{filled_knows, filled_related, with_seen}
use Rattle.xt_simulation.proofs.Following.{now_plain}
use Rattle.xt_simulation.proofs.Reading.{lacks_here, low_seat}
use Rattle.xt_simulation.proofs.Seen.{known_same}
use Rattle.xt_simulation.proofs.Tests.{caller_row, mismatch_row, shown_none}

return_reads : (i : Insn) → is_return i ≡ true → (reads i ≡ (Some 0, None)) × (special_reads i ≡ (None, None))
unfolding is_return reads special_reads
return_reads (insn.Control (control.Return ReturnName.Retw)) e = (refl, refl)
return_reads (insn.Density (density.Bare BareName.Retw)) e = (refl, refl)
return_reads _ e = absurd (false≢true e)

-- a0 has a number
return_read : (i : Insn) (g : FrameState) → is_return i ≡ true → g.nested ≡ None → lacks g.seen (Some 0) ≡ false → reads_none i g ≡ false
return_read i g is none there =
    let r = return_reads i is in
    let a : lacks g.seen (reads i).0 ≡ false = ap (λ (o : Option ℕ × Option ℕ). lacks g.seen o.0) r.0 ∙ there in
    let b : lacks g.seen (reads i).1 ≡ false = ap (λ (o : Option ℕ × Option ℕ). lacks g.seen o.1) r.0 in
    let c : is_unset g.unset (special_reads i).0 ≡ false = ap (λ (o : Option ℕ × Option ℕ). is_unset g.unset o.0) r.1 in
    let d : is_unset g.unset (special_reads i).1 ≡ false = ap (λ (o : Option ℕ × Option ℕ). is_unset g.unset o.1) r.1 in
    ap (λ (o : Option Nested). reads_none_in o i g) none ∙ or_from _ _ a (or_from _ _ b (or_from _ _ c d))

module _ {us : UseState} {g h : FrameState} (now : NowFit us g h) (none : g.nested ≡ None) (there : lacks g.seen (Some 0) ≡ false) (word : value_or_zero g.seen 0 < 2 ^ 32) where
  return_too : (i : Insn) → is_return i ≡ true → NoneShown (use_tests (uses_unknown i us h) false false (return_tests i h)) → first_shown (return_tests i g) ≡ None
  return_too i is (unset, (mismatch, (caller, more))) =
      let uses = uses_known i us h unset in
      let small : value_of (value_or_zero g.seen) (reads i).0 < 2 ^ 32 = subst (λ (o : Option ℕ × Option ℕ). value_of (value_or_zero g.seen) o.0 < 2 ^ 32) (sym (return_reads i is).0) word in
      let a0 : value_or_zero g.seen 0 ≡ value_or_zero h.seen 0 = return_whole now i uses.used small is in
      shown_none (return_tests i g) (
        return_read i g is none there,
        (mismatch_row i us.masks.kept g h now.frames (λ e. a0) mismatch, (caller_row i us.masks.kept g h now.frames caller, tt)),
      )

  fetched_too : (at : Fetched) → fetched_return_use at us h ≡ None → fetched_return_breach at g ≡ None
  fetched_too (Fails a) e = refl
  fetched_too SpellsNothing e = refl
  fetched_too (Fetches i len) e = ⊎_elim
      (λ is. cond-true (is_return i) (first_shown (return_tests i g)) None is ∙ return_too i is (none_shown (use_tests (uses_unknown i us h) false false (return_tests i h)) (sym (cond-true (is_return i) (first_shown (use_tests (uses_unknown i us h) false false (return_tests i h))) None is) ∙ e)))
      (λ isnt. cond-false (is_return i) (first_shown (return_tests i g)) None isnt)
      (cases_Bool (is_return i))

  window_too : (code : ℕ → ℕ) (k : StepKind) → (cond (underflows k) (fetched_return_use (fetch_at code h.control.pc) us h) None) ≡ None → window_breach code k g ≡ None
  unfolding window_breach
  window_too code (step.Window vector) e = ⊎_elim
      (λ is.
      let same : fetch_at code g.control.pc ≡ fetch_at code h.control.pc = ap (fetch_at code) now.control.even.pc in
      let here : fetched_return_use (fetch_at code h.control.pc) us h ≡ None = sym (cond-true (is_underflow vector) (fetched_return_use (fetch_at code h.control.pc) us h) None is) ∙ e in
      cond-true (is_underflow vector) (fetched_return_breach (fetch_at code g.control.pc) g) None is ∙ (ap (λ z. fetched_return_breach z g) same ∙ fetched_too (fetch_at code h.control.pc) here))
      (λ isnt. cond-false (is_underflow vector) (fetched_return_breach (fetch_at code g.control.pc) g) None isnt)
      (cases_Bool (is_underflow vector))
  window_too code _ e = refl

-- the frame state with a0 filled, with which the handler begins
pub record EntersUse (code : ℕ → ℕ) (b : Bounds) (m : MemoryContents) (fresh : Bool) (s : State) (us : UseState) : Type 0 where
  pub frame : FrameState
  pub nested : frame.nested ≡ None
  pub knows : Knows frame us
  pub somewhere : Somewhere (byte_at m) b (lost_at fresh frame) s frame
  pub quiet : window_breach code (planned_turn code s).kind (with_inputs (inputs 0 s) frame) ≡ None

use_window : (code : ℕ → ℕ) (rec : StepRecord) (us : UseState) → us.frame.nested ≡ None → window_use code rec us ≡ cond (underflows rec.kind) (fetched_return_use (fetch_at code (with_inputs (inputs_of rec) us.frame).control.pc) us (with_inputs (inputs_of rec) us.frame)) None
unfolding window_use
use_window code rec us sn = ap (λ (o : Option Nested). cond (underflows rec.kind) (fetched_return_use (fetch_at code (with_inputs (inputs_of rec) (current_in o us.frame)).control.pc) us (with_inputs (inputs_of rec) (current_in o us.frame))) None) sn

pub enters_use : (code : ℕ → ℕ) → (b : Bounds) (m : MemoryContents) (fresh : Bool) (s : State) (us : UseState) {f : FrameState} {ring spilled : List Frame}
    → Related (byte_at m) b (lost_at fresh f) s f ring spilled → Knows f us → f.nested ≡ None → us.frame.nested ≡ None → IsShaped s → window_use code (record_now code m s) us ≡ None
    → EntersUse code b m fresh s us
unfolding turn
enters_use code b m fresh s us {f = f} {ring = ring} {spilled = spilled} l kn fn sn shaped none =
    let rec = record_now code m s in
    let seat = low_seat l.plain 0 (omega arith) in
    let v = visible s.regs s.base 0 in
    let g : FrameState = with_seen 0 v f in
    let lg = filled_related l 0 seat.0 seat.1 in
    let kg : Knows g us = filled_knows l 0 seat.0 seat.1 kn in
    let wide = l.plain.windows.wide in
    let there : lacks g.seen (Some 0) ≡ false = lacks_here f.seen 0 v (omega arith) in
    let word : value_or_zero g.seen 0 < 2 ^ 32 = subst (λ z. z < 2 ^ 32) (sym (known_same f.seen 0 (Some v) (omega arith))) (shaped.words _) in
    let now = now_plain kg fn sn (inputs_of rec) in
    let same : with_inputs (inputs_of rec) g ≡ with_inputs (inputs 0 s) g = same_laid code s (reply_now code m s) g shaped.control.ps.owb_fits in
    let quiet : window_breach code (planned_turn code s).kind (with_inputs (inputs_of rec) g) ≡ None = window_too now fn there word code (planned_turn code s).kind (sym (use_window code rec us sn) ∙ none) in
    let quiet_s : window_breach code (planned_turn code s).kind (with_inputs (inputs 0 s) g) ≡ None = subst (λ (z : FrameState). window_breach code (planned_turn code s).kind z ≡ None) same quiet in
    record { frame = g; nested = fn; knows = kg; somewhere = record { ring = ring; spilled = spilled; related = lg }; quiet = quiet_s }
