-- A step of a nested interrupt is RFI 5, or leaves this of the core and of the frame state.
use Rattle.std.proofs.Common.{◌≡◌, ℕ, Bool, Some, None, true, false, ltb, sym, ap, ◌∙◌}
use Rattle.xt_isa.specs.declared.Insn.{Insn}
use Rattle.xt_map.specs.Fetching.{Fetches, fetch_at}
use Rattle.xt_frames.specs.Marks.{are_own_marks}
use Rattle.xt_frames.specs.Nesting.{ends_nested, nested_view}
use Rattle.xt_map.specs.declared.contents.MemoryContents.{MemoryContents}
use Rattle.xt_special.specs.Numbers as number
use Rattle.xt_special.specs.Control.{special_of}
use Rattle.xt_exec.specs.State.{State}
use Rattle.xt_frames.specs.declared.holes.Nested.{Nested}
use Rattle.xt_frames.specs.Frames.{FrameState}
use Rattle.xt_frames.specs.FrameStep.{FrameTurn, with_inputs, step_with_inputs}
use Rattle.xt_frames.specs.Breaches.{Bounds, breach_of, fetched_tests, inputs_of, laid_breach}
use Rattle.xt_frames.proofs.Inside.{breach_inside}
use Rattle.xt_frames.proofs.Shown.{NoneShown, none_shown}
use Rattle.xt_frames.proofs.StackSteps.{breach_fetches}
use Rattle.xt_special.specs.declared.ps.Ps.{Ps}
use Rattle.xt_special.specs.Interrupts.{pending_of}
use Rattle.xt_exec.specs.TurnLaws.{IsShaped}
use Rattle.xt_simulation.specs.Relation.{inputs}
use Rattle.xt_simulation.specs.Steps.{record_now, reply_now, state_now}
use Rattle.xt_simulation.specs.Nested.{IsInside}
use Rattle.xt_simulation.proofs.Judges.{same_laid}
use Rattle.xt_simulation.proofs.Turns.{quiet_nested}

-- ---- the state inside, over which the inputs are laid
module _ {suspended s : State} {f : FrameState} {x : Nested} (h : IsInside suspended s f x) where
  pub laid_excm : (with_inputs (inputs 0 s) (nested_view x f)).control.ps.excm ≡ true
  laid_excm = ap (λ (p : Ps). p.excm) (sym h.even.ps) ∙ h.mode

  pub laid_quiet : ltb 0 (pending_of (with_inputs (inputs 0 s) (nested_view x f)).control) ≡ false
  laid_quiet = quiet_nested (with_inputs (inputs 0 s) (nested_view x f)).control (ap (λ (p : Ps). p.intlevel) (sym h.even.ps) ∙ h.level)

  pub laid_runs : (with_inputs (inputs 0 s) (nested_view x f)).control.waits ≡ false
  laid_runs = sym h.even.waits ∙ h.running

  pub laid_same : (code : ℕ → ℕ) (m : MemoryContents) → IsShaped s → with_inputs (inputs_of (record_now code m s)) (nested_view x f) ≡ with_inputs (inputs 0 s) (nested_view x f)
  laid_same code m shaped = same_laid code s (reply_now code m s) (nested_view x f) shaped.control.ps.owb_fits

  -- a step that shows no breach
  pub laid_tests : (code : ℕ → ℕ) (b : Bounds) (m : MemoryContents) (live stale : ℕ → Bool) → f.nested ≡ Some x → IsShaped s → breach_of b false code live stale true (record_now code m s) f ≡ None
      → let rec = record_now code m s in let g = with_inputs (inputs 0 s) (nested_view x f) in
      NoneShown (fetched_tests b false live stale (fetch_at code g.control.pc) rec g (step_with_inputs code rec.reply g))
  laid_tests code b m live stale nested shaped none =
      let rec = record_now code m s in
      let g = with_inputs (inputs 0 s) (nested_view x f) in
      let none_g : laid_breach b false code live stale rec g ≡ None =
      ap (λ (y : FrameState). laid_breach b false code live stale rec y) (sym (laid_same code m shaped)) ∙ (sym (breach_inside b false code live stale true rec f x nested) ∙ none) in
      none_shown (fetched_tests b false live stale (fetch_at code g.control.pc) rec g (step_with_inputs code rec.reply g)) (sym (breach_fetches b false code live stale rec g laid_quiet laid_runs) ∙ none_g)

-- ---- what a step leaves

-- RFI 5 is fetched, and a0 to a3 are as the window handler had them
pub record Ends (code : ℕ → ℕ) (s : State) (x : Nested) : Type 0 where
  pub i : Insn
  pub len : ℕ
  pub at : fetch_at code s.control.pc ≡ Fetches i len
  pub ends : ends_nested i ≡ true
  pub own : are_own_marks x.marks ≡ true

-- u is the frame machine's step of the record
pub record Inner
    (code : ℕ → ℕ) (b : Bounds) (m : MemoryContents) (s : State) (f : FrameState)
    (suspended : State) (u : FrameTurn) : Type 0 where
  pub x : Nested
  pub nested : u.after.nested ≡ Some x
  pub inside : IsInside suspended (state_now code m s) u.after x
  -- EPC1 is not written
  pub epc1 : special_of (state_now code m s).control (number.epc 1) ≡ special_of s.control (number.epc 1)
  pub framed_epc1 : special_of u.after.control (number.epc 1) ≡ special_of f.control (number.epc 1)
  pub vectors : special_of u.after.control number.vecbase ≡ b.vecbase
  -- what is kept for the end of the interrupt
  pub seen : u.after.seen ≡ f.seen
  pub frames : u.after.frames ≡ f.frames
  pub pc : u.after.control.pc ≡ f.control.pc
  pub ps : u.after.control.ps ≡ f.control.ps
  -- both machines record the same
  pub kind : (record_now code m s).kind ≡ u.kind
  pub write : (record_now code m s).write ≡ u.write
  pub access : (record_now code m s).access ≡ u.access
