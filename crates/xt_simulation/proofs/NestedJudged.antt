-- A judged step of a nested interrupt that shows no breach of uses.
use Rattle.std.specs.Prelude.{is_some}
use Rattle.std.proofs.Common.{◌≡◌, ℕ, ◌⊎◌, Bool, true, false, ◌||◌, ◌&&◌, not, ltb, Option, Some, None, sym, ap, ◌∙◌, refl}
use Rattle.std.proofs.lemmas.Bool.{and_right, cond-false, cond-true, or_left}
use Rattle.xt_map.specs.declared.contents.MemoryContents.{MemoryContents}
use Rattle.xt_special.specs.Interrupts.{pending_of}
use Rattle.xt_trace.specs.declared.record.StepKind.{StepKind}
use Rattle.xt_trace.specs.declared.record.StepRecord.{StepRecord}
use Rattle.xt_map.specs.Fetching.{fetch_at}
use Rattle.xt_map.specs.Code.{AreBytes}
use Rattle.xt_exec.specs.State.{State}
use Rattle.xt_exec.specs.TurnLaws.{IsShaped}
use Rattle.xt_exec.specs.Turn.{demand, planned_turn, turn}
use Rattle.xt_frames.specs.HandlerSteps.{returns}
use Rattle.xt_frames.specs.declared.holes.Nested.{Nested}
use Rattle.xt_frames.specs.Frames.{FrameState}
use Rattle.xt_frames.specs.FrameStep.{FrameTurn, with_inputs}
use Rattle.xt_frames.specs.Nesting.{begins, current_in, nested_view, is_nesting, nested_turn, turn_in}
use Rattle.xt_frames.specs.Breaches.{Bounds, inputs_of, touches_save_area}
use Rattle.xt_frames.specs.Judging.{step_on, value_in}
use Rattle.xt_frames.specs.SaveAreas.{is_live}
use Rattle.xt_simulation.specs.Handling.{IsGood}
use Rattle.xt_simulation.specs.InHandlers.{as_left}
use Rattle.xt_simulation.specs.Nested.{Onward, Suspends}
use Rattle.xt_simulation.specs.Steps.{memory_now, record_now, reply_now, state_now}
use Rattle.xt_simulation.proofs.Suspended.{inner_turn}
use Rattle.xt_simulation.proofs.Inner.{Ends, Inner}
use Rattle.xt_simulation.proofs.Judges.{record_access}
use Rattle.xt_uses.specs.UseBreaches.{laid_use, swaps_unknown, use_breach}
use Rattle.xt_uses.specs.UseState.{UseState}
use Rattle.xt_uses.specs.UseStep.{UseTurn, step_insn, full_step, movsp_of, reply_mask, turn_or, use_turn, value_step}
use Rattle.xt_simulation.specs.Knowing.{Follows, Knows}
use Rattle.xt_simulation.proofs.Following.{RecordFits, record_fits}
use Rattle.xt_simulation.proofs.Spared.{live_known, spared}

-- ---- what is left of it
-- the interrupt goes on, or RFI 5 has ended it and the window handler goes on
pub record InnerUse (code : ℕ → ℕ) (b : Bounds) (m : MemoryContents) (s : State) (opened : ℕ → ℕ) (suspended : State) (live : ℕ → Bool) (kb : ℕ → ℕ) (t : UseTurn) : Type 0 where
  pub fits : RecordFits live kb (record_now code m s) t
  pub frame : FrameState
  pub left : State
  pub next : Onward code b (memory_now code m s) (state_now code m s) frame left opened suspended (returns code (planned_turn code s).kind s.control.pc)
  pub knows : Knows frame t.after

-- ---- the step of the machine of uses
no_beginning : (kind : StepKind) (f : FrameState) (y : Nested) → f.nested ≡ Some y → begins true kind f ≡ false
no_beginning kind f y e = ap (λ (o : Option Nested). is_nesting kind && not (is_some o)) e ∙ and_right _ _ refl

no_move_inside : (code : ℕ → ℕ) (h : FrameState) (y : Nested) → h.nested ≡ Some y → movsp_of code h ≡ None
no_move_inside code h y e = cond-true (is_some h.nested || (ltb 0 (pending_of h.control) || h.control.waits)) None _ (or_left _ _ (ap (λ (o : Option Nested). is_some o) e))

pub use_inside : (code : ℕ → ℕ) (rec : StepRecord) (bytes : ℕ → ℕ) (s : UseState) (y : Nested) → s.frame.nested ≡ Some y
    → let h = with_inputs (inputs_of rec) (nested_view y s.frame) in let w = nested_turn code (value_in rec.write) (inputs_of rec) y s.frame in
    full_step code true rec bytes s ≡ use_turn (step_insn w.kind (fetch_at code h.control.pc)) (reply_mask bytes rec.access) s h w
unfolding value_step
use_inside code rec bytes s y sy =
    let inp = inputs_of rec in
    let value = value_in rec.write in
    let r = reply_mask bytes rec.access in
    let U : Option FrameTurn → Option Nested → UseTurn = λ z o. (
    let w = turn_or z (turn_in o code value inp s.frame) in
    let k = with_inputs inp (current_in o s.frame) in
    use_turn (step_insn w.kind (fetch_at code k.control.pc)) r s k w
    ) in
    cond-false (begins true rec.kind s.frame) _ _ (no_beginning rec.kind s.frame y sy) ∙ (ap (U (movsp_of code (with_inputs inp s.frame))) sy ∙ ap (λ z. U z (Some y)) (no_move_inside code (with_inputs inp s.frame) y sy))

pub breach_use_inside : (b : Bounds) (fresh : Bool) (code : ℕ → ℕ) (live : ℕ → Bool) (bytes : ℕ → ℕ) (rec : StepRecord) (s : UseState) (y : Nested) → s.frame.nested ≡ Some y
    → use_breach b fresh code live bytes true rec s ≡ laid_use b fresh code live bytes rec s (with_inputs (inputs_of rec) (nested_view y s.frame))
breach_use_inside b fresh code live bytes rec s y sy =
    cond-false (begins true rec.kind s.frame) None _ (no_beginning rec.kind s.frame y sy) ∙ ap (λ (o : Option Nested). laid_use b fresh code live bytes rec s (with_inputs (inputs_of rec) (current_in o s.frame))) sy

-- ---- from the step of the frame state
module _ (code : ℕ → ℕ) (bytes : AreBytes code) (b : Bounds) (good : IsGood code b) (m : MemoryContents) (s : State) {f : FrameState} {before : State} {opened : ℕ → ℕ} {suspended : State} (h : Suspends code b m s f before opened suspended) (shaped : IsShaped s)
    {us : UseState} (kn : Knows f us) (live : ℕ → Bool) (own : (a : ℕ) → is_live b.range us.frame a ≡ true → live a ≡ true) (saves : touches_save_area live (record_now code m s).access ≡ false) where
  pub inner_use : {t : UseTurn} (kb : ℕ → ℕ) → swaps_unknown kb (record_now code m s).access ≡ false → Follows t (step_on code true (record_now code m s) f) → Ends code s h.x ⊎ Inner code b m s f suspended (step_on code true (record_now code m s) f) → InnerUse code b m s opened suspended live kb t
  inner_use kb swaps follows next =
      let free : touches_save_area live (demand code s) ≡ false = ap (touches_save_area live) (sym (record_access code s (reply_now code m s))) ∙ saves in
      let turn = inner_turn bytes good h shaped (λ a is. spared live m (demand code s) free a (own a (sym (live_known kn b.range a) ∙ is))) next in
      record {
        fits = record_fits saves swaps turn.kind turn.write turn.access follows;
        frame = (step_on code true (record_now code m s) f).after;
        left = as_left before s (state_now code m s);
        next = turn.next;
        knows = follows.knows;
      }
