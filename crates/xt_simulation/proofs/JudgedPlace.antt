-- A judged step in any phase: the place of its record, and whether EPC1 has what was last written after it.
use Rattle.std.specs.Prelude.{is_some}
use Rattle.std.proofs.Common.{◌≡◌, ℕ, Bool, true, false, ◌&&◌, ◌||◌, not, List, Option, Some, None, sym, ap, ◌∙◌, refl, subst, cond}
use Rattle.std.proofs.lemmas.Bool.{cond-true, not-false}
use Rattle.std.proofs.lemmas.Option.{same_Some}
use Rattle.xt_map.specs.declared.contents.MemoryContents.{MemoryContents}
use Rattle.xt_trace.specs.declared.record.StepRecord.{StepRecord}
use Rattle.xt_map.specs.Fetching.{fetch_at}
use Rattle.xt_exec.specs.State.{State}
use Rattle.xt_exec.specs.TurnLaws.{IsShaped}
use Rattle.xt_frames.specs.declared.holes.Nested as holes
use Rattle.xt_frames.specs.Frames.{FrameState}
use Rattle.xt_frames.specs.FrameStep.{with_inputs}
use Rattle.xt_frames.specs.declared.kinds.HandlerPhase.{HandlerPhase}
use Rattle.xt_frames.specs.declared.kinds.HandlerPhase.TheVariants.{Outside, InHandler, Nested}
use Rattle.xt_frames.specs.HandlerSteps.{closes, is_window, phase_after, returns}
use Rattle.xt_frames.specs.Nesting.{begins, current, is_nesting}
use Rattle.xt_frames.specs.Breaches.{Bounds, inputs_of, writes_epc1}
use Rattle.xt_frames.specs.FirstBreach.{is_judged}
use Rattle.xt_frames.specs.Judging.{place_on}
use Rattle.xt_frames.specs.Verdict.{is_nested}
use Rattle.xt_frames.proofs.Inside.{place_inside, place_plain}
use Rattle.xt_simulation.specs.JudgedSteps.{fresh_turn}
use Rattle.xt_simulation.specs.Steps.{memory_now, record_now, reply_now, state_now}
use Rattle.xt_simulation.proofs.OneCore.{pc_now}
use Rattle.xt_uses.specs.UseState.{UseState}
use Rattle.xt_uses.specs.UseStep.{UseTurn}
use Rattle.xt_simulation.specs.Knowing.{NestedFit}
use Rattle.xt_simulation.proofs.CoreTurn.{fresh_next}
use Rattle.xt_simulation.proofs.FreshTurn.{fresh_use}
use Rattle.xt_simulation.proofs.OneTurn.{InCoreUse, no_nested}

-- the PC of a nested interrupt
inner_pc : (masks : List ℕ) (o p : Option holes.Nested) (x : holes.Nested) → NestedFit masks o p → o ≡ Some x → (y : holes.Nested) × (p ≡ Some y) × (x.pc ≡ y.pc)
inner_pc masks (Some z) (Some y) x k e = (y, refl, ap (λ (w : holes.Nested). w.pc) (sym (same_Some z x e)) ∙ k.pc)
inner_pc masks (Some z) None x k e = absurd k
inner_pc masks None p x k e = absurd cc

-- in handler steps and nested interrupts freshness is not looked at
pub fresh_moved : (code : ℕ → ℕ) (phase : HandlerPhase) (m : MemoryContents) (b : Bounds) (fresh later : Bool) (s : State) (us : UseState) → (phase ≡ Outside → fresh ≡ later) → InCoreUse code phase m b fresh s us → InCoreUse code phase m b later s us
fresh_moved code Outside m b fresh later s us e h = subst (λ z. InCoreUse code Outside m b z s us) (e refl) h
fresh_moved code InHandler m b fresh later s us e h = record { frame = h.frame; entered = h.entered; core = h.core; knows = h.knows }
fresh_moved code Nested m b fresh later s us e h = record { frame = h.frame; entered = h.entered; core = h.core; knows = h.knows }

-- a handler step that is the last of its handler steps ends a window handler
pub idle_fresh : (code : ℕ → ℕ) (rec : StepRecord) (phase : HandlerPhase) (fresh judged : Bool) → is_judged phase rec.kind ≡ false → phase_after code phase rec ≡ Outside → fresh_next phase fresh judged ≡ false
idle_fresh code rec Outside fresh judged idle plain =
    let handles : phase_after code Outside rec ≡ InHandler = cond-true (is_window rec.kind) InHandler Outside (not-false (is_window rec.kind) idle) in
    let wrong : InHandler ≡ Outside = sym handles ∙ plain in
    absurd cc
idle_fresh code rec InHandler fresh judged idle plain = refl
idle_fresh code rec Nested fresh judged idle plain = refl

not_plain : (b : Bool) → cond b InHandler Nested ≡ Outside → ⊥
not_plain true e = absurd cc
not_plain false e = absurd cc

module _ (code : ℕ → ℕ) (m : MemoryContents) (b : Bounds) (s : State) (shaped : IsShaped s) (us : UseState) where
  abbrev rec : StepRecord
  rec = record_now code m s

  pub place_is : (phase : HandlerPhase) (fresh : Bool) → InCoreUse code phase m b fresh s us → is_judged phase rec.kind ≡ true → rec.pc ≡ place_on (is_nested phase) rec us.frame
  place_is Outside fresh h judged = pc_now code m s ∙ (h.core.0.related.plain.even.pc ∙ (h.knows.control.even.pc ∙ sym (place_plain rec us.frame (no_nested h.knows h.core.1))))
  place_is InHandler fresh h judged =
      let starts : begins true rec.kind us.frame ≡ true = ap (λ z. z && not (is_some us.frame.nested)) judged ∙ ap (λ (o : Option holes.Nested). not (is_some o)) (no_nested h.knows h.core.1) in
      sym (cond-true (begins true rec.kind us.frame) rec.pc (current us.frame).control.pc starts)
  place_is Nested fresh h judged =
      let y = inner_pc us.masks.inner h.frame.nested us.frame.nested h.core.x h.knows.nested h.core.nested in
      pc_now code m s ∙ (h.core.inside.even.pc ∙ (y.2 ∙ sym (place_inside rec us.frame y.0 y.1)))

  abbrev found : FrameState
  found = with_inputs (inputs_of rec) (current us.frame)

  pub fresh_is : (phase : HandlerPhase) (lost later : Bool) (t : UseTurn) → InCoreUse code phase m b (not lost) s us → is_judged phase rec.kind ≡ true → rec.kind ≡ t.turn.kind
      → InCoreUse code (phase_after code phase rec) (memory_now code m s) b later (state_now code m s) t.after → phase_after code phase rec ≡ Outside
      → fresh_next phase (not lost) (fresh_turn (not lost) code (reply_now code m s) s)
      ≡ (writes_epc1 t.turn.kind (fetch_at code found.control.pc) found.control.ps || (not lost && not (found.control.ps.excm && not (current t.after.frame).control.ps.excm)))
  fresh_is Outside lost later t h judged kind next plain =
      fresh_use code m b (not lost) s shaped us h t kind (subst (λ (z : HandlerPhase). InCoreUse code z (memory_now code m s) b later (state_now code m s) t.after) plain next)
  fresh_is InHandler lost later t h judged kind next plain =
      let nests : phase_after code InHandler rec ≡ Nested = cond-true (is_nesting rec.kind) Nested (cond (closes code rec.kind rec.pc) Outside InHandler) judged in
      let wrong : Nested ≡ Outside = sym nests ∙ plain in
      absurd cc
  fresh_is Nested lost later t h judged kind next plain = absurd (not_plain (returns code rec.kind rec.pc) plain)
