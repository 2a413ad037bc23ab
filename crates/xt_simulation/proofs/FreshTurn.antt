-- Whether EPC1 has what was last written, by the machine of uses' own step.
use Rattle.std.proofs.Common.{◌≡◌, ℕ, Bool, ◌&&◌, ◌||◌, not, Option, sym, ap, ◌∙◌, refl}
use Rattle.xt_map.specs.declared.contents.MemoryContents.{MemoryContents}
use Rattle.xt_special.specs.declared.ps.Ps.{Ps}
use Rattle.xt_trace.specs.declared.record.StepKind.{StepKind}
use Rattle.xt_trace.specs.declared.record.StepRecord.{StepRecord}
use Rattle.xt_map.specs.Fetching.{fetch_at}
use Rattle.xt_exec.specs.State.{State}
use Rattle.xt_exec.specs.TurnLaws.{IsShaped}
use Rattle.xt_exec.specs.Turn.{turn}
use Rattle.xt_frames.specs.declared.holes.Nested.{Nested}
use Rattle.xt_frames.specs.Frames.{FrameState}
use Rattle.xt_frames.specs.FrameStep.{with_inputs}
use Rattle.xt_frames.specs.declared.kinds.HandlerPhase.TheVariants.{Outside}
use Rattle.xt_frames.specs.Nesting.{current, current_in}
use Rattle.xt_frames.specs.Breaches.{Bounds, inputs_of, writes_epc1}
use Rattle.xt_simulation.specs.JudgedSteps.{fresh_turn, turn_of}
use Rattle.xt_simulation.specs.Relation.{inputs}
use Rattle.xt_simulation.specs.Steps.{record_now, reply_now, state_now}
use Rattle.xt_simulation.proofs.Judges.{same_laid}
use Rattle.xt_simulation.proofs.OneCore.{kind_now}
use Rattle.xt_uses.specs.UseState.{UseState}
use Rattle.xt_uses.specs.UseStep.{UseTurn}
use Rattle.xt_simulation.proofs.OneTurn.{InCoreUse, no_nested}

next_here : (code : ℕ → ℕ) (m : MemoryContents) (s : State) → (turn_of code s (reply_now code m s)).after.control.ps.excm ≡ (state_now code m s).control.ps.excm
unfolding turn
next_here code m s = refl

module _ (code : ℕ → ℕ) (m : MemoryContents) (b : Bounds) (fresh : Bool) (s : State) (shaped : IsShaped s) (us : UseState) (h : InCoreUse code Outside m b fresh s us) where
  abbrev rec : StepRecord
  rec = record_now code m s

  abbrev pub found : FrameState
  found = with_inputs (inputs_of rec) (current us.frame)

  plain_now : current us.frame ≡ us.frame
  plain_now = ap (λ (o : Option Nested). current_in o us.frame) (no_nested h.knows h.core.1)

  found_is : found ≡ with_inputs (inputs 0 s) us.frame
  found_is = ap (with_inputs (inputs_of rec)) plain_now ∙ same_laid code s (reply_now code m s) us.frame shaped.control.ps.owb_fits

  pub pc_here : s.control.pc ≡ found.control.pc
  pc_here = h.core.0.related.plain.even.pc ∙ (h.knows.control.even.pc ∙ sym (ap (λ (z : FrameState). z.control.pc) found_is))

  pub ps_here : s.control.ps ≡ found.control.ps
  ps_here =
      h.core.0.related.plain.even.ps
      ∙ (ap (λ (p : Ps). (let q : Ps = record p { owb = s.control.ps.owb } in q)) h.knows.control.even.ps
      ∙ sym (ap (λ (z : FrameState). z.control.ps) found_is))

  -- after a judged step
  pub fresh_use : (t : UseTurn) {n : MemoryContents} {later : Bool} → (record_now code m s).kind ≡ t.turn.kind → InCoreUse code Outside n b later (state_now code m s) t.after
      → fresh_turn fresh code (reply_now code m s) s ≡ (writes_epc1 t.turn.kind (fetch_at code found.control.pc) found.control.ps || (fresh && not (found.control.ps.excm && not (current t.after.frame).control.ps.excm)))
  fresh_use t kind k =
      let after : (turn_of code s (reply_now code m s)).after.control.ps.excm ≡ (current t.after.frame).control.ps.excm =
      next_here code m s ∙ (ap (λ (p : Ps). p.excm) k.core.0.related.plain.even.ps ∙ (ap (λ (p : Ps). p.excm) k.knows.control.even.ps ∙ sym (ap (λ (o : Option Nested). (current_in o t.after.frame).control.ps.excm) (no_nested k.knows k.core.1)))) in
      let F : StepKind → ℕ → Ps → Bool → Bool = λ q pc p e. writes_epc1 q (fetch_at code pc) p || (fresh && not (p.excm && not e)) in
      let last : Bool = (turn_of code s (reply_now code m s)).after.control.ps.excm in
      ap (λ q. F q s.control.pc s.control.ps last) (sym (kind_now code m s) ∙ kind)
      ∙ (ap (λ pc. F t.turn.kind pc s.control.ps last) pc_here
      ∙ (ap (λ p. F t.turn.kind found.control.pc p last) ps_here
      ∙ ap (F t.turn.kind found.control.pc found.control.ps) after))
