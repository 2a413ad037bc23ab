use Rattle.std.specs.Prelude.{replicate}
use Rattle.std.proofs.Common.{ℕ, true, Some, None, ◌∙◌, ap}
use Rattle.std.proofs.Math.ListN.{set}
use Rattle.xt_special.specs.declared.ps.Ps.{Ps}
use Rattle.xt_frames.specs.Frames.{FrameState}
use Rattle.xt_frames.specs.FrameStep.{FrameTurn}
use Rattle.xt_frames.specs.Marks.{own_marks}
use Rattle.xt_frames.specs.Nesting.{nested_entry, with_kept_frame}
use Rattle.xt_frames.specs.KeptFrameState.{state_at}
use Rattle.xt_frames.proofs.nested.begin.Goals as goal

pub returns-clause-state : goal.returns-clause-state
returns-clause-state c = λ frames.
    let h = c.args.holes.now in
    let over = c.lay.ensures frames h in
    let outer = state_at frames h c.lay.new.self in
    let inner = state_at frames h c.interrupt-step.new.self in
    let B : ℕ → Ps → FrameState → FrameState = λ pc ps s. record s { unset = set (set h.unset 181 true) 197 true; nested = Some (record { pc = pc; seen = replicate 16 None; ps = ps; marks = own_marks; saved = replicate 256 None }) } in
    let A : FrameState → FrameState → FrameState = λ g a. B a.control.pc a.control.ps (with_kept_frame g a) in
    ap (B c.pc.result c.ps.result) (c.keep.ensures frames h)
    ∙ (ap (λ (pc : ℕ). B pc c.ps.result (with_kept_frame outer inner)) c.pc.ensures
    ∙ (ap (λ (ps : Ps). B inner.control.pc ps (with_kept_frame outer inner)) c.ps.ensures.value
    ∙ (ap (λ (u : FrameTurn). A outer u.after) (c.interrupt-step.ensures.turn frames h)
    ∙ ap (λ (g : FrameState). (nested_entry g).after) over)))
