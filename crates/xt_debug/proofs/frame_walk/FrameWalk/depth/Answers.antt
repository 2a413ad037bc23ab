use Rattle.std.proofs.Common.{◌≡◌, ℕ, Option, Some, None, length, sym, ap, ◌∙◌, subst}
use Rattle.std.specs.Option.{option_map}
use Rattle.xt_replay.specs.Shown.{ReplayState}
use Rattle.xt_frames.specs.Frames.{FrameState}
use Rattle.xt_frames.specs.Walked.{Walked}
use Rattle.xt_debug.specs.Depths.{depth_at}
use Rattle.xt_debug.proofs.FrameWalking.{frame_now, no_frame_now}
use Rattle.xt_debug.proofs.frame_walk.FrameWalk.depth.Goals as goal

pub returns-then-is_lost : goal.returns-then-is_lost
returns-then-is_lost c =
    let t = c.self.inside in
    let S : ReplayState → Type 0 = λ s. ◌≡◌ {A = Option ℕ} None (depth_at s.image s.run c.args.core s.position) in
    subst S c.self.view_is
    (sym (ap (option_map (λ (f : FrameState). length f.frames)) (no_frame_now t c.args.core c.self.invariant (sym c.is_lost.ensures ∙ c.if-is_lost.true))))

pub returns : goal.returns
returns c =
    let t = c.self.inside in
    let S : ReplayState → Type 0 = λ s. ◌≡◌ {A = Option ℕ} (Some c.depth.result) (depth_at s.image s.run c.args.core s.position) in
    subst S c.self.view_is
    (ap Some (c.depth.ensures.depth ∙ ap (λ (w : Walked). length w.state.frames) c.frames.ensures)
    ∙ sym (ap (option_map (λ (f : FrameState). length f.frames)) (frame_now t c.args.core c.self.invariant (sym c.is_lost.ensures ∙ c.if-is_lost.false))))
