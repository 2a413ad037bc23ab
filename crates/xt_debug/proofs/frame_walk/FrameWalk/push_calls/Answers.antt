use Rattle.std.proofs.Common.{◌≡◌, ℕ, Option, Some, ◌++◌, ◌∙◌, sym, subst}
use Rattle.std.specs.Prelude.{OnOk}
use Rattle.xt_replay.specs.Shown.{ReplayState}
use Rattle.xt_frames.specs.Frames.{FrameState}
use Rattle.xt_frames.specs.Walked.{Walked}
use Rattle.xt_discipline.specs.Places.{frames_in}
use Rattle.xt_debug.specs.Calls.{calls_text, stack_end}
use Rattle.xt_debug.specs.Depths.{frame_at}
use Rattle.xt_debug.proofs.FrameWalking.{end_now, frame_now, no_frame_now}
use Rattle.xt_debug.proofs.frame_walk.FrameWalk.push_calls.Goals as goal

pub returns-then-is_lost : goal.returns-then-is_lost
returns-then-is_lost c =
    let t = c.self.inside in
    let core = c.args.core in
    let hi = stack_end core t.run.now in
    let S : ReplayState → Type 0 = λ s. OnOk c.push_unknown.result (c.push_unknown.new.out.items ≡ c.args.out.now.items ++ calls_text core (stack_end core s.run) (frame_at s.image s.run core s.position)) in
    let F : Option FrameState → Type 0 = λ o. OnOk c.push_unknown.result (c.push_unknown.new.out.items ≡ c.args.out.now.items ++ calls_text core hi o) in
    subst S c.self.view_is (subst F (sym (no_frame_now t core c.self.invariant (sym c.is_lost.ensures ∙ c.if-is_lost.true))) (c.push_unknown.ensures hi))

pub returns : goal.returns
returns c =
    let t = c.self.inside in
    let core = c.args.core in
    let there = frames_in core t.walk in
    let goes = sym c.is_lost.ensures ∙ c.if-is_lost.false in
    let S : ReplayState → Type 0 = λ s. OnOk c.push_known.result (c.push_known.new.out.items ≡ c.args.out.now.items ++ calls_text core (stack_end core s.run) (frame_at s.image s.run core s.position)) in
    let F : Option FrameState → Type 0 = λ o. OnOk c.push_known.result (c.push_known.new.out.items ≡ c.args.out.now.items ++ calls_text core (stack_end core t.run.now) o) in
    let H : ℕ → Type 0 = λ hi. OnOk c.push_known.result (c.push_known.new.out.items ≡ c.args.out.now.items ++ calls_text core hi (Some there.state)) in
    let W : Walked → Type 0 = λ f. OnOk c.push_known.result (c.push_known.new.out.items ≡ c.args.out.now.items ++ calls_text core f.bounds.range.hi (Some f.state)) in
    subst S c.self.view_is (subst F (sym (frame_now t core c.self.invariant goes)) (subst H (end_now t core c.self.invariant goes) (subst W c.frames.ensures c.push_known.ensures)))
