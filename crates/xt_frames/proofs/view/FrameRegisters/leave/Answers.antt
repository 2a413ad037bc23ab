use Rattle.std.proofs.Common.{◌≡◌, ℕ, None, List, [], ◌∷◌, refl, sym, ◌∙◌, ap}
use Rattle.xt_rows.specs.Effects.{illegal_instruction}
use Rattle.xt_frames.specs.Frames.{Frame}
use Rattle.xt_frames.specs.FrameStep.{exception_in_frame, return_in_frame}
use Rattle.xt_frames.specs.declared.holes.UndefinedParts.{UndefinedParts}
use Rattle.xt_frames.specs.KeptFrameState.{Upper, frame_where, state_at}
use Rattle.xt_frames.proofs.Newest.{no_newest}
use Rattle.xt_frames.proofs.view.FrameRegisters.leave.Goals as goal

popped_none : (a0 : ℕ) (v : Upper) (h : UndefinedParts) (frames : List Frame) → frames ≡ [] → return_in_frame a0 (state_at frames h v) ≡ exception_in_frame illegal_instruction None (state_at frames h v)
unfolding return_in_frame
popped_none a0 v h [] e = refl
popped_none a0 v h (f ∷ fs) e = absurd cc

pub returns-in_default-clause-turn : goal.returns-in_default-clause-turn
returns-in_default-clause-turn c = λ frames h new. c.raise.ensures.turn frames h ∙ sym (popped_none c.args.a0 c.args.self.now h frames (no_newest frames (new ∙ ap frame_where c.in_default.is)))
