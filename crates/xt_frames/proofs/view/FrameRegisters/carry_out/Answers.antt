use Rattle.std.proofs.Common.{sym, ◌∙◌, ap}
use Rattle.xt_rows.specs.declared.outcome.Outcome.{Outcome}
use Rattle.xt_frames.specs.FrameStep.{done_in_frame}
use Rattle.xt_frames.specs.KeptFrameState.{state_at}
use Rattle.xt_frames.proofs.view.FrameRegisters.carry_out.Goals as goal

pub returns-in-Raises-clause-turn : goal.returns-in-Raises-clause-turn
returns-in-Raises-clause-turn c = λ frames h new.
    c.raise.ensures.turn frames h ∙ sym (ap (λ (o : Outcome). done_in_frame o c.args.len c.args.reply (state_at frames h c.args.self.now)) c.in-Raises.is)
