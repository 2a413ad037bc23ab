use Rattle.std.proofs.Common.{sym, ◌∙◌}
use Rattle.xt_frames.specs.KeptFrameState.{state_at}
use Rattle.xt_frames.specs.Walked.{bounds_of}
use Rattle.xt_frames.proofs.TestRows.{alone, quiet}
use Rattle.xt_frames.proofs.breach.breach_of.Goals as goal

pub returns-in-Interrupt : goal.returns-in-Interrupt
returns-in-Interrupt c = λ code frames live stale k p t.
    c.vector_breach.ensures frames c.args.holes.now ∙ sym (alone (bounds_of c.args.case.now.limits) c.args.case.now.fresh code live stale c.args.rec.now (state_at frames c.args.holes.now c.args.view.now) (quiet c.args.plan code c.args.view.now.control c.in-Interrupt.is p))
