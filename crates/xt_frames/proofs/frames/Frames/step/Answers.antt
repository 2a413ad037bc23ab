use Rattle.std.proofs.Common.{false}
use Rattle.xt_frames.proofs.TestRows.{saves_nowhere, loads_nowhere}
use Rattle.xt_frames.proofs.frames.Frames.step.Goals as goal

pub judge-requires : goal.judge-requires
judge-requires c = (λ a. false, λ a. false, saves_nowhere c.args.rec.now.access, loads_nowhere c.args.rec.now.access)

pub returns : goal.returns
returns c = c.judge.ensures.judged (λ a. false) (λ a. false) (saves_nowhere c.args.rec.now.access) (loads_nowhere c.args.rec.now.access)
