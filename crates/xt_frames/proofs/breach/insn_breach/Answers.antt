use Rattle.std.proofs.Common.{◌∙◌, ap}
use Rattle.xt_frames.specs.Breaches.{first_shown}
use Rattle.xt_frames.proofs.breach.insn_breach.Goals as goal

pub returns : goal.returns
returns c = λ frames live stale k. c.first_shown.ensures ∙ ap first_shown (c.insn_tests-tests.ensures frames live stale k)
