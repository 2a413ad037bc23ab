use Rattle.std.proofs.Common.{not, sym, ◌∙◌, ap}
use Rattle.xt_frames.specs.Breaches.{is_in_vectors}
use Rattle.xt_frames.proofs.TestRows.{row, last, one}
use Rattle.xt_frames.proofs.breach.other_tests.Goals as goal

pub returns : goal.returns
returns c = λ frames live stale k.
    (row (one _ _ _ _ c.test.ensures (sym k.saves))
    (row (one _ _ _ _ c.test-2.ensures (sym k.stale_load))
    (row (one _ _ _ _ c.test-3.ensures (ap not c.woe.ensures))
    (row (one _ _ _ _ c.test-4.ensures (c.moves_vectors.ensures frames c.args.holes.now c.args.step.now))
    (row (one _ _ _ _ c.test-5.ensures (c.is_in_vectors.ensures ∙ ap (is_in_vectors c.args.case.now.limits.vecbase) c.pc.ensures))
    (last (one _ _ _ _ c.test-6.ensures (c.is_some.ensures))))))))
