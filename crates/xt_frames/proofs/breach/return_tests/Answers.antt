use Rattle.xt_frames.proofs.TestRows.{row, last, one}
use Rattle.xt_frames.proofs.breach.return_tests.Goals as goal

pub returns : goal.returns
returns c = λ frames new.
    let h = c.args.holes.now in
    row (one _ _ _ _ c.test.ensures (c.reads_none.ensures frames))
    (row (one _ _ _ _ c.test-2.ensures (c.returns_elsewhere.ensures frames h new))
    (last (one _ _ _ _ c.test-3.ensures (c.has_no_caller.ensures frames h c.args.view.now new))))
