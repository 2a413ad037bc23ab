use Rattle.std.proofs.Common.{not, sym, ◌∙◌, ap}
use Rattle.xt_frames.specs.Breaches.{is_in_vectors}
use Rattle.xt_frames.specs.Walked.{bounds_of}
use Rattle.xt_frames.proofs.TestRows.{row, last, one}
use Rattle.xt_frames.proofs.breach.insn_tests.Goals as goal

pub returns : goal.returns
returns c = λ frames live stale k. let h = c.args.holes.now in
    (row (one _ _ _ _ c.test.ensures (c.reads_none.ensures frames))
    (row (one _ _ _ _ c.test-2.ensures (c.writes_sp.ensures))
    (row (one _ _ _ _ c.test-3.ensures (c.other_frame_size.ensures (bounds_of c.args.case.now.limits).range frames h k.under))
    (row (one _ _ _ _ c.test-4.ensures (c.leaves_range.ensures frames h))
    (row (one _ _ _ _ c.test-5.ensures (c.misaligns_sp.ensures frames h))
    (row (one _ _ _ _ c.test-6.ensures (c.opens_nothing.ensures frames h))
    (row (one _ _ _ _ c.test-7.ensures (c.returns_elsewhere.ensures frames h k.newest))
    (row (one _ _ _ _ c.test-8.ensures (c.has_no_caller.ensures frames h c.args.view.now k.newest))
    (row (one _ _ _ _ c.test-9.ensures (sym k.saves))
    (row (one _ _ _ _ c.test-10.ensures (sym k.stale_load))
    (row (one _ _ _ _ c.test-11.ensures (c.names_high.ensures frames h))
    (row (one _ _ _ _ c.test-12.ensures (c.is_windowing.ensures))
    (row (one _ _ _ _ c.test-13.ensures (c.names_window_register.ensures))
    (row (one _ _ _ _ c.test-14.ensures (ap not c.woe.ensures))
    (row (one _ _ _ _ c.test-15.ensures (c.moves_vectors.ensures frames h c.args.step.now))
    (row (one _ _ _ _ c.test-16.ensures (c.loses_epc1.ensures))
    (row (one _ _ _ _ c.test-17.ensures (c.is_movsp.ensures))
    (row (one _ _ _ _ c.test-18.ensures (c.is_in_vectors.ensures ∙ ap (is_in_vectors c.args.case.now.limits.vecbase) c.pc.ensures))
    (last (one _ _ _ _ c.test-19.ensures (c.breaks_nested.ensures frames c.args.after.now)))))))))))))))))))))
