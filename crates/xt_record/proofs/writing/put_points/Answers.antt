use Rattle.std.proofs.Common.{ap, ◌∙◌, ◌++◌}
use Rattle.xt_record.proofs.Blocks.{one_more}
use Rattle.xt_record.proofs.writing.put_points.Goals as goal

pub loop-point-preserved : goal.loop-point-preserved
loop-point-preserved c =
    one_more c.args.points.now c.loop-point.point-index c.point-item.result _ _ _ _ c.loop-point-test.true c.point-item.is c.loop-point.invariant
    (c.in_ok-extend_from_slice.ensures.items ∙ ap (λ l. c.loop-point.out.items ++ l) c.as_slice.ensures)
