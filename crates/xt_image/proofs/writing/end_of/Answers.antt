use Rattle.std.proofs.Common.{arith}
use Rattle.std.proofs.lemmas.List.Folds.{length-flat_map-take}
use Rattle.xt_image.specs.Layout.{segment_bytes}
use Rattle.xt_image.proofs.writing.end_of.Goals as goal

pub overflow_add-end : goal.overflow_add-end
overflow_add-end c =
    let bound = length-flat_map-take segment_bytes c.args.segments.now c.loop-segment.segment-index c.segment-item.result c.loop-segment-test.true in
    let here = rw (← c.segment-item.is) at bound in
    omega (arith, here, c.requires, c.len.ensures)

pub overflow_add-end-in-loop-segment : goal.overflow_add-end-in-loop-segment
overflow_add-end-in-loop-segment c =
    let bound = length-flat_map-take segment_bytes c.args.segments.now c.loop-segment.segment-index c.segment-item.result c.loop-segment-test.true in
    let here = rw (← c.segment-item.is) at bound in
    omega (arith, here, c.requires, c.len.ensures, c.loop-segment.invariant)
