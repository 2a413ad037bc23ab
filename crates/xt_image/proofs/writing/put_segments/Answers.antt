use Rattle.std.proofs.Common.{arith}
use Rattle.std.proofs.lemmas.List.Folds.{length-flat_map-take}
use Rattle.xt_image.specs.Layout.{segment_bytes}
use Rattle.xt_image.proofs.writing.put_segments.Goals as goal

pub put_segment-requires : goal.put_segment-requires
put_segment-requires c =
    let bound = length-flat_map-take segment_bytes c.args.segments.now c.loop-segment.segment-index c.segment-item.result c.loop-segment-test.true in
    let here = rw (← c.segment-item.is) at bound in
    omega (arith, here, c.requires)
