use Rattle.std.proofs.Common.{◌∙◌}
use Rattle.xt_bus.proofs.Loaded.{segments_more}
use Rattle.xt_bus.proofs.memory.Memory.put_segments.Goals as goal

pub loop-segment-preserved : goal.loop-segment-preserved
loop-segment-preserved c =
    c.put_segment.ensures
    ∙ segments_more c.args.self.now c.loop-segment.self c.args.segments.now c.loop-segment.segment-index c.segment-item.result c.loop-segment.invariant c.loop-segment-test.true c.segment-item.is
