use Rattle.std.proofs.Common.{◌+◌, ◌++◌, ◌∙◌, ap, drop, length, take, ◌-◌}
use Rattle.std.specs.Prelude.{zip}
use Rattle.std.proofs.lemmas.List.{take_rest}
use Rattle.xt_asm.specs.Images.{segment_at, segments_of}
use Rattle.xt_asm.proofs.Segmenting.{segments_step}
use Rattle.xt_asm.proofs.segments.segments_of.Goals as goal

pub loop-k-preserved : goal.loop-k-preserved
loop-k-preserved c =
    segments_step c.loop-k.segments.items c.add_segment.new.segments.items c.loop-k.k c.args.lines.now c.args.pieces.now c.index-lines-k.result (segments_of (zip c.args.lines.now c.args.pieces.now)) c.loop-k-test.true c.requires c.index-lines-k.is
    c.loop-k.invariant
    (c.in_ok-add_segment.ensures
    ∙ ap (λ ls. c.loop-k.segments.items ++ segment_at c.index-lines-k.result.statement (zip ls (take (length c.args.pieces.now - (c.loop-k.k + 1)) (drop (c.loop-k.k + 1) c.args.pieces.now)))) (take_rest c.args.lines.now (c.loop-k.k + 1))
    ∙ ap (λ ps. c.loop-k.segments.items ++ segment_at c.index-lines-k.result.statement (zip (drop (c.loop-k.k + 1) c.args.lines.now) ps)) (take_rest c.args.pieces.now (c.loop-k.k + 1)))
