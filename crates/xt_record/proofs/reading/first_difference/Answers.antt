use Rattle.std.proofs.Common.{sym, ◌∙◌, arith, length}
use Rattle.xt_record.proofs.Blocks.{block_past, block_there, both_end, differs_here, ends_here, file_goes_on, goes_on}
use Rattle.xt_record.proofs.reading.first_difference.Goals as goal

pub returns-then-index-count : goal.returns-then-index-count
returns-then-index-count c =
    ends_here _ c.args.count c.loop-point.index c.loop-point.rest.now c.args.points.now (omega (arith, c.loop-point.invariant.index, c.loop-point-test.true))
    (omega (arith, c.if-index-count.true)) c.loop-point.invariant.found

pub split_at-requires : goal.split_at-requires
split_at-requires c =
    block_there (length c.loop-point.rest.now) c.args.count c.loop-point.index c.loop-point.invariant.long
    (omega (arith, c.loop-point.invariant.within, c.if-index-count.false))

pub returns-then-ne : goal.returns-then-ne
returns-then-ne c =
    differs_here _ c.args.count c.loop-point.index c.loop-point.point-index c.loop-point.rest.now c.split_at.result.0.now _ _ c.args.points.now
    (omega (arith, c.loop-point.invariant.index, c.loop-point-test.true)) (omega (arith, c.loop-point.invariant.within, c.if-index-count.false))
    c.loop-point.invariant.found c.split_at.ensures.front
    c.loop-point.invariant.index (c.as_slice.ensures ∙ c.point-item.is) (sym c.ne.ensures ∙ c.if-ne.true)

pub loop-point-preserved : goal.loop-point-preserved
loop-point-preserved c = record {
  index = omega (arith, c.loop-point.invariant.index);
  within = omega (arith, c.loop-point.invariant.within, c.if-index-count.false);
  long = block_past (length c.loop-point.rest.now) (length c.split_at.result.1.now) c.args.count c.loop-point.index c.loop-point.invariant.long
      (omega (arith, c.loop-point.invariant.within, c.if-index-count.false)) c.split_at.ensures.back_len;
  found = goes_on _ c.args.count c.loop-point.index c.loop-point.point-index c.loop-point.rest.now c.split_at.result.0.now c.split_at.result.1.now _ _ c.args.points.now
      (omega (arith, c.loop-point.invariant.index, c.loop-point-test.true)) (omega (arith, c.loop-point.invariant.within, c.if-index-count.false))
      c.loop-point.invariant.found c.split_at.ensures.front c.split_at.ensures.back
      c.loop-point.invariant.index (c.as_slice.ensures ∙ c.point-item.is) (sym c.ne.ensures ∙ c.if-ne.false);
}

pub returns-then-index-count-2 : goal.returns-then-index-count-2
returns-then-index-count-2 c =
    file_goes_on _ c.args.count c.loop-point.index c.loop-point.rest.now c.args.points.now (omega (arith, c.loop-point.invariant.index, c.loop-point-test.false))
    c.if-index-count-2.true c.loop-point.invariant.found

pub returns-else-index-count-2 : goal.returns-else-index-count-2
returns-else-index-count-2 c =
    both_end _ c.args.count c.loop-point.index c.loop-point.rest.now c.args.points.now (omega (arith, c.loop-point.invariant.index, c.loop-point-test.false))
    (omega (arith, c.if-index-count-2.false)) c.loop-point.invariant.found
