use Rattle.xt_map.specs.Placing.{do_overlap}
use Rattle.xt_image.specs.declared.fault.ImageFault.TheVariants.{SegmentOverlap}
use Rattle.xt_image.proofs.Overlapping.{no_pair, no_pair_at_all, pair_found}
use Rattle.xt_image.proofs.rules.overlap_fault.Goals as goal

pub returns-in-Some : goal.returns-in-Some
returns-in-Some c = pair_found do_overlap SegmentOverlap c.args.segments.now c.loop-j.j c.in-Some.i c.index-segments-j.result _ c.loop-j-test.true c.index-segments-j.is c.in-Some.ensures c.loop-j.invariant

pub loop-j-preserved : goal.loop-j-preserved
loop-j-preserved c = no_pair do_overlap SegmentOverlap c.args.segments.now c.loop-j.j c.index-segments-j.result _ c.loop-j-test.true c.index-segments-j.is c.in_default.ensures c.loop-j.invariant

pub returns : goal.returns
returns c = no_pair_at_all do_overlap SegmentOverlap c.args.segments.now c.loop-j.j _ c.loop-j-test.false c.loop-j.invariant
